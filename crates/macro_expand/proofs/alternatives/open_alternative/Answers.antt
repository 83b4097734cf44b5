use Rattle.macro_expand.proofs.AlternativesCode.{singling}
use Rattle.macro_expand.proofs.alternatives.open_alternative.Goals as goal

pub whole_alternative-requires : goal.whole_alternative-requires
whole_alternative-requires c = search singling

pub put_unconditioned-to-requires : goal.put_unconditioned-to-requires
put_unconditioned-to-requires c = search singling

pub returns : goal.returns
returns c = search singling
