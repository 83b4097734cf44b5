use Rattle.macro_expand.proofs.AlternativesCode.{baring}
use Rattle.macro_expand.proofs.alternatives.put_unconditioned.Goals as goal

pub returns : goal.returns
returns c = search baring
