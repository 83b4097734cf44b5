use Rattle.macro_expand.proofs.PutInCode.{spanning}
use Rattle.macro_expand.proofs.put_in.put_spanned.Goals as goal

pub returns-then-lim-to-2 : goal.returns-then-lim-to-2
returns-then-lim-to-2 c = search spanning

pub returns : goal.returns
returns c = search spanning
