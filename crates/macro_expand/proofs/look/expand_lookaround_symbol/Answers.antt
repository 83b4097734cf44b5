use Rattle.macro_expand.proofs.LookCode.{looking_done}
use Rattle.macro_expand.proofs.look.expand_lookaround_symbol.Goals as goal

pub returns : goal.returns
returns c = search looking_done
