use Rattle.macro_expand.proofs.StarCode.{v_putting}
use Rattle.macro_expand.proofs.star.put_v.Goals as goal

pub returns : goal.returns
returns c = search v_putting
