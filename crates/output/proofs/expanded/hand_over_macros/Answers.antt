use Rattle.output.proofs.ExpandedCode.{handing_macros}
use Rattle.output.proofs.expanded.hand_over_macros.Goals as goal

pub put_texts-q-requires : goal.put_texts-q-requires
put_texts-q-requires c = search handing_macros

pub returns : goal.returns
returns c = search handing_macros
