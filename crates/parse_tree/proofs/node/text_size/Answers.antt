use Rattle.parse_tree.proofs.NodeCode.{noding}
use Rattle.parse_tree.specs.Working.Nodes.{text_node}
use Rattle.parse_tree.proofs.node.text_size.Goals as goal

pub returns-then-room-lt3 : goal.returns-then-room-lt3
unfolding text_node
returns-then-room-lt3 c = search noding

pub returns-then-room-from : goal.returns-then-room-from
unfolding text_node
returns-then-room-from c = search noding

pub returns : goal.returns
unfolding text_node
returns c = search noding
