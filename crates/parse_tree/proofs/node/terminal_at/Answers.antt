use Rattle.parse_tree.proofs.NodeCode.{noding}
use Rattle.parse_tree.proofs.node.terminal_at.Goals as goal

pub returns : goal.returns
returns c = search noding
