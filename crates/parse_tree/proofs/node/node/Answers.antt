use Rattle.parse_tree.proofs.NodeCode.{noding}
use Rattle.parse_tree.proofs.node.node.Goals as goal

pub returns-then-at-tape : goal.returns-then-at-tape
returns-then-at-tape c = search noding

pub returns-in_err-n : goal.returns-in_err-n
returns-in_err-n c = search (noding, c.in_err-n.was)

pub returns-then-code-eq1 : goal.returns-then-code-eq1
returns-then-code-eq1 c = search (noding, c.in_ok-n.was)

pub returns-then-tape-at : goal.returns-then-tape-at
returns-then-tape-at c = search noding

pub returns : goal.returns
returns c = search noding
