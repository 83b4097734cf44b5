use Rattle.octets.proofs.ChoiceLaws.{tests}
use Rattle.octets.specs.Working.Choice.{pick}
use Rattle.parse_tree.specs.Working.Nodes.{named_leaf}
use Rattle.parse_tree.proofs.node.named_leaf.Goals as goal

pub returns-in-32 : goal.returns-in-32
unfolding named_leaf pick
returns-in-32 c = search tests

pub returns-in-33 : goal.returns-in-33
unfolding named_leaf pick
returns-in-33 c = rw c.in-33.is

pub returns-in-34 : goal.returns-in-34
unfolding named_leaf pick
returns-in-34 c = rw c.in-34.is

pub returns-in-35 : goal.returns-in-35
unfolding named_leaf pick
returns-in-35 c = rw c.in-35.is

pub returns-in_default : goal.returns-in_default
unfolding named_leaf pick
returns-in_default c = search tests
