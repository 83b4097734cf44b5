use Rattle.octets.proofs.ChoiceLaws.{tests}
use Rattle.octets.specs.Working.Choice.{pick}
use Rattle.parse_tree.specs.Working.Nodes.{word_leaf}
use Rattle.parse_tree.proofs.node.word_leaf.Goals as goal

pub returns-in-42 : goal.returns-in-42
unfolding word_leaf pick
returns-in-42 c = search tests

pub returns-in-43 : goal.returns-in-43
unfolding word_leaf pick
returns-in-43 c = rw c.in-43.is

pub returns-in_default : goal.returns-in_default
unfolding word_leaf pick
returns-in_default c = search tests
