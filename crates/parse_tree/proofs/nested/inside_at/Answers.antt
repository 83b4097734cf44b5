use Rattle.parse_tree.proofs.NestedCode.{at_inside}
use Rattle.parse_tree.proofs.nested.inside_at.Goals as goal

pub inside-requires : goal.inside-requires
inside-requires c = search at_inside

pub returns-in-37-to-41 : goal.returns-in-37-to-41
returns-in-37-to-41 c = search at_inside

pub returns-in_default : goal.returns-in_default
returns-in_default c = search at_inside

pub returns-in_default-2 : goal.returns-in_default-2
returns-in_default-2 c = search at_inside
