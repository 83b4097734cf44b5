use Rattle.listing.proofs.TreeCode.{trees}
use Rattle.listing.proofs.tree.list_tree.Goals as goal

pub list_valid-requires : goal.list_valid-requires
list_valid-requires c = search trees

pub returns-in-Err : goal.returns-in-Err
returns-in-Err c = search trees
