use Rattle.listing.proofs.TreeCode.{validated}
use Rattle.listing.proofs.tree.list_valid.Goals as goal

pub copy-requires : goal.copy-requires
copy-requires c = search validated

pub list_items-z-requires : goal.list_items-z-requires
list_items-z-requires c = (search validated, search validated)

pub returns : goal.returns
returns c = search validated
