use Rattle.listing.proofs.WholeCode.{listing_tape}
use Rattle.listing.proofs.whole.list.Goals as goal

pub list_yes-requires : goal.list_yes-requires
list_yes-requires c = search listing_tape

pub returns-in-Err : goal.returns-in-Err
returns-in-Err c = search listing_tape

pub returns-in-Ok : goal.returns-in-Ok
returns-in-Ok c = search listing_tape
