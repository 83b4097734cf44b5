use Rattle.listing.proofs.WholeCode.{listing_no}
use Rattle.listing.proofs.whole.list_no.Goals as goal

pub returns : goal.returns
returns c = search listing_no
