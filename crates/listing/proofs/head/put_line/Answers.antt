use Rattle.listing.proofs.HeadCode.{lining}
use Rattle.listing.proofs.head.put_line.Goals as goal

pub returns : goal.returns
returns c = search lining
