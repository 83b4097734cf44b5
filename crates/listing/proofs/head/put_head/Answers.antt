use Rattle.listing.proofs.HeadCode.{heading}
use Rattle.listing.proofs.head.put_head.Goals as goal

pub returns : goal.returns
returns c = search heading
