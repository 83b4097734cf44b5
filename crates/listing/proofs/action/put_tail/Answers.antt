use Rattle.listing.proofs.ActionCode.{tailing}
use Rattle.listing.proofs.action.put_tail.Goals as goal

pub returns : goal.returns
returns c = search tailing
