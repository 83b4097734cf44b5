use Rattle.listing.proofs.ActionCode.{arrowing}
use Rattle.listing.proofs.action.put_arrow.Goals as goal

pub put_text-requires : goal.put_text-requires
put_text-requires c = search arrowing

pub returns : goal.returns
returns c = search arrowing
