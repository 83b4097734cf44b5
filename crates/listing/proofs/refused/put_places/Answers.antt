use Rattle.listing.proofs.RefusedCode.{refusing}
use Rattle.listing.proofs.refused.put_places.Goals as goal

pub returns : goal.returns
returns c = search refusing
