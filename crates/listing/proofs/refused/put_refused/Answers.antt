use Rattle.listing.proofs.RefusedCode.{refusing}
use Rattle.listing.proofs.refused.put_refused.Goals as goal

pub returns : goal.returns
returns c = search refusing
