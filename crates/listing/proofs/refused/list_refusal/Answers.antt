use Rattle.listing.proofs.RefusedCode.{refusing}
use Rattle.listing.proofs.refused.list_refusal.Goals as goal

pub returns : goal.returns
returns c = search refusing
