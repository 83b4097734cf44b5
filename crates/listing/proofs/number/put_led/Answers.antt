use Rattle.listing.proofs.RefusedCode.{leading}
use Rattle.listing.proofs.number.put_led.Goals as goal

pub returns : goal.returns
returns c = search leading
