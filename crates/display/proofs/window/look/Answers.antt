use Rattle.display.proofs.WindowSeen.{seeing}
use Rattle.display.proofs.window.look.Goals as goal

pub returns : goal.returns
returns c = search seeing
