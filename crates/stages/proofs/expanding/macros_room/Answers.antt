use Rattle.stages.proofs.ExpandingCode.{macros-rooms}
use Rattle.stages.proofs.expanding.macros_room.Goals as goal

pub returns : goal.returns
returns c = search macros-rooms
