use Rattle.output.proofs.RoomCode.{levels-rooms}
use Rattle.output.proofs.room.levels_room.Goals as goal

pub returns : goal.returns
returns c = search levels-rooms
