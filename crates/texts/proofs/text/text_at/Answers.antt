use Rattle.texts.proofs.TextCode.{addressing}
use Rattle.texts.proofs.text.text_at.Goals as goal

pub stand-requires : goal.stand-requires
stand-requires c = search addressing

pub atom-requires : goal.atom-requires
atom-requires c = search addressing

pub atom-requires-in-Work : goal.atom-requires-in-Work
atom-requires-in-Work c = search addressing

pub returns-in-Tape : goal.returns-in-Tape
returns-in-Tape c = search addressing

pub returns-in-Work : goal.returns-in-Work
returns-in-Work c = search addressing
