use Rattle.appending.proofs.BuiltCode.{building}
use Rattle.appending.proofs.built.built.Goals as goal

pub word-requires : goal.word-requires
word-requires c = search building

pub first-requires : goal.first-requires
first-requires c = search building

pub returns-in-Some : goal.returns-in-Some
returns-in-Some c = search building
