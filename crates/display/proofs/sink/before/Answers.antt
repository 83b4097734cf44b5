use Rattle.display.proofs.MeetCode.{name_read}
use Rattle.display.proofs.SinkCode.{opening}
use Rattle.display.proofs.sink.before.Goals as goal

pub text-requires : goal.text-requires
text-requires g c = search opening

pub bounds-words-at : goal.bounds-words-at
bounds-words-at g c = search name_read

pub name-requires : goal.name-requires
name-requires g c = search opening

pub leaf-requires : goal.leaf-requires
leaf-requires g c = search opening

pub returns-in-37 : goal.returns-in-37
returns-in-37 g c = search opening

pub returns-in-38 : goal.returns-in-38
returns-in-38 g c = search opening

pub returns-in-39 : goal.returns-in-39
returns-in-39 g c = search opening

pub returns-in-40 : goal.returns-in-40
returns-in-40 g c = search opening

pub returns-in-41 : goal.returns-in-41
returns-in-41 g c = search opening

pub returns-in-0-to-36 : goal.returns-in-0-to-36
returns-in-0-to-36 g c = search opening

pub returns-in_default : goal.returns-in_default
returns-in_default g c = search opening
