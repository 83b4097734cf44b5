use Rattle.expander.proofs.NoteCode.{noting}
use Rattle.expander.proofs.note.push_new.Goals as goal

pub is_pushed-requires : goal.is_pushed-requires
is_pushed-requires c = search noting

pub put_slot-requires : goal.put_slot-requires
put_slot-requires c = search noting

pub returns-then-is_pushed : goal.returns-then-is_pushed
returns-then-is_pushed c = search noting

pub put_slot-requires-in-Some : goal.put_slot-requires-in-Some
put_slot-requires-in-Some c = search noting

pub put_slot-requires-in-None : goal.put_slot-requires-in-None
put_slot-requires-in-None c = search noting

pub returns-else-is_pushed : goal.returns-else-is_pushed
returns-else-is_pushed c = search noting

pub returns-in-None : goal.returns-in-None
returns-in-None c = search noting
