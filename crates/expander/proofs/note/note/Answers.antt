use Rattle.expander.proofs.NoteCode.{noting}
use Rattle.expander.proofs.note.note.Goals as goal

pub put_slot-requires : goal.put_slot-requires
put_slot-requires c = search noting

pub push_new-requires : goal.push_new-requires
push_new-requires c = search noting

pub returns-in-Some : goal.returns-in-Some
returns-in-Some c = search noting
