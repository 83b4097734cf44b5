use Rattle.expander.proofs.NotePushCode.{pushing}
use Rattle.expander.proofs.note.push.Goals as goal

pub overflow_cast-f : goal.overflow_cast-f
overflow_cast-f c = search pushing

pub put_record-requires : goal.put_record-requires
put_record-requires c = let e = c.pushed.ensures in rw (e.0, e.1, e.2) (search pushing)

pub returns : goal.returns
returns c = let e = c.pushed.ensures in let z = rw (e.0, e.1, e.2) at c.put_record.ensures in search (pushing, z)
