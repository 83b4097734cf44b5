use Rattle.expander.proofs.FindCode.{keying}
use Rattle.expander.proofs.find.is_key.Goals as goal

pub cell-requires : goal.cell-requires
cell-requires c = search keying

pub mark-requires : goal.mark-requires
mark-requires c = search keying

pub overflow_add-g : goal.overflow_add-g
overflow_add-g c = search keying

pub overflow_add-g-then-cell-f : goal.overflow_add-g-then-cell-f
overflow_add-g-then-cell-f c = search keying

pub same_print-requires : goal.same_print-requires
same_print-requires c = let e = c.words.ensures in rw (e.0, e.1, e.2, e.3) (search keying)

pub returns-then-cell-f : goal.returns-then-cell-f
returns-then-cell-f c = let e = c.words.ensures in let z = rw (e.0, e.1, e.2, e.3) at c.same_print.ensures in search (keying, z)

pub returns-else-cell-f : goal.returns-else-cell-f
returns-else-cell-f c = search keying
