use Rattle.std.proofs.lemmas.Result.{err_from_is_err_and}
use Rattle.validate.proofs.NotesCode.{listing}
use Rattle.validate.proofs.items.items.Goals as goal

pub loop-p-init : goal.loop-p-init
loop-p-init c = search listing

pub returns-in_err-e : goal.returns-in_err-e
returns-in_err-e c = let p = err_from_is_err_and c.from_residual.result c.from_residual.ensures.1 in rw (p.1, p.2) (search (listing, c.in_err-e.was))

pub note-requires : goal.note-requires
note-requires c = search (listing, c.in_ok-e.was)

pub loop-p-smaller : goal.loop-p-smaller
loop-p-smaller c = search (listing, c.in_ok-e.was)

pub loop-p-preserved : goal.loop-p-preserved
loop-p-preserved c = search (listing, c.in_ok-e.was)

pub returns : goal.returns
returns c = search listing
