use Rattle.std.proofs.lemmas.Result.{err_from_is_err_and}
use Rattle.validate.proofs.EntryCode.{behind_atoms}
use Rattle.validate.proofs.entry.validate_items.Goals as goal

pub returns-in_err-n : goal.returns-in_err-n
returns-in_err-n c = let p = err_from_is_err_and c.from_residual.result c.from_residual.ensures.1 in rw (p.1, p.2) (search (behind_atoms, c.in_err-n.was))

pub returns : goal.returns
returns c = search (behind_atoms, c.in_ok-n.was)
