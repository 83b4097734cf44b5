use Rattle.std.proofs.lemmas.Result.{err_from_is_err_and}
use Rattle.normalize.proofs.CallsCode.{calling}
use Rattle.normalize.proofs.calls.call.Goals as goal

pub returns-in_err-room : goal.returns-in_err-room
returns-in_err-room g c =
    let p = err_from_is_err_and c.from_residual.result c.from_residual.ensures.1 in
    rw (p.1, p.2) (search (calling, c.in_err-room.was, c.in_err-room.ensures))

pub returns : goal.returns
returns g c = search (calling, c.in_ok-room.was, c.in_ok-room.ensures)
