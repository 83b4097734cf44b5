use Rattle.std.proofs.Common.{◌≡◌, ◌-◌, ◌+◌, arith}
use Rattle.std.proofs.lemmas.Result.{err_from_is_err_and}
use Rattle.validate.proofs.CommandCode.{commands}
use Rattle.validate.proofs.command.commands.Goals.{in-Some, in-None+in_ok-p-in-None}
use Rattle.validate.proofs.command.commands.Goals as goal

pub returns-in_err-p-in-None : goal.returns-in_err-p-in-None
returns-in_err-p-in-None c = let p = err_from_is_err_and c.from_residual.result c.from_residual.ensures.1 in rw (p.1, p.2) (search (commands, c.in_err-p-in-None.was))

pub loop-preserved : goal.loop-preserved
loop-preserved c =
    let e : c.args.n - c.loop.counter ≡ c.args.n - (c.loop.counter + 1) + 1 = omega arith in
    elim c.match-quick_command.branch [ in-Some w ↦ rw w.p-is (search (commands, w.in-Some.ensures)) | in-None+in_ok-p-in-None w ↦ rw w.p-is (search (commands, w.in_ok-p-in-None.was)) ]

pub returns : goal.returns
returns c = search commands
