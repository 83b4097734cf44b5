use Rattle.std.proofs.Common.{◌≡◌, ◌-◌, ◌+◌, arith}
use Rattle.std.proofs.lemmas.Result.{err_from_is_err_and}
use Rattle.validate.proofs.AlternativesCode.{alternatives}
use Rattle.validate.proofs.items.alternatives.Goals as goal

pub returns-in_err-p : goal.returns-in_err-p
returns-in_err-p c = let p = err_from_is_err_and c.from_residual.result c.from_residual.ensures.1 in rw (p.1, p.2) (search alternatives)

pub loop-preserved : goal.loop-preserved
loop-preserved c = let e : c.args.n - c.loop.counter ≡ c.args.n - (c.loop.counter + 1) + 1 = omega arith in search (alternatives, c.in_ok-p.was)

pub returns : goal.returns
returns c = search alternatives
