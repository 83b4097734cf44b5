use mathlib.Core.Path.{◌≡◌}
use Prim.Native.Nat.{◌+◌, ◌-◌, ◌≤◌, ◌<◌}
use native.Mathlib.Omega.{arith}
use Rattle.std.proofs.lemmas.Result.{err_from_is_err_and}
use Rattle.macro_expand.proofs.ArgumentsCode.{upholding}
use Rattle.macro_expand.proofs.arguments.holding.Goals as goal

pub returns-then-x-p : goal.returns-then-x-p
returns-then-x-p c = let z : 0 < c.args.n - c.loop.counter = omega arith in search upholding

pub returns-in_err-holds : goal.returns-in_err-holds
returns-in_err-holds c =
    let z : 0 < c.args.n - c.loop.counter = omega arith in
    let p = err_from_is_err_and c.from_residual.result c.from_residual.ensures.1 in
    rw (p.1, p.2) (search upholding)

pub overflow_add-k : goal.overflow_add-k
overflow_add-k c = let z : 0 < c.args.n - c.loop.counter = omega arith in search upholding

pub loop-preserved : goal.loop-preserved
loop-preserved c =
    let z : 0 < c.args.n - c.loop.counter = omega arith in
    let e : c.args.n - (c.loop.counter + 1) ≡ c.args.n - c.loop.counter - 1 = omega arith in
    rw e (search upholding)

pub returns : goal.returns
returns c = let z : c.args.n - c.loop.counter ≤ 0 = omega arith in search upholding
