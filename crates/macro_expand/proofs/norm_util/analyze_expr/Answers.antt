use mathlib.Core.Path.{◌≡◌}
use Prim.Native.Nat.{◌+◌, ◌-◌, ◌≤◌, ◌<◌}
use native.Mathlib.Omega.{arith}
use Rattle.macro_expand.proofs.AnalyzeCode.{analyzing}
use Rattle.macro_expand.proofs.norm_util.analyze_expr.Goals as goal

pub bounds-work-at : goal.bounds-work-at
bounds-work-at c = let z : 0 < c.args.k - c.loop.counter = omega arith in search analyzing

pub returns-then-c-eq40 : goal.returns-then-c-eq40
returns-then-c-eq40 c = let z : 0 < c.args.k - c.loop.counter = omega arith in search analyzing

pub loop-preserved : goal.loop-preserved
loop-preserved c =
    let z : 0 < c.args.k - c.loop.counter = omega arith in
    let e : c.args.k - (c.loop.counter + 1) ≡ c.args.k - c.loop.counter - 1 = omega arith in
    rw e (search analyzing)

pub returns : goal.returns
returns c = let z : c.args.k - c.loop.counter ≤ 0 = omega arith in search analyzing
