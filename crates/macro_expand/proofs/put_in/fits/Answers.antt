use mathlib.Core.Path.{◌≡◌}
use Prim.Native.Nat.{◌+◌, ◌-◌, ◌≤◌, ◌<◌}
use native.Mathlib.Omega.{arith}
use Rattle.macro_expand.proofs.PutInCode.{fitting}
use Rattle.macro_expand.proofs.put_in.fits.Goals as goal

pub returns-then-e-q : goal.returns-then-e-q
returns-then-e-q c = let z : 0 < c.args.left - c.loop.counter = omega arith in search fitting

pub loop-preserved : goal.loop-preserved
loop-preserved c =
    let z : 0 < c.args.left - c.loop.counter = omega arith in
    let e : c.args.left - (c.loop.counter + 1) ≡ c.args.left - c.loop.counter - 1 = omega arith in
    rw e (search fitting)

pub returns-then-not-wraps : goal.returns-then-not-wraps
returns-then-not-wraps c = let z : 0 < c.args.left - c.loop.counter = omega arith in search fitting

pub returns : goal.returns
returns c = let z : c.args.left - c.loop.counter ≤ 0 = omega arith in search fitting
