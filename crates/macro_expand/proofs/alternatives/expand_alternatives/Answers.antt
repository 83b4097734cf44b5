use mathlib.Core.Path.{◌≡◌}
use Prim.Native.Nat.{◌+◌, ◌-◌, ◌≤◌, ◌<◌}
use native.Mathlib.Omega.{arith}
use Rattle.macro_expand.proofs.AlternativesListCode.{adding}
use Rattle.macro_expand.proofs.alternatives.expand_alternatives.Goals as goal

pub alternative_end-e-requires : goal.alternative_end-e-requires
alternative_end-e-requires c = let z : 0 < c.args.k - c.loop.counter = omega arith in search adding

pub expand_if-r-requires : goal.expand_if-r-requires
expand_if-r-requires c = let z : 0 < c.args.k - c.loop.counter = omega arith in search adding

pub loop-preserved : goal.loop-preserved
loop-preserved c =
    let z : 0 < c.args.k - c.loop.counter = omega arith in
    let e : c.args.k - (c.loop.counter + 1) ≡ c.args.k - c.loop.counter - 1 = omega arith in
    rw e (search adding)

pub returns : goal.returns
returns c = let z : c.args.k - c.loop.counter ≤ 0 = omega arith in search adding
