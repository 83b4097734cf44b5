use mathlib.Core.Path.{◌≡◌}
use Prim.Native.Nat.{◌+◌, ◌-◌, ◌≤◌, ◌<◌}
use native.Mathlib.Omega.{arith}
use Rattle.settling.proofs.CopiedLoop.{looping, parts_first, parts_on}
use Rattle.settling.proofs.copied.put_parts.Goals as goal

pub loop-i-init : goal.loop-i-init
loop-i-init c = search looping

pub put_part-q-requires : goal.put_part-q-requires
put_part-q-requires c = let z : 0 < c.args.n - c.loop-i.i = omega arith in (search parts_on, search parts_first)

pub behind-a-requires : goal.behind-a-requires
behind-a-requires c = let z : 0 < c.args.n - c.loop-i.i = omega arith in search looping

pub loop-i-preserved : goal.loop-i-preserved
loop-i-preserved c =
    let z : 0 < c.args.n - c.loop-i.i = omega arith in
    let e : c.args.n - (c.loop-i.i + 1) ≡ c.args.n - c.loop-i.i - 1 = omega arith in
    rw e (search looping)

pub returns : goal.returns
returns c = let z : c.args.n - c.loop-i.i ≤ 0 = omega arith in search looping
