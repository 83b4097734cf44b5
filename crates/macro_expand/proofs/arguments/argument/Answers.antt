use mathlib.Core.Path.{◌≡◌}
use Prim.Native.Nat.{◌+◌, ◌-◌, ◌≤◌, ◌<◌}
use native.Mathlib.Omega.{arith}
use Rattle.macro_expand.proofs.ArgumentsCode.{looking}
use Rattle.macro_expand.proofs.arguments.argument.Goals as goal

pub atom_at-requires : goal.atom_at-requires
atom_at-requires c = let z : 0 < c.args.x.call.many - c.loop.counter = omega arith in search looking

pub returns-then-k-atom_at : goal.returns-then-k-atom_at
returns-then-k-atom_at c = let z : 0 < c.args.x.call.many - c.loop.counter = omega arith in search looking

pub loop-preserved : goal.loop-preserved
loop-preserved c =
    let z : 0 < c.args.x.call.many - c.loop.counter = omega arith in
    let e : c.args.x.call.many - (c.loop.counter + 1) ≡ c.args.x.call.many - c.loop.counter - 1 = omega arith in
    rw e (search looking)

pub returns : goal.returns
returns c = let z : c.args.x.call.many - c.loop.counter ≤ 0 = omega arith in search looking
