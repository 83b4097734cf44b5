use Prim.Native.Nat.{◌+◌, ◌-◌}
use mathlib.Core.Path.{◌≡◌}
use native.Mathlib.Omega.{arith}
use Rattle.resolve.proofs.ItemsCode.{unmarking}
use Rattle.resolve.proofs.items.forget_macro_args.Goals as goal

pub loop-k-preserved : goal.loop-k-preserved
loop-k-preserved c = let e : c.args.n - c.loop-k.k ≡ c.args.n - (c.loop-k.k + 1) + 1 = omega arith in search unmarking

pub returns : goal.returns
returns c = search unmarking
