use Prim.Native.Nat.{◌+◌, ◌-◌, ◌<◌}
use mathlib.Core.Path.{◌≡◌}
use native.Mathlib.Omega.{arith}
use Rattle.resolve.proofs.ItemsCode.{marking}
use Rattle.resolve.proofs.items.validate_macro_args.Goals as goal

pub returns-then-is_argument : goal.returns-then-is_argument
returns-then-is_argument c = let e : 0 < c.args.n - c.loop-k.k = omega arith in search marking

pub loop-k-preserved : goal.loop-k-preserved
loop-k-preserved c = let f : 0 < c.args.n - c.loop-k.k = omega arith in let e : c.args.n - c.loop-k.k ≡ c.args.n - (c.loop-k.k + 1) + 1 = omega arith in search marking

pub returns : goal.returns
returns c = search marking
