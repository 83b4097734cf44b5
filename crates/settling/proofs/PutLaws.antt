-- What may be written on behind what was put. Assumes nothing.
use mathlib.Core.Path.{◌≡◌}
use mathlib.Core.List.{List, ◌++◌}
use Prim.Native.Nat.{ℕ, ◌+◌, ◌≤◌}
use Rattle.precedence.specs.Write.{Puts}
use Rattle.precedence.proofs.WriteLaws.{puts_upto, puts_append}

-- the cursor may stand there
pub puts_stop : (w : List ℕ) (lim to : ℕ) (xs : List ℕ) (r : ℕ) (w1 : List ℕ) → Puts w lim to xs r w1 → r ≤ lim + 1
puts_stop w lim to xs r w1 p = puts_upto w w1 lim to xs r p

-- two calls, one behind another
pub then : {w w1 w2 xs ys : List ℕ} {lim to q r : ℕ} → Puts w lim to xs q w1 → Puts w1 lim q ys r w2 → Puts w lim to (xs ++ ys) r w2
then {w} {w1} {w2} {xs} {ys} {lim} {to} {q} {r} a b = puts_append w w1 lim to xs q a ys r w2 b

pub puts_as : {w w1 xs ys : List ℕ} {lim to r : ℕ} → xs ≡ ys → Puts w lim to xs r w1 → Puts w lim to ys r w1
puts_as {w} {w1} {xs} {ys} {lim} {to} {r} e a = rw e at a
