-- Texts stay where they stand while bytes are put before them. Assumes nothing.
use mathlib.Core.Path.{◌≡◌, refl}
use mathlib.Core.Bool.{true}
use mathlib.Core.Logic.{inr}
use mathlib.Core.List.{List}
use Prim.Native.Nat.{ℕ, ◌≤◌}
use native.Mathlib.Omega.{arith}
use lib.ListN.{length}
use Rattle.texts.proofs.TableStays.{part-agree}
use Rattle.precedence.specs.Write.{Puts}
use Rattle.precedence.proofs.WriteLaws.{puts_beside}
use Rattle.settling.specs.declared.Source.{Source}
use Rattle.settling.specs.Put.{source_text, in_work, Fixed}

-- theorem: a place stays while the length does
pub fixed_same : (n lim : ℕ) (p : Source) (k : ℕ) → Fixed n lim p → k ≡ n → Fixed k lim p
fixed_same n lim p k f e = rw e f

-- theorem: a text stays where bytes were put
pub source_next : (w : List ℕ) (lim : ℕ) (p : Source) → Fixed (length w) lim p → (to : ℕ) (xs : List ℕ) (r : ℕ) (w1 : List ℕ) → Puts w lim to xs r w1 → source_text w1 p ≡ source_text w p
unfolding source_text Fixed
source_next w lim (Source.Tape t) f to xs r w1 g = refl
source_next w lim (Source.Work a e) f to xs r w1 g = part-agree w w1 a e g.long f.2 (λ i x y. puts_beside w w1 lim to xs r g i (inr (omega (arith, f.0))))

-- theorem: a text is as far behind a lower place
pub fixed_below : (n lim z : ℕ) (p : Source) → Fixed n lim p → (in_work p ≡ true → z ≤ lim) → Fixed n z p
unfolding Fixed
fixed_below n lim z (Source.Tape t) f l = f
fixed_below n lim z (Source.Work a e) f l = (omega (arith, f.0, l refl), f.1, f.2)
