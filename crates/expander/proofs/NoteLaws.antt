-- Lists of places by index: what holds of each, of one, of none. Assumes nothing.
use mathlib.Core.Path.{◌≡◌, refl}
use mathlib.Core.Bool.{Bool, true, false, cond, ◌||◌}
use mathlib.Core.List.{List, [], ◌∷◌}
use Prim.Native.Nat.{ℕ, zero, suc, ◌<◌}
use native.Mathlib.Omega.{arith}
use borrow.Author.Tests.{ltb-true, ltb-false}
use lib.Dec.{ltb}
use Rattle.parse_tree.specs.Working.Within.{Each}
use Rattle.replacing.proofs.SlotsMean.{or-true}
use Rattle.expander.specs.Held.{down, keep_if, any_of}

-- what holds of each of the first n
pub all_down : (P : ℕ → Type 0) (f : ℕ → ℕ) (n : ℕ) → ((i : ℕ) → i < n → P (f i)) → Each P (down f n)
unfolding down
all_down P f zero a = tt
all_down P f (suc n) a = (a n (omega arith), all_down P f n (λ i h. a i (omega arith)))

-- one passes
pub any_one : (t : ℕ → Bool) (f : ℕ → ℕ) (n i : ℕ) → i < n → t (f i) ≡ true → any_of t (down f n) ≡ true
unfolding down any_of
any_one t f zero i h e = absurd (omega arith)
any_one t f (suc n) i h e = go (ltb i n) refl (λ l. any_one t f n i l e)
  where
    go : (b : Bool) → ltb i n ≡ b → (i < n → any_of t (down f n) ≡ true) → (t (f n) || any_of t (down f n)) ≡ true
    go true u k = rw (k (ltb-true i n u)) (or-true (t (f n)))
    go false u k = let z : i ≡ n = omega (arith, ltb-false i n u) in let y : t (f n) ≡ true = rw (← z) e in rw y refl

-- none does
pub any_none : (t : ℕ → Bool) (qs : List ℕ) → Each (λ q. t q ≡ false) qs → any_of t qs ≡ false
unfolding any_of
any_none t [] a = refl
any_none t (q ∷ qs) a = rw a.0 (any_none t qs a.1)

pub keep_each : (P : ℕ → Type 0) (t : ℕ → Bool) (qs : List ℕ) → Each P qs → Each P (keep_if t qs)
unfolding keep_if
keep_each P t [] a = tt
keep_each P t (q ∷ qs) a = go (t q) (keep_each P t qs a.1)
  where
    go : (b : Bool) → Each P (keep_if t qs) → Each P (cond b (q ∷ keep_if t qs) (keep_if t qs))
    go true k = (a.0, k)
    go false k = k
