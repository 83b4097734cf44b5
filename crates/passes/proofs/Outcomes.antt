-- A yes and a no, one behind another. Assumes nothing.
use mathlib.Core.Path.{◌≡◌, refl, ap, ◌∙◌}
use Prim.Native.Nat.{ℕ}
use native.Mathlib.Omega.{arith}
use Rattle.parse_tree.specs.declared.syntax.Span.{Span}
use Rattle.passes.specs.Outcome.{Outcome, yes, no, after}

pub no≢yes : {A : Type 0} (n : ℕ) (s : Span) (a : A) → ◌≡◌ {A = Outcome A} (no n s) (yes a) → ⊥
no≢yes n s a e = let z : ◌≡◌ {A = ℕ} 0 1 = cc in omega arith

pub yes_inj : {A : Type 0} (a b : A) → ◌≡◌ {A = Outcome A} (yes a) (yes b) → a ≡ b
yes_inj a b e = cc

-- where a sequel gave a yes, so did what came before
pub after-yes : {A B : Type 0} (r : Outcome A) (f : A → Outcome B) (b : B) → after r f ≡ yes b → (a : A) × (r ≡ yes a) × (f a ≡ yes b)
after-yes (yes a) f b e = (a, refl, e)
after-yes (no n s) f b e = absurd (no≢yes n s b e)

pub after_is : {A B : Type 0} (r : Outcome A) (f : A → Outcome B) (a : A) (b : B) → r ≡ yes a → f a ≡ yes b → after r f ≡ yes b
after_is {A = A} r f a b e h = ap (λ (x : Outcome A). after x f) e ∙ h

-- the same before, and after each yes the same
pub after_same : {A B : Type 0} (r : Outcome A) (f g : A → Outcome B) → ((a : A) → f a ≡ g a) → after r f ≡ after r g
after_same (yes a) f g h = h a
after_same (no n s) f g h = refl
