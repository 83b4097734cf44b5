-- The laws of `pick`, and the facts that tests give as equations of the Bools that a definition picks by. Assumes nothing.
use mathlib.Core.Path.{◌≡◌, refl}
use mathlib.Core.Bool.{Bool, true, false}
use borrow.Author.Tests.{lt-ltb, le-ltb, le-leb, lt-leb, eq-eqb, ne_eqb}
use Rattle.octets.specs.Working.Choice.{pick}

pub ruleset tests = (lt-ltb, le-ltb, le-leb, lt-leb, eq-eqb, ne_eqb)

-- what holds of both picks holds of the pick
pub by_pick : {A : Type 0} (P : A → Type 0) (b : Bool) {x y : A} → (b ≡ true → P x) → (b ≡ false → P y) → P (pick b x y)
unfolding pick
by_pick P true f g = f refl
by_pick P false f g = g refl

pub pick_same : {A : Type 0} (b : Bool) (x : A) → pick b x x ≡ x
unfolding pick
pick_same true x = refl
pick_same false x = refl
