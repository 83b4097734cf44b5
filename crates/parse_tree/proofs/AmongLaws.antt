-- A text among others: at the front, behind it, in one of two lists. Assumes nothing.
use mathlib.Core.Path.{◌≡◌, refl}
use mathlib.Core.Logic.{◌⊎◌, inl, inr}
use mathlib.Core.Bool.{Bool, true, false, false≢true}
use mathlib.Core.List.{List, [], ◌∷◌, ◌++◌}
use Rattle.octets.specs.Plain.Runs.{same_as}
use Rattle.octets.proofs.SameLaws.{same_as-eq, same_as-refl}
use Rattle.parse_tree.specs.Plain.Tree.{Text}
use Rattle.parse_tree.specs.Plain.Texts.{has}

pub has_here : (x : Text) (ts : List Text) → has x (x ∷ ts) ≡ true
unfolding has
has_here x ts = cc (same_as-refl x)

pub has-later : (x t : Text) (ts : List Text) → has x ts ≡ true → has x (t ∷ ts) ≡ true
unfolding has
has-later x t ts h = go (same_as t x)
  where
    go : (b : Bool) → elim b [ true ↦ true | false ↦ has x ts ] ≡ true
    go true = refl
    go false = h

pub has-cases : (x t : Text) (ts : List Text) → has x (t ∷ ts) ≡ true → (t ≡ x) ⊎ (has x ts ≡ true)
unfolding has
has-cases x t ts h = go (same_as t x) refl h
  where
    go : (b : Bool) → same_as t x ≡ b → elim b [ true ↦ true | false ↦ has x ts ] ≡ true → (t ≡ x) ⊎ (has x ts ≡ true)
    go true e k = inl (same_as-eq t x e)
    go false e k = inr k

-- ---- one list behind another
pub has-before : (x : Text) (ts us : List Text) → has x ts ≡ true → has x (ts ++ us) ≡ true
unfolding has
has-before x [] us h = absurd (false≢true h)
has-before x (t ∷ ts) us h = go (same_as t x) h (has-before x ts us)
  where
    go : (b : Bool) → elim b [ true ↦ true | false ↦ has x ts ] ≡ true → (has x ts ≡ true → has x (ts ++ us) ≡ true) → elim b [ true ↦ true | false ↦ has x (ts ++ us) ] ≡ true
    go true k f = refl
    go false k f = f k

pub has-behind : (x : Text) (ts us : List Text) → has x us ≡ true → has x (ts ++ us) ≡ true
unfolding has
has-behind x [] us h = h
has-behind x (t ∷ ts) us h = go (same_as t x) (has-behind x ts us h)
  where
    go : (b : Bool) → has x (ts ++ us) ≡ true → elim b [ true ↦ true | false ↦ has x (ts ++ us) ] ≡ true
    go true k = refl
    go false k = k
