-- Bytes held against a text: one run behind another, and what it means that all of the text was met. Assumes nothing.
use mathlib.Core.Path.{◌≡◌, refl, sym, ap, ◌∙◌}
use mathlib.Core.Bool.{Bool, true, false}
use mathlib.Core.List.{[], ◌∷◌, ◌++◌}
use Prim.Native.Nat.{ℕ, ◌+◌, ◌<◌, ◌≤◌}
use native.Mathlib.Omega.{arith}
use native.Mathlib.Numerals.{add-one}
use borrow.Author.Tests.{eq-eqb, ne_eqb, eqb-true, eqb-false, ltb-true, ltb-false}
use lib.Dec.{eqb, ltb}
use lib.ListN.{length, drop, get_or, drop_of_length-le}
use lib.Seq.{drop-cons}
use Rattle.std.specs.Prelude.{Option, Some, None}
use Rattle.octets.specs.Working.Choice.{pick}
use Rattle.octets.specs.Plain.Runs.{same_as}
use Rattle.parse_tree.specs.Plain.Tree.{Text}
use Rattle.display.specs.Follow.{met_one, met_by}

-- theorem: one run behind another
pub met_append : (t : Text) (i : Option ℕ) (xs ys : Text) → met_by t (met_by t i xs) ys ≡ met_by t i (xs ++ ys)
unfolding met_by
met_append t i [] ys = refl
met_append t i (x ∷ xs) ys = met_append t (met_one t i x) xs ys

-- after a difference there is no way back
pub met_none : (t xs : Text) → met_by t None xs ≡ None
unfolding met_by met_one
met_none t [] = refl
met_none t (x ∷ xs) = met_none t xs

-- theorem: so a run behind one that was met, and behind one that was not
pub met_then : (t : Text) (i : Option ℕ) (xs ys : Text) {o r : Option ℕ} {p : ℕ} → o ≡ met_by t i xs → o ≡ Some p → r ≡ met_by t (Some p) ys → r ≡ met_by t i (xs ++ ys)
met_then t i xs ys {o} {r} {p} a j b = b ∙ ap (λ (v : Option ℕ). met_by t v ys) (sym j ∙ a) ∙ met_append t i xs ys

pub met_not : (t : Text) (i : Option ℕ) (xs ys : Text) {o : Option ℕ} → o ≡ met_by t i xs → o ≡ None → None ≡ met_by t i (xs ++ ys)
met_not t i xs ys {o} a j = sym (met_none t ys) ∙ ap (λ (v : Option ℕ). met_by t v ys) (sym j ∙ a) ∙ met_append t i xs ys

met_end : (t : Text) (i x : ℕ) → ltb i (length t) ≡ false → met_one t (Some i) x ≡ None
unfolding met_one pick
met_end t i x e = cc

met_yes : (t : Text) (i x : ℕ) → ltb i (length t) ≡ true → eqb (get_or t i 0) x ≡ true → met_one t (Some i) x ≡ Some (i + 1)
unfolding met_one pick
met_yes t i x e u = cc

met_no : (t : Text) (i x : ℕ) → ltb i (length t) ≡ true → eqb (get_or t i 0) x ≡ false → met_one t (Some i) x ≡ None
unfolding met_one pick
met_no t i x e u = cc

-- whether all of a text was met
unfoldable pub whole_met : Text → Option ℕ → Bool
whole_met t (Some i) = eqb i (length t)
whole_met t None = false

not_met : (t xs : Text) → whole_met t (met_by t None xs) ≡ false
unfolding whole_met
not_met t xs = ap (whole_met t) (met_none t xs)

-- theorem: all of the text was met exactly where the bytes are what it has from i on
pub met_is : (t : Text) (i : ℕ) (xs : Text) → i ≤ length t → same_as xs (drop i t) ≡ whole_met t (met_by t (Some i) xs)
unfolding met_by same_as whole_met
met_is t i [] h = go (ltb i (length t)) refl
  where
    go : (b : Bool) → ltb i (length t) ≡ b → same_as [] (drop i t) ≡ eqb i (length t)
    go true e =
        let z = ltb-true i (length t) e in
        cc (drop-cons t i 0 z, ne_eqb i (length t) (λ q. absurd (omega arith)))
    go false e =
        let z = ltb-false i (length t) e in
        cc (drop_of_length-le t {i = i} z, eq-eqb i (length t) (omega arith))
met_is t i (x ∷ xs) h = go (ltb i (length t)) refl (λ z. met_is t (i + 1) xs z)
  where
    go : (b : Bool) → ltb i (length t) ≡ b → (i + 1 ≤ length t → same_as xs (drop (i + 1) t) ≡ whole_met t (met_by t (Some (i + 1)) xs))
        → same_as (x ∷ xs) (drop i t) ≡ whole_met t (met_by t (met_one t (Some i) x) xs)
    go false e f =
        let z = ltb-false i (length t) e in
        cc (drop_of_length-le t {i = i} z, met_end t i x e, not_met t xs)
    go true e f = pair (eqb (get_or t i 0) x) refl
      where
        pair : (b : Bool) → eqb (get_or t i 0) x ≡ b → same_as (x ∷ xs) (drop i t) ≡ whole_met t (met_by t (met_one t (Some i) x) xs)
        pair b u = meets b u (ltb-true i (length t) e)
          where
            meets : (b : Bool) → eqb (get_or t i 0) x ≡ b → i < length t → same_as (x ∷ xs) (drop i t) ≡ whole_met t (met_by t (met_one t (Some i) x) xs)
            meets true u z =
                let y = eqb-true (get_or t i 0) x u in
                cc (drop-cons t i 0 z, add-one i, met_yes t i x e u, eq-eqb x (get_or t i 0) (sym y), f (omega arith))
            meets false u z =
                cc (drop-cons t i 0 z, met_no t i x e u, ne_eqb x (get_or t i 0) (λ q. eqb-false (get_or t i 0) x u (sym q)), not_met t xs)
