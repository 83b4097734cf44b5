-- A text that question 4 takes for a name is an identifier. Assumes nothing.
use mathlib.Core.Path.{◌≡◌, refl}
use mathlib.Core.Bool.{true, ◌&&◌, not, false≢true}
use mathlib.Mathlib.Data.Bool.Basic.{and_elim_left, and_elim_right, and_intro, or_inl}
use mathlib.Core.List.{[], ◌∷◌}
use Prim.Native.Nat.{ℕ}
use borrow.Author.Tests.{not-true}
use Rattle.octets.specs.Plain.Runs.{same_as}
use Rattle.parse_tree.specs.Plain.Tree.{Text}
use Rattle.parse_tree.specs.Plain.Texts.{every, between, starts_name, in_name, is_identifier, mut_text, error_text, is_name}
use Rattle.meaning.proofs.Predicates.{Ident, starts_well}

first_of : (n : Text) → is_identifier n ≡ true → starts_well n ≡ true
unfolding is_identifier
first_of [] e = absurd (false≢true e)
first_of (b ∷ bs) e = and_elim_left (starts_name b) (every in_name bs) e

starts_in : (b : ℕ) → starts_name b ≡ true → in_name b ≡ true
unfolding in_name
starts_in b e = or_inl (starts_name b) (between 48 57 b) e

rest_of : (n : Text) → is_identifier n ≡ true → every in_name n ≡ true
unfolding is_identifier every
rest_of [] e = refl
rest_of (b ∷ bs) e = and_intro (starts_in b (and_elim_left (starts_name b) (every in_name bs) e)) (and_elim_right (starts_name b) (every in_name bs) e)

pub ident_of : (n : Text) → is_name n ≡ true → Ident n
unfolding is_name
ident_of n e =
    let m = same_as n mut_text in
    let r = same_as n error_text in
    let b = and_elim_right (is_identifier n) (not m && not r) e in
    let a = and_elim_left (is_identifier n) (not m && not r) e in
    record { first = first_of n a; rest = rest_of n a; no_mut = not-true m (and_elim_left (not m) (not r) b); no_error = not-true r (and_elim_right (not m) (not r) b) }
