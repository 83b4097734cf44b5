-- The name of a level is an identifier: a name with digits behind it. Assumes nothing.
use mathlib.Core.Path.{◌≡◌, refl, sym, ap, ◌∙◌}
use mathlib.Core.Logic.{◌⊎◌, inl, inr}
use Prim.Native.Nat.{ℕ, zero, suc, ◌+◌, ◌/◌, ◌%◌}
use mathlib.Core.List.{[], ◌∷◌, ◌++◌}
use mathlib.Core.Bool.{Bool, true, false, cond, not, ◌&&◌, false≢true, and-false}
use mathlib.Mathlib.Data.Bool.Basic.{and_elim_left, and_elim_right, and_intro, or_inr}
use borrow.Author.Tests.{le-leb}
use lib.Dec.{eqb, ltb}
use native.Mathlib.Omega.{arith}
use Rattle.octets.specs.Plain.Runs.{same_as}
use Rattle.octets.proofs.SameLaws.{same_as-eq}
use Rattle.parse_tree.specs.Plain.Tree.{Text, Nonterminal}
use Rattle.parse_tree.specs.Plain.Texts.{every, between, starts_name, in_name, mut_text, error_text}
use Rattle.passes.specs.Grades.{is_digit, graded}
use Rattle.passes.specs.Levels.{decimal_from, decimal}
use Rattle.meaning.proofs.Basics.{test}
use Rattle.meaning.proofs.Predicates.{Ident, starts_well}
use Rattle.meaning.proofs.Levels.LevelFacts.{highest}
use Rattle.meaning.proofs.Levels.LevelForms.{name_at}

-- ---- a decimal is some digits
abbrev are_digits : Text → Bool
are_digits [] = true
are_digits (b ∷ t) = is_digit b && are_digits t

abbrev is_filled : Text → Bool
is_filled [] = false
is_filled (b ∷ t) = true

-- the last digit of n
abbrev last : ℕ → ℕ
last n = 48 + n % 10

last-digit : (n : ℕ) → is_digit (last n) ≡ true
last-digit n = and_intro (le-leb 48 (last n) (omega arith)) (le-leb (last n) 57 (omega arith))

-- either of two texts
either : (f : Text → Bool) (b : Bool) (x y : Text) → f x ≡ true → f y ≡ true → f (cond b x y) ≡ true
either f true x y p q = p
either f false x y p q = q

digits_are : (k n : ℕ) (r : Text) → are_digits r ≡ true → are_digits (decimal_from k n r) ≡ true
digits_are zero n r e = e
digits_are (suc k) n r e =
    let h = and_intro (last-digit n) e in
    either are_digits (ltb n 10) (last n ∷ r) (decimal_from k (n / 10) (last n ∷ r)) h (digits_are k (n / 10) (last n ∷ r) h)

digits-filled : (k n b : ℕ) (r : Text) → is_filled (decimal_from k n (b ∷ r)) ≡ true
digits-filled zero n b r = refl
digits-filled (suc k) n b r = either is_filled (ltb n 10) (last n ∷ b ∷ r) (decimal_from k (n / 10) (last n ∷ b ∷ r)) refl (digits-filled k (n / 10) (last n) (b ∷ r))

decimal-filled : (k n : ℕ) → is_filled (decimal_from (suc k) n []) ≡ true
decimal-filled k n = either is_filled (ltb n 10) (last n ∷ []) (decimal_from k (n / 10) (last n ∷ [])) refl (digits-filled k (n / 10) (last n) [])

-- ---- digits stand in names, but neither in `mut` nor in `error`
digit_in : (b : ℕ) → is_digit b ≡ true → in_name b ≡ true
unfolding in_name
digit_in b e = or_inr (starts_name b) (between 48 57 b) e

digits_in : (t : Text) → are_digits t ≡ true → every in_name t ≡ true
unfolding every
digits_in [] e = refl
digits_in (b ∷ t) e = and_intro (digit_in b (and_elim_left (is_digit b) (are_digits t) e)) (digits_in t (and_elim_right (is_digit b) (are_digits t) e))

every_append : (n t : Text) → every in_name n ≡ true → every in_name t ≡ true → every in_name (n ++ t) ≡ true
unfolding every
every_append [] t p q = q
every_append (b ∷ n) t p q = and_intro (and_elim_left (in_name b) (every in_name n) p) (every_append n t (and_elim_right (in_name b) (every in_name n) p) q)

abbrev no_digit : Text → Bool
no_digit [] = true
no_digit (b ∷ t) = not (is_digit b) && no_digit t

has-digit : (n : Text) (b : ℕ) (t : Text) → is_digit b ≡ true → no_digit (n ++ (b ∷ t)) ≡ false
has-digit [] b t e = rw e
has-digit (x ∷ n) b t e = ap (not (is_digit x) &&◌) (has-digit n b t e) ∙ and-false (not (is_digit x))

differs : (n u : Text) → no_digit n ≡ false → no_digit u ≡ true → same_as n u ≡ false
differs n u p q = go (test (same_as n u))
  where
    go : (same_as n u ≡ true) ⊎ (same_as n u ≡ false) → same_as n u ≡ false
    go (inl e) = absurd (false≢true (sym p ∙ ap no_digit (same_as-eq n u e) ∙ q))
    go (inr e) = e

starts_append : (n t : Text) → starts_well n ≡ true → starts_well (n ++ t) ≡ true
starts_append [] t e = absurd (false≢true e)
starts_append (b ∷ n) t e = e

ident_digits : (n t : Text) → Ident n → are_digits t ≡ true → is_filled t ≡ true → Ident (n ++ t)
ident_digits n [] i a e = absurd (false≢true e)
ident_digits n (b ∷ t) i a e =
    let nd = has-digit n b t (and_elim_left (is_digit b) (are_digits t) a) in
    record {
      first = starts_append n (b ∷ t) i.first;
      rest = every_append n (b ∷ t) i.rest (digits_in (b ∷ t) a);
      no_mut = differs (n ++ (b ∷ t)) mut_text nd refl;
      no_error = differs (n ++ (b ∷ t)) error_text nd refl;
    }

pub level_ident : (d : Nonterminal) (v : ℕ) → Ident d.name → Ident (name_at d v)
unfolding name_at
level_ident d v i = go (eqb v (highest (graded d)))
  where
    go : (b : Bool) → Ident (cond b d.name (d.name ++ decimal v))
    go true = i
    go false = ident_digits d.name (decimal v) i (digits_are 10 v [] refl) (decimal-filled 9 v)
