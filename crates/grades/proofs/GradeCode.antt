-- What the texts of attributes say: the ways out of read_level and read_assoc. Assumes nothing.
use mathlib.Core.Path.{◌≡◌, refl, sym, ap, ◌∙◌}
use mathlib.Core.Bool.{Bool, true, false, cond, ◌&&◌}
use mathlib.Core.List.{List, [], ◌∷◌}
use mathlib.Core.Option.{none, some}
use Prim.Native.Nat.{ℕ, zero, suc, ◌+◌, ◌*◌, ◌-◌, ◌≤◌, ◌<◌}
use native.Mathlib.Omega.{arith}
use borrow.Author.Rules.{rules}
use borrow.Author.Tests.{le-leb, lt-leb, eqb-true, eqb-false, leb-true, leb-false}
use lib.Dec.{leb, eqb}
use lib.ListN.{length, get_or}
use Rattle.std.specs.Prelude.{Some, None, Result, Ok, Err}
use Rattle.std.specs.Int.{IsInRange}
use Rattle.std.specs.Result.{OkIff, result_ok}
use Rattle.std.specs.Str.{IsUtf8, IsAscii}
use Rattle.std.specs.Str.Parse.{AllDigits, ParsesUnsigned}
use Rattle.std.proofs.lemmas.Fmt.{IsAscii-from_digits}
use Rattle.std.proofs.lemmas.Str.{IsUtf8-from_ascii}
use Rattle.std.proofs.lemmas.Str.Parse.{IsNumeralModel, numerals_by_fold, tells_digits, parse_plain, parse_plus}
use Rattle.octets.specs.Plain.Runs.{same_as}
use Rattle.octets.proofs.SameLaws.{same_as-eq}
use Rattle.passes.specs.Grades.{all, non, left, right, is_digit, digits, unsigned}
use Rattle.grades.specs.declared.Assoc.{Assoc}
use Rattle.grades.specs.Grade.{assoc_answer, level_answer, level_said, assoc_said}
use Rattle.grades.proofs.DecimalLaws.{value_from}

-- ---- digits
not_digit : (b v : ℕ) (bs : List ℕ) → is_digit b ≡ false → digits v (b ∷ bs) ≡ none
not_digit b v bs e = ap (λ (x : Bool). cond x (digits (v * 10 + (b - 48)) bs) none) e

is_digit_lem : (b v : ℕ) (bs : List ℕ) → is_digit b ≡ true → digits v (b ∷ bs) ≡ digits (v * 10 + (b - 48)) bs
is_digit_lem b v bs e = ap (λ (x : Bool). cond x (digits (v * 10 + (b - 48)) bs) none) e

not-less : (m n : ℕ) → (m < n → ⊥) → n ≤ m
not-less m n h = go (leb n m) refl
  where
    go : (b : Bool) → leb n m ≡ b → n ≤ m
    go true e = leb-true n m e
    go false e = absurd (h (leb-false n m e))

in_digits : (b : ℕ) → is_digit b ≡ true → IsInRange 48 57 b
in_digits b e = go (leb 48 b) (leb b 57) refl refl e
  where
    go : (x y : Bool) → leb 48 b ≡ x → leb b 57 ≡ y → x && y ≡ true → IsInRange 48 57 b
    go true true p q z = (leb-true 48 b p, leb-true b 57 q)
    go true false p q z = cc
    go false y p q z = cc

digit_in : (b : ℕ) → IsInRange 48 57 b → is_digit b ≡ true
digit_in b r = ap (λ (x : Bool). x && leb b 57) (le-leb 48 b r.0) ∙ le-leb b 57 r.1

own : IsNumeralModel (AllDigits 10) (value_from 0)
unfolding value_from
own = numerals_by_fold (AllDigits 10) tells_digits value_from (search rules)

some_digits : (bs : List ℕ) (v : ℕ) → AllDigits 10 bs → value_from v bs < 4294967296 → digits v bs ≡ some (value_from v bs)
unfolding value_from
some_digits [] v d h = ap (λ (x : Bool). cond x (some v) none) (le-leb v 4294967295 (omega arith))
some_digits (b ∷ bs) v d h =
    let z = tells_digits.parts b bs d in
    is_digit_lem b v bs (digit_in b z.0) ∙ some_digits bs (v * 10 + (b - 48)) z.1 h

no_digits : (bs : List ℕ) (v : ℕ) → (AllDigits 10 bs → value_from v bs < 4294967296 → ⊥) → digits v bs ≡ none
unfolding value_from
no_digits [] v h = ap (λ (x : Bool). cond x (some v) none) (lt-leb v 4294967295 (omega (arith, not-less v 4294967296 (h tt))))
no_digits (b ∷ bs) v h = go (is_digit b) refl (no_digits bs (v * 10 + (b - 48)))
  where
    go : (x : Bool) → is_digit b ≡ x → ((AllDigits 10 bs → value_from (v * 10 + (b - 48)) bs < 4294967296 → ⊥) → digits (v * 10 + (b - 48)) bs ≡ none) → digits v (b ∷ bs) ≡ none
    go true e i = is_digit_lem b v bs e ∙ i (λ d. h (tells_digits.more b bs (in_digits b e) d))
    go false e i = not_digit b v bs e

-- ---- read_level: what is no UTF-8 is no level
one_more : (b : ℕ) (bs : List ℕ) → b < 128 → IsAscii bs → IsAscii (b ∷ bs)
one_more b bs h a zero = h
one_more b bs h a (suc i) = a i

not_digits : (bs : List ℕ) → (AllDigits 10 bs → ⊥) → level_answer (unsigned bs) ≡ None
not_digits [] h = refl
not_digits (b ∷ bs) h = ap level_answer (no_digits (b ∷ bs) 0 (λ d k. h d))

pub level_no_text : (t : List ℕ) → (IsUtf8 t → ⊥) → None ≡ level_said t
unfolding level_said
level_no_text [] h = refl
level_no_text (b ∷ bs) h = go (eqb b 43) refl
  where
    go : (x : Bool) → eqb b 43 ≡ x → None ≡ level_answer (cond x (unsigned bs) (unsigned (b ∷ bs)))
    go true e = let z = eqb-true b 43 e in sym (not_digits bs (λ d. h (IsUtf8-from_ascii (b ∷ bs) (one_more b bs (omega (arith, z)) (IsAscii-from_digits bs d)))))
    go false e = sym (not_digits (b ∷ bs) (λ d. h (IsUtf8-from_ascii (b ∷ bs) (IsAscii-from_digits (b ∷ bs) d))))

-- what `parse` says of digits
digits_parsed : {E : Type 0} (bs : List ℕ) (r : Result ℕ E) → OkIff r (AllDigits 10 bs × (0 < length bs) × (value_from 0 bs < 4294967296)) (value_from 0 bs) → result_ok r ≡ level_answer (unsigned bs)
digits_parsed [] (Ok x) h = absurd (omega (arith, h.0.1))
digits_parsed [] (Err e) h = refl
digits_parsed (b ∷ bs) (Ok x) h = ap Some h.1 ∙ sym (ap level_answer (some_digits (b ∷ bs) 0 h.0.0 h.0.2))
digits_parsed (b ∷ bs) (Err e) h = sym (ap level_answer (no_digits (b ∷ bs) 0 (λ d k. h (d, omega arith, k))))

pub level_parsed : {E : Type 0} (t : List ℕ) (r : Result ℕ E) → ParsesUnsigned 32 10 t r → result_ok r ≡ level_said t
unfolding level_said
level_parsed [] r h = digits_parsed [] r (parse_plain own 32 [] r h (λ e. cc))
level_parsed (b ∷ bs) r h = go (eqb b 43) refl
  where
    go : (x : Bool) → eqb b 43 ≡ x → result_ok r ≡ level_answer (cond x (unsigned bs) (unsigned (b ∷ bs)))
    go true e = digits_parsed bs r (parse_plus own 32 (b ∷ bs) r h (eqb-true b 43 e))
    go false e = digits_parsed (b ∷ bs) r (parse_plain own 32 (b ∷ bs) r h (eqb-false b 43 e))

pub ruleset levelling = (rules, level_no_text, level_parsed)

-- ---- read_assoc
bytes_from : ℕ → ℕ → List ℕ → List ℕ
bytes_from zero i t = []
bytes_from (suc n) i t = get_or t i 0 ∷ bytes_from n (suc i) t

bytes_behind : (n i b : ℕ) (t : List ℕ) → bytes_from n i t ≡ bytes_from n (suc i) (b ∷ t)
unfolding bytes_from
bytes_behind zero i b t = refl
bytes_behind (suc n) i b t = ap (λ (l : List ℕ). get_or t i 0 ∷ l) (bytes_behind n (suc i) b t)

bytes_are : (n : ℕ) (t : List ℕ) → length t ≡ n → t ≡ bytes_from n 0 t
unfolding bytes_from
bytes_are zero [] e = refl
bytes_are zero (b ∷ t) e = absurd (omega arith)
bytes_are (suc n) [] e = absurd (omega arith)
bytes_are (suc n) (b ∷ t) e = ap (λ (l : List ℕ). b ∷ l) (bytes_are n t (omega arith) ∙ bytes_behind n 0 b t)

module _ (t : List ℕ) where
  pub assoc-all : 3 ≤ length t → length t < 4 → get_or t 0 0 ≡ 97 → get_or t 1 0 ≡ 108 → get_or t 2 0 ≡ 108 → Some Assoc.FullyAssoc ≡ assoc_said t
  unfolding assoc_said bytes_from same_as
  assoc-all n m a b c = let z : t ≡ 97 ∷ 108 ∷ 108 ∷ [] = cc (bytes_are 3 t (omega arith)) in rw z refl

  module _ (n : 4 ≤ length t) (m : length t < 5) where
    pub assoc-non : get_or t 0 0 ≡ 110 → get_or t 1 0 ≡ 111 → get_or t 2 0 ≡ 110 → get_or t 3 0 ≡ 101 → Some Assoc.NonAssoc ≡ assoc_said t
    unfolding assoc_said bytes_from same_as
    assoc-non a b c d = let z : t ≡ 110 ∷ 111 ∷ 110 ∷ 101 ∷ [] = cc (bytes_are 4 t (omega arith)) in rw z refl

    pub assoc-left : get_or t 0 0 ≡ 108 → get_or t 1 0 ≡ 101 → get_or t 2 0 ≡ 102 → get_or t 3 0 ≡ 116 → Some Assoc.Left ≡ assoc_said t
    unfolding assoc_said bytes_from same_as
    assoc-left a b c d = let z : t ≡ 108 ∷ 101 ∷ 102 ∷ 116 ∷ [] = cc (bytes_are 4 t (omega arith)) in rw z refl

  pub assoc-right : 5 ≤ length t → length t < 6 → get_or t 0 0 ≡ 114 → get_or t 1 0 ≡ 105 → get_or t 2 0 ≡ 103 → get_or t 3 0 ≡ 104 → get_or t 4 0 ≡ 116 → Some Assoc.Right ≡ assoc_said t
  unfolding assoc_said bytes_from same_as
  assoc-right n m a b c d e = let z : t ≡ 114 ∷ 105 ∷ 103 ∷ 104 ∷ 116 ∷ [] = cc (bytes_are 5 t (omega arith)) in rw z refl

  pub assoc-nothing : (length t ≡ 3 → get_or t 0 0 ≡ 97 → get_or t 1 0 ≡ 108 → get_or t 2 0 ≡ 108 → ⊥)
      → (length t ≡ 4 → get_or t 0 0 ≡ 110 → get_or t 1 0 ≡ 111 → get_or t 2 0 ≡ 110 → get_or t 3 0 ≡ 101 → ⊥)
      → (length t ≡ 4 → get_or t 0 0 ≡ 108 → get_or t 1 0 ≡ 101 → get_or t 2 0 ≡ 102 → get_or t 3 0 ≡ 116 → ⊥)
      → (length t ≡ 5 → get_or t 0 0 ≡ 114 → get_or t 1 0 ≡ 105 → get_or t 2 0 ≡ 103 → get_or t 3 0 ≡ 104 → get_or t 4 0 ≡ 116 → ⊥) → None ≡ assoc_said t
  unfolding assoc_said
  assoc-nothing a b c d = go (same_as t (97 ∷ 108 ∷ 108 ∷ [])) refl (same_as t (110 ∷ 111 ∷ 110 ∷ 101 ∷ [])) refl (same_as t (108 ∷ 101 ∷ 102 ∷ 116 ∷ [])) refl (same_as t (114 ∷ 105 ∷ 103 ∷ 104 ∷ 116 ∷ [])) refl
    where
      go : (x : Bool) → same_as t (97 ∷ 108 ∷ 108 ∷ []) ≡ x → (y : Bool) → same_as t (110 ∷ 111 ∷ 110 ∷ 101 ∷ []) ≡ y → (z : Bool) → same_as t (108 ∷ 101 ∷ 102 ∷ 116 ∷ []) ≡ z
          → (u : Bool) → same_as t (114 ∷ 105 ∷ 103 ∷ 104 ∷ 116 ∷ []) ≡ u → None ≡ assoc_answer (cond x (some all) (cond y (some non) (cond z (some left) (cond u (some right) none))))
      go true e y f z g u h = let s = same_as-eq t _ e in absurd (a (rw s refl) (rw s refl) (rw s refl) (rw s refl))
      go false e true f z g u h = let s = same_as-eq t _ f in absurd (b (rw s refl) (rw s refl) (rw s refl) (rw s refl) (rw s refl))
      go false e false f true g u h = let s = same_as-eq t _ g in absurd (c (rw s refl) (rw s refl) (rw s refl) (rw s refl) (rw s refl))
      go false e false f false g true h = let s = same_as-eq t _ h in absurd (d (rw s refl) (rw s refl) (rw s refl) (rw s refl) (rw s refl) (rw s refl))
      go false e false f false g false h = refl

pub ruleset siding = (rules, assoc-all, assoc-non, assoc-left, assoc-right, assoc-nothing)
