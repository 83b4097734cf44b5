-- A level's name that isn't the nonterminal's ends in a digit, and so is neither `precedence` nor `assoc`. Assumes nothing.
use mathlib.Core.Path.{◌≡◌, refl, ap, ◌∙◌}
use mathlib.Core.Bool.{Bool, true, false, cond}
use mathlib.Core.List.{List, [], ◌∷◌, ◌++◌}
use Prim.Native.Nat.{ℕ, zero, suc, ◌+◌, ◌/◌, ◌%◌, ◌<◌}
use native.Mathlib.Omega.{arith}
use lib.Dec.{ltb}
use Rattle.octets.specs.Plain.Runs.{same_as}
use Rattle.octets.proofs.SameLaws.{same_as-eq}
use Rattle.parse_tree.specs.Plain.Tree.{Text}
use Rattle.passes.specs.Grades.{precedence, assoc}
use Rattle.passes.specs.Levels.{decimal_from, decimal, level_name}

-- the last byte of a text behind the byte c
unfoldable pub last_of : ℕ → Text → ℕ
last_of c [] = c
last_of c (b ∷ bs) = last_of b bs

last-append : (c : ℕ) (x y : Text) → last_of c (x ++ y) ≡ last_of (last_of c x) y
unfolding last_of
last-append c [] y = refl
last-append c (b ∷ x) y = last-append b x y

-- digits are put before what is there
from_last : (k n c b : ℕ) (r : Text) → last_of c (decimal_from k n (b ∷ r)) ≡ last_of b r
unfolding last_of
from_last zero n c b r = refl
from_last (suc k) n c b r = go (ltb n 10) (from_last k (n / 10) c (48 + n % 10) (b ∷ r))
  where
    go : (t : Bool) → last_of c (decimal_from k (n / 10) ((48 + n % 10) ∷ b ∷ r)) ≡ last_of b r → last_of c (cond t ((48 + n % 10) ∷ b ∷ r) (decimal_from k (n / 10) ((48 + n % 10) ∷ b ∷ r))) ≡ last_of b r
    go true i = refl
    go false i = i

decimal-last : (c v : ℕ) → last_of c (decimal v) ≡ 48 + v % 10
unfolding last_of
decimal-last c v = go (ltb v 10) (from_last 9 (v / 10) c (48 + v % 10) [])
  where
    go : (t : Bool) → last_of c (decimal_from 9 (v / 10) ((48 + v % 10) ∷ [])) ≡ 48 + v % 10 → last_of c (cond t ((48 + v % 10) ∷ []) (decimal_from 9 (v / 10) ((48 + v % 10) ∷ []))) ≡ 48 + v % 10
    go true i = refl
    go false i = i

-- theorem: a text whose last byte is above the digits is no text with a level
pub no_decimal : (id E : Text) (v : ℕ) → 57 < last_of 0 id → same_as id (E ++ decimal v) ≡ false
no_decimal id E v h = go (same_as id (E ++ decimal v)) refl
  where
    go : (b : Bool) → same_as id (E ++ decimal v) ≡ b → b ≡ false
    go true e =
        let z : last_of 0 id ≡ 48 + v % 10 = ap (last_of 0) (same_as-eq id (E ++ decimal v) e) ∙ last-append 0 E (decimal v) ∙ decimal-last (last_of 0 E) v in
        absurd (omega arith)
    go false e = refl

pub precedence-last : 57 < last_of 0 precedence
unfolding last_of
precedence-last = omega arith

pub assoc-last : 57 < last_of 0 assoc
unfolding last_of
assoc-last = omega arith

-- theorem: no level that isn't the highest is named `precedence`
pub precedence-not_new : (E : Text) (v u : ℕ) (us : List ℕ) → same_as precedence (level_name E v (u ∷ us)) ≡ false
precedence-not_new E v u us = no_decimal precedence E v precedence-last

-- theorem: nor `assoc`
pub assoc-not_new : (E : Text) (v u : ℕ) (us : List ℕ) → same_as assoc (level_name E v (u ∷ us)) ≡ false
assoc-not_new E v u us = no_decimal assoc E v assoc-last
