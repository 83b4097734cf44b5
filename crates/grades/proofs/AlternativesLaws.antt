-- A level that is read is a `u32`; bytes beside the places and keys that are stored. Assumes nothing.
use mathlib.Core.Path.{◌≡◌, refl, ◌∙◌}
use mathlib.Core.Bool.{Bool, true, false, cond}
use mathlib.Core.Logic.{◌⊎◌, inl, inr}
use mathlib.Core.List.{List, [], ◌∷◌}
use mathlib.Core.Option.{Option, none, some}
use Prim.Native.Nat.{ℕ, ◌+◌, ◌-◌, ◌*◌, ◌≤◌, ◌<◌}
use native.Mathlib.Omega.{arith}
use borrow.Author.Tests.{leb-true}
use lib.Dec.{eqb, leb}
use lib.ListN.{get_or}
use Rattle.octets.specs.Plain.Numbers.{le}
use Rattle.octets.specs.Working.Stores.{store}
use Rattle.octets.proofs.NumbersLaws.{length-le}
use Rattle.octets.proofs.StoreLaws.{get_d_store_before, get_d_store_after}
use Rattle.parse_tree.specs.Plain.Tree.{Text}
use Rattle.passes.specs.Grades.{is_digit, digits, unsigned, level_in, level_of}
use Rattle.resolve.specs.Whole.{Apart}
use Rattle.grades.specs.declared.Assoc.{Assoc}
use Rattle.grades.specs.Key.{grade_key}
use Rattle.grades.specs.Alternatives.{stored_grade}

-- ---- levels
abbrev Small : Option ℕ → Type 0
Small none = Unit {0}
Small (some v) = v ≤ 4294967295

choose : (c : Bool) (x y : Option ℕ) → Small x → Small y → Small (cond c x y)
choose true x y h k = h
choose false x y h k = k

digits-small : (bs : List ℕ) (v : ℕ) → Small (digits v bs)
digits-small [] v = go (leb v 4294967295) refl
  where
    go : (c : Bool) → leb v 4294967295 ≡ c → Small (cond c (some v) none)
    go true e = leb-true v 4294967295 e
    go false e = tt
digits-small (b ∷ bs) v = choose (is_digit b) (digits (v * 10 + (b - 48)) bs) none (digits-small bs (v * 10 + (b - 48))) tt

unsigned_small : (bs : List ℕ) → Small (unsigned bs)
unsigned_small [] = tt
unsigned_small (b ∷ bs) = digits-small (b ∷ bs) 0

level_in_small : (t : Text) → Small (level_in t)
level_in_small [] = tt
level_in_small (b ∷ bs) = choose (eqb b 43) (unsigned bs) (unsigned (b ∷ bs)) (unsigned_small bs) (unsigned_small (b ∷ bs))

-- an alternative's level is a `u32` if the one before it is
pub level_of_small : (l : ℕ) → l < 4294967296 → (o : Option (Option Text)) → level_of l o < 4294967296
level_of_small l h none = h
level_of_small l h (some none) = h
level_of_small l h (some (some t)) = go (level_in t) (level_in_small t)
  where
    go : (o : Option ℕ) → Small o → elim o [ none ↦ l | some v ↦ v ] < 4294967296
    go none k = h
    go (some v) k = omega arith

-- ---- bytes beside those from a up to b
abbrev pub Outside : ℕ → ℕ → ℕ → Type 0
Outside a b j = (j < a) ⊎ (b ≤ j)

pub outside_part : (a b c d j : ℕ) → a ≤ c → d ≤ b → Outside a b j → Outside c d j
outside_part a b c d j h k (inl x) = inl (omega arith)
outside_part a b c d j h k (inr x) = inr (omega arith)

pub apart_outside : (p e a b j : ℕ) → Apart p e a b → p ≤ j → j < e → Outside a b j
apart_outside p e a b j (inl x) h k = inl (omega arith)
apart_outside p e a b j (inr x) h k = inr (omega arith)

pub cell_kept : (w : List ℕ) (at v j : ℕ) → Outside at (at + 8) j → get_or (store w at (le 8 v)) j 0 ≡ get_or w j 0
cell_kept w at v j (inl h) = get_d_store_before w at (le 8 v) j h
cell_kept w at v j (inr h) = get_d_store_after w at (le 8 v) j (omega (arith, length-le 8 v))

pub stored_kept : (w : List ℕ) (places keys i p v : ℕ) (t : Assoc) (j : ℕ) → Outside (places + 8 * i) (places + 8 * i + 8) j → Outside (keys + 8 * i) (keys + 8 * i + 8) j
    → get_or (stored_grade w places keys i p v t) j 0 ≡ get_or w j 0
unfolding stored_grade
stored_kept w places keys i p v t j x y = cell_kept (store w (places + 8 * i) (le 8 p)) (keys + 8 * i) (grade_key v i t) j y ∙ cell_kept w (places + 8 * i) p j x
