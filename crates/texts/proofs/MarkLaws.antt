-- The mark of a text: what it tells, and that making it and taking it apart undo each other. Assumes nothing.
use mathlib.Core.Path.{◌≡◌, refl, sym, ap, ◌∙◌}
use mathlib.Core.Bool.{Bool, true, false}
use Prim.Native.Nat.{ℕ, ◌+◌, ◌*◌, ◌/◌, ◌<◌, ◌≤◌}
use native.Mathlib.Omega.{arith}
use borrow.Author.Tests.{lt-ltb, le-ltb, ltb-true, ltb-false}
use lib.Dec.{ltb}
use Rattle.octets.specs.Working.Choice.{pick}
use Rattle.texts.specs.declared.mark.Stand.{Stand}
use Rattle.texts.specs.Marks.{stand_of}

-- where it stands
abbrev place_in : Stand → ℕ
place_in (Stand.Tape a) = a
place_in (Stand.Work a) = a

abbrev in_work : Stand → ℕ
in_work (Stand.Tape a) = 0
in_work (Stand.Work a) = 1

module _ (n x : ℕ) where
  pub stand_tape : x < 4 * n → stand_of n x ≡ Stand.Tape (x / 4)
  unfolding stand_of pick
  stand_tape h = cc (lt-ltb x (4 * n) h)

  pub stand_work : 4 * n ≤ x → stand_of n x ≡ Stand.Work (x + 4 * n)
  unfolding stand_of pick
  stand_work h = cc (le-ltb x (4 * n) h)

  module _ (r : Stand) (a : ℕ) (h : r ≡ stand_of n x) where
    pub is_tape : r ≡ Stand.Tape a → (x < 4 * n) × (a ≡ x / 4)
    is_tape e = go (ltb x (4 * n)) refl
      where
        go : (b : Bool) → ltb x (4 * n) ≡ b → (x < 4 * n) × (a ≡ x / 4)
        go true p = let l = ltb-true x (4 * n) p in (l, sym (ap place_in e) ∙ ap place_in (h ∙ stand_tape l))
        go false p = let z : ◌≡◌ {A = ℕ} 0 1 = sym (ap in_work e) ∙ ap in_work (h ∙ stand_work (ltb-false x (4 * n) p)) in absurd (omega arith)

    pub is_work : r ≡ Stand.Work a → (4 * n ≤ x) × (a ≡ x + 4 * n)
    is_work e = go (ltb x (4 * n)) refl
      where
        go : (b : Bool) → ltb x (4 * n) ≡ b → (4 * n ≤ x) × (a ≡ x + 4 * n)
        go true p = let z : ◌≡◌ {A = ℕ} 1 0 = sym (ap in_work e) ∙ ap in_work (h ∙ stand_tape (ltb-true x (4 * n) p)) in absurd (omega arith)
        go false p = let l = ltb-false x (4 * n) p in (l, sym (ap place_in e) ∙ ap place_in (h ∙ stand_work l))

-- ---- `stand`
pub stands_tape : (n x : ℕ) → x / 4 < n → Stand.Tape (x / 4) ≡ stand_of n x
stands_tape n x h = sym (stand_tape n x (omega arith))

pub stands_work : (n x : ℕ) → n ≤ x / 4 → Stand.Work (x + 4 * n) ≡ stand_of n x
stands_work n x h = sym (stand_work n x (omega arith))
