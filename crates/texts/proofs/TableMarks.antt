-- Marks for callers: of a place on the tape and a class, and of a place in work; and a command 01 that was written. Assumes nothing.
use mathlib.Core.Path.{◌≡◌, refl}
use mathlib.Core.Bool.{Bool, true, false}
use mathlib.Core.Logic.{inl, inr}
use mathlib.Core.List.{List, ◌∷◌, ◌++◌}
use Prim.Native.Nat.{ℕ, ◌+◌, ◌*◌, ◌-◌, ◌/◌, ◌<◌, ◌≤◌}
use native.Mathlib.Omega.{arith}
use borrow.Author.Tests.{ltb-true, ltb-false}
use lib.Dec.{ltb}
use lib.ListN.{length}
use Rattle.octets.specs.Plain.Numbers.{le_at, le}
use Rattle.octets.specs.Plain.Runs.{Lies}
use Rattle.octets.proofs.NumbersLaws.{length-le}
use Rattle.octets.proofs.LiesLaws.{lies_split, lies_first, lies_part, lies_inside, le_read}
use Rattle.parse_tree.specs.Plain.Tree.{Text}
use Rattle.texts.specs.declared.Map.{Map}
use Rattle.texts.specs.Fields.{mark_at}
use Rattle.texts.specs.Atoms.{atom_end, atom_text}
use Rattle.texts.specs.Texts.{marked_text, Whole, Behind}
use Rattle.texts.specs.Table.{Above, Entered}
use Rattle.texts.proofs.TextCode.{on_tape, tape_place, in_work, work_place}

-- ---- four times a place on the tape, and a class
module _ (s w : List ℕ) (at c : ℕ) (h : c < 4) (k : atom_end s at ≤ length s) where
  tape_inside : at + 3 ≤ length s
  unfolding atom_end
  tape_inside = omega arith

  tape_low : 4 * at + c < 4 * length s
  tape_low = omega (arith, tape_inside)

  pub tape_mark_whole : Whole s w (4 * at + c)
  tape_mark_whole =
      let z : (4 * at + c) / 4 ≡ at = omega arith in
      record { inside = rw (on_tape s w (4 * at + c) tape_low, tape_place s w (4 * at + c) tape_low, z) k }

  pub tape_mark_text : marked_text s w (4 * at + c) ≡ atom_text s at
  unfolding marked_text
  tape_mark_text =
      let z : (4 * at + c) / 4 ≡ at = omega arith in
      rw (on_tape s w (4 * at + c) tape_low, tape_place s w (4 * at + c) tape_low, z)

  pub tape_mark_behind : (z : ℕ) → Behind s z (4 * at + c)
  tape_mark_behind z = inl tape_low

-- ---- a place in work, from eight times the tape's length on, less four times that
module _ (s w : List ℕ) (p : ℕ) (h : 8 * length s ≤ p) where
  work_high : 4 * length s ≤ p - 4 * length s
  work_high = omega arith

  work_back : p - 4 * length s + 4 * length s ≡ p
  work_back = omega arith

  pub work_mark_whole : atom_end w p ≤ length w → Whole s w (p - 4 * length s)
  work_mark_whole k = record { inside = rw (in_work s w (p - 4 * length s) work_high, work_place s w (p - 4 * length s) work_high, work_back) k }

  pub work_mark_text : marked_text s w (p - 4 * length s) ≡ atom_text w p
  unfolding marked_text
  work_mark_text = rw (in_work s w (p - 4 * length s) work_high, work_place s w (p - 4 * length s) work_high, work_back)

  pub work_mark_behind : (z : ℕ) → z ≤ p → Behind s z (p - 4 * length s)
  work_mark_behind z k = inr (omega arith)

-- ---- the command 01 of a text that lies there
module _ (w : List ℕ) (p e : ℕ) (t : Text) (n : length t < 65536) (l : Lies w p (1 ∷ (le 2 (length t) ++ t)) e) where
  lies_rest : Lies w (p + 1) (le 2 (length t)) (p + 1 + length (le 2 (length t))) × Lies w (p + 1 + length (le 2 (length t))) t e
  lies_rest = lies_split w (p + 1) e (le 2 (length t)) t (lies_first w p 1 (le 2 (length t) ++ t) e l).2

  lies_length : le_at 2 w (p + 1) ≡ length t
  lies_length = le_read 2 w (p + 1) (length t) (p + 1 + length (le 2 (length t))) (omega arith) lies_rest.0

  pub atom_lies_end : atom_end w p ≡ e
  unfolding atom_end
  atom_lies_end = let r = lies_rest.1.end in omega (arith, lies_length, length-le 2 (length t))

  -- theorem: its text
  pub atom_lies_text : atom_text w p ≡ t
  unfolding atom_text
  atom_lies_text =
      let z : p + 3 ≡ p + 1 + length (le 2 (length t)) = omega (arith, length-le 2 (length t)) in
      rw (z, atom_lies_end) (lies_part w (p + 1 + length (le 2 (length t))) e t lies_rest.1)

  -- theorem: it is whole
  pub atom_lies_inside : atom_end w p ≤ length w
  atom_lies_inside = rw atom_lies_end (lies_inside w p e (1 ∷ (le 2 (length t) ++ t)) (omega arith) l)

-- ---- the bound, with one text more
pub above_entered : (s w : List ℕ) (m : Map) (x c : ℕ) (m1 : Map) (w1 : List ℕ) (z : ℕ) → Entered s w m x c m1 w1 → Behind s z x → Above s w m z → Above s w1 m1 z
above_entered s w m x c m1 w1 z g b a = record { above = λ i l. go i (ltb i m.count) refl (rw g.count at l) }
  where
    go : (i : ℕ) (t : Bool) → ltb i m.count ≡ t → i < m.count + 1 → Behind s z (mark_at w1 m1.base i)
    go i true u l = let v = ltb-true i m.count u in rw (g.base, g.marks i v) (a.above i v)
    go i false u l = let y : i ≡ m.count = omega (arith, ltb-false i m.count u) in rw (g.base, y, g.mark) b

-- and with none
pub above_none : (s w : List ℕ) (m : Map) (z : ℕ) → m.count ≡ 0 → Above s w m z
above_none s w m z e = record { above = λ i l. absurd (omega arith) }
