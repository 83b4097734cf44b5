-- The table of a tape's atoms where nothing of its records but cells was written, and how much of work it takes. Assumes nothing.
use mathlib.Core.Path.{◌≡◌, refl}
use mathlib.Core.Bool.{Bool, true, false}
use mathlib.Core.Logic.{◌⊎◌, inl, inr}
use mathlib.Core.List.{List, [], ◌∷◌}
use Prim.Native.Nat.{ℕ, ◌+◌, ◌*◌, ◌<◌, ◌≤◌}
use native.Mathlib.Omega.{arith}
use borrow.Author.Tests.{ltb-true, ltb-false}
use lib.Dec.{ltb}
use lib.ListN.{length, get_or}
use Rattle.parse_tree.specs.Plain.Tree.{Text, Item, item, terminal}
use Rattle.parse_tree.specs.Working.Within.{Each, ItemWithin}
use Rattle.parse_tree.proofs.TextLaws.{number-below}
use Rattle.texts.specs.declared.Map.{Map}
use Rattle.texts.specs.Atoms.{atom_end}
use Rattle.texts.specs.Fields.{mark_at, hash_at, link_at, head_at}
use Rattle.texts.specs.Texts.{Whole, Behind}
use Rattle.texts.specs.Table.{Table, Above, texts, linked}
use Rattle.texts.proofs.ChainCode.{chained_same}
use Rattle.texts.proofs.TextCode.{in_work, work_place}
use Rattle.texts.proofs.TableStays.{le_at-agree, whole_stays, hash_stays, texts-stay, linked-le}
use Rattle.resolve.specs.Whole.{Free}
use Rattle.resolve.specs.declared.Grammar.{Grammar}

-- ---- an item has a name, which is an atom
pub items_named : (ts : List Text) (is : List Item) → Each (ItemWithin true 2 ts) is → 0 < length is → 0 < length ts
items_named ts [] w h = absurd (omega arith)
items_named ts (item d ∷ is) w h = omega (arith, number-below ts d.name w.0.name.0)
items_named ts (terminal s o x ∷ is) w h = omega (arith, number-below ts x w.0.1.0)

pub some_linked : (n : ℕ) → 0 < n → 0 < linked n
unfolding linked
some_linked n h = omega arith

-- ---- bytes that resolving leaves as they are: of a record, before its cell
pub record_free : (m : Map) (t : Grammar) (k i : ℕ) → t.end ≤ m.base → m.base + 24 * k ≤ i → i < m.base + 24 * k + 20 → Free m t i
record_free m t k i b l h = record { item = inr (omega arith); cell = λ j _. go j (ltb j k) refl }
  where
    go : (j : ℕ) (x : Bool) → ltb j k ≡ x → (i < m.base + 24 * j + 20) ⊎ (m.base + 24 * j + 24 ≤ i)
    go j true e = let z = ltb-true j k e in inr (omega arith)
    go j false e = let z = ltb-false j k e in inl (omega arith)

-- a byte before the items and the records
pub before-free : (m : Map) (t : Grammar) (i : ℕ) → i < t.at → i < m.base → Free m t i
before-free m t i h l = record { item = inl h; cell = λ j _. inl (omega arith) }

-- ---- a whole text that stands from the end of work on, if in work, stands on the tape
pub mark_on_tape : (s w : List ℕ) (m : Map) → Table s w m → Above s w m (length w) → (i : ℕ) → i < m.count → mark_at w m.base i < 4 * length s
unfolding atom_end
mark_on_tape s w m g a i h = go (mark_at w m.base i) (g.whole i h) (a.above i h) (ltb (mark_at w m.base i) (4 * length s)) refl
  where
    go : (x : ℕ) → Whole s w x → Behind s (length w) x → (t : Bool) → ltb x (4 * length s) ≡ t → x < 4 * length s
    go x k b true e = ltb-true x (4 * length s) e
    go x k b false e =
        let f = ltb-false x (4 * length s) e in
        let j : atom_end w (x + 4 * length s) ≤ length w = rw (in_work s w x f, work_place s w x f) at k.inside in
        elim b [ inl q ↦ q | inr q ↦ absurd (omega arith) ]

-- ---- the table, no text of which stands in work
module _ (s w w1 : List ℕ) (m : Map) (g : Table s w m) (a : Above s w m (length w)) (l : length w1 ≡ length w) (few : m.buckets ≤ m.count)
    (records : (k i : ℕ) → k < m.count → m.base + 24 * k ≤ i → i < m.base + 24 * k + 20 → get_or w1 i 0 ≡ get_or w i 0) where
  mark_same : (i : ℕ) → i < m.count → mark_at w1 m.base i ≡ mark_at w m.base i
  unfolding mark_at
  mark_same i h = le_at-agree 8 w w1 (m.base + 24 * i) (λ j x y. records i j h (omega arith) (omega arith))

  hash_same : (i : ℕ) → i < m.count → hash_at w1 m.base i ≡ hash_at w m.base i
  unfolding hash_at
  hash_same i h = le_at-agree 4 w w1 (m.base + 24 * i + 8) (λ j x y. records i j h (omega arith) (omega arith))

  link_same : (i : ℕ) → i < m.count → link_at w1 m.base i ≡ link_at w m.base i
  unfolding link_at
  link_same i h = le_at-agree 4 w w1 (m.base + 24 * i + 12) (λ j x y. records i j h (omega arith) (omega arith))

  head_same : (i : ℕ) → i < m.buckets → head_at w1 m.base i ≡ head_at w m.base i
  unfolding head_at
  head_same i h = le_at-agree 4 w w1 (m.base + 24 * i + 16) (λ j x y. records i j (omega arith) (omega arith) (omega arith))

  far : (i : ℕ) → length w ≤ i → i < length w → get_or w1 i 0 ≡ get_or w i 0
  far i x y = absurd (omega arith)

  -- theorem: the table stays
  pub table-but_cells : Table s w1 m
  table-but_cells =
      let c = linked-le m.count in
      record {
        narrow = g.narrow;
        room = rw l g.room;
        wide = rw l g.wide;
        whole = whole_stays s w w1 m.base m.count (length w) g.whole a.above l far mark_same;
        hashes = hash_stays s w w1 m.base m.count (length w) g.whole a.above l far mark_same g.hashes hash_same;
        chained = chained_same w w1 m.base m.buckets (linked m.count) (λ i h. hash_same i (omega arith)) (λ i h. link_same i (omega arith)) head_same g.chained;
      }

  -- theorem: and its texts
  pub texts-but_cells : texts s w1 m ≡ texts s w m
  unfolding texts
  texts-but_cells = texts-stay s w w1 m.base m.count (length w) g.whole a.above l far mark_same m.count (omega arith)

  -- theorem: which stand on the tape
  pub above_but_cells : (z : ℕ) → Above s w1 m z
  above_but_cells z = record { above = λ i h. inl (rw (mark_same i h) (mark_on_tape s w m g a i h)) }
