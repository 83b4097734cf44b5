-- The table where nothing was written but cells and what stands before its texts, behind its records; and that its texts are short. s is the tape, w and w' are work. Assumes nothing.
use mathlib.Core.Path.{◌≡◌}
use mathlib.Core.List.{List, [], ◌∷◌}
use Prim.Native.Nat.{ℕ, zero, suc, ◌+◌, ◌*◌, ◌<◌, ◌≤◌}
use native.Mathlib.Omega.{arith}
use lib.Dec.{ltb}
use lib.ListN.{length, get_or}
use Rattle.octets.specs.Plain.Numbers.{Bytes}
use Rattle.octets.proofs.ChoiceLaws.{by_pick}
use Rattle.octets.proofs.LiesLaws.{le_at-lt}
use Rattle.octets.proofs.PartLaws.{part_length}
use Rattle.parse_tree.specs.Plain.Tree.{Text}
use Rattle.parse_tree.specs.Working.Within.{Each}
use Rattle.parse_tree.proofs.ReadingLaws.{each_append}
use Rattle.texts.specs.declared.Map.{Map}
use Rattle.texts.specs.Atoms.{atom_end, atom_text}
use Rattle.texts.specs.Fields.{mark_at, hash_at, link_at, head_at}
use Rattle.texts.specs.Texts.{Whole, holder, place_at, marked_text, texts_of}
use Rattle.texts.specs.Table.{Table, Above, texts, linked}
use Rattle.texts.proofs.ChainCode.{chained_same}
use Rattle.texts.proofs.TableStays.{le_at-agree, whole_stays, hash_stays, texts-stay, linked-le}

-- ---- z is where the texts in work begin
module _ (s w w' : List ℕ) (m : Map) (z : ℕ) (g : Table s w m) (a : Above s w m z) (l : length w' ≡ length w) (few : m.buckets ≤ m.count)
    (far : (i : ℕ) → z ≤ i → i < length w → get_or w' i 0 ≡ get_or w i 0)
    (records : (k i : ℕ) → k < m.count → m.base + 24 * k ≤ i → i < m.base + 24 * k + 20 → get_or w' i 0 ≡ get_or w i 0) where
  pub mark_same : (i : ℕ) → i < m.count → mark_at w' m.base i ≡ mark_at w m.base i
  unfolding mark_at
  mark_same i h = le_at-agree 8 w w' (m.base + 24 * i) (λ j x y. records i j h (omega arith) (omega arith))

  hash_same : (i : ℕ) → i < m.count → hash_at w' m.base i ≡ hash_at w m.base i
  unfolding hash_at
  hash_same i h = le_at-agree 4 w w' (m.base + 24 * i + 8) (λ j x y. records i j h (omega arith) (omega arith))

  link_same : (i : ℕ) → i < m.count → link_at w' m.base i ≡ link_at w m.base i
  unfolding link_at
  link_same i h = le_at-agree 4 w w' (m.base + 24 * i + 12) (λ j x y. records i j h (omega arith) (omega arith))

  head_same : (i : ℕ) → i < m.buckets → head_at w' m.base i ≡ head_at w m.base i
  unfolding head_at
  head_same i h = le_at-agree 4 w w' (m.base + 24 * i + 16) (λ j x y. records i j (omega arith) (omega arith) (omega arith))

  -- theorem: the table stays
  pub table_same : Table s w' m
  table_same =
      let c = linked-le m.count in
      record {
        narrow = g.narrow;
        room = rw l g.room;
        wide = rw l g.wide;
        whole = whole_stays s w w' m.base m.count z g.whole a.above l far mark_same;
        hashes = hash_stays s w w' m.base m.count z g.whole a.above l far mark_same g.hashes hash_same;
        chained = chained_same w w' m.base m.buckets (linked m.count) (λ i h. hash_same i (omega arith)) (λ i h. link_same i (omega arith)) head_same g.chained;
      }

  -- theorem: and its texts
  pub texts-same : texts s w' m ≡ texts s w m
  unfolding texts
  texts-same = texts-stay s w w' m.base m.count z g.whole a.above l far mark_same m.count (omega arith)

-- ---- a text's length is a number of two bytes
module _ (s w : List ℕ) (b : Bytes s) (c : Bytes w) where
  atom_short : (u : List ℕ) (p : ℕ) → Bytes u → atom_end u p ≤ length u → length (atom_text u p) < 65536
  unfolding atom_text atom_end
  atom_short u p d h = omega (arith, le_at-lt 2 u (p + 1) d, part_length (p + 3) (atom_end u p) u h)

  holder-bytes : (x : ℕ) → Bytes (holder s w x)
  unfolding holder
  holder-bytes x = by_pick Bytes (ltb x (4 * length s)) (λ _. b) (λ _. c)

  marked_short : (x : ℕ) → Whole s w x → length (marked_text s w x) < 65536
  unfolding marked_text
  marked_short x h = atom_short (holder s w x) (place_at s x) (holder-bytes x) h.inside

  each-short : (m : Map) → Table s w m → (k : ℕ) → k ≤ m.count → Each (λ (t : Text). length t < 65536) (texts_of s w m.base k)
  unfolding texts_of
  each-short m g zero h = tt
  each-short m g (suc k) h =
      each_append (λ (t : Text). length t < 65536) (texts_of s w m.base k) (marked_text s w (mark_at w m.base k) ∷ []) (each-short m g k (omega arith))
      (marked_short (mark_at w m.base k) (g.whole k (omega arith)), tt)

  -- theorem
  pub texts-short : (m : Map) → Table s w m → Each (λ (t : Text). length t < 65536) (texts s w m)
  unfolding texts
  texts-short m g = each-short m g m.count (omega arith)
