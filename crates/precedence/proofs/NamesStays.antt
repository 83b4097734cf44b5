-- The names stay where the table's texts and the marks do. Assumes nothing.
use mathlib.Core.Path.{◌≡◌, refl, sym, ap, ◌∙◌}
use mathlib.Core.Bool.{Bool, true, false}
use mathlib.Core.List.{List, [], ◌++◌}
use Prim.Native.Nat.{ℕ, zero, suc, ◌+◌, ◌*◌, ◌/◌, ◌%◌, ◌<◌, ◌≤◌}
use native.Mathlib.Omega.{arith}
use borrow.Author.Tests.{ltb-true, ltb-false}
use lib.Dec.{ltb}
use lib.ListN.{length, get_or}
use Rattle.parse_tree.specs.Plain.Tree.{Text}
use Rattle.texts.specs.declared.Map.{Map}
use Rattle.texts.specs.Hash.{hash_of}
use Rattle.texts.specs.Fields.{mark_at, hash_at, link_at, head_at}
use Rattle.texts.specs.Texts.{marked_text}
use Rattle.texts.specs.Table.{texts, Above, Agree}
use Rattle.texts.proofs.ChainCode.{chained_same}
use Rattle.texts.proofs.TextCode.{texts-at}
use Rattle.texts.proofs.TableStays.{le_at-agree, whole_stays, texts-stay}
use Rattle.grades.specs.Grade.{level_digits}
use Rattle.precedence.specs.Names.{Naming, NamesKept, level_text, described_text, named_text, named_texts}
use Rattle.precedence.proofs.NamesHashCode.{named_table, named-described}

-- the same texts one by one are the same list
list_stays : (s w w1 : List ℕ) (m : Map) (n : ℕ) → ((i : ℕ) → i < n → named_text s w1 m i ≡ named_text s w m i) → named_texts s w1 m n ≡ named_texts s w m n
unfolding named_texts
list_stays s w w1 m zero f = refl
list_stays s w w1 m (suc n) f = cc (list_stays s w w1 m n (λ i h. f i (omega arith)), f n (omega arith))

module _ (s w w1 : List ℕ) (m : Map) (n : ℕ) (same : texts s w1 m ≡ texts s w m) (marks : (i : ℕ) → i < n → mark_at w1 m.base i ≡ mark_at w m.base i) where
  text_stays : (i : ℕ) → i < m.count → marked_text s w1 (mark_at w1 m.base i) ≡ marked_text s w (mark_at w m.base i)
  unfolding texts
  text_stays i k = sym (by_number_lem w1) ∙ ap (λ (ts : List Text). get_or ts i []) same ∙ by_number_lem w
    where
      by_number_lem : (u : List ℕ) → get_or (texts s u m) i [] ≡ marked_text s u (mark_at u m.base i)
      by_number_lem u = texts-at s u m.base m.count i k

  pub described_stays : (x : ℕ) → described_text s w1 m x ≡ described_text s w m x
  unfolding described_text level_text
  described_stays x = ap (λ (ts : List Text). get_or ts (x / 4294967296) [] ++ level_digits (x % 4294967296)) same

  pub named-stays : (i : ℕ) → i < n → named_text s w1 m i ≡ named_text s w m i
  named-stays i k = go (ltb i m.count) refl
    where
      go : (t : Bool) → ltb i m.count ≡ t → named_text s w1 m i ≡ named_text s w m i
      go true u = let z = ltb-true i m.count u in named_table s w1 m i z ∙ text_stays i z ∙ sym (named_table s w m i z)
      go false u =
          let z = ltb-false i m.count u in
          named-described s w1 m i z ∙ ap (described_text s w1 m) (marks i k) ∙ described_stays (mark_at w m.base i) ∙ sym (named-described s w m i z)

  pub named-list_stays : named_texts s w1 m n ≡ named_texts s w m n
  named-list_stays = list_stays s w w1 m n named-stays

-- ---- THE LAW for other regions: the records and the texts behind z are as they were
module _ (s w w1 : List ℕ) (m : Map) (n z : ℕ) (g : Naming s w m n) (a : Above s w m z) (l : length w1 ≡ length w) (far : Agree w w1 z (length w))
    (records : Agree w w1 m.base (m.base + 24 * n)) (heads : Agree w w1 m.base (m.base + 24 * m.buckets)) where
  mark_stays : (i : ℕ) → i < n → mark_at w1 m.base i ≡ mark_at w m.base i
  unfolding mark_at
  mark_stays i h = le_at-agree 8 w w1 (m.base + 24 * i) (λ j x y. records.agree j (omega arith) (omega arith))

  hash_stays : (i : ℕ) → i < n → hash_at w1 m.base i ≡ hash_at w m.base i
  unfolding hash_at
  hash_stays i h = le_at-agree 4 w w1 (m.base + 24 * i + 8) (λ j x y. records.agree j (omega arith) (omega arith))

  link_stays : (i : ℕ) → i < n → link_at w1 m.base i ≡ link_at w m.base i
  unfolding link_at
  link_stays i h = le_at-agree 4 w w1 (m.base + 24 * i + 12) (λ j x y. records.agree j (omega arith) (omega arith))

  head_stays : (i : ℕ) → i < m.buckets → head_at w1 m.base i ≡ head_at w m.base i
  unfolding head_at
  head_stays i h = le_at-agree 4 w w1 (m.base + 24 * i + 16) (λ j x y. heads.agree j (omega arith) (omega arith))

  table-marks : (i : ℕ) → i < m.count → mark_at w1 m.base i ≡ mark_at w m.base i
  table-marks i h = mark_stays i (omega (arith, g.upto))

  texts-same : texts s w1 m ≡ texts s w m
  unfolding texts
  texts-same = texts-stay s w w1 m.base m.count z g.whole a.above l far.agree table-marks m.count (omega arith)

  -- theorem: the names are as they were
  pub names_same : named_texts s w1 m n ≡ named_texts s w m n
  names_same = named-list_stays s w w1 m n texts-same mark_stays

  -- theorem: and can be found
  pub naming-stays : Naming s w1 m n
  naming-stays = record {
    narrow = g.narrow;
    some = g.some;
    upto = g.upto;
    few = g.few;
    room = rw l g.room;
    wide = rw l g.wide;
    whole = whole_stays s w w1 m.base m.count z g.whole a.above l far.agree table-marks;
    bases = λ i j k. rw (mark_stays i k) (g.bases i j k);
    hashes = λ i k. hash_stays i k ∙ g.hashes i k ∙ ap hash_of (sym (named-stays s w w1 m n texts-same mark_stays i k));
    chained = chained_same w w1 m.base m.buckets n hash_stays link_stays head_stays g.chained;
  }

-- theorem: after `level_name` the table's texts in work stand where they stood
pub names_above : (s w : List ℕ) (m : Map) (n z : ℕ) (w1 : List ℕ) → m.count ≤ n → NamesKept s w m n w1 → Above s w m z → Above s w1 m z
names_above s w m n z w1 h k a = record { above = λ i l. rw (k.marks i (omega arith)) (a.above i l) }
