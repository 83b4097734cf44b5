-- All names are settled: the table with them has all texts by number. Assumes nothing.
use mathlib.Core.Path.{◌≡◌, refl, sym, ap, ◌∙◌}
use mathlib.Core.Bool.{Bool, true, false}
use mathlib.Core.Logic.{◌⊎◌, inl, inr}
use mathlib.Core.List.{List, [], ◌++◌}
use Prim.Native.Nat.{ℕ, zero, suc, ◌+◌, ◌*◌, ◌<◌, ◌≤◌}
use native.Mathlib.Omega.{arith}
use borrow.Author.Tests.{ltb-true, ltb-false}
use lib.Dec.{ltb}
use lib.ListN.{length, get_or}
use Rattle.parse_tree.specs.Plain.WriteTape.{bytes_of_each}
use Rattle.parse_tree.specs.Working.Encode.{atom_bytes}
use Rattle.texts.specs.declared.Map.{Map}
use Rattle.texts.specs.Fields.{mark_at, hash_at, link_at, head_at}
use Rattle.texts.specs.Hash.{hash_of}
use Rattle.texts.specs.Texts.{marked_text, Whole, Behind, texts_of}
use Rattle.texts.specs.Table.{Table, texts, linked}
use Rattle.texts.proofs.ChainCode.{chained_same}
use Rattle.texts.proofs.TableStays.{le_at-agree}
use Rattle.texts.proofs.TableFindCode.{linked-few, linked-many}
use Rattle.precedence.specs.Names.{named_text, named_texts}
use Rattle.precedence.proofs.NamesHashCode.{named_table}
use Rattle.levels.specs.Settle.{name_bytes, SettlingNames, with_names, SettledNames}
use Rattle.levels.proofs.FreshCode.{new_none}
use Rattle.levels.proofs.SettleLaws.{Going, table-on_tape, going_marks, going_whole, going_named}

module _ (s w : List ℕ) (m : Map) (n end : ℕ) (h : SettlingNames s w m n end) (q : ℕ) (w1 : List ℕ) (x : Going s w m n end m.count q w1) where
  -- a record of the table, or a name's
  by_record : (P : ℕ → Type 0) → ((i : ℕ) → i < m.count → P i) → ((i : ℕ) → m.count ≤ i → i < n → P i) → (i : ℕ) → i < n → P i
  by_record P f g i l = go (ltb i m.count) refl
    where
      go : (b : Bool) → ltb i m.count ≡ b → P i
      go true e = f i (ltb-true i m.count e)
      go false e = g i (ltb-false i m.count e) l

  marks : (i : ℕ) → i < m.count → mark_at w1 m.base i ≡ mark_at w m.base i
  marks = going_marks s w m n end h m.count q w1 x

  -- ---- what a record says
  all_whole : (i : ℕ) → i < n → Whole s w1 (mark_at w1 m.base i)
  all_whole = by_record (λ i. Whole s w1 (mark_at w1 m.base i)) (going_whole s w m n end h m.count q w1 x) (λ i a b. (x.told i a b).whole)

  all_behind : (i : ℕ) → i < n → Behind s q (mark_at w1 m.base i)
  all_behind = by_record (λ i. Behind s q (mark_at w1 m.base i)) (λ i l. inl (rw (marks i l) (table-on_tape s w m n end h i l))) (λ i a b. (x.told i a b).behind)

  all_text_lem : (i : ℕ) → i < n → marked_text s w1 (mark_at w1 m.base i) ≡ named_text s w m i
  all_text_lem =
      by_record (λ i. marked_text s w1 (mark_at w1 m.base i) ≡ named_text s w m i)
      (λ i l. sym (named_table s w1 m i l) ∙ going_named s w m n end h m.count q w1 x i l) (λ i a b. (x.told i a b).text)

  -- ---- the fields behind the marks
  field : (i c a : ℕ) → i < n → m.base + 24 * i + 8 ≤ a → a + c ≤ m.base + 24 * i + 24 → (d : ℕ) → a ≤ d → d < a + c → get_or w1 d 0 ≡ get_or w d 0
  field i c a l f g d p r = x.fields i d l (omega arith) (omega arith)

  hashes : (i : ℕ) → i < n → hash_at w1 m.base i ≡ hash_at w m.base i
  unfolding hash_at
  hashes i l = le_at-agree 4 w w1 (m.base + 24 * i + 8) (field i 4 (m.base + 24 * i + 8) l (omega arith) (omega arith))

  links : (i : ℕ) → i < n → link_at w1 m.base i ≡ link_at w m.base i
  unfolding link_at
  links i l = le_at-agree 4 w w1 (m.base + 24 * i + 12) (field i 4 (m.base + 24 * i + 12) l (omega arith) (omega arith))

  heads : (i : ℕ) → i < m.buckets → head_at w1 m.base i ≡ head_at w m.base i
  unfolding head_at
  heads i l = le_at-agree 4 w w1 (m.base + 24 * i + 16) (field i 4 (m.base + 24 * i + 16) (omega (arith, h.narrower, h.naming.upto)) (omega arith) (omega arith))

  all_linked : (b : Bool) → ltb n 4294967295 ≡ b → linked n ≡ n
  all_linked true e = linked-few n (ltb-true n 4294967295 e)
  all_linked false e = linked-many n (ltb-false n 4294967295 e) ∙ omega (arith, ltb-false n 4294967295 e, h.naming.few)

  -- theorem: the table
  pub settled_table : Table s w1 (with_names m n)
  settled_table =
      let g = h.naming in
      record {
        narrow = g.narrow;
        room = rw x.long g.room;
        wide = rw x.long g.wide;
        whole = all_whole;
        hashes = λ i l. hashes i l ∙ g.hashes i l ∙ ap hash_of (sym (all_text_lem i l));
        chained = let z = all_linked (ltb n 4294967295) refl in rw z (chained_same w w1 m.base m.buckets n hashes links heads g.chained);
      }

  -- ---- the texts by number
  first_texts : (k : ℕ) → k ≤ n → texts_of s w1 m.base k ≡ named_texts s w m k
  unfolding texts_of named_texts
  first_texts zero l = refl
  first_texts (suc k) l = cc (first_texts k (omega arith), all_text_lem k (omega arith))

  bytes_none : name_bytes s w m m.count ≡ []
  unfolding name_bytes bytes_of_each
  bytes_none = ap (bytes_of_each (atom_bytes 2)) (new_none s w m)

  rest-is : x.rest ≡ name_bytes s w m n
  rest-is = ap (λ (l : List ℕ). l ++ x.rest) (sym bytes_none) ∙ sym x.split

  settled_others : (i : ℕ) → (i < m.base) ⊎ ((m.base + 24 * n ≤ i) × (i < q)) ⊎ (end ≤ i) → get_or w1 i 0 ≡ get_or w i 0
  settled_others i (inl p) = x.others i (inl (omega arith))
  settled_others i (inr p) = x.others i (inr p)

  -- theorem: the names are settled
  pub going_done : SettledNames s w m n end q w1
  unfolding texts
  going_done = record {
    long = x.long;
    table = settled_table;
    texts-are = first_texts n (omega arith);
    first = omega (arith, x.place, ap length bytes_none);
    lies = let z = rest-is in rw z at x.lies;
    above = record { above = all_behind };
    others = settled_others;
  }
