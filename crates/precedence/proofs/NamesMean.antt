-- What the texts by number are: the table's, then the described ones; and that a name is what the pass on trees says. Assumes nothing.
use mathlib.Core.Path.{◌≡◌, refl, sym, ap, ◌∙◌}
use mathlib.Core.Bool.{Bool, true, false}
use mathlib.Core.List.{List, [], ◌∷◌, ◌++◌, append-nil, append_assoc}
use Prim.Native.Nat.{ℕ, zero, suc, ◌+◌, ◌<◌, ◌≤◌}
use native.Mathlib.Omega.{arith}
use borrow.Author.Tests.{ltb-true, ltb-false}
use lib.Dec.{ltb}
use lib.ListN.{get_or}
use Rattle.passes.specs.Levels.{level_name}
use Rattle.texts.specs.declared.Map.{Map}
use Rattle.texts.specs.Hash.{hash_of}
use Rattle.texts.specs.Fields.{mark_at}
use Rattle.texts.specs.Texts.{texts_of}
use Rattle.texts.specs.Table.{Table, texts, linked}
use Rattle.texts.proofs.TableFindCode.{linked-few, linked-many}
use Rattle.grades.specs.Grade.{level_digits}
use Rattle.grades.specs.Grading.{Worded}
use Rattle.precedence.specs.Names.{Naming, level_text, described_text, described_texts, named_texts}
use Rattle.precedence.proofs.NamesHashCode.{named_table, named-described}

-- theorem: the name of a level that is not the highest, as the pass on trees has it
pub level_text_is : (s w : List ℕ) (m : Map) (b v u : ℕ) (us : List ℕ) → level_text s w m b v ≡ level_name (get_or (texts s w m) b []) v (u ∷ us)
unfolding level_text level_digits
level_text_is s w m b v u us = refl

-- theorem: with no name described they are the table's
pub named-texts : (s w : List ℕ) (m : Map) → named_texts s w m m.count ≡ texts s w m
unfolding texts named_texts texts_of
named-texts s w m = go m.count (omega arith)
  where
    go : (k : ℕ) → k ≤ m.count → named_texts s w m k ≡ texts_of s w m.base k
    go zero h = refl
    go (suc k) h = cc (go k (omega arith), named_table s w m k (omega arith))

-- theorem: a table is one with no name described
pub naming-start : (s w : List ℕ) (m : Map) → Table s w m → 0 < m.buckets → m.count ≤ 4294967295 → Naming s w m m.count
naming-start s w m t b f = record {
  narrow = t.narrow;
  some = b;
  upto = omega arith;
  few = f;
  room = t.room;
  wide = t.wide;
  whole = t.whole;
  bases = λ i l h. absurd (omega arith);
  hashes = λ i h. t.hashes i h ∙ ap hash_of (sym (named_table s w m i h));
  chained = rw (all_linked (ltb m.count 4294967295) refl) at t.chained;
}
  where
    all_linked : (u : Bool) → ltb m.count 4294967295 ≡ u → linked m.count ≡ m.count
    all_linked true e = linked-few m.count (ltb-true m.count 4294967295 e)
    all_linked false e = let l = ltb-false m.count 4294967295 e in linked-many m.count l ∙ omega arith

-- theorem: with names described they stand behind the table's, in order
pub named-split : (s w : List ℕ) (m : Map) (d : ℕ) → named_texts s w m (m.count + d) ≡ texts s w m ++ described_texts s w m d
unfolding described_texts named_texts
named-split s w m zero = let z : m.count + 0 ≡ m.count = omega arith in ap (named_texts s w m) z ∙ named-texts s w m ∙ sym (append-nil (texts s w m))
named-split s w m (suc d) =
    let k = m.count + d in
    let z : m.count + suc d ≡ suc k = omega arith in
    let x = described_text s w m (mark_at w m.base k) in
    ap (named_texts s w m) z ∙ ap (λ y. named_texts s w m k ++ (y ∷ [])) (named-described s w m k (omega arith)) ∙ ap (λ ts. ts ++ (x ∷ [])) (named-split s w m d)
    ∙ append_assoc (texts s w m) (described_texts s w m d) (x ∷ [])

-- theorem: the texts of the table can be read while names are described
pub naming-worded : (s w : List ℕ) (m : Map) (n : ℕ) → Naming s w m n → Worded s w m
naming-worded s w m n g = record { room = omega (arith, g.upto, g.room); whole = g.whole }
