-- describe and level_name: a name more. Assumes nothing.
use mathlib.Core.Path.{◌≡◌, refl, sym, ap, ◌∙◌}
use mathlib.Core.Bool.{Bool, true, false}
use mathlib.Core.List.{List, [], ◌∷◌, ◌++◌}
use Prim.Native.Nat.{ℕ, ◌+◌, ◌*◌, ◌/◌, ◌%◌, ◌<◌, ◌≤◌}
use native.Mathlib.Omega.{arith}
use native.Mathlib.Numerals.{add-one}
use borrow.Author.Rules.{rules}
use borrow.Author.Tests.{ltb-true, ltb-false}
use lib.Dec.{ltb}
use lib.ListN.{length, get_or}
use lib.Seq.{get_or-append_seam}
use Rattle.parse_tree.specs.Plain.Tree.{Text}
use Rattle.parse_tree.specs.Plain.Texts.{has, distinct, with_new}
use Rattle.parse_tree.proofs.TextLaws.{distinct_more}
use Rattle.texts.specs.declared.Map.{Map}
use Rattle.std.specs.Prelude.{Option, Some, None, min}
use Rattle.texts.specs.Hash.{hash_of}
use Rattle.texts.specs.Fields.{mark_at, hash_at, Chained, RecordsKept, RecordWritten}
use Rattle.texts.specs.Table.{texts, linked, RecordPut, Finds}
use Rattle.texts.proofs.TableStays.{whole_stays, texts-stay}
use Rattle.texts.proofs.TableFindCode.{answer_at, answer_none, answer_has}
use Rattle.precedence.specs.Names.{Naming, Based, Describing, Described, LevelNamed, level_text, described_text, named_text, named_texts}
use Rattle.precedence.proofs.NamesHashCode.{named-described}
use Rattle.precedence.proofs.NamesStays.{described_stays, named-stays, named-list_stays}
use Rattle.precedence.proofs.NamesFindCode.{naming-based, length_named, name_chained}

-- ---- describe
module _ (s w : List ℕ) (m : Map) (n b v : ℕ) (g : Describing s w m n b v) where
  pub describe-chained : Chained w m.base m.buckets (linked n)
  describe-chained = name_chained s w m n g.naming

  module _ (h : ℕ) (p : h ≡ hash_of (level_text s w m b v)) where
    module _ (w2 : List ℕ) (o : RecordPut w m.base m.buckets n (b * 4294967296 + v) h 0 w2) where
      abbrev a : RecordWritten w m.base n (b * 4294967296 + v) h 0 o.between
      a = o.written

      abbrev l : RecordsKept o.between w2 m.base (n + 1) m.buckets
      l = o.kept

      chained_then : Chained w2 m.base m.buckets (n + 1)
      unfolding linked
      chained_then = let z : min (n + 1) 4294967295 ≡ n + 1 = omega (arith, g.few) in rw z at o.chained

      long_then : length w2 ≡ length w
      long_then = l.long ∙ a.long

      far : (i : ℕ) → g.low ≤ i → i < length w → get_or w2 i 0 ≡ get_or w i 0
      far i y z = let r = g.roof in let u = g.wide in l.after i (omega arith) (omega arith) ∙ a.after i (omega arith)

      marks_then : (i : ℕ) → i < n → mark_at w2 m.base i ≡ mark_at w m.base i
      marks_then i k = l.marks i ∙ a.marks i (λ e. omega arith)

      mark_then : mark_at w2 m.base n ≡ b * 4294967296 + v
      mark_then = l.marks n ∙ a.mark

      table-marks : (i : ℕ) → i < m.count → mark_at w2 m.base i ≡ mark_at w m.base i
      table-marks i k = marks_then i (omega (arith, g.naming.upto))

      texts-then : texts s w2 m ≡ texts s w m
      unfolding texts
      texts-then = texts-stay s w w2 m.base m.count g.low g.naming.whole g.above.above long_then far table-marks m.count (omega arith)

      described_then : (x : ℕ) → described_text s w2 m x ≡ described_text s w m x
      described_then x = described_stays s w w2 m n texts-then marks_then x

      named-then : (i : ℕ) → i < n → named_text s w2 m i ≡ named_text s w m i
      named-then i k = named-stays s w w2 m n texts-then marks_then i k

      described_is : described_text s w m (b * 4294967296 + v) ≡ level_text s w m b v
      unfolding described_text
      described_is =
          let k = g.level in
          let x : (b * 4294967296 + v) / 4294967296 ≡ b = omega arith in
          let y : (b * 4294967296 + v) % 4294967296 ≡ v = omega arith in
          ap (λ (i : ℕ). level_text s w m i ((b * 4294967296 + v) % 4294967296)) x ∙ ap (level_text s w m b) y

      new_then : named_text s w2 m n ≡ level_text s w m b v
      new_then = named-described s w2 m n g.naming.upto ∙ ap (described_text s w2 m) mark_then ∙ described_then (b * 4294967296 + v) ∙ described_is

      hash_at_lem : (i : ℕ) (t : Bool) → ltb i n ≡ t → i < n + 1 → hash_at w2 m.base i ≡ hash_of (named_text s w2 m i)
      hash_at_lem i true u k =
          let z = ltb-true i n u in
          l.hashes i ∙ a.hashes i (λ e. omega arith) ∙ g.naming.hashes i z ∙ ap hash_of (sym (named-then i z))
      hash_at_lem i false u k = let z : i ≡ n = omega (arith, ltb-false i n u) in rw z (l.hashes n ∙ a.hash ∙ p ∙ ap hash_of (sym new_then))

      base_at : (i : ℕ) (t : Bool) → ltb i n ≡ t → m.count ≤ i → i < n + 1 → mark_at w2 m.base i / 4294967296 < m.count
      base_at i true u j k = let z = ltb-true i n u in rw (marks_then i z) (g.naming.bases i j z)
      base_at i false u j k =
          let z : i ≡ n = omega (arith, ltb-false i n u) in
          let q = g.base in
          let r = g.level in
          rw (z, mark_then) (omega arith)

      naming-then : Naming s w2 m (n + 1)
      naming-then = record {
        narrow = g.naming.narrow;
        some = g.naming.some;
        upto = omega (arith, g.naming.upto);
        few = omega (arith, g.few);
        room = rw long_then (omega (arith, g.room));
        wide = rw long_then g.naming.wide;
        whole = whole_stays s w w2 m.base m.count g.low g.naming.whole g.above.above long_then far table-marks;
        bases = λ i j k. base_at i (ltb i n) refl j k;
        hashes = λ i k. hash_at_lem i (ltb i n) refl k;
        chained = chained_then;
      }

      more_then : named_texts s w2 m (n + 1) ≡ named_texts s w m n ++ (level_text s w m b v ∷ [])
      unfolding named_texts
      more_then = rw (add-one n) (cc (named-list_stays s w w2 m n texts-then marks_then, new_then))

      pub describe-done : Described s w m n b v w2
      describe-done = record {
        naming = naming-then;
        more = more_then;
        mark = mark_then;
        cell = l.cells n ∙ a.cell;
        kept = record {
          same = texts-then;
          marks = marks_then;
          cells = λ i k. l.cells i ∙ a.cells i (λ e. omega arith);
          before = λ i k. l.before i k ∙ a.before i (omega arith);
          after = λ i y z. l.after i (omega arith) z ∙ a.after i y;
        };
      }

    pub describe_marked : (x : ℕ) (w2 : List ℕ) → x ≡ b * 4294967296 + v → RecordPut w m.base m.buckets n x h 0 w2 → Described s w m n b v w2
    describe_marked x w2 e o = describe-done w2 (rw e at o)

pub ruleset describing = (rules, describe-chained, describe_marked)

-- ---- level_name
module _ (s w : List ℕ) (m : Map) (n b v : ℕ) (g : Describing s w m n b v) where
  pub name_based : Based s w m b
  name_based = naming-based s w m n g.naming b g.base

  pub name_found : (f : Option ℕ) (k : ℕ) → Finds (named_texts s w m n) (level_text s w m b v) f → f ≡ Some k → LevelNamed s w m n b v (record { name = k; count = n }) w
  unfolding Finds with_new
  name_found f k a e =
      let c : Finds (named_texts s w m n) (level_text s w m b v) (Some k) = rw e at a in
      record {
        naming = g.naming;
        named = cc (answer_has (named_texts s w m n) (level_text s w m b v) k c);
        least = omega arith;
        most = omega arith;
        name = c;
        number = λ d. answer_at (named_texts s w m n) (level_text s w m b v) k d c;
        apart = λ d. d;
        mark = λ h. absurd (omega arith);
        cell = λ h. absurd (omega arith);
        kept = record { same = refl; marks = λ i h. refl; cells = λ i h. refl; before = λ i h. refl; after = λ i y z. refl };
      }

  pub name_new : (f : Option ℕ) (w1 : List ℕ) → Finds (named_texts s w m n) (level_text s w m b v) f → f ≡ None → Described s w m n b v w1
      → LevelNamed s w m n b v (record { name = n; count = n + 1 }) w1
  unfolding with_new Finds
  name_new f w1 a e d =
      let c : has (level_text s w m b v) (named_texts s w m n) ≡ false = answer_none (named_texts s w m n) (level_text s w m b v) (rw e at a) in
      let ts = named_texts s w m n in
      let x = level_text s w m b v in
      let long : length ts ≡ n = length_named s w m n in
      let at-end : get_or (named_texts s w1 m (n + 1)) n [] ≡ x
      = ap (λ (us : List Text). get_or us n []) d.more ∙ ap (λ (i : ℕ). get_or (ts ++ (x ∷ [])) i []) (sym long) ∙ get_or-append_seam ts x [] [] in
      let is : Finds (named_texts s w1 m (n + 1)) x (Some n) = last-is (named_texts s w1 m (n + 1)) x (omega (arith, length_named s w1 m (n + 1))) at-end in
      let apart : distinct ts ≡ true → distinct (named_texts s w1 m (n + 1)) ≡ true = λ q. rw d.more (distinct_more ts x q c) in
      record {
        naming = d.naming;
        named = d.more ∙ cc c;
        least = omega arith;
        most = omega arith;
        name = record { below = omega (arith, length_named s w1 m (n + 1)); text = at-end };
        number = λ q. answer_at (named_texts s w1 m (n + 1)) x n (apart q) is;
        apart = apart;
        mark = λ h. d.mark;
        cell = λ h. d.cell;
        kept = d.kept;
      }
    where
      last-is : (us : List Text) (x : Text) → n < length us → get_or us n [] ≡ x → Finds us x (Some n)
      last-is us x q r = record { below = q; text = r }

pub ruleset level_naming = (rules, name_based, name_found, name_new)
