-- A text more in the table; none; all in other buckets. Assumes nothing.
use mathlib.Core.Path.{◌≡◌, refl, sym, ap, ◌∙◌}
use mathlib.Core.Bool.{Bool, true, false}
use mathlib.Core.List.{List, [], ◌∷◌, ◌++◌}
use Prim.Native.Nat.{ℕ, ◌+◌, ◌*◌, ◌^◌, ◌<◌, ◌≤◌, min}
use native.Mathlib.Omega.{arith}
use native.Mathlib.Numerals.{add-one}
use borrow.Author.Rules.{rules}
use borrow.Author.Tests.{ltb-true, ltb-false}
use lib.Dec.{ltb}
use lib.ListN.{length, get_or}
use mir.Syntax.{w64}
use mir.Val.{Fits}
use Rattle.texts.specs.declared.Map.{Map}
use Rattle.texts.specs.Hash.{hash_of}
use Rattle.texts.specs.Fields.{mark_at, hash_at, Chained, RecordsKept, Relinking, Relinked, RecordWritten}
use Rattle.texts.specs.Texts.{marked_text, Whole, texts_of}
use Rattle.texts.specs.Table.{texts, linked, RecordPut, Entering, Entered, Started, Spreading, Spread, Growing, Grown}
use Rattle.texts.proofs.ChainCode.{kept_trans, kept-wide}
use Rattle.texts.proofs.TableStays.{text_agree, whole_agree, whole_stays, hash_stays, texts-stay, linked-le}
use Rattle.texts.proofs.TableFindCode.{linked-few}

pub linked-small : (k : ℕ) → linked k ≤ 4294967295
unfolding linked
linked-small k = omega arith

linked-mono : (k n : ℕ) → k ≤ n → linked k ≤ linked n
unfolding linked
linked-mono k n h = omega arith

-- what the code computes
pub linked-is : (k r : ℕ) → r ≡ min k 4294967295 → r ≡ linked k
unfolding linked
linked-is k r e = e

-- ---- `enter`
module _ (s w : List ℕ) (m : Map) (x h : ℕ) (g : Entering s w m x h) where
  pub enter-room : m.base + 24 * m.count + 24 ≤ length w
  enter-room = g.room

  pub enter-some : 0 < m.buckets
  enter-some = g.some

  pub enter-narrow : m.buckets ≤ 4294967295
  enter-narrow = g.table.narrow

  pub enter-chained : Chained w m.base m.buckets (linked m.count)
  enter-chained = g.table.chained

  pub enter-wide : m.base + 24 * m.buckets ≤ length w
  enter-wide = g.table.wide

  pub enter-fits : length w < 2 ^ 64 → Fits w64 (m.count + 1)
  enter-fits l = record { fits = omega (arith, g.room) }

  module _ (c : ℕ) (w2 : List ℕ) (o : RecordPut w m.base m.buckets m.count x h c w2) where
    abbrev w1 : List ℕ
    w1 = o.between

    abbrev a : RecordWritten w m.base m.count x h c w1
    a = o.written

    abbrev k : RecordsKept w1 w2 m.base (m.count + 1) m.buckets
    k = o.kept

    long_then : length w2 ≡ length w
    long_then = k.long ∙ a.long

    far : (i : ℕ) → g.low ≤ i → i < length w → get_or w2 i 0 ≡ get_or w i 0
    far i y z = let r = g.roof in let v = g.wide in k.after i (omega arith) (omega arith) ∙ a.after i (omega arith)

    marks_then : (i : ℕ) → i < m.count → mark_at w2 m.base i ≡ mark_at w m.base i
    marks_then i l = k.marks i ∙ a.marks i (λ e. omega arith)

    hashes_then : (i : ℕ) → i < m.count → hash_at w2 m.base i ≡ hash_at w m.base i
    hashes_then i l = k.hashes i ∙ a.hashes i (λ e. omega arith)

    mark_then : mark_at w2 m.base m.count ≡ x
    mark_then = k.marks m.count ∙ a.mark

    text_then : marked_text s w2 (mark_at w2 m.base m.count) ≡ marked_text s w x
    text_then = ap (marked_text s w2) mark_then ∙ text_agree s w w2 g.low x long_then g.whole g.behind far

    whole_at : (i : ℕ) (t : Bool) → ltb i m.count ≡ t → i < m.count + 1 → Whole s w2 (mark_at w2 m.base i)
    whole_at i true u l = whole_stays s w w2 m.base m.count g.low g.table.whole g.above.above long_then far marks_then i (ltb-true i m.count u)
    whole_at i false u l =
        let z : i ≡ m.count = omega (arith, ltb-false i m.count u) in
        rw (z, mark_then) (whole_agree s w w2 g.low x long_then g.whole g.behind far)

    hash_at_lem : (i : ℕ) (t : Bool) → ltb i m.count ≡ t → i < m.count + 1 → hash_at w2 m.base i ≡ hash_of (marked_text s w2 (mark_at w2 m.base i))
    hash_at_lem i true u l =
        hash_stays s w w2 m.base m.count g.low g.table.whole g.above.above long_then far marks_then g.table.hashes hashes_then i (ltb-true i m.count u)
    hash_at_lem i false u l =
        let z : i ≡ m.count = omega (arith, ltb-false i m.count u) in
        rw z (k.hashes m.count ∙ a.hash ∙ g.hash ∙ ap hash_of (sym text_then))

    more_then : texts_of s w2 m.base (m.count + 1) ≡ texts_of s w m.base m.count ++ (marked_text s w x ∷ [])
    unfolding texts_of
    more_then =
        let q = texts-stay s w w2 m.base m.count g.low g.table.whole g.above.above long_then far marks_then m.count (omega arith) in
        rw (add-one m.count) (cc (q, text_then))

    pub entered : Entered s w m x c (record { base = m.base; count = m.count + 1; buckets = m.buckets }) w2
    unfolding texts
    entered = record {
      base = refl;
      count = refl;
      buckets = refl;
      table = record {
        narrow = g.table.narrow;
        room = rw long_then (omega (arith, g.room));
        wide = rw long_then g.table.wide;
        whole = λ i l. whole_at i (ltb i m.count) refl l;
        hashes = λ i l. hash_at_lem i (ltb i m.count) refl l;
        chained = o.chained;
      };
      more = more_then;
      mark = mark_then;
      marks = marks_then;
      cell = k.cells m.count ∙ a.cell;
      cells = λ i l. k.cells i ∙ a.cells i (λ e. omega arith);
      before = λ i l. k.before i l ∙ a.before i (omega arith);
      after = λ i y z. k.after i (omega arith) z ∙ a.after i y;
    }

pub ruleset entering = (rules, enter-room, enter-some, enter-narrow, enter-chained, enter-wide, enter-fits, entered)

-- ---- `start`
module _ (b n y : ℕ) (e : y ≡ linked n) where
  pub start_room : (w : List ℕ) → b + 24 * n ≤ length w → b + 24 * y ≤ length w
  start_room w h = omega (arith, linked-le n)

  pub started : (s w w1 : List ℕ) → b + 24 * n ≤ length w → Relinked w w1 b 0 y → Started s w b n (record { base = b; count = 0; buckets = y }) w1
  started s w w1 h k =
      let l = linked-le n in
      record {
        base = refl;
        count = refl;
        buckets = e;
        table = record {
          narrow = omega (arith, linked-small n);
          room = rw k.kept.long (omega arith);
          wide = rw k.kept.long (omega arith);
          whole = λ i q. absurd (omega arith);
          hashes = λ i q. absurd (omega arith);
          chained = rw (linked-few 0 (omega arith)) k.chained;
        };
        before = λ i q. k.kept.before i q;
        after = λ i q. k.kept.after i (omega arith) (omega arith);
      }

pub ruleset starting = (rules, start_room, started, linked-is)

-- ---- `spread`
module _ (s w : List ℕ) (m : Map) (g : Spreading s w m) (y : ℕ) (e : y ≡ linked m.count) where
  pub spread_room : m.base + 24 * y ≤ length w
  spread_room = omega (arith, g.table.room, linked-le m.count)

  module _ (w1 : List ℕ) (k : Relinked w w1 m.base 0 y) where
    pub spread_relinking : Relinking w1 m.base y 0 y
    spread_relinking =
        let l = spread_room in
        record {
          chained = k.chained;
          upto = omega arith;
          few = omega (arith, linked-small m.count);
          narrow = omega (arith, linked-small m.count);
          room = rw k.kept.long l;
          wide = rw k.kept.long l;
          some = λ q. q;
        }

    pub spread_done : (w2 : List ℕ) → Relinked w1 w2 m.base y y → Spread s w m (record { base = m.base; count = m.count; buckets = y }) w2
    unfolding texts
    spread_done w2 j =
        let l = linked-le m.count in
        let r = g.roof in
        let t = g.table in
        let kept : RecordsKept w w2 m.base y y = kept_trans w w1 w2 m.base y y (kept-wide w w1 m.base 0 y y (omega arith) k.kept) j.kept in
        let far : (i : ℕ) → g.low ≤ i → i < length w → get_or w2 i 0 ≡ get_or w i 0 = λ i a c. kept.after i (omega arith) (omega arith) in
        let marks : (i : ℕ) → i < m.count → mark_at w2 m.base i ≡ mark_at w m.base i = λ i a. kept.marks i in
        let hashes : (i : ℕ) → i < m.count → hash_at w2 m.base i ≡ hash_at w m.base i = λ i a. kept.hashes i in
        record {
          buckets = e;
          stays = record {
            base = refl;
            count = refl;
            table = record {
              narrow = omega (arith, linked-small m.count);
              room = rw kept.long t.room;
              wide = rw kept.long spread_room;
              whole = whole_stays s w w2 m.base m.count g.low t.whole g.above.above kept.long far marks;
              hashes = hash_stays s w w2 m.base m.count g.low t.whole g.above.above kept.long far marks t.hashes hashes;
              chained = rw (← e) j.chained;
            };
            same = texts-stay s w w2 m.base m.count g.low t.whole g.above.above kept.long far marks m.count (omega arith);
            marks = marks;
            cells = λ i a. kept.cells i;
          };
          before = λ i a. kept.before i a;
          after = λ i a. kept.after i (omega arith) (omega arith);
        }

pub ruleset spreading = (rules, linked-is, spread_room, spread_relinking, spread_done)

-- ---- `grow`
module _ (s w : List ℕ) (m : Map) (n : ℕ) (g : Growing s w m n) (k e : ℕ) (p : k ≡ linked m.count) (q : e ≡ linked n) where
  pub grow_relinking : Relinking w m.base m.buckets k e
  grow_relinking = record {
    chained = rw p g.table.chained;
    upto = rw (p, q) (linked-mono m.count n g.upto);
    few = omega (arith, linked-small n);
    narrow = g.table.narrow;
    room = omega (arith, g.room, linked-le n);
    wide = g.table.wide;
    some = λ _. g.some;
  }

  pub grow_done : (w1 : List ℕ) → Relinked w w1 m.base e m.buckets → Grown s w m n (record { base = m.base; count = n; buckets = m.buckets }) w1
  unfolding texts
  grow_done w1 j =
      let l = linked-le n in
      let r = g.roof in
      let v = g.wide in
      let kept = j.kept in
      let far : (i : ℕ) → g.low ≤ i → i < length w → get_or w1 i 0 ≡ get_or w i 0 = λ i a c. j.kept.after i (omega arith) (omega arith) in
      let marks : (i : ℕ) → i < n → mark_at w1 m.base i ≡ mark_at w m.base i = λ i a. j.kept.marks i in
      let hashes : (i : ℕ) → i < n → hash_at w1 m.base i ≡ hash_at w m.base i = λ i a. j.kept.hashes i in
      record {
        base = refl;
        count = refl;
        buckets = refl;
        table = record {
          narrow = g.table.narrow;
          room = rw j.kept.long g.room;
          wide = rw j.kept.long g.table.wide;
          whole = whole_stays s w w1 m.base n g.low g.whole g.behind j.kept.long far marks;
          hashes = hash_stays s w w1 m.base n g.low g.whole g.behind j.kept.long far marks g.hashes hashes;
          chained = rw (← q) j.chained;
        };
        same = texts-stay s w w1 m.base n g.low g.whole g.behind j.kept.long far marks n (omega arith);
        marks = j.kept.marks;
        cells = j.kept.cells;
        before = j.kept.before;
        after = λ i a c. j.kept.after i (omega arith) c;
      }

pub ruleset growing = (rules, linked-is, grow_relinking, grow_done)
