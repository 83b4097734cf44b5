-- `enter_at` and `atoms`. Assumes nothing.
use mathlib.Core.Path.{◌≡◌, refl, sym, ap, ◌∙◌}
use mathlib.Core.Bool.{Bool, true, false, false≢true}
use mathlib.Core.List.{List, [], ◌∷◌, ◌++◌}
use Prim.Native.Nat.{ℕ, zero, suc, ◌+◌, ◌*◌, ◌-◌, ◌%◌, ◌^◌, ◌<◌, ◌≤◌}
use native.Mathlib.Omega.{arith}
use native.Mathlib.Numerals.{add-one}
use borrow.Author.Rules.{rules}
use borrow.Author.Tests.{ltb-true, ltb-false}
use lib.Dec.{ltb}
use lib.ListN.{length}
use Rattle.octets.specs.Plain.Runs.{part}
use Rattle.octets.proofs.PartLaws.{part_length}
use Rattle.parse_tree.specs.Plain.Tree.{Text}
use Rattle.parse_tree.specs.Plain.Texts.{has, distinct}
use Rattle.parse_tree.proofs.TextLaws.{distinct_more}
use Rattle.parse_tree.specs.Working.Refusals.{refusal_at}
use Rattle.parse_tree.specs.declared.refusal.Refusal.{Refusal}
use Rattle.texts.specs.Atoms.{atom_end, atom_text, atoms_of, place_of}
use Rattle.texts.specs.Classes.{text_class, least, class_number}
use Rattle.texts.specs.declared.class.TextClass.{TextClass}
use Rattle.texts.proofs.AtomsLaws.{class_small}
use Rattle.texts.specs.declared.Map.{Map}
use Rattle.std.specs.Option.{is_some}
use Rattle.std.specs.Prelude.{Option, Some, None, Ok, Err}
use Rattle.texts.specs.Hash.{hash_of}
use Rattle.texts.specs.Fields.{class_at, cell_at}
use Rattle.texts.specs.Texts.{marked_text, texts_of}
use Rattle.texts.specs.Table.{texts, linked, Finds, Entering, Entered, Started}
use Rattle.texts.proofs.TableFindCode.{answer_none, answer_has, linked-few, linked-many}
use Rattle.texts.proofs.TableMarks.{tape_mark_whole, tape_mark_text, tape_mark_behind, above_entered, above_none}
use Rattle.texts.specs.Scan.{Scans}
use Rattle.validate.specs.Regions.{regions_of}
use Rattle.validate.specs.declared.regions.Regions.{Regions}
use Rattle.validate.specs.Front.{Starts, Going, More, Nexts, Fronted}
use Rattle.validate.proofs.FrontCode.{place_three}

pub place_steps : (s : List ℕ) (k : ℕ) → place_of s k + 3 ≤ place_of s (suc k)
unfolding place_of atom_end
place_steps s k = omega arith

pub place_mono : (s : List ℕ) (k n : ℕ) → k ≤ n → place_of s k ≤ place_of s n
place_mono s k zero h = let z : k ≡ 0 = omega arith in rw z (omega arith)
place_mono s k (suc n) h = go (ltb n k) refl (place_mono s k n)
  where
    go : (t : Bool) → ltb n k ≡ t → (k ≤ n → place_of s k ≤ place_of s n) → place_of s k ≤ place_of s (suc n)
    go true e i = let z : k ≡ suc n = omega (arith, ltb-true n k e) in rw z (omega arith)
    go false e i = let l = ltb-false n k e in omega (arith, i l, place_steps s n)

some_linked : (n : ℕ) → 0 < n → 0 < linked n
some_linked n h = go (ltb n 4294967295) refl
  where
    go : (t : Bool) → ltb n 4294967295 ≡ t → 0 < linked n
    go true e = omega (arith, linked-few n (ltb-true n 4294967295 e))
    go false e = omega (arith, linked-many n (ltb-false n 4294967295 e))

module _ (s w : List ℕ) (m : Map) (at end n : ℕ) (g : Going s w m at end n) (h : at < end) where
  below : m.count < n
  below = go (ltb m.count n) refl
    where
      go : (t : Bool) → ltb m.count n ≡ t → m.count < n
      go true e = ltb-true m.count n e
      go false e =
          let z : m.count ≡ n = omega (arith, ltb-false m.count n e, g.upto) in
          absurd (omega (arith, g.here ∙ ap (place_of s) z, g.starts.here))

  pub next_whole : atom_end s at ≤ length s
  unfolding place_of
  next_whole =
      let p : atom_end s at ≡ place_of s (suc m.count) = ap (atom_end s) g.here in
      omega (arith, place_mono s (suc m.count) n below, g.starts.here, g.starts.inside)

  pub next-some : 0 < m.buckets
  next-some = omega (arith, g.buckets, some_linked n (omega (arith, below)))

  module _ (t : Text) (e : t ≡ atom_text s at) where
    pub text_end : at + 3 + length t ≡ atom_end s at
    unfolding atom_text atom_end
    text_end =
        let l : length t ≡ atom_end s at - (at + 3) = ap length e ∙ part_length (at + 3) (atom_end s at) s next_whole in
        omega (arith, l)

    pub next_inside : at + 3 + length t ≤ length s
    next_inside = omega (arith, text_end, next_whole)

    pub next_least : (v c : ℕ) → Scans t v c → c ≡ least 3 (part (at + 3) (at + 3 + length t) s)
    unfolding atom_text
    next_least v c q = q.class ∙ ap (least 3) (e ∙ ap (λ (k : ℕ). part (at + 3) k s) (sym text_end))

    pub next_hash : (v c : ℕ) → Scans t v c → v ≡ hash_of t
    next_hash v c q = q.hash

    pub next_known : (r : Option ℕ) (k : ℕ) → Finds (texts s w m) t r → r ≡ Some k → Nexts s at end n None w
    unfolding Nexts
    next_known r k a p = record {
      before = m.count;
      few = below;
      here = g.here;
      known = rw (← e, ← g.same) (answer_has (texts s w m) t k (rw p at a));
      apart = g.apart;
    }

    module _ (q : TextClass) (o : class_number q ≡ text_class (part (at + 3) (at + 3 + length t) s)) where
      abbrev c : ℕ
      c = class_number q

      class_is : c ≡ text_class (atom_text s at)
      unfolding atom_text
      class_is = rw text_end at o

      class_few : c < 4
      class_few = rw o (class_small (part (at + 3) (at + 3 + length t) s))

      pub mark_small : length w < 2 ^ 64 → 4 * at + c < 2 ^ 64
      mark_small l = omega (arith, class_few, next_inside, g.starts.small)

      mark-text : marked_text s w (4 * at + c) ≡ atom_text s at
      mark-text = tape_mark_text s w at c class_few next_whole

      next_entering : (v : ℕ) → v ≡ hash_of t → Entering s w m (4 * at + c) v
      next_entering v p =
          let a = g.base in
          let b = g.starts.small in
          let d = g.starts.here in
          let i = g.starts.inside in
          let j = place_three s n in
          let k = below in
          record {
            low = length w;
            table = g.table;
            above = g.above;
            some = next-some;
            room = omega arith;
            roof = omega arith;
            wide = g.table.wide;
            whole = tape_mark_whole s w at c class_few next_whole;
            behind = tape_mark_behind s w at c class_few next_whole (length w);
            hash = p ∙ ap hash_of (e ∙ sym mark-text);
          }

      module _ (m1 : Map) (w1 : List ℕ) (x : Entered s w m (4 * at + c) 0 m1 w1) where
        count-then : m1.count ≡ suc m.count
        count-then = x.count ∙ add-one m.count

        here_then : at + 3 + length t ≡ place_of s m1.count
        unfolding place_of
        here_then = rw count-then (text_end ∙ ap (atom_end s) g.here)

        same_then : texts s w1 m1 ≡ atoms_of s m1.count
        unfolding atoms_of
        same_then =
            let z : texts s w m ++ (marked_text s w (4 * at + c) ∷ []) ≡ atoms_of s (suc m.count) = cc (g.same, mark-text, g.here) in
            x.more ∙ z ∙ ap (atoms_of s) (sym count-then)

        new : has t (texts s w m) ≡ false → has (atom_text s at) (atoms_of s m.count) ≡ false
        new a = ap (has (atom_text s at)) (sym g.same) ∙ ap (λ (u : Text). has u (texts s w m)) (sym e) ∙ a

        apart_then : has t (texts s w m) ≡ false → distinct (atoms_of s m1.count) ≡ true
        unfolding atoms_of
        apart_then a = rw (count-then, ← g.here) (distinct_more (atoms_of s m.count) (atom_text s at) g.apart (new a))

        class_then : (i : ℕ) (u : Bool) → ltb i m.count ≡ u → i < suc m.count → class_at w1 m.base i ≡ text_class (atom_text s (place_of s i))
        unfolding class_at
        class_then i true q l = let k = ltb-true i m.count q in ap (λ (y : ℕ). y % 4) (x.marks i k) ∙ g.classes i k
        class_then i false q l =
            let z : i ≡ m.count = omega (arith, ltb-false i m.count q) in
            let f = class_few in
            rw (z, ← g.here) (omega (arith, x.mark) ∙ class_is)

        blank_then : (i : ℕ) (u : Bool) → ltb i m.count ≡ u → i < suc m.count → cell_at w1 m.base i ≡ 0
        blank_then i true q l = let k = ltb-true i m.count q in x.cells i k ∙ g.blank i k
        blank_then i false q l = let z : i ≡ m.count = omega (arith, ltb-false i m.count q) in rw z x.cell

        none_known : (r : Option ℕ) → Finds (texts s w m) t r → is_some r ≡ false → has t (texts s w m) ≡ false
        none_known None a p = answer_none (texts s w m) t a
        none_known (Some k) a p = absurd (false≢true (sym p))

        next_more : (r : Option ℕ) → Finds (texts s w m) t r → (b : Bool) → b ≡ is_some r → b ≡ false → length w1 ≡ length w → Nexts s at end n (Some (m1, at + 3 + length t)) w1
        unfolding Nexts
        next_more r a b o p l =
            let none = none_known r a (sym o ∙ p) in
            record {
              going = record {
                starts = record { here = g.starts.here; inside = g.starts.inside; small = rw l g.starts.small };
                table = x.table;
                above = rw l (above_entered s w m (4 * at + c) 0 m1 w1 (length w) x (tape_mark_behind s w at c class_few next_whole (length w)) g.above);
                base = x.base ∙ g.base;
                buckets = x.buckets ∙ g.buckets;
                upto = omega (arith, x.count, below);
                here = here_then;
                same = same_then;
                apart = apart_then none;
                classes = λ i k. rw x.base (class_then i (ltb i m.count) refl (rw count-then at k));
                blank = λ i k. rw x.base (blank_then i (ltb i m.count) refl (rw count-then at k));
              };
              on = omega arith;
            }

      -- x is its mark
      module _ (x : ℕ) (d : x ≡ 4 * at + c) where
        pub marked_entering : (v : ℕ) → v ≡ hash_of t → Entering s w m x v
        marked_entering v p = rw d (next_entering v p)

        pub marked_more : (m1 : Map) (w1 : List ℕ) → Entered s w m x 0 m1 w1 → (r : Option ℕ) → Finds (texts s w m) t r → (b : Bool) → b ≡ is_some r → b ≡ false → length w1 ≡ length w
            → Nexts s at end n (Some (m1, at + 3 + length t)) w1
        marked_more m1 w1 a = next_more m1 w1 (rw d at a)

pub ruleset entering_at = (rules, next_whole, next-some, next_inside, next_least, next_hash, next_known, mark_small, marked_entering, marked_more)

-- ---- `atoms`
module _ (s w : List ℕ) (end n : ℕ) (g : Starts s w end n) where
  pub start_fits : length w < 2 ^ 64 → 8 * (length s - end) < 2 ^ 64
  start_fits l = omega (arith, g.small)

  pub start_inside : end ≤ length s
  start_inside = g.inside

  -- r is the map of work
  module _ (r : Regions) (e : r ≡ regions_of (length s - end)) where
    records_there : r.records ≡ 8 * (length s - end)
    unfolding regions_of
    records_there = ap (λ (u : Regions). u.records) e

    pub start_room : r.records + 24 * n ≤ length w
    start_room = omega (arith, records_there, g.small, g.here, g.inside, place_three s n)

    pub start_there : (m : Map) (w1 : List ℕ) → Started s w r.records n m w1 → Started s w (8 * (length s - end)) n m w1
    start_there m w1 x = rw (← records_there) x

  pub start_going : (m : Map) (w1 : List ℕ) → Started s w (8 * (length s - end)) n m w1 → length w1 ≡ length w → Going s w1 m 0 end n
  unfolding place_of atoms_of distinct texts texts_of
  start_going m w1 x l = record {
    starts = record { here = g.here; inside = g.inside; small = rw l g.small };
    table = x.table;
    above = above_none s w1 m (length w1) x.count;
    base = x.base;
    buckets = x.buckets;
    upto = omega (arith, x.count);
    here = rw x.count;
    same = rw x.count;
    apart = rw x.count;
    classes = λ i k. absurd (omega (arith, x.count));
    blank = λ i k. absurd (omega (arith, x.count));
  }

module _ (s w : List ℕ) (m : Map) (at end n : ℕ) (g : Going s w m at end n) where
  pub going_next : (r : Option (Map × ℕ)) (m1 : Map) (e : ℕ) (w1 : List ℕ) → Nexts s at end n r w1 → r ≡ Some (m1, e) → Going s w1 m1 e end n
  unfolding Nexts
  going_next r m1 e w1 a p = let b : More s w1 m1 at end n e = rw p at a in b.going

  pub going_less : (r : Option (Map × ℕ)) (m1 : Map) (e : ℕ) (w1 : List ℕ) → at < end → Nexts s at end n r w1 → r ≡ Some (m1, e) → end - e < end - at
  unfolding Nexts
  going_less r m1 e w1 h a p = let b : More s w1 m1 at end n e = rw p at a in omega (arith, b.on)

  pub going_again : (r : Option (Map × ℕ)) (w1 : List ℕ) → Nexts s at end n r w1 → r ≡ None → (z : Refusal) → z ≡ refusal_at 3 at → Fronted s end n (Err z) w1
  unfolding Nexts Fronted
  going_again r w1 a p z e = record { place = at; is = e; again = rw p at a }

  all_read : end ≤ at → m.count ≡ n
  all_read h = go (ltb m.count n) refl
    where
      go : (t : Bool) → ltb m.count n ≡ t → m.count ≡ n
      go true e =
          let l = ltb-true m.count n e in
          absurd (omega (arith, place_mono s (suc m.count) n l, place_steps s m.count, g.here, g.starts.here))
      go false e = omega (arith, ltb-false m.count n e, g.upto)

  pub going_done : end ≤ at → Fronted s end n (Ok m) w
  unfolding Fronted
  going_done h =
      let z = all_read h in
      record {
        table = g.table;
        above = g.above;
        base = g.base;
        buckets = g.buckets;
        count = z;
        same = g.same ∙ ap (atoms_of s) z;
        apart = ap (λ (k : ℕ). distinct (atoms_of s k)) (sym z) ∙ g.apart;
        classes = λ i k. g.classes i (omega arith);
        blank = λ i k. g.blank i (omega arith);
      }

pub ruleset fronting = (rules, start_fits, start_inside, start_room, start_there, start_going, going_next, going_less, going_again, going_done)
