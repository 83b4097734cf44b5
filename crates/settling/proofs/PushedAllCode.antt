-- The ways out of mark_pushed. Assumes nothing.
use mathlib.Core.Path.{◌≡◌, refl, sym, ap, ◌∙◌}
use mathlib.Core.Bool.{Bool, true, false, ◌||◌, or_assoc, or_comm, or-false}
use mathlib.Core.Logic.{inr}
use mathlib.Core.List.{List}
use Prim.Native.Nat.{ℕ, suc, ◌+◌, ◌*◌, ◌/◌, ◌%◌, ◌<◌, ◌≤◌}
use native.Mathlib.Omega.{arith}
use borrow.Author.Rules.{rules}
use borrow.Author.Tests.{eqb-false}
use lib.Dec.{eqb, ltb}
use lib.ListN.{length}
use Rattle.octets.specs.Working.Choice.{pick}
use Rattle.texts.specs.Fields.{mark_at}
use Rattle.texts.proofs.TableStays.{le_at-agree, recelled_same, recelled_trans}
use Rattle.expander.specs.declared.Ground.{Ground}
use Rattle.expander.specs.Ground.{size_in, top_of, slot_place, slot_at, key_at, pushed_text}
use Rattle.expander.specs.Held.{down, any_of, followed, ref_by, ref_in, is_text}
use Rattle.expander.specs.Names.{Names}
use Rattle.expander.proofs.GroundLaws.{keys_slots}
use Rattle.settling.specs.Pushed.{slot_text, Markable, MarksOne}
use Rattle.settling.specs.Settle.{SomePushed, MarkedPushed}
use Rattle.settling.proofs.PushedMean.{marked_ground}

-- ---- the reference of a pushed symbol is its slot
module _ (w : List ℕ) (g : Ground) (v k : ℕ) where
  by_slot : is_text k (ref_by w g v) ≡ slot_text g.m.count v k
  unfolding ref_by slot_text is_text pick
  by_slot = go (eqb (v % 2) 0) refl (ltb (v / 2) g.m.count) refl
    where
      go : (a : Bool) → eqb (v % 2) 0 ≡ a → (b : Bool) → ltb (v / 2) g.m.count ≡ b → is_text k (ref_by w g v) ≡ slot_text g.m.count v k
      go true x true y = cc (x, y)
      go true x false y = cc (x, y)
      go false x b y = cc x

module _ (s w : List ℕ) (g : Ground) (n c : ℕ) (ps : List ℕ) (h : Names s w g n c ps) (j : ℕ) (l : j < n) where
  own-slot : followed w g (slot_at w g (key_at w g j)) ≡ slot_at w g (key_at w g j)
  unfolding followed pick
  own-slot = go (eqb (slot_at w g (key_at w g j) % 2) 0) refl
    where
      go : (a : Bool) → eqb (slot_at w g (key_at w g j) % 2) 0 ≡ a → followed w g (slot_at w g (key_at w g j)) ≡ slot_at w g (key_at w g j)
      go true x = cc x
      go false x =
          let y = eqb-false (slot_at w g (key_at w g j) % 2) 0 x in
          let z : slot_at w g (key_at w g j) / 2 ≡ j = omega (arith, h.own j l (omega arith)) in
          cc (x, z)

  pub pushed-text : (k : ℕ) → is_text k (ref_in w g (key_at w g j)) ≡ slot_text g.m.count (slot_at w g (key_at w g j)) k
  unfolding ref_in
  pushed-text k = ap (λ (v : ℕ). is_text k (ref_by w g v)) own-slot ∙ by_slot w g (slot_at w g (key_at w g j)) k

-- ---- those before the j-th are marked
pub record Marking (s w : List ℕ) (g : Ground) (n j : ℕ) (w' : List ℕ) : Type 0 where
  pub upto : j ≤ n
  pub marked : MarkedPushed s w g j w'

module _ (s w : List ℕ) (g : Ground) (n : ℕ) (h : SomePushed s w g n) where
  pub marking_start : Marking s w g n 0 w
  unfolding down any_of
  marking_start = record {
    upto = omega arith;
    marked = record {
      cells = recelled_same s w g.m h.ground.table;
      pushed = λ k l. sym (or-false (pushed_text w g k));
      rest = λ k l. refl;
    };
  }

  module _ (j : ℕ) (w1 : List ℕ) (x : Marking s w g n j w1) where
    pub marking_same : length w1 ≡ length w
    marking_same = x.marked.cells.long

    module _ (l : j < n) where
      abbrev at_j : ℕ
      at_j = key_at w g j

      fewer : j < size_in g / 9
      fewer = omega (arith, h.names.records.few)

      key_same : key_at w1 g j ≡ at_j
      unfolding key_at mark_at
      key_same = le_at-agree 8 w w1 (g.keys + 24 * j) (λ i a b. x.marked.cells.others i (inr (omega (arith, h.ground.records))))

      key_inside : at_j + 9 ≤ size_in g
      key_inside = h.names.inside at_j (h.names.pushed j l)

      slot_inside : slot_place g at_j + 8 ≤ top_of g
      unfolding top_of
      slot_inside = omega (arith, key_inside)

      slot_same : slot_at w1 g (key_at w1 g j) ≡ slot_at w g at_j
      slot_same =
          ap (slot_at w1 g) key_same
          ∙ le_at-agree 8 w w1 (slot_place g at_j) (λ i a b. x.marked.cells.others i (inr (omega (arith, h.ground.records, keys_slots s w g h.ground))))

      pub marking_one : Markable s w1 g j
      unfolding top_of
      marking_one = record {
        ground = marked_ground s w g j w1 h.ground x.marked;
        record_room = omega (arith, fewer, h.ground.fits, h.ground.top, x.marked.cells.long);
        slot_room = rw key_same (omega (arith, slot_inside, h.ground.top, x.marked.cells.long));
      }

      module _ (w2 : List ℕ) (y : MarksOne s w1 g j w2) where
        next_pushed : (k : ℕ) → k < g.m.count → pushed_text w2 g k ≡ (pushed_text w g k || any_of (λ q. is_text k (ref_in w g q)) (down (key_at w g) (j + 1)))
        unfolding down any_of
        next_pushed k d =
            let a = pushed_text w g k in
            let b = any_of (λ q. is_text k (ref_in w g q)) (down (key_at w g) j) in
            let f = is_text k (ref_in w g at_j) in
            let z : j + 1 ≡ suc j = omega arith in
            let u : slot_text g.m.count (slot_at w1 g (key_at w1 g j)) k ≡ f =
            ap (λ (v : ℕ). slot_text g.m.count v k) slot_same ∙ sym (pushed-text s w g n h.count h.places h.names j l k) in
            y.pushed k d ∙ ap (λ (o : Bool). pushed_text w1 g k || o) u ∙ ap (λ (o : Bool). o || f) (x.marked.pushed k d) ∙ or_assoc a b f ∙ ap (λ (o : Bool). a || o) (or_comm b f)
            ∙ ap (λ (i : ℕ). a || any_of (λ q. is_text k (ref_in w g q)) (down (key_at w g) i)) (sym z)

        pub marking_next : Marking s w g n (j + 1) w2
        marking_next = record {
          upto = omega arith;
          marked = record {
            cells = recelled_trans s w w1 w2 g.m x.marked.cells y.cells;
            pushed = next_pushed;
            rest = λ k d. y.rest k d ∙ x.marked.rest k d;
          };
        }

    pub marking_done : n ≤ j → MarkedPushed s w g n w1
    marking_done l = let z : j ≡ n = omega (arith, x.upto) in rw z at x.marked

pub ruleset all_marking = (rules, marking_start, marking_same, marking_one, marking_next, marking_done)
