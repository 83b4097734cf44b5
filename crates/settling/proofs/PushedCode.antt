-- The ways out of mark_text and mark_one. Assumes nothing.
use mathlib.Core.Path.{◌≡◌, refl, sym, ap, ◌∙◌}
use mathlib.Core.Bool.{Bool, true, false, ◌||◌, or-true, or-false}
use mathlib.Core.List.{List}
use Prim.Native.Nat.{ℕ, ◌+◌, ◌*◌, ◌/◌, ◌%◌, ◌<◌, ◌≤◌}
use native.Mathlib.Omega.{arith}
use borrow.Author.Rules.{rules}
use borrow.Author.Tests.{eqb-true, eqb-false, eq-eqb, ne_eqb, lt-ltb, le-ltb, le-leb}
use lib.Dec.{eqb, leb}
use lib.ListN.{length}
use Rattle.octets.specs.Plain.Numbers.{le}
use Rattle.octets.specs.Working.Choice.{pick}
use Rattle.octets.specs.Working.Stores.{store}
use Rattle.octets.proofs.StoreLaws.{length_store}
use Rattle.texts.specs.Fields.{mark_at, cell_at}
use Rattle.texts.specs.Table.{Celled}
use Rattle.texts.proofs.TableStays.{celled, recelled_same, recelled_celled}
use Rattle.expander.specs.declared.Ground.{Ground}
use Rattle.expander.specs.declared.slots.Noted.{Noted}
use Rattle.expander.specs.Ground.{top_of, slot_code, slot_place, slot_at, key_at, pushed_text}
use Rattle.expander.proofs.GroundLaws.{keys_slots, slots_top}
use Rattle.settling.specs.Pushed.{slot_text, Markable, MarksOne}

-- ---- the text of a slot
module _ (m v : ℕ) where
  pub slot_odd : (v % 2 ≡ 0 → ⊥) → (k : ℕ) → slot_text m v k ≡ false
  unfolding slot_text pick
  slot_odd e k = cc (ne_eqb (v % 2) 0 e)

  pub slot_new : v % 2 ≡ 0 → m ≤ v / 2 → (k : ℕ) → slot_text m v k ≡ false
  unfolding slot_text pick
  slot_new e l k = cc (eq-eqb (v % 2) 0 e, le-ltb (v / 2) m l)

  pub slot_text_lem : v % 2 ≡ 0 → v / 2 < m → (k : ℕ) → slot_text m v k ≡ eqb (v / 2) k
  unfolding slot_text pick
  slot_text_lem e l k = cc (eq-eqb (v % 2) 0 e, lt-ltb (v / 2) m l)

-- ---- mark_one
module _ (s w : List ℕ) (g : Ground) (j : ℕ) (h : Markable s w g j) (p : ℕ) (e : p ≡ mark_at w g.keys j) where
  pub slot_there : slot_place g p + 8 ≤ length w
  unfolding key_at
  slot_there = rw e h.slot_room

  module _ (v : ℕ) (f : v ≡ slot_at w g p) where
    slot_is : v ≡ slot_at w g (key_at w g j)
    unfolding key_at
    slot_is = f ∙ ap (slot_at w g) e

    none_marked : ((k : ℕ) → slot_text g.m.count v k ≡ false) → MarksOne s w g j w
    none_marked d = record {
      cells = recelled_same s w g.m h.ground.table;
      pushed = λ k l. sym (or-false (pushed_text w g k)) ∙ ap (λ (b : Bool). pushed_text w g k || b) (sym (d k) ∙ ap (λ (x : ℕ). slot_text g.m.count x k) slot_is);
      rest = λ k l. refl;
    }

    odd_marked : (v % 2 ≡ 0 → ⊥) → MarksOne s w g j w
    odd_marked d = none_marked (slot_odd g.m.count v d)

    new_marked : v % 2 ≡ 0 → g.m.count ≤ v / 2 → MarksOne s w g j w
    new_marked d l = none_marked (slot_new g.m.count v d l)

    module _ (d : v % 2 ≡ 0) (l : v / 2 < g.m.count) (w1 : List ℕ) (o : w1 ≡ store w (g.m.base + 24 * (v / 2) + 20) (le 4 (cell_at w g.m.base (v / 2) % 2147483648 + 2147483648))) where
      abbrev new : ℕ
      new = cell_at w g.m.base (v / 2) % 2147483648 + 2147483648

      wrote : Celled s w g.m (v / 2) new w1
      wrote =
          let G = h.ground in
          celled s w w1 g.m (top_of g) (v / 2) new G.table G.above (omega (arith, G.records, keys_slots s w g G, slots_top s w g G)) l (omega arith) o

      -- the cell of that text, and of another one
      one_pushed : (k : ℕ) → pushed_text w1 g k ≡ (pushed_text w g k || eqb (v / 2) k)
      unfolding pushed_text
      one_pushed k = go (eqb (v / 2) k) refl
        where
          go : (b : Bool) → eqb (v / 2) k ≡ b → leb 2147483648 (cell_at w1 g.m.base k) ≡ (leb 2147483648 (cell_at w g.m.base k) || b)
          go true z =
              let y = eqb-true (v / 2) k z in
              ap (λ (i : ℕ). leb 2147483648 (cell_at w1 g.m.base i)) (sym y) ∙ ap (leb 2147483648) wrote.cell ∙ le-leb 2147483648 new (omega arith) ∙ sym (or-true (leb 2147483648 (cell_at w g.m.base k)))
          go false z =
              let y = eqb-false (v / 2) k z in
              ap (leb 2147483648) (wrote.cells k (λ q. y (sym q))) ∙ sym (or-false (leb 2147483648 (cell_at w g.m.base k)))

      one_rest : (k : ℕ) → cell_at w1 g.m.base k % 2147483648 ≡ cell_at w g.m.base k % 2147483648
      one_rest k = go (eqb (v / 2) k) refl
        where
          go : (b : Bool) → eqb (v / 2) k ≡ b → cell_at w1 g.m.base k % 2147483648 ≡ cell_at w g.m.base k % 2147483648
          go true z =
              let y = eqb-true (v / 2) k z in
              let q : new % 2147483648 ≡ cell_at w g.m.base (v / 2) % 2147483648 = omega arith in
              ap (λ (i : ℕ). cell_at w1 g.m.base i % 2147483648) (sym y) ∙ ap (λ (i : ℕ). i % 2147483648) wrote.cell ∙ q ∙ ap (λ (i : ℕ). cell_at w g.m.base i % 2147483648) y
          go false z = let y = eqb-false (v / 2) k z in ap (λ (i : ℕ). i % 2147483648) (wrote.cells k (λ q. y (sym q)))

      text_done : MarksOne s w g j w1
      text_done = record {
        cells = recelled_celled s w g.m (v / 2) new w1 (ap length o ∙ length_store w (g.m.base + 24 * (v / 2) + 20) (le 4 new)) l wrote;
        pushed = λ k q. one_pushed k ∙ ap (λ (b : Bool). pushed_text w g k || b) (sym (slot_text_lem g.m.count v d l k) ∙ ap (λ (x : ℕ). slot_text g.m.count x k) slot_is);
        rest = λ k q. one_rest k;
      }

  -- by what the slot tells
  module _ (x : Noted) (f : slot_code x ≡ slot_at w g p) where
    pub pushed_marked : (i : ℕ) → x ≡ Noted.Pushed i → MarksOne s w g j w
    pushed_marked i y = odd_marked (2 * i + 1) (sym (ap slot_code y) ∙ f) (λ z. omega arith)

    module _ (k : ℕ) (y : x ≡ Noted.Text k) where
      half : 2 * k / 2 ≡ k
      half = omega arith

      even : 2 * k ≡ slot_at w g p
      even = sym (ap slot_code y) ∙ f

      pub new_text_marked : g.m.count ≤ k → MarksOne s w g j w
      new_text_marked l = new_marked (2 * k) even (omega arith) (omega (arith, half))

      pub old_text_room : k < g.m.count → g.m.base + 24 * k + 24 ≤ length w
      old_text_room l = let z = h.ground.table.room in omega arith

      pub old_text_marked : k < g.m.count → (w1 : List ℕ) → w1 ≡ store w (g.m.base + 24 * k + 20) (le 4 (cell_at w g.m.base k % 2147483648 + 2147483648)) → MarksOne s w g j w1
      old_text_marked l w1 o = text_done (2 * k) even (omega arith) (omega (arith, half)) w1 (rw half o)

pub ruleset marking = (rules, slot_there, pushed_marked, new_text_marked, old_text_room, old_text_marked)
