-- Laws of `number` and `reference`. Assumes nothing.
use mathlib.Core.Path.{◌≡◌, refl, sym, ap, ◌∙◌, subst}
use mathlib.Core.Bool.{Bool, true, false}
use mathlib.Core.List.{List}
use Prim.Native.Nat.{ℕ, ◌+◌, ◌-◌, ◌*◌, ◌/◌, ◌%◌, ◌^◌, ◌<◌, ◌≤◌}
use native.Mathlib.Omega.{arith}
use mir.Syntax.{w64}
use mir.Val.{Fits}
use borrow.Author.Rules.{rules}
use borrow.Author.Tests.{eqb-true, eqb-false, eq-eqb, ne_eqb, lt-ltb, le-ltb}
use lib.Dec.{eqb}
use lib.ListN.{length}
use Rattle.octets.specs.Working.Choice.{pick}
use Rattle.parse_tree.specs.Working.Within.{Each}
use Rattle.texts.specs.Fields.{mark_at}
use Rattle.replacing.specs.Slots.{text, like, Slots, among}
use Rattle.replacing.specs.Sound.{HasRef}
use Rattle.expander.specs.declared.Ground.{Ground}
use Rattle.expander.specs.declared.slots.Noted.{Noted}
use Rattle.expander.specs.Ground.{size_in, top_of, slot_code, slot_place, slot_at, list_place, key_at, new_at, Grounded}
use Rattle.expander.specs.Held.{followed, Followable, ref_by, Refers, Held}
use Rattle.expander.specs.Names.{Names, SomeNamed}
use Rattle.expander.proofs.HeldLists.{each-down}

pub odd_one : (v : ℕ) → (v % 2 ≡ 0 → ⊥) → v % 2 ≡ 1
odd_one v e = omega arith

-- ---- the number of a new text
pub number_fits : (w : List ℕ) (g : Ground) (c : ℕ) → list_place g c + 8 ≤ length w → length w < 2 ^ 64 → Fits w64 (g.m.count + c)
number_fits w g c h l = record { fits = omega arith }

-- ---- references
module _ (w : List ℕ) (g : Ground) (v : ℕ) where
  pub followed-even : v % 2 ≡ 0 → followed w g v ≡ v
  unfolding followed pick
  followed-even e = cc (eq-eqb (v % 2) 0 e)

  pub followed-odd : (v % 2 ≡ 0 → ⊥) → followed w g v ≡ slot_at w g (key_at w g (v / 2))
  unfolding followed pick
  followed-odd e = cc (ne_eqb (v % 2) 0 e)

  pub ref_text : v % 2 ≡ 0 → v / 2 < g.m.count → ref_by w g v ≡ text (v / 2)
  unfolding ref_by pick
  ref_text e l = cc (eq-eqb (v % 2) 0 e, lt-ltb (v / 2) g.m.count l)

  pub ref_new : v % 2 ≡ 0 → g.m.count ≤ v / 2 → ref_by w g v ≡ like (new_at w g (v / 2 - g.m.count))
  unfolding ref_by pick
  ref_new e l = cc (eq-eqb (v % 2) 0 e, le-ltb (v / 2) g.m.count l)

  pub ref_like : (v % 2 ≡ 0 → ⊥) → ref_by w g v ≡ like (key_at w g (v / 2))
  unfolding ref_by pick
  ref_like e = cc (ne_eqb (v % 2) 0 e)

-- from w to w' the slot of the record that v names is as it was
pub followed-kept : (w w' : List ℕ) (g : Ground) (v : ℕ) → (v % 2 ≡ 1 → slot_at w' g (key_at w' g (v / 2)) ≡ slot_at w g (key_at w g (v / 2))) → followed w' g v ≡ followed w g v
followed-kept w w' g v h = go (eqb (v % 2) 0) refl
  where
    go : (b : Bool) → eqb (v % 2) 0 ≡ b → followed w' g v ≡ followed w g v
    go true e = let z = eqb-true (v % 2) 0 e in followed-even w' g v z ∙ sym (followed-even w g v z)
    go false e = let z = eqb-false (v % 2) 0 e in followed-odd w' g v z ∙ h (odd_one v z) ∙ sym (followed-odd w g v z)

-- a followed reference v that is odd is that of a record which refers to itself
module _ (w : List ℕ) (g : Ground) (n m p : ℕ) (f : Refers n m (slot_at w g p)) (own : (j : ℕ) → j < n → slot_at w g (key_at w g j) % 2 ≡ 1 → slot_at w g (key_at w g j) ≡ 2 * j + 1)
    (v : ℕ) (e : v ≡ followed w g (slot_at w g p)) (o : v % 2 ≡ 0 → ⊥) where
  odd_slot : slot_at w g p % 2 ≡ 0 → ⊥
  odd_slot z = o (ap (λ (u : ℕ). u % 2) (e ∙ followed-even w g (slot_at w g p) z) ∙ z)

  abbrev rec : ℕ
  rec = slot_at w g p / 2

  rec_below : rec < n
  rec_below = f.odd (odd_one (slot_at w g p) odd_slot)

  rec_slot : slot_at w g (key_at w g rec) ≡ v
  rec_slot = sym (e ∙ followed-odd w g (slot_at w g p) odd_slot)

  self : v ≡ 2 * rec + 1
  self = sym rec_slot ∙ own rec rec_below (ap (λ (u : ℕ). u % 2) rec_slot ∙ odd_one v o)

  self_half : v / 2 ≡ rec
  self_half = omega (arith, self)

  pub half_below : v / 2 < n
  half_below = rw self_half rec_below

  pub half_slot : slot_at w g (key_at w g (v / 2)) ≡ 2 * (v / 2) + 1
  half_slot = ap (λ (j : ℕ). slot_at w g (key_at w g j)) self_half ∙ rec_slot ∙ (omega (arith, odd_one v o))

-- ---- where slots and records stand
module _ (s w : List ℕ) (g : Ground) (r : Grounded s w g) where
  pub place_inside : (p : ℕ) → p + 9 ≤ size_in g → slot_place g p + 8 ≤ top_of g
  unfolding top_of
  place_inside p i = omega arith

  pub record_inside : (n j : ℕ) → n ≤ size_in g / 9 → j < n → g.keys + 24 * j + 24 ≤ g.slots
  record_inside n j f i = omega (arith, r.fits)

  place_there : (p : ℕ) → p + 9 ≤ size_in g → slot_place g p + 8 ≤ length w
  place_there p i = omega (arith, place_inside p i, r.top)

  record_there : (n j : ℕ) → n ≤ size_in g / 9 → j < n → g.keys + 24 * j + 24 ≤ length w
  unfolding top_of
  record_there n j f i = omega (arith, record_inside n j f i, r.top)

module _ (s w : List ℕ) (g : Ground) (n c : ℕ) (x : Slots) (h : Held s w g n c x) where
  -- a pushed symbol has a reference
  pub key_has : (j : ℕ) → j < n → HasRef (key_at w g j) x
  key_has j i = each-down (λ p. HasRef p x) (key_at w g) n (subst (λ (qs : List ℕ). Each (λ p. HasRef p x) qs) h.pile h.sound.piled) j i

  pub followed-refers : (p : ℕ) → HasRef p x → Refers n (g.m.count + c) (followed w g (slot_at w g p))
  followed-refers p i = go (eqb (slot_at w g p % 2) 0) refl
    where
      go : (b : Bool) → eqb (slot_at w g p % 2) 0 ≡ b → Refers n (g.m.count + c) (followed w g (slot_at w g p))
      go true e = rw (followed-even w g (slot_at w g p) (eqb-true (slot_at w g p % 2) 0 e)) (h.refers p i)
      go false e =
          let o = eqb-false (slot_at w g p % 2) 0 e in
          rw (followed-odd w g (slot_at w g p) o) (h.refers (key_at w g (slot_at w g p / 2)) (key_has (slot_at w g p / 2) ((h.refers p i).odd (odd_one (slot_at w g p) o))))

  pub slot_inside : Grounded s w g → (p : ℕ) → HasRef p x → slot_place g p + 8 ≤ top_of g
  slot_inside r p i = place_inside s w g r p (h.inside p i)

-- ---- symbols with names
module _ (s w : List ℕ) (g : Ground) (n c : ℕ) (ps : List ℕ) (r : Grounded s w g) (h : Names s w g n c ps) where
  pub named-slot : (p : ℕ) → among p ps ≡ true → slot_place g p + 8 ≤ length w
  named-slot p i = place_there s w g r p (h.inside p i)

  pub named-record : (j : ℕ) → j < n → g.keys + 24 * j + 24 ≤ length w
  named-record j i = record_there s w g r n j h.records.few i

-- ---- `reference`: x is what the slot tells
module _ (w : List ℕ) (g : Ground) (p : ℕ) (h : Followable w g p) where
  pub own_room : slot_place g p + 8 ≤ length w
  own_room = h.own

  module _ (x : Noted) (e : slot_code x ≡ slot_at w g p) where
    pub text_done : (k : ℕ) → x ≡ Noted.Text k → 2 * k ≡ followed w g (slot_at w g p)
    text_done k i = let t : 2 * k ≡ slot_at w g p = sym (ap slot_code i) ∙ e in t ∙ sym (followed-even w g (slot_at w g p) (omega (arith, t)))

    module _ (j : ℕ) (i : x ≡ Noted.Pushed j) where
      told : 2 * j + 1 ≡ slot_at w g p
      told = sym (ap slot_code i) ∙ e

      half : slot_at w g p / 2 ≡ j
      half = omega (arith, told)

      odd : slot_at w g p % 2 ≡ 1
      odd = omega (arith, told)

      pub pushed_room : g.keys + 24 * j + 24 ≤ length w
      pushed_room = omega (arith, h.pushed odd, half)

      module _ (q : ℕ) (m : q ≡ mark_at w g.keys j) where
        key_is : key_at w g (slot_at w g p / 2) ≡ q
        unfolding key_at
        key_is = ap (mark_at w g.keys) half ∙ sym m

        pub pushed_slot_room : slot_place g q + 8 ≤ length w
        pushed_slot_room = subst (λ (k : ℕ). slot_place g k + 8 ≤ length w) key_is (h.place odd)

        pub pushed_done : (u : ℕ) → u ≡ slot_at w g q → u ≡ followed w g (slot_at w g p)
        pushed_done u f = f ∙ ap (slot_at w g) (sym key_is) ∙ sym (followed-odd w g (slot_at w g p) (λ z. omega (arith, odd, z)))

pub ruleset referring = (rules, own_room, text_done, pushed_room, pushed_slot_room, pushed_done)

-- a symbol with a name can be followed
pub named_followable : (s w : List ℕ) (g : Ground) (n c p : ℕ) → Grounded s w g → SomeNamed s w g n c p → Followable w g p
named_followable s w g n c p r k =
    let refers = k.names.refers p k.here in
    record {
      own = named-slot s w g n c k.places r k.names p k.here;
      pushed = λ o. named-record s w g n c k.places r k.names (slot_at w g p / 2) (refers.odd o);
      place = λ o. named-slot s w g n c k.places r k.names (key_at w g (slot_at w g p / 2)) (k.names.pushed (slot_at w g p / 2) (refers.odd o));
    }
