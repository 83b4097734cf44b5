-- What `number` stores where a text gets the next number: what changed, and what slots, list and records say then. Assumes nothing.
use mathlib.Core.Path.{◌≡◌, refl, sym, ap, ◌∙◌, subst}
use mathlib.Core.Bool.{Bool, true, false}
use mathlib.Core.Logic.{◌⊎◌, inl, inr}
use mathlib.Core.List.{List}
use Prim.Native.Nat.{ℕ, ◌+◌, ◌*◌, ◌/◌, ◌%◌, ◌^◌, ◌<◌, ◌≤◌}
use native.Mathlib.Omega.{arith}
use borrow.Author.Tests.{eqb-true, eqb-false}
use lib.Dec.{eqb}
use lib.ListN.{length, get_or}
use Rattle.octets.specs.Plain.Numbers.{le_at, le}
use Rattle.octets.specs.Working.Stores.{store}
use Rattle.octets.proofs.NumbersLaws.{length-le}
use Rattle.octets.proofs.StoreLaws.{length_store, get_d_store_before, get_d_store_after, le_at-other, le_at-same}
use Rattle.replacing.specs.Slots.{among}
use Rattle.expander.specs.declared.Ground.{Ground}
use Rattle.expander.specs.Ground.{top_of, slot_place, slot_at, key_at, list_place, list_at, Grounded, Records, Around}
use Rattle.expander.specs.Held.{Refers, Listed}
use Rattle.expander.specs.Names.{Names}
use Rattle.expander.proofs.GroundLaws.{list_keys, keys_slots, slots_top, listed-around, stage_around, texts-around}
use Rattle.expander.proofs.SlotsCode.{place_inside, record_inside}
use Rattle.expander.proofs.RecordsLaws.{key_stays, records_stay}

-- ---- numbers
pub half : (j : ℕ) → 2 * j / 2 ≡ j
half j = omega arith

pub odd_half : (j : ℕ) → (2 * j + 1) / 2 ≡ j
odd_half j = omega arith

pub twice_even : (j : ℕ) → 2 * j % 2 ≡ 0
twice_even j = omega arith

pub odd_not : (j : ℕ) → (2 * j + 1) % 2 ≡ 0 → ⊥
odd_not j e = omega arith

pub odd_twice : (j : ℕ) → 2 * j % 2 ≡ 1 → ⊥
odd_twice j e = omega arith

pub within : (i c : ℕ) → i < c + 1 → (i ≡ c → ⊥) → i < c
within i c l e = omega arith

-- places nine apart have slots that are apart
nine : (g : Ground) (a b : ℕ) → a + 9 ≤ b → slot_place g a + 8 ≤ slot_place g b
nine g a b l = omega arith

-- ---- the j-th pushed symbol, which stands at q and has no number, gets the next one
pub record Next (s w : List ℕ) (g : Ground) (n c : ℕ) (ps : List ℕ) (j q : ℕ) (w' : List ℕ) : Type 0 where
  pub ground : Grounded s w g
  pub names : Names s w g n c ps
  pub room : list_place g c + 8 ≤ g.keys
  pub below : j < n
  pub key : q ≡ key_at w g j
  pub slot : slot_at w g q ≡ 2 * j + 1
  pub stored : w' ≡ store (store w (list_place g c) (le 8 (2 * j))) (slot_place g q) (le 8 (2 * (g.m.count + c)))

module _ {s w w' : List ℕ} {g : Ground} {n c : ℕ} {ps : List ℕ} {j q : ℕ} (k : Next s w g n c ps j q w') where
  abbrev w1 : List ℕ
  w1 = store w (list_place g c) (le 8 (2 * j))

  abbrev r : Grounded s w g
  r = k.ground

  pub key_in : among q ps ≡ true
  key_in = subst (λ (v : ℕ). among v ps ≡ true) (sym k.key) (k.names.pushed j k.below)

  -- ---- what changed
  slot_from : (p : ℕ) → g.slots ≤ slot_place g p
  slot_from p = omega arith

  list_from : (i e : ℕ) → i < e → list_place g i + 8 ≤ list_place g e
  list_from i e l = omega arith

  list_zero : list_place g 0 ≤ list_place g c
  list_zero = omega arith

  slot_top : slot_place g q + 8 ≤ top_of g
  slot_top = place_inside s w g r q (k.names.inside q key_in)

  pub new_listed : Listed g w w'
  new_listed = rw k.stored (record { long = length_store w1 (slot_place g q) (le 8 (2 * (g.m.count + c))) ∙ length_store w (list_place g c) (le 8 (2 * j)); others = go })
    where
      first : (i : ℕ) → (i < list_place g c) ⊎ (g.keys ≤ i) → get_or w1 i 0 ≡ get_or w i 0
      first i (inl l) = get_d_store_before w (list_place g c) (le 8 (2 * j)) i l
      first i (inr l) = get_d_store_after w (list_place g c) (le 8 (2 * j)) i (omega (arith, k.room, length-le 8 (2 * j)))

      second : (i : ℕ) → (i < g.slots) ⊎ (top_of g ≤ i) → get_or (store w1 (slot_place g q) (le 8 (2 * (g.m.count + c)))) i 0 ≡ get_or w1 i 0
      second i (inl l) = get_d_store_before w1 (slot_place g q) (le 8 (2 * (g.m.count + c))) i (omega (arith, slot_from q))
      second i (inr l) = get_d_store_after w1 (slot_place g q) (le 8 (2 * (g.m.count + c))) i (omega (arith, length-le 8 (2 * (g.m.count + c)), slot_top))

      go : (i : ℕ) → (i < list_place g 0) ⊎ ((g.keys ≤ i) × (i < g.slots)) ⊎ (top_of g ≤ i) → get_or (store w1 (slot_place g q) (le 8 (2 * (g.m.count + c)))) i 0 ≡ get_or w i 0
      go i (inl l) = second i (inl (omega (arith, list_keys s w g r, keys_slots s w g r))) ∙ first i (inl (omega (arith, list_zero)))
      go i (inr (inl l)) = second i (inl l.1) ∙ first i (inr l.0)
      go i (inr (inr l)) = second i (inr l) ∙ first i (inr (omega (arith, keys_slots s w g r, slots_top s w g r)))

  pub around : Around g w w'
  around = listed-around s w g r w' new_listed

  -- ---- slots
  pub slot_other : (p : ℕ) → among p ps ≡ true → (p ≡ q → ⊥) → slot_at w' g p ≡ slot_at w g p
  slot_other p i e =
      ap (λ (u : List ℕ). le_at 8 u (slot_place g p)) k.stored ∙ le_at-other 8 w1 (slot_place g q) (le 8 (2 * (g.m.count + c))) (slot_place g p) (beside (k.names.off p q i key_in))
      ∙ le_at-other 8 w (list_place g c) (le 8 (2 * j)) (slot_place g p) (inr (omega (arith, k.room, length-le 8 (2 * j), keys_slots s w g r, slot_from p)))
    where
      beside : (p ≡ q) ⊎ (p + 9 ≤ q) ⊎ (q + 9 ≤ p) → (slot_place g p + 8 ≤ slot_place g q) ⊎ (slot_place g q + length (le 8 (2 * (g.m.count + c))) ≤ slot_place g p)
      beside (inl l) = absurd (e l)
      beside (inr (inl l)) = inl (nine g p q l)
      beside (inr (inr l)) = inr (omega (arith, length-le 8 (2 * (g.m.count + c)), nine g q p l))

  twice_few : 2 * (g.m.count + c) < 256 ^ 8
  twice_few = omega (arith, k.room, keys_slots s w g r, slots_top s w g r, r.top, r.short)

  pub slot_own : slot_at w' g q ≡ 2 * (g.m.count + c)
  slot_own =
      ap (λ (u : List ℕ). le_at 8 u (slot_place g q)) k.stored
      ∙ le_at-same 8 w1 (slot_place g q) (2 * (g.m.count + c)) (omega (arith, length_store w (list_place g c) (le 8 (2 * j)), slot_top, r.top)) twice_few

  -- ---- the list of new texts
  pub list_other : (i : ℕ) → i < c → list_at w' g i ≡ list_at w g i
  list_other i l =
      let z = list_from i c l in
      ap (λ (u : List ℕ). le_at 8 u (list_place g i)) k.stored
      ∙ le_at-other 8 w1 (slot_place g q) (le 8 (2 * (g.m.count + c))) (list_place g i) (inl (omega (arith, k.room, keys_slots s w g r, slot_from q)))
      ∙ le_at-other 8 w (list_place g c) (le 8 (2 * j)) (list_place g i) (inl z)

  pub list_own : list_at w' g c ≡ 2 * j
  list_own =
      ap (λ (u : List ℕ). le_at 8 u (list_place g c)) k.stored
      ∙ le_at-other 8 w1 (slot_place g q) (le 8 (2 * (g.m.count + c))) (list_place g c) (inl (omega (arith, k.room, keys_slots s w g r, slot_from q)))
      ∙ le_at-same 8 w (list_place g c) (2 * j) (omega (arith, k.room, keys_slots s w g r, slots_top s w g r, r.top)) (omega (arith, record_inside s w g r n j k.names.records.few k.below, slots_top s w g r, r.top, r.short))

  -- ---- the records of pushed symbols
  kept : (i : ℕ) → g.keys ≤ i → i < g.slots → get_or w' i 0 ≡ get_or w i 0
  kept i a b = new_listed.others i (inr (inl (a, b)))

  pub key_same : (i : ℕ) → i < n → key_at w' g i ≡ key_at w g i
  key_same i l = key_stays w w' g r.fits kept i (omega (arith, k.names.records.few))

  pub new_records : Records s w' g n
  new_records = records_stay s w w' g n r.few r.fits kept (stage_around s w w' g r around) (texts-around s w w' g r around) k.names.records

  -- ---- what slots say then
  pub new_refers : (p : ℕ) → among p ps ≡ true → Refers n (g.m.count + (c + 1)) (slot_at w' g p)
  new_refers p i = go (eqb p q) refl
    where
      go : (b : Bool) → eqb p q ≡ b → Refers n (g.m.count + (c + 1)) (slot_at w' g p)
      go true e =
          subst (λ (v : ℕ). Refers n (g.m.count + (c + 1)) (slot_at w' g v)) (sym (eqb-true p q e))
          (rw slot_own (record { even = λ _. omega (arith, half (g.m.count + c)); odd = λ z. absurd (omega (arith, twice_even (g.m.count + c))) }))
      go false e = rw (slot_other p i (eqb-false p q e)) (record { even = λ z. omega (arith, (k.names.refers p i).even z); odd = (k.names.refers p i).odd })

  -- a pushed symbol without a number had none before
  none_before : (i : ℕ) → i < n → slot_at w' g (key_at w' g i) % 2 ≡ 1 → slot_at w' g (key_at w' g i) ≡ slot_at w g (key_at w g i)
  none_before i l = rw (key_same i l) (go (eqb (key_at w g i) q) refl)
    where
      go : (b : Bool) → eqb (key_at w g i) q ≡ b → slot_at w' g (key_at w g i) % 2 ≡ 1 → slot_at w' g (key_at w g i) ≡ slot_at w g (key_at w g i)
      go true e z =
          let y = ap (slot_at w' g) (eqb-true (key_at w g i) q e) ∙ slot_own in
          absurd (odd_twice (g.m.count + c) (sym (ap (λ (v : ℕ). v % 2) y) ∙ z))
      go false e z = slot_other (key_at w g i) (k.names.pushed i l) (eqb-false (key_at w g i) q e)

  pub was_odd : (i : ℕ) → i < n → slot_at w' g (key_at w' g i) % 2 ≡ 1 → slot_at w g (key_at w g i) % 2 ≡ 1
  was_odd i l z = sym (ap (λ (v : ℕ). v % 2) (none_before i l z)) ∙ z

  pub new_alone : (i : ℕ) → i < n → slot_at w' g (key_at w' g i) % 2 ≡ 1 → slot_at w' g (key_at w' g i) ≡ 2 * i + 1
  new_alone i l z = none_before i l z ∙ k.names.own i l (was_odd i l z)

  pub next_room : list_place g (c + 1) ≤ g.keys
  next_room = omega (arith, k.room)
