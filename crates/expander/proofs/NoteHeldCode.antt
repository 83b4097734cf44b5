-- A slot written for a symbol that had none: what stands there then. Assumes nothing.
use mathlib.Core.Path.{◌≡◌, refl, sym, ap, ◌∙◌}
use mathlib.Core.Bool.{Bool, true, false, cond, ◌||◌}
use mathlib.Core.Logic.{◌⊎◌, inl, inr}
use mathlib.Core.List.{List, ◌∷◌, map}
use Prim.Native.Nat.{ℕ, ◌+◌, ◌-◌, ◌*◌, ◌/◌, ◌%◌, ◌^◌, ◌<◌, ◌≤◌}
use native.Mathlib.Omega.{arith}
use borrow.Author.Tests.{ltb-true, ltb-false, eqb-true, eqb-false, eq-eqb, ne_eqb}
use lib.Dec.{eqb, ltb}
use lib.ListN.{length, get_or}
use Rattle.octets.specs.Working.Choice.{pick}
use Rattle.octets.specs.Plain.Numbers.{le}
use Rattle.octets.specs.Working.Stores.{store}
use Rattle.octets.proofs.NumbersLaws.{length-le}
use Rattle.octets.proofs.StoreLaws.{length_store, le_at-other, le_at-same, get_d_store_before, get_d_store_after}
use Rattle.texts.specs.Table.{texts}
use Rattle.replacing.specs.Slots.{Ref, text, like, Slots, ref_at, among}
use Rattle.replacing.specs.Sound.{HasRef, Sound}
use Rattle.passes.specs.Macros.{MacroExpander}
use Rattle.expander.specs.declared.Ground.{Ground}
use Rattle.expander.specs.Ground.{size_in, top_of, slot_place, slot_at, key_at, list_at, new_at, pushed_text, symbol_in, KeyAt, Records}
use Rattle.expander.specs.Held.{down, keep_if, any_of, followed, ref_by, ref_in, is_like, is_text, Refers, Held, Off}
use Rattle.expander.proofs.HeldLists.{down-same, upto-same, keep_down, any_down}
use Rattle.expander.proofs.SlotsCode.{followed-even, followed-odd, followed-kept, ref_like, odd_one, key_has, followed-refers}

even_odd : (P : Type 0) (v : ℕ) → (v % 2 ≡ 0 → P) → ((v % 2 ≡ 0 → ⊥) → P) → P
even_odd P v f h = go (eqb (v % 2) 0) refl
  where
    go : (b : Bool) → eqb (v % 2) 0 ≡ b → P
    go true e = f (eqb-true (v % 2) 0 e)
    go false e = h (eqb-false (v % 2) 0 e)

refers_more : (n m k v : ℕ) → n ≤ m → Refers n k v → Refers m k v
refers_more n m k v l r = record { even = r.even; odd = λ e. omega (arith, r.odd e) }

-- ---- one store
module _ (w w2 : List ℕ) (g : Ground) (p v : ℕ) (o : w2 ≡ store w (slot_place g p) (le 8 v)) where
  pub slot_long : length w2 ≡ length w
  slot_long = rw o (length_store w (slot_place g p) (le 8 v))

  pub slot_before : (i : ℕ) → i < g.slots → get_or w2 i 0 ≡ get_or w i 0
  slot_before i h = rw o (get_d_store_before w (g.slots + 8 * (p / 9)) (le 8 v) i (omega arith))

  pub slot_here : slot_place g p + 8 ≤ length w → v < 256 ^ 8 → slot_at w2 g p ≡ v
  slot_here h f = rw o (le_at-same 8 w (slot_place g p) v h f)

  pub slot_other : (q : ℕ) → (q + 9 ≤ p) ⊎ (p + 9 ≤ q) → slot_at w2 g q ≡ slot_at w g q
  slot_other q h = rw o (le_at-other 8 w (g.slots + 8 * (p / 9)) (le 8 v) (g.slots + 8 * (q / 9)) (elim h [
    | inl a ↦ inl (omega arith)
    | inr a ↦ inr (omega (arith, length-le 8 v))
  ]))

  pub slot_after : p + 9 ≤ size_in g → (i : ℕ) → top_of g ≤ i → get_or w2 i 0 ≡ get_or w i 0
  unfolding top_of
  slot_after h i a = rw o (get_d_store_after w (g.slots + 8 * (p / 9)) (le 8 v) i (omega (arith, length-le 8 v)))

-- ---- from w to w2 keys, slots of places with references, and the list are as they were; the slot of p is v
module _ (s w w2 : List ℕ) (g : Ground) (n c : ℕ) (x : Slots) (h : Held s w g n c x)
    (keys : (j : ℕ) → j < n → key_at w2 g j ≡ key_at w g j) (slots : (q : ℕ) → HasRef q x → slot_at w2 g q ≡ slot_at w g q)
    (list : (i : ℕ) → i < c → list_at w2 g i ≡ list_at w g i) where
  new_same : (i : ℕ) → i < c → new_at w2 g i ≡ new_at w g i
  unfolding new_at
  new_same i l = ap (λ (v : ℕ). key_at w2 g (v / 2)) (list i l) ∙ keys (list_at w g i / 2) (h.entries i l).1

  new_has : (i : ℕ) → i < c → HasRef (new_at w g i) x
  unfolding new_at
  new_has i l = key_has s w g n c x h (list_at w g i / 2) (h.entries i l).1

  even_same : (v : ℕ) → Refers n (g.m.count + c) v → v % 2 ≡ 0 → ref_by w2 g v ≡ ref_by w g v
  unfolding ref_by pick
  even_same v r e = rw (eq-eqb (v % 2) 0 e) (go (ltb (v / 2) g.m.count) refl)
    where
      go : (b : Bool) → ltb (v / 2) g.m.count ≡ b → pick b (text (v / 2)) (like (new_at w2 g (v / 2 - g.m.count))) ≡ pick b (text (v / 2)) (like (new_at w g (v / 2 - g.m.count)))
      go true u = refl
      go false u = let z = ltb-false (v / 2) g.m.count u in ap like (new_same (v / 2 - g.m.count) (omega (arith, r.even e)))

  pub ref_same : (v : ℕ) → Refers n (g.m.count + c) v → ref_by w2 g v ≡ ref_by w g v
  ref_same v r = even_odd (ref_by w2 g v ≡ ref_by w g v) v (even_same v r) odd
    where
      odd : (v % 2 ≡ 0 → ⊥) → ref_by w2 g v ≡ ref_by w g v
      odd e = ref_like w2 g v e ∙ ap like (keys (v / 2) (r.odd (odd_one v e))) ∙ sym (ref_like w g v e)

  followed_same : (v : ℕ) → Refers n (g.m.count + c) v → followed w2 g v ≡ followed w g v
  followed_same v r = followed-kept w w2 g v (λ o. ap (slot_at w2 g) (keys (v / 2) (r.odd o)) ∙ slots (key_at w g (v / 2)) (key_has s w g n c x h (v / 2) (r.odd o)))

  in_same : (q : ℕ) → HasRef q x → ref_in w2 g q ≡ ref_in w g q
  unfolding ref_in
  in_same q a =
      ap (λ (v : ℕ). ref_by w2 g (followed w2 g v)) (slots q a) ∙ ap (ref_by w2 g) (followed_same (slot_at w g q) (h.refers q a))
      ∙ ref_same (followed w g (slot_at w g q)) (followed-refers s w g n c x h q a)

  -- the slot of a pushed symbol needs not be followed
  pub key_followed : (j : ℕ) → j < n → followed w g (slot_at w g (key_at w g j)) ≡ slot_at w g (key_at w g j)
  key_followed j l = even_odd (followed w g u ≡ u) u (followed-even w g u) odd
    where
      u : ℕ
      u = slot_at w g (key_at w g j)

      odd : (u % 2 ≡ 0 → ⊥) → followed w g u ≡ u
      odd e = let z : u / 2 ≡ j = omega (arith, h.own j l (odd_one u e)) in followed-odd w g u e ∙ ap (λ (i : ℕ). slot_at w g (key_at w g i)) z

  keys_same : down (key_at w2 g) n ≡ down (key_at w g) n
  keys_same = down-same (key_at w2 g) (key_at w g) n keys

  key_same : (j : ℕ) → j < n → ref_in w2 g (key_at w g j) ≡ ref_in w g (key_at w g j)
  key_same j l = in_same (key_at w g j) (key_has s w g n c x h j l)

  pub firsts_then : keep_if (λ q. is_like (ref_in w2 g q)) (down (key_at w2 g) n) ≡ x.firsts
  firsts_then = rw keys_same (keep_down (λ q. is_like (ref_in w2 g q)) (λ q. is_like (ref_in w g q)) (key_at w g) n (λ j l. ap is_like (key_same j l)) ∙ sym h.firsts)

  pub pile_then : down (key_at w2 g) n ≡ x.pile
  pile_then = keys_same ∙ sym h.pile

  module _ (pushed : (k : ℕ) → k < g.m.count → pushed_text w2 g k ≡ pushed_text w g k) where
    pub marks_then : (k : ℕ) → k < g.m.count → (pushed_text w2 g k || any_of (λ q. is_text k (ref_in w2 g q)) (down (key_at w2 g) n)) ≡ among k x.marks
    marks_then k l =
        let z = any_down (λ q. is_text k (ref_in w2 g q)) (λ q. is_text k (ref_in w g q)) (key_at w g) n (λ j l. ap (is_text k) (key_same j l)) in
        rw (keys_same, pushed k l, z) (sym (h.marks k l))

  -- the slots afterwards, y
  module _ (p v m : ℕ) (ρ : Ref) (y : Slots) (off : Off p x) (inside : p + 9 ≤ size_in g) (here : slot_at w2 g p ≡ v) (is : ref_in w2 g p ≡ ρ) (more : n ≤ m)
      (refers : Refers m (g.m.count + c) v) (own : (j : ℕ) → (j < n → ⊥) → j < m → slot_at w2 g (key_at w2 g j) % 2 ≡ 1 → slot_at w2 g (key_at w2 g j) ≡ 2 * j + 1)
      (refs : y.refs ≡ (p, ρ) ∷ x.refs) (news : y.news ≡ x.news) where
    -- a place with a reference is p, or had one
    by_place : (P : ℕ → Type 0) → P p → ((q : ℕ) → HasRef q x → P q) → (q : ℕ) → HasRef q y → P q
    unfolding among
    by_place P a f q r = go (eqb p q) refl (rw refs at r)
      where
        go : (b : Bool) → eqb p q ≡ b → cond b true (among q (map (λ (u : ℕ × Ref). u.0) x.refs)) ≡ true → P q
        go true e k = rw (← (eqb-true p q e)) a
        go false e k = f q k

    off_ref : (q : ℕ) → HasRef q x → eqb p q ≡ false
    off_ref q a = ne_eqb p q (λ z. elim (off q a) [ inl i ↦ omega arith | inr i ↦ omega arith ])

    ref_here : ref_at p y.refs ≡ ρ
    unfolding ref_at
    ref_here = rw (refs, eq-eqb p p refl) refl

    ref_there : (q : ℕ) → HasRef q x → ref_at q y.refs ≡ ref_at q x.refs
    unfolding ref_at
    ref_there q a = rw (refs, off_ref q a) refl

    pub held_then : Records s w2 g m → y.pile ≡ down (key_at w2 g) m → y.firsts ≡ keep_if (λ q. is_like (ref_in w2 g q)) (down (key_at w2 g) m)
        → ((k : ℕ) → k < g.m.count → among k y.marks ≡ (pushed_text w2 g k || any_of (λ q. is_text k (ref_in w2 g q)) (down (key_at w2 g) m)))
        → (σ : MacroExpander) → Sound (symbol_in s w2 g) (KeyAt s w2 g) (texts s w2 g.m) y σ → Held s w2 g m c y
    held_then records pile firsts marks σ sound = record {
      records = records;
      room = h.room;
      pile = pile;
      firsts = firsts;
      news = news ∙ h.news ∙ sym (upto-same (new_at w2 g) (new_at w g) c new_same);
      entries = λ i l. entry i l (h.entries i l);
      refs = λ q a. by_place (λ u. ref_in w2 g u ≡ ref_at u y.refs) (is ∙ sym ref_here) (λ u b. in_same u b ∙ h.refs u b ∙ sym (ref_there u b)) q a;
      refers = λ q a. by_place (λ u. Refers m (g.m.count + c) (slot_at w2 g u)) (rw here refers) (λ u b. rw (slots u b) (refers_more n m (g.m.count + c) (slot_at w g u) more (h.refers u b))) q a;
      own = λ j l e. owns j l e (ltb j n) refl;
      marks = marks;
      inside = λ q a. by_place (λ u. u + 9 ≤ size_in g) inside h.inside q a;
      apart = λ q r a b. by_place (λ u. (u ≡ r) ⊎ (u + 9 ≤ r) ⊎ (r + 9 ≤ u))
          (by_place (λ u. (p ≡ u) ⊎ (p + 9 ≤ u) ⊎ (u + 9 ≤ p)) (inl refl) (λ u k. elim (off u k) [ inl i ↦ inr (inr i) | inr i ↦ inr (inl i) ]) r b)
          (λ t j. by_place (λ u. (t ≡ u) ⊎ (t + 9 ≤ u) ⊎ (u + 9 ≤ t)) (elim (off t j) [ inl i ↦ inr (inl i) | inr i ↦ inr (inr i) ]) (λ u k. h.apart t u j k) r b) q a;
      expander = σ;
      sound = sound;
    }
      where
        entry : (i : ℕ) → i < c → (list_at w g i % 2 ≡ 0) × (list_at w g i / 2 < n) × (slot_at w g (new_at w g i) ≡ 2 * (g.m.count + i))
            → (list_at w2 g i % 2 ≡ 0) × (list_at w2 g i / 2 < m) × (slot_at w2 g (new_at w2 g i) ≡ 2 * (g.m.count + i))
        entry i l e = (rw (list i l) e.0, rw (list i l) (omega (arith, e.1)), ap (slot_at w2 g) (new_same i l) ∙ slots (new_at w g i) (new_has i l) ∙ e.2)

        owns : (j : ℕ) → j < m → slot_at w2 g (key_at w2 g j) % 2 ≡ 1 → (b : Bool) → ltb j n ≡ b → slot_at w2 g (key_at w2 g j) ≡ 2 * j + 1
        owns j l e true u =
            let a = ltb-true j n u in
            let z : slot_at w2 g (key_at w2 g j) ≡ slot_at w g (key_at w g j) = ap (slot_at w2 g) (keys j a) ∙ slots (key_at w g j) (key_has s w g n c x h j a) in
            z ∙ h.own j a (rw z at e)
        owns j l e false u = let a = ltb-false j n u in own j (λ b. omega arith) l e
