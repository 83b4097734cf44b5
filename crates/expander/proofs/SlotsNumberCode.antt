-- Laws of `number`: what is held after a text got the next number. Assumes nothing.
use mathlib.Core.Path.{◌≡◌, refl, sym, ap, ◌∙◌, subst}
use mathlib.Core.Bool.{Bool, true, false, ◌||◌}
use mathlib.Core.List.{List, [], ◌∷◌, ◌++◌, map}
use Prim.Native.Nat.{ℕ, suc, ◌+◌, ◌-◌, ◌*◌, ◌/◌, ◌%◌, ◌<◌}
use native.Mathlib.Omega.{arith}
use borrow.Author.Tests.{eqb-true, eqb-false, ltb-true, ltb-false}
use lib.Dec.{eqb, ltb}
use Rattle.texts.specs.Table.{texts}
use Rattle.replacing.specs.Slots.{Ref, like, Slots, among, number_new}
use Rattle.replacing.specs.Sound.{HasRef, Sound}
use Rattle.expander.specs.declared.Ground.{Ground}
use Rattle.expander.specs.Ground.{slot_at, key_at, list_at, new_at, pushed_text, symbol_in, KeyAt}
use Rattle.expander.specs.Held.{down, upto, keep_if, any_of, followed, ref_by, ref_in, is_like, is_text, Refers, Held}
use Rattle.expander.proofs.GroundLaws.{pushed-around, sound_around}
use Rattle.expander.proofs.HeldLists.{down-same, upto-same, keep_down, any_down}
use Rattle.expander.proofs.SlotsCode.{followed-even, followed-odd, ref_text, ref_new, ref_like, odd_one, key_has}
use Rattle.expander.proofs.SlotsNextCode.{half, odd_half, twice_even, odd_not, within, Next, key_in, around, slot_other, slot_own, list_other, list_own, key_same, new_records, new_refers, new_alone, next_room}

odd_even : (i j : ℕ) → 2 * i + 1 ≡ 2 * j → ⊥
odd_even i j e = omega arith

upto_next : (f : ℕ → ℕ) (c : ℕ) → upto f (suc c) ≡ upto f c ++ (f c ∷ [])
unfolding upto
upto_next f c = refl

-- one more by index
upto-more : (f : ℕ → ℕ) (c : ℕ) → upto f (c + 1) ≡ upto f c ++ (f c ∷ [])
upto-more f c = ap (upto f) (next c) ∙ upto_next f c
  where
    next : (c : ℕ) → c + 1 ≡ suc c
    next c = omega arith

-- ---- the j-th pushed symbol, which stands at q and has no number, gets the next one
module _ {s w w' : List ℕ} {g : Ground} {n c : ℕ} {x : Slots} {j q : ℕ} (h : Held s w g n c x) (nx : Next s w g n c (map (λ (r : ℕ × Ref). r.0) x.refs) j q w') where
  new_other : (i : ℕ) → i < c → new_at w' g i ≡ new_at w g i
  unfolding new_at
  new_other i l = ap (λ (v : ℕ). key_at w' g (v / 2)) (list_other nx i l) ∙ key_same nx (list_at w g i / 2) (h.entries i l).1

  new_own : new_at w' g c ≡ q
  unfolding new_at
  new_own = ap (λ (v : ℕ). key_at w' g (v / 2)) (list_own nx) ∙ ap (key_at w' g) (half j) ∙ key_same nx j nx.below ∙ sym nx.key

  -- a new text's symbol has a number, so it is another
  new_not : (i : ℕ) → i < c → new_at w g i ≡ q → ⊥
  new_not i l e = let z = ap (slot_at w g) e in let y = (h.entries i l).2 in odd_even j (g.m.count + i) (sym nx.slot ∙ sym z ∙ y)

  new_has : (i : ℕ) → i < c → HasRef (new_at w g i) x
  unfolding new_at
  new_has i l = key_has s w g n c x h (list_at w g i / 2) (h.entries i l).1

  -- ---- references
  by_same : (v : ℕ) → Refers n (g.m.count + c) v → ref_by w' g v ≡ ref_by w g v
  by_same v f = go (eqb (v % 2) 0) refl (ltb (v / 2) g.m.count) refl
    where
      go : (a : Bool) → eqb (v % 2) 0 ≡ a → (b : Bool) → ltb (v / 2) g.m.count ≡ b → ref_by w' g v ≡ ref_by w g v
      go true e true d =
          let z = eqb-true (v % 2) 0 e in
          let y = ltb-true (v / 2) g.m.count d in
          ref_text w' g v z y ∙ sym (ref_text w g v z y)
      go true e false d =
          let z = eqb-true (v % 2) 0 e in
          let y = ltb-false (v / 2) g.m.count d in
          ref_new w' g v z y ∙ ap like (new_other (v / 2 - g.m.count) (omega (arith, f.even z))) ∙ sym (ref_new w g v z y)
      go false e b d =
          let z = eqb-false (v % 2) 0 e in
          ref_like w' g v z ∙ ap like (key_same nx (v / 2) (f.odd (odd_one v z))) ∙ sym (ref_like w g v z)

  by_new : ref_by w' g (2 * (g.m.count + c)) ≡ like q
  by_new =
      ref_new w' g (2 * (g.m.count + c)) (twice_even (g.m.count + c)) (omega (arith, half (g.m.count + c)))
      ∙ ap (λ (v : ℕ). like (new_at w' g v)) (let z = half (g.m.count + c) in omega arith) ∙ ap like new_own

  by_old : ref_by w g (2 * j + 1) ≡ like q
  by_old = ref_like w g (2 * j + 1) (odd_not j) ∙ ap (λ (v : ℕ). like (key_at w g v)) (odd_half j) ∙ ap like (sym nx.key)

  end_same : (p : ℕ) → HasRef p x → ref_by w' g (slot_at w' g p) ≡ ref_by w g (slot_at w g p)
  end_same p i = go (eqb p q) refl
    where
      go : (b : Bool) → eqb p q ≡ b → ref_by w' g (slot_at w' g p) ≡ ref_by w g (slot_at w g p)
      go true e = subst (λ (v : ℕ). ref_by w' g (slot_at w' g v) ≡ ref_by w g (slot_at w g v)) (sym (eqb-true p q e)) (ap (ref_by w' g) (slot_own nx) ∙ by_new ∙ sym (ap (ref_by w g) nx.slot ∙ by_old))
      go false e = ap (ref_by w' g) (slot_other nx p i (eqb-false p q e)) ∙ by_same (slot_at w g p) (h.refers p i)

  ref_same : (p : ℕ) → HasRef p x → ref_in w' g p ≡ ref_in w g p
  unfolding ref_in
  ref_same p i = go (eqb p q) refl (eqb (slot_at w g p % 2) 0) refl
    where
      own : ref_by w' g (followed w' g (slot_at w' g q)) ≡ ref_by w g (followed w g (slot_at w g q))
      own =
          ap (ref_by w' g) (followed-even w' g (slot_at w' g q) (ap (λ (v : ℕ). v % 2) (slot_own nx) ∙ twice_even (g.m.count + c))) ∙ end_same q (key_in nx)
          ∙ sym (ap (λ (v : ℕ). ref_by w g (followed w g v)) nx.slot ∙ ap (ref_by w g) (followed-odd w g (2 * j + 1) (odd_not j) ∙ ap (λ (v : ℕ). slot_at w g (key_at w g v)) (odd_half j) ∙ ap (slot_at w g) (sym nx.key)))

      go : (a : Bool) → eqb p q ≡ a → (b : Bool) → eqb (slot_at w g p % 2) 0 ≡ b → ref_by w' g (followed w' g (slot_at w' g p)) ≡ ref_by w g (followed w g (slot_at w g p))
      go true e b d = subst (λ (v : ℕ). ref_by w' g (followed w' g (slot_at w' g v)) ≡ ref_by w g (followed w g (slot_at w g v))) (sym (eqb-true p q e)) own
      go false e true d =
          let y = slot_other nx p i (eqb-false p q e) in
          let z = eqb-true (slot_at w g p % 2) 0 d in
          ap (ref_by w' g) (followed-even w' g (slot_at w' g p) (ap (λ (v : ℕ). v % 2) y ∙ z)) ∙ end_same p i ∙ ap (ref_by w g) (sym (followed-even w g (slot_at w g p) z))
      go false e false d =
          let y = slot_other nx p i (eqb-false p q e) in
          let z = eqb-false (slot_at w g p % 2) 0 d in
          let l = (h.refers p i).odd (odd_one (slot_at w g p) z) in
          ap (λ (v : ℕ). ref_by w' g (followed w' g v)) y
          ∙ ap (ref_by w' g) (followed-odd w' g (slot_at w g p) z ∙ ap (slot_at w' g) (key_same nx (slot_at w g p / 2) l))
          ∙ end_same (key_at w g (slot_at w g p / 2)) (key_has s w g n c x h (slot_at w g p / 2) l)
          ∙ ap (ref_by w g) (sym (followed-odd w g (slot_at w g p) z))

  key_ref : (i : ℕ) → i < n → ref_in w' g (key_at w g i) ≡ ref_in w g (key_at w g i)
  key_ref i l = ref_same (key_at w g i) (key_has s w g n c x h i l)

  -- ---- what stands there then
  new_entries : (i : ℕ) → i < c + 1 → (list_at w' g i % 2 ≡ 0) × (list_at w' g i / 2 < n) × (slot_at w' g (new_at w' g i) ≡ 2 * (g.m.count + i))
  new_entries i l = go (eqb i c) refl
    where
      go : (b : Bool) → eqb i c ≡ b → (list_at w' g i % 2 ≡ 0) × (list_at w' g i / 2 < n) × (slot_at w' g (new_at w' g i) ≡ 2 * (g.m.count + i))
      go true e =
          subst (λ (v : ℕ). (list_at w' g v % 2 ≡ 0) × (list_at w' g v / 2 < n) × (slot_at w' g (new_at w' g v) ≡ 2 * (g.m.count + v))) (sym (eqb-true i c e))
          (ap (λ (v : ℕ). v % 2) (list_own nx) ∙ twice_even j, omega (arith, ap (λ (v : ℕ). v / 2) (list_own nx), half j), ap (slot_at w' g) new_own ∙ slot_own nx)
      go false e =
          let k = within i c l (eqb-false i c e) in
          let (a, b, d) = h.entries i k in
          (ap (λ (v : ℕ). v % 2) (list_other nx i k) ∙ a, omega (arith, ap (λ (v : ℕ). v / 2) (list_other nx i k)), ap (slot_at w' g) (new_other i k) ∙ slot_other nx (new_at w g i) (new_has i k) (new_not i k) ∙ d)

  new_firsts : x.firsts ≡ keep_if (λ p. is_like (ref_in w' g p)) (down (key_at w' g) n)
  new_firsts =
      h.firsts
      ∙ sym (ap (keep_if (λ p. is_like (ref_in w' g p))) (down-same (key_at w' g) (key_at w g) n (key_same nx)) ∙ keep_down (λ p. is_like (ref_in w' g p)) (λ p. is_like (ref_in w g p)) (key_at w g) n (λ i l. ap is_like (key_ref i l)))

  new_marks : (k : ℕ) → k < g.m.count → among k x.marks ≡ (pushed_text w' g k || any_of (λ p. is_text k (ref_in w' g p)) (down (key_at w' g) n))
  new_marks k l =
      h.marks k l
      ∙ sym (ap (λ (b : Bool). b || any_of (λ p. is_text k (ref_in w' g p)) (down (key_at w' g) n)) (pushed-around s w w' g nx.ground (around nx) k l)
      ∙ ap (λ (b : Bool). pushed_text w g k || b) (ap (any_of (λ p. is_text k (ref_in w' g p))) (down-same (key_at w' g) (key_at w g) n (key_same nx))
      ∙ any_down (λ p. is_text k (ref_in w' g p)) (λ p. is_text k (ref_in w g p)) (key_at w g) n (λ i m. ap (is_text k) (key_ref i m))))

  new_news : x.news ++ (q ∷ []) ≡ upto (new_at w' g) (c + 1)
  new_news =
      sym (upto-more (new_at w' g) c ∙ ap (λ (u : List ℕ). u ++ (new_at w' g c ∷ [])) (upto-same (new_at w' g) (new_at w g) c new_other ∙ sym h.news) ∙ ap (λ (v : ℕ). x.news ++ (v ∷ [])) new_own)

  pub new_held : Sound (symbol_in s w g) (KeyAt s w g) (texts s w g.m) (number_new q x) h.expander → Held s w' g n (c + 1) (number_new q x)
  unfolding number_new
  new_held z = record {
    records = new_records nx;
    room = next_room nx;
    pile = h.pile ∙ sym (down-same (key_at w' g) (key_at w g) n (key_same nx));
    firsts = new_firsts;
    news = new_news;
    entries = new_entries;
    refs = λ p i. ref_same p i ∙ h.refs p i;
    refers = new_refers nx;
    own = new_alone nx;
    marks = new_marks;
    inside = h.inside;
    apart = h.apart;
    expander = h.expander;
    sound = sound_around s w w' g nx.ground (around nx) (number_new q x) h.expander z;
  }
