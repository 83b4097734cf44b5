-- What stays of a round's ground, and of what is held, where bytes are written behind the slots and the items and before the texts. Assumes nothing.
use mathlib.Core.Path.{◌≡◌, refl, sym, ap, ◌∙◌, subst}
use mathlib.Core.Bool.{Bool, true, false, ◌||◌}
use mathlib.Core.Logic.{◌⊎◌, inl, inr}
use mathlib.Core.List.{List}
use Prim.Native.Nat.{ℕ, ◌+◌, ◌-◌, ◌*◌, ◌/◌, ◌%◌, ◌≤◌, ◌<◌}
use native.Mathlib.Omega.{arith}
use borrow.Author.Tests.{eqb-true, eqb-false, ltb-true, ltb-false}
use lib.Dec.{leb, ltb, eqb}
use lib.ListN.{length, get_or}
use Rattle.octets.specs.Plain.Numbers.{le_at}
use Rattle.parse_tree.specs.Plain.Tree.{Text}
use Rattle.texts.specs.Table.{Stays, Above, texts}
use Rattle.texts.proofs.TableStays.{le_at-agree, part-agree, stays, above_stays}
use Rattle.resolve.specs.Whole.{Apart}
use Rattle.replacing.specs.Prints.{sym_at}
use Rattle.replacing.specs.Slots.{like, Slots, among}
use Rattle.replacing.specs.Sound.{Firm, HasRef, Sound}
use Rattle.expander.specs.declared.Ground.{Ground}
use Rattle.expander.specs.Ground.{stage_in, top_of, slot_place, slot_at, key_at, list_place, list_at, new_at, pushed_text, Grounded, Records, Around}
use Rattle.expander.specs.Held.{down, keep_if, any_of, followed, ref_by, ref_in, is_like, is_text, Refers, Held}
use Rattle.expander.specs.Stage.{WroteOnly}
use Rattle.expander.proofs.GroundLaws.{list_start, keys_slots, slots_top, grounded_stays}
use Rattle.expander.proofs.RecordsLaws.{key_stays, records_stay}
use Rattle.expander.proofs.HeldLists.{down-same, upto-same, keep_down, any_down}
use Rattle.expander.proofs.SlotsCode.{followed-kept, ref_text, ref_new, ref_like, odd_one, key_has, slot_inside, followed-refers}

-- from w to w' nothing changed but from a up to e
pub record Between (a e : ℕ) (w w' : List ℕ) : Type 0 where
  pub long : length w' ≡ length w
  pub others : (i : ℕ) → (i < a) ⊎ (e ≤ i) → get_or w' i 0 ≡ get_or w i 0

module _ (g : Ground) (a e : ℕ) (w w' : List ℕ) where
  -- theorem: then nothing but what may be written
  pub between-wrote : top_of g ≤ a → Between a e w w' → list_place g 0 ≤ top_of g → WroteOnly g a e w w'
  between-wrote t k l = record { long = k.long; others = λ i d. k.others i (go i d) }
    where
      go : (i : ℕ) → (i < list_place g 0) ⊎ ((top_of g ≤ i) × (i < a)) ⊎ (e ≤ i) → (i < a) ⊎ (e ≤ i)
      go i (inl p) = inl (omega arith)
      go i (inr (inl p)) = inl p.1
      go i (inr (inr p)) = inr p

  -- theorem: noting and numbering write nothing there
  pub around_wrote : top_of g ≤ a → a ≤ e → Around g w w' → WroteOnly g a e w w'
  around_wrote t h k = record { long = k.long; others = λ i d. k.others i (go i d) }
    where
      go : (i : ℕ) → (i < list_place g 0) ⊎ ((top_of g ≤ i) × (i < a)) ⊎ (e ≤ i) → (i < list_place g 0) ⊎ (top_of g ≤ i)
      go i (inl p) = inl p
      go i (inr (inl p)) = inr p.0
      go i (inr (inr p)) = inr (omega arith)

-- one after another
pub wrote_then : (g : Ground) (a m e : ℕ) (w w1 w2 : List ℕ) → a ≤ m → m ≤ e → WroteOnly g a m w w1 → WroteOnly g m e w1 w2 → WroteOnly g a e w w2
wrote_then g a m e w w1 w2 l h p q = record { long = q.long ∙ p.long; others = λ i d. q.others i (go i d) ∙ p.others i (to i d) }
  where
    go : (i : ℕ) → (i < list_place g 0) ⊎ ((top_of g ≤ i) × (i < a)) ⊎ (e ≤ i) → (i < list_place g 0) ⊎ ((top_of g ≤ i) × (i < m)) ⊎ (e ≤ i)
    go i (inl x) = inl x
    go i (inr (inl x)) = inr (inl (x.0, omega (arith, x.1)))
    go i (inr (inr x)) = inr (inr x)

    to : (i : ℕ) → (i < list_place g 0) ⊎ ((top_of g ≤ i) × (i < a)) ⊎ (e ≤ i) → (i < list_place g 0) ⊎ ((top_of g ≤ i) × (i < a)) ⊎ (m ≤ i)
    to i (inl x) = inl x
    to i (inr (inl x)) = inr (inl x)
    to i (inr (inr x)) = inr (inr (omega arith))

-- within the same bounds
pub wrote_same : (g : Ground) (a e : ℕ) (w w1 w2 : List ℕ) → WroteOnly g a e w w1 → WroteOnly g a e w1 w2 → WroteOnly g a e w w2
wrote_same g a e w w1 w2 p q = record { long = q.long ∙ p.long; others = λ i d. q.others i d ∙ p.others i d }

-- ---- what was written is before lim, where the texts begin
module _ (s w w' : List ℕ) (g : Ground) (a e lim : ℕ) (G : Grounded s w g) (top : top_of g ≤ a) (items : g.end ≤ a) (low : e ≤ lim) (above : Above s w g.m lim) (k : WroteOnly g a e w w') where
  -- theorem: the items stay
  pub stage_wrote : stage_in w' g ≡ stage_in w g
  unfolding stage_in
  stage_wrote = part-agree w w' g.from g.end k.long G.inside (go G.off)
    where
      go : Apart g.from g.end g.m.base (top_of g) → (i : ℕ) → g.from ≤ i → i < g.end → get_or w' i 0 ≡ get_or w i 0
      go (inl p) i x y = k.others i (inl (omega (arith, list_start g)))
      go (inr p) i x y = k.others i (inr (inl (omega arith, omega arith)))

  -- theorem: and the table
  pub table-wrote : Stays s w g.m w' g.m
  table-wrote =
      let n = G.narrower in
      stays s w w' g.m lim G.table above k.long
      (record { agree = λ i x y. k.others i (inr (inr (omega arith))) })
      (record { agree = λ i x y. k.others i (inl (omega (arith, list_start g))) })
      (record { agree = λ i x y. k.others i (inl (omega (arith, list_start g))) })

  pub texts-wrote : texts s w' g.m ≡ texts s w g.m
  texts-wrote = table-wrote.same

  pub above_wrote : Above s w' g.m lim
  above_wrote = above_stays s w g.m w' g.m lim table-wrote above

  -- theorem: and the ground
  pub grounded_wrote : Grounded s w' g
  grounded_wrote = grounded_stays s w w' g G k.long table-wrote

  -- what is said of the items and the texts
  pub said_wrote : (P : List ℕ → List Text → Type 0) → P (stage_in w g) (texts s w g.m) → P (stage_in w' g) (texts s w' g.m)
  said_wrote P x = subst (λ (ts : List Text). P (stage_in w' g) ts) (sym texts-wrote) (subst (λ (st : List ℕ). P st (texts s w g.m)) (sym stage_wrote) x)

  pushed-wrote : (i : ℕ) → i < g.m.count → pushed_text w' g i ≡ pushed_text w g i
  unfolding pushed_text
  pushed-wrote i h = ap (leb 2147483648) (table-wrote.cells i h)

-- ---- what is held, where nothing else changed
module _ (s w w' : List ℕ) (g : Ground) (a e lim : ℕ) (G : Grounded s w g) (top : top_of g ≤ a) (items : g.end ≤ a) (low : e ≤ lim) (above : Above s w g.m lim) (k : Between a e w w')
    (n c : ℕ) (x : Slots) (h : Held s w g n c x) where
  list_below : list_place g 0 ≤ top_of g
  list_below = omega (arith, list_start g, G.records, keys_slots s w g G, slots_top s w g G)

  wrote : WroteOnly g a e w w'
  wrote = between-wrote g a e w w' top k list_below

  field_same : (m b : ℕ) → b + m ≤ a → le_at m w' b ≡ le_at m w b
  field_same m b l = le_at-agree m w w' b (λ i d f. k.others i (inl (omega arith)))

  -- ---- the records of pushed symbols
  records_agree : (i : ℕ) → g.keys ≤ i → i < g.slots → get_or w' i 0 ≡ get_or w i 0
  records_agree i f d = k.others i (inl (omega (arith, slots_top s w g G)))

  key_n : (i : ℕ) → i < n → key_at w' g i ≡ key_at w g i
  key_n i l = key_stays w w' g G.fits records_agree i (omega (arith, h.records.few))

  records_same : Records s w' g n
  records_same =
      records_stay s w w' g n G.few G.fits records_agree (stage_wrote s w w' g a e lim G top items low above wrote) (texts-wrote s w w' g a e lim G top items low above wrote)
      h.records

  -- ---- slots and the list of new texts
  slot_same : (p : ℕ) → HasRef p x → slot_at w' g p ≡ slot_at w g p
  slot_same p i = field_same 8 (slot_place g p) (omega (arith, slot_inside s w g n c x h G p i))

  list_same : (i : ℕ) → i < c → list_at w' g i ≡ list_at w g i
  list_same i l = field_same 8 (list_place g i) (omega (arith, h.room, keys_slots s w g G, slots_top s w g G))

  new_same : (i : ℕ) → i < c → new_at w' g i ≡ new_at w g i
  unfolding new_at
  new_same i l = ap (λ (v : ℕ). key_at w' g (v / 2)) (list_same i l) ∙ key_n (list_at w g i / 2) (h.entries i l).1

  new_has : (i : ℕ) → i < c → HasRef (new_at w g i) x
  unfolding new_at
  new_has i l = key_has s w g n c x h (list_at w g i / 2) (h.entries i l).1

  entries_same : (i : ℕ) → i < c → (list_at w' g i % 2 ≡ 0) × (list_at w' g i / 2 < n) × (slot_at w' g (new_at w' g i) ≡ 2 * (g.m.count + i))
  entries_same i l =
      let (b, d, f) = h.entries i l in
      (ap (λ (v : ℕ). v % 2) (list_same i l) ∙ b, omega (arith, ap (λ (v : ℕ). v / 2) (list_same i l)), ap (slot_at w' g) (new_same i l) ∙ slot_same (new_at w g i) (new_has i l) ∙ f)

  -- ---- references
  by_same : (v : ℕ) → Refers n (g.m.count + c) v → ref_by w' g v ≡ ref_by w g v
  by_same v f = go (eqb (v % 2) 0) refl (ltb (v / 2) g.m.count) refl
    where
      go : (b : Bool) → eqb (v % 2) 0 ≡ b → (d : Bool) → ltb (v / 2) g.m.count ≡ d → ref_by w' g v ≡ ref_by w g v
      go true p true q =
          let z = eqb-true (v % 2) 0 p in
          let y = ltb-true (v / 2) g.m.count q in
          ref_text w' g v z y ∙ sym (ref_text w g v z y)
      go true p false q =
          let z = eqb-true (v % 2) 0 p in
          let y = ltb-false (v / 2) g.m.count q in
          ref_new w' g v z y ∙ ap like (new_same (v / 2 - g.m.count) (omega (arith, f.even z))) ∙ sym (ref_new w g v z y)
      go false p d q =
          let z = eqb-false (v % 2) 0 p in
          ref_like w' g v z ∙ ap like (key_n (v / 2) (f.odd (odd_one v z))) ∙ sym (ref_like w g v z)

  followed_same : (v : ℕ) → Refers n (g.m.count + c) v → followed w' g v ≡ followed w g v
  followed_same v f = followed-kept w w' g v (λ o. ap (slot_at w' g) (key_n (v / 2) (f.odd o)) ∙ slot_same (key_at w g (v / 2)) (key_has s w g n c x h (v / 2) (f.odd o)))

  ref_same : (p : ℕ) → HasRef p x → ref_in w' g p ≡ ref_in w g p
  unfolding ref_in
  ref_same p i =
      ap (λ (v : ℕ). ref_by w' g (followed w' g v)) (slot_same p i) ∙ ap (ref_by w' g) (followed_same (slot_at w g p) (h.refers p i))
      ∙ by_same (followed w g (slot_at w g p)) (followed-refers s w g n c x h p i)

  key_ref : (i : ℕ) → i < n → ref_in w' g (key_at w g i) ≡ ref_in w g (key_at w g i)
  key_ref i l = ref_same (key_at w g i) (key_has s w g n c x h i l)

  firsts_same : x.firsts ≡ keep_if (λ p. is_like (ref_in w' g p)) (down (key_at w' g) n)
  firsts_same =
      h.firsts
      ∙ sym (ap (keep_if (λ p. is_like (ref_in w' g p))) (down-same (key_at w' g) (key_at w g) n key_n) ∙ keep_down (λ p. is_like (ref_in w' g p)) (λ p. is_like (ref_in w g p)) (key_at w g) n (λ i l. ap is_like (key_ref i l)))

  marks_same : (i : ℕ) → i < g.m.count → among i x.marks ≡ (pushed_text w' g i || any_of (λ p. is_text i (ref_in w' g p)) (down (key_at w' g) n))
  marks_same i l =
      h.marks i l
      ∙ sym (ap (λ (b : Bool). b || any_of (λ p. is_text i (ref_in w' g p)) (down (key_at w' g) n)) (pushed-wrote s w w' g a e lim G top items low above wrote i l)
      ∙ ap (λ (b : Bool). pushed_text w g i || b) (ap (any_of (λ p. is_text i (ref_in w' g p))) (down-same (key_at w' g) (key_at w g) n key_n)
      ∙ any_down (λ p. is_text i (ref_in w' g p)) (λ p. is_text i (ref_in w g p)) (key_at w g) n (λ j m. ap (is_text i) (key_ref j m))))

  own_same : (j : ℕ) → j < n → slot_at w' g (key_at w' g j) % 2 ≡ 1 → slot_at w' g (key_at w' g j) ≡ 2 * j + 1
  own_same j l z =
      let y = ap (slot_at w' g) (key_n j l) ∙ slot_same (key_at w g j) (key_has s w g n c x h j l) in
      y ∙ h.own j l (sym (ap (λ (v : ℕ). v % 2) y) ∙ z)

  -- theorem: what is held stays
  pub held_stays : Held s w' g n c x
  held_stays = record {
    records = records_same;
    room = h.room;
    pile = h.pile ∙ sym (down-same (key_at w' g) (key_at w g) n key_n);
    firsts = firsts_same;
    news = h.news ∙ sym (upto-same (new_at w' g) (new_at w g) c new_same);
    entries = entries_same;
    refs = λ p i. ref_same p i ∙ h.refs p i;
    refers = λ p i. subst (Refers n (g.m.count + c)) (sym (slot_same p i)) (h.refers p i);
    own = own_same;
    marks = marks_same;
    inside = h.inside;
    apart = h.apart;
    expander = h.expander;
    sound = said_wrote s w w' g a e lim G top items low above wrote (λ st ts. Sound (λ p. sym_at false g.width.bytes st ts p) (λ p. Firm false g.width.bytes st ts p) ts x h.expander) h.sound;
  }
