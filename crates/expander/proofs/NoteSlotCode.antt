-- The slot of a symbol that is noted, written on what `push` leaves, or on nothing new: what stands there is what noting is. Assumes nothing.
use mathlib.Core.Path.{◌≡◌, refl, sym, ap, ◌∙◌, subst}
use mathlib.Core.Bool.{Bool, true, false, cond, ◌||◌}
use mathlib.Core.Logic.{◌⊎◌, inl, inr}
use mathlib.Core.List.{List, ◌∷◌}
use Prim.Native.Nat.{ℕ, ◌+◌, ◌*◌, ◌/◌, ◌%◌, ◌^◌, ◌<◌, ◌≤◌}
use native.Mathlib.Omega.{arith}
use native.Mathlib.Numerals.{add-one}
use lib.Dec.{eqb}
use lib.ListN.{length, get_or}
use Rattle.octets.specs.Plain.Numbers.{le}
use Rattle.octets.specs.Working.Stores.{store}
use Rattle.texts.specs.Table.{texts}
use Rattle.texts.proofs.TableStays.{le_at-agree}
use Rattle.passes.specs.Macros.{MacroExpander}
use Rattle.replacing.specs.Slots.{Ref, text, like, Slots, ref_at, among, refer, push_text, push_new, note}
use Rattle.replacing.specs.Sound.{HasRef, Sound}
use Rattle.replacing.proofs.SlotsMean.{or_skip}
use Rattle.expander.specs.declared.Ground.{Ground}
use Rattle.expander.specs.Ground.{size_in, top_of, slot_place, slot_at, key_at, list_at, pushed_text, symbol_in, KeyAt, same_at, text_in, Grounded, Records, KeptAround, Around}
use Rattle.expander.specs.Held.{down, keep_if, any_of, ref_in, ref_by, followed, is_like, is_text, Refers, Held, Off, NotedBy}
use Rattle.expander.proofs.GroundLaws.{keys_slots, slots_top, kept-around, stage_around, texts-around, pushed-around, sound_around}
use Rattle.expander.proofs.RecordsLaws.{key_stays, records_stay}
use Rattle.expander.proofs.SlotsCode.{followed-even, followed-odd, ref_text, ref_like, key_has}
use Rattle.expander.proofs.NoteHeldCode.{slot_long, slot_before, slot_here, slot_other, slot_after, ref_same, key_followed, firsts_then, pile_then, marks_then, held_then}

pub place_room : (s w : List ℕ) (g : Ground) (p : ℕ) → Grounded s w g → p + 9 ≤ size_in g → slot_place g p + 8 ≤ length w
unfolding top_of
place_room s w g p d h = omega (arith, d.top)

-- w1 is w but for records of pushed symbols, of which m are there; the slot of p is written then. What noting is is sound
module _ (s w w1 w2 : List ℕ) (g : Ground) (n c m v p : ℕ) (x : Slots) (d : Grounded s w g) (h : Held s w g n c x) (off : Off p x) (inside : p + 9 ≤ size_in g)
    (long : length w1 ≡ length w) (before : (j : ℕ) → j < n → key_at w1 g j ≡ key_at w g j) (others : (i : ℕ) → (i < g.keys) ⊎ (g.slots ≤ i) → get_or w1 i 0 ≡ get_or w i 0)
    (records : Records s w1 g m) (o : w2 ≡ store w1 (slot_place g p) (le 8 v)) (small : v < 256 ^ 8)
    (σ : MacroExpander) (sound : Sound (symbol_in s w g) (KeyAt s w g) (texts s w g.m) (note (same_at s w g) (text_in s w g) p x) σ) where
  abbrev noted : Slots
  noted = note (same_at s w g) (text_in s w g) p x

  kept-first : KeptAround g w w1
  kept-first = record { long = long; others = λ i a. others i (elim a [ inl b ↦ inl b | inr b ↦ inr (omega (arith, slots_top s w g d)) ]) }

  kept_then : KeptAround g w w2
  kept_then = record { long = slot_long w1 w2 g p v o ∙ long; others = go }
    where
      go : (i : ℕ) → (i < g.keys) ⊎ (top_of g ≤ i) → get_or w2 i 0 ≡ get_or w i 0
      go i (inl a) = slot_before w1 w2 g p v o i (omega (arith, keys_slots s w g d)) ∙ others i (inl a)
      go i (inr a) = slot_after w1 w2 g p v o inside i a ∙ others i (inr (omega (arith, slots_top s w g d)))

  around : Around g w w2
  around = kept-around s w g d w2 kept_then

  first : Around g w w1
  first = kept-around s w g d w1 kept-first

  keys_same : (j : ℕ) → j < size_in g / 9 → key_at w2 g j ≡ key_at w1 g j
  keys_same = key_stays w1 w2 g d.fits (λ i a b. slot_before w1 w2 g p v o i b)

  keys : (j : ℕ) → j < n → key_at w2 g j ≡ key_at w g j
  keys j l = keys_same j (omega (arith, h.records.few)) ∙ before j l

  slots : (q : ℕ) → HasRef q x → slot_at w2 g q ≡ slot_at w g q
  slots q a = slot_other w1 w2 g p v o q (off q a) ∙ le_at-agree 8 w w1 (g.slots + 8 * (q / 9)) (λ i y z. others i (inr (omega arith)))

  list : (i : ℕ) → i < c → list_at w2 g i ≡ list_at w g i
  list i l = let r = h.room in le_at-agree 8 w w2 (g.m.base + 24 * g.m.count + 8 * i) (λ j y z. kept_then.others j (inl (omega arith)))

  here : slot_at w2 g p ≡ v
  here = slot_here w1 w2 g p v o (rw long (place_room s w g p d inside)) small

  marked : (k : ℕ) → k < g.m.count → (pushed_text w2 g k || any_of (λ q. is_text k (ref_in w2 g q)) (down (key_at w2 g) n)) ≡ among k x.marks
  marked = marks_then s w w2 g n c x h keys slots list (pushed-around s w w2 g d around)

  still : Records s w2 g m
  still = records_stay s w1 w2 g m d.few d.fits (λ i a b. slot_before w1 w2 g p v o i b)
      (stage_around s w w2 g d around ∙ sym (stage_around s w w1 g d first)) (texts-around s w w2 g d around ∙ sym (texts-around s w w1 g d first)) records

  sound_as : (y : Slots) → noted ≡ y → Sound (symbol_in s w2 g) (KeyAt s w2 g) (texts s w2 g.m) y σ
  sound_as y e = sound_around s w w2 g d around y σ (subst (λ (u : Slots). Sound (symbol_in s w g) (KeyAt s w g) (texts s w g.m) u σ) e sound)

  noted_as : (y : Slots) (r : ℕ) → noted ≡ y → n ≤ r → r ≤ n + 1 → Held s w2 g r c y → NotedBy s w g n c p x r w2
  noted_as y r e l b k = record { held = subst (Held s w2 g r c) (sym e) k; kept = kept_then; most = b; least = l }

  -- ---- what p refers to then
  in_even : (k : ℕ) → v ≡ 2 * k → k < g.m.count → ref_in w2 g p ≡ text k
  unfolding ref_in
  in_even k e l =
      let z : v / 2 ≡ k = omega arith in
      ap (λ (u : ℕ). ref_by w2 g (followed w2 g u)) here ∙ ap (ref_by w2 g) (followed-even w2 g v (omega arith)) ∙ ref_text w2 g v (omega arith) (omega arith) ∙ ap text z

  in_found : (j : ℕ) → v ≡ 2 * j + 1 → j < n → ref_in w2 g p ≡ ref_at (key_at w g j) x.refs
  unfolding ref_in
  in_found j e l =
      let z : v / 2 ≡ j = omega arith in
      let a = key_has s w g n c x h j l in
      ap (λ (u : ℕ). ref_by w2 g (followed w2 g u)) here
      ∙ ap (ref_by w2 g) (followed-odd w2 g v (λ b. omega arith) ∙ ap (λ (i : ℕ). slot_at w2 g (key_at w2 g i)) z ∙ ap (slot_at w2 g) (keys j l) ∙ slots (key_at w g j) a)
      ∙ ref_same s w w2 g n c x h keys slots list (slot_at w g (key_at w g j)) (h.refers (key_at w g j) a)
      ∙ ap (ref_by w g) (sym (key_followed s w w2 g n c x h keys slots list j l))
      ∙ h.refs (key_at w g j) a

  in_own : v ≡ 2 * n + 1 → key_at w2 g n ≡ p → ref_in w2 g p ≡ like p
  unfolding ref_in
  in_own e k =
      let z : v / 2 ≡ n = omega arith in
      let y : key_at w2 g (v / 2) ≡ p = ap (key_at w2 g) z ∙ k in
      ap (λ (u : ℕ). ref_by w2 g (followed w2 g u)) here
      ∙ ap (ref_by w2 g) (followed-odd w2 g v (λ b. omega arith) ∙ ap (slot_at w2 g) y ∙ here)
      ∙ ref_like w2 g v (λ b. omega arith) ∙ ap like y

  -- ---- a reference more
  refer-by : m ≡ n → (ρ : Ref) → ref_in w2 g p ≡ ρ → Refers n (g.m.count + c) v → noted ≡ refer p ρ x → NotedBy s w g n c p x n w2
  unfolding refer
  refer-by e ρ is r z =
      noted_as (refer p ρ x) n z (omega arith) (omega arith)
      (held_then s w w2 g n c x h keys slots list p v n ρ (refer p ρ x) off inside here is (omega arith) r (λ j a b. absurd (a b)) refl refl
      (rw e at still) (sym (pile_then s w w2 g n c x h keys slots list)) (sym (firsts_then s w w2 g n c x h keys slots list)) (λ k l. sym (marked k l))
      σ (sound_as (refer p ρ x) z))

  -- theorem: to what the j-th pushed symbol refers to
  pub by_found : m ≡ n → (j : ℕ) → v ≡ 2 * j + 1 → j < n → noted ≡ refer p (ref_at (key_at w g j) x.refs) x → NotedBy s w g n c p x n w2
  by_found e j f l = refer-by e (ref_at (key_at w g j) x.refs) (in_found j f l) (record { even = λ b. absurd (omega arith); odd = λ b. omega arith })

  -- theorem: to a text
  pub by_marked : m ≡ n → (k : ℕ) → v ≡ 2 * k → k < g.m.count → noted ≡ refer p (text k) x → NotedBy s w g n c p x n w2
  by_marked e k f l = refer-by e (text k) (in_even k f l) (record { even = λ b. omega arith; odd = λ b. absurd (omega arith) })

  -- ---- a symbol more
  module _ (one : m ≡ n + 1) (room : n < size_in g / 9) (last : key_at w1 g n ≡ p) where
    key_last : key_at w2 g n ≡ p
    key_last = keys_same n room ∙ last

    all : down (key_at w2 g) (n + 1) ≡ p ∷ down (key_at w2 g) n
    unfolding down
    all = rw (add-one n, key_last) refl

    pile_more : p ∷ x.pile ≡ down (key_at w2 g) (n + 1)
    pile_more = ap (λ (l : List ℕ). p ∷ l) (sym (pile_then s w w2 g n c x h keys slots list)) ∙ sym all

    owns : (v % 2 ≡ 1 → v ≡ 2 * n + 1) → (j : ℕ) → (j < n → ⊥) → j < n + 1 → slot_at w2 g (key_at w2 g j) % 2 ≡ 1 → slot_at w2 g (key_at w2 g j) ≡ 2 * j + 1
    owns f j a b =
        let z : j ≡ n = omega (arith, a) in
        let y : slot_at w2 g (key_at w2 g j) ≡ v = ap (λ (i : ℕ). slot_at w2 g (key_at w2 g i)) z ∙ ap (slot_at w2 g) key_last ∙ here in
        λ e. y ∙ f (rw y at e) ∙ ap (λ (i : ℕ). 2 * i + 1) (sym z)

    -- the lists with one more
    keep_text : (k : ℕ) → ref_in w2 g p ≡ text k → x.firsts ≡ keep_if (λ q. is_like (ref_in w2 g q)) (down (key_at w2 g) (n + 1))
    unfolding keep_if is_like
    keep_text k e = rw (all, e) (sym (firsts_then s w w2 g n c x h keys slots list))

    keep_like : ref_in w2 g p ≡ like p → p ∷ x.firsts ≡ keep_if (λ q. is_like (ref_in w2 g q)) (down (key_at w2 g) (n + 1))
    unfolding keep_if is_like
    keep_like e = rw (all, e) (ap (λ (l : List ℕ). p ∷ l) (sym (firsts_then s w w2 g n c x h keys slots list)))

    any-more : (i : ℕ) (ρ : Ref) → ref_in w2 g p ≡ ρ → any_of (λ q. is_text i (ref_in w2 g q)) (down (key_at w2 g) (n + 1)) ≡ (is_text i ρ || any_of (λ q. is_text i (ref_in w2 g q)) (down (key_at w2 g) n))
    unfolding any_of
    any-more i ρ e = ap (any_of (λ q. is_text i (ref_in w2 g q))) all ∙ rw e refl

    marks_more : (i : ℕ) (ρ : Ref) → ref_in w2 g p ≡ ρ → i < g.m.count → (is_text i ρ || among i x.marks) ≡ (pushed_text w2 g i || any_of (λ q. is_text i (ref_in w2 g q)) (down (key_at w2 g) (n + 1)))
    marks_more i ρ e l =
        ap (λ (b : Bool). is_text i ρ || b) (sym (marked i l)) ∙ or_skip (is_text i ρ) (pushed_text w2 g i) (any_of (λ q. is_text i (ref_in w2 g q)) (down (key_at w2 g) n))
        ∙ ap (λ (b : Bool). pushed_text w2 g i || b) (sym (any-more i ρ e))

    mark-text : (i k : ℕ) → among i (k ∷ x.marks) ≡ (is_text i (text k) || among i x.marks)
    unfolding among is_text
    mark-text i k = go (eqb k i)
      where
        go : (b : Bool) → cond b true (among i x.marks) ≡ (b || among i x.marks)
        go true = refl
        go false = refl

    mark_like : (i : ℕ) → among i x.marks ≡ (is_text i (like p) || among i x.marks)
    unfolding is_text
    mark_like i = refl

    -- theorem: its print is the text k
    pub by_text : (k : ℕ) → v ≡ 2 * k → k < g.m.count → noted ≡ push_text p k x → NotedBy s w g n c p x (n + 1) w2
    unfolding push_text
    by_text k e l z =
        let is = in_even k e l in
        noted_as (push_text p k x) (n + 1) z (omega arith) (omega arith)
        (held_then s w w2 g n c x h keys slots list p v (n + 1) (text k) (push_text p k x) off inside here is (omega arith)
        (record { even = λ a. omega arith; odd = λ a. absurd (omega arith) }) (owns (λ a. absurd (omega arith))) refl refl
        (rw one at still) pile_more (keep_text k is) (λ i b. mark-text i k ∙ marks_more i (text k) is b) σ (sound_as (push_text p k x) z))

    -- theorem: its print is new
    pub by_new : v ≡ 2 * n + 1 → noted ≡ push_new p x → NotedBy s w g n c p x (n + 1) w2
    unfolding push_new
    by_new e z =
        let is = in_own e key_last in
        noted_as (push_new p x) (n + 1) z (omega arith) (omega arith)
        (held_then s w w2 g n c x h keys slots list p v (n + 1) (like p) (push_new p x) off inside here is (omega arith)
        (record { even = λ a. absurd (omega arith); odd = λ a. omega arith }) (owns (λ a. e)) refl refl
        (rw one at still) pile_more (keep_like is) (λ i b. mark_like i ∙ marks_more i (like p) is b) σ (sound_as (push_new p x) z))
