-- Laws of `number`: the names where a text got the next number. Assumes nothing.
use mathlib.Core.Path.{◌≡◌, refl, sym, ap, ◌∙◌, subst}
use mathlib.Core.Bool.{Bool, true, false}
use mathlib.Core.Logic.{◌⊎◌, inl, inr}
use mathlib.Core.List.{List, [], ◌∷◌, ◌++◌}
use Prim.Native.Nat.{ℕ, ◌+◌, ◌*◌, ◌/◌, ◌%◌, ◌<◌, ◌≤◌}
use native.Mathlib.Omega.{arith}
use borrow.Author.Tests.{eqb-true, eqb-false}
use lib.Dec.{eqb}
use lib.ListN.{length, get_or, get_or-append}
use lib.Seq.{get_or-append_seam}
use Rattle.octets.specs.Plain.Numbers.{le}
use Rattle.octets.specs.Working.Stores.{store}
use Rattle.parse_tree.specs.Plain.Tree.{Text}
use Rattle.parse_tree.specs.Plain.Texts.{has, number, distinct}
use Rattle.parse_tree.proofs.TextLaws.{has-text, number-text, distinct_more}
use Rattle.replacing.specs.Slots.{among}
use Rattle.replacing.proofs.NumbersMean.{new_known, new_unknown}
use Rattle.expander.specs.declared.Ground.{Ground}
use Rattle.expander.specs.Ground.{slot_place, slot_at, key_at, list_place, list_at, printed_at, Grounded}
use Rattle.expander.specs.Held.{followed, Listed}
use Rattle.expander.specs.Names.{described_by, named_in, NameRef, Names, NamedBy}
use Rattle.expander.proofs.GroundLaws.{texts-around, printed_around}
use Rattle.expander.proofs.SlotsCode.{followed-even, followed-odd, odd_one, half_below, half_slot}
use Rattle.expander.proofs.NamedTexts.{has_more, length_named, described_even, named_more, named-same}
use Rattle.expander.proofs.SlotsNextCode.{half, odd_half, twice_even, odd_not, odd_twice, within, Next, key_in, new_listed, around, slot_other, slot_own, list_other, list_own, key_same, new_records, new_refers, was_odd, new_alone, next_room}

-- ---- the j-th pushed symbol, which stands at q and has no number, gets the next one
module _ {s w w' : List ℕ} {g : Ground} {n c : ℕ} {ps : List ℕ} {j q : ℕ} (k : Next s w g n c ps j q w') where
  -- ---- the texts by number: one more
  abbrev ts : List Text
  ts = named_in s w g c

  print-same : (p : ℕ) → printed_at s w' g p ≡ printed_at s w g p
  print-same p = printed_around s w w' g k.ground (around k) p

  key_print : (i : ℕ) → i < n → printed_at s w' g (key_at w' g i) ≡ printed_at s w g (key_at w g i)
  key_print i l = ap (printed_at s w' g) (key_same k i l) ∙ print-same (key_at w g i)

  named-next : named_in s w' g (c + 1) ≡ ts ++ (printed_at s w g q ∷ [])
  named-next =
      named_more s w' g c
      ∙ ap (λ (us : List Text). us ++ (described_by s w' g (list_at w' g c) ∷ [])) (named-same s w w' g c (texts-around s w w' g k.ground (around k)) (list_other k) (λ i l z. key_print (list_at w g i / 2) ((k.names.entries i l).0 z)))
      ∙ ap (λ (t : Text). ts ++ (t ∷ [])) (ap (described_by s w' g) (list_own k) ∙ described_even s w' g (2 * j) (twice_even j) ∙ ap (λ (i : ℕ). printed_at s w' g (key_at w' g i)) (half j) ∙ key_print j k.below ∙ ap (printed_at s w g) (sym k.key))

  own-followed : followed w g (slot_at w g q) ≡ 2 * j + 1
  own-followed =
      ap (followed w g) k.slot ∙ followed-odd w g (2 * j + 1) (odd_not j) ∙ ap (λ (v : ℕ). slot_at w g (key_at w g v)) (odd_half j) ∙ ap (slot_at w g) (sym k.key) ∙ k.slot

  -- no text is its print yet
  unnamed : has (printed_at s w g q) ts ≡ false
  unnamed = ((k.names.refs q (key_in k)).odd (ap (λ (v : ℕ). v % 2) own-followed ∙ (omega arith))).2

  new_apart : distinct (named_in s w' g (c + 1)) ≡ true
  new_apart = ap distinct named-next ∙ distinct_more ts (printed_at s w g q) k.names.apart unnamed

  -- ---- references: one to the j-th record is the next number now, and the others are as they were
  abbrev Refer : ℕ → Type 0
  Refer p =
      ((followed w g (slot_at w g p) ≡ 2 * j + 1) × (followed w' g (slot_at w' g p) ≡ 2 * (g.m.count + c)))
      ⊎ ((followed w g (slot_at w g p) ≡ 2 * j + 1 → ⊥) × (followed w' g (slot_at w' g p) ≡ followed w g (slot_at w g p)))

  own-refer : Refer q
  own-refer = inl (own-followed, followed-even w' g (slot_at w' g q) (ap (λ (v : ℕ). v % 2) (slot_own k) ∙ twice_even (g.m.count + c)) ∙ slot_own k)

  -- the i-th record is the j-th if its slot is
  same_record : (i : ℕ) → i < n → slot_at w g (key_at w g i) ≡ 2 * j + 1 → key_at w g i ≡ q
  same_record i l z =
      let y : i ≡ j = omega (arith, k.names.own i l (omega arith)) in
      ap (key_at w g) y ∙ sym k.key

  refer : (p : ℕ) → among p ps ≡ true → Refer p
  refer p i = go (eqb p q) refl (eqb (slot_at w g p % 2) 0) refl
    where
      by_key : (p ≡ q → ⊥) → (slot_at w g p % 2 ≡ 0 → ⊥) → Refer p
      by_key d z = at (eqb (key_at w g (slot_at w g p / 2)) q) refl
        where
          l : slot_at w g p / 2 < n
          l = (k.names.refers p i).odd (odd_one (slot_at w g p) z)

          old : followed w g (slot_at w g p) ≡ slot_at w g (key_at w g (slot_at w g p / 2))
          old = followed-odd w g (slot_at w g p) z

          new : followed w' g (slot_at w' g p) ≡ slot_at w' g (key_at w g (slot_at w g p / 2))
          new = ap (followed w' g) (slot_other k p i d) ∙ followed-odd w' g (slot_at w g p) z ∙ ap (slot_at w' g) (key_same k (slot_at w g p / 2) l)

          at : (b : Bool) → eqb (key_at w g (slot_at w g p / 2)) q ≡ b → Refer p
          at true e = let y = eqb-true (key_at w g (slot_at w g p / 2)) q e in inl (old ∙ ap (slot_at w g) y ∙ k.slot, new ∙ ap (slot_at w' g) y ∙ slot_own k)
          at false e =
              let y = eqb-false (key_at w g (slot_at w g p / 2)) q e in
              inr (λ t. y (same_record (slot_at w g p / 2) l (sym old ∙ t)), new ∙ slot_other k (key_at w g (slot_at w g p / 2)) (k.names.pushed (slot_at w g p / 2) l) y ∙ sym old)

      go : (a : Bool) → eqb p q ≡ a → (b : Bool) → eqb (slot_at w g p % 2) 0 ≡ b → Refer p
      go true e b d = subst Refer (sym (eqb-true p q e)) own-refer
      go false e true d =
          let z = eqb-true (slot_at w g p % 2) 0 d in
          let f = followed-even w g (slot_at w g p) z in
          inr (λ t. omega arith, ap (followed w' g) (slot_other k p i (eqb-false p q e)) ∙ followed-even w' g (slot_at w g p) z ∙ sym f)
      go false e false d = by_key (eqb-false p q e) (eqb-false (slot_at w g p % 2) 0 d)

  -- the next number is that of the new text
  ref_next : (p : ℕ) → printed_at s w g q ≡ printed_at s w g p → NameRef s w' g n (c + 1) p (2 * (g.m.count + c))
  ref_next p e = record {
    even = λ _. (
      omega (arith, half (g.m.count + c), length_named s w' g (c + 1)),
      ap (λ (us : List Text). get_or us (2 * (g.m.count + c) / 2) []) named-next ∙ ap (λ (i : ℕ). get_or (ts ++ (printed_at s w g q ∷ [])) i []) (half (g.m.count + c) ∙ sym (length_named s w g c))
          ∙ get_or-append_seam ts (printed_at s w g q) [] [] ∙ e ∙ sym (print-same p),
    );
    odd = λ z. absurd (odd_twice (g.m.count + c) z);
  }

  ref_kept : (p : ℕ) → among p ps ≡ true → (v : ℕ) → v ≡ followed w g (slot_at w g p) → (v ≡ 2 * j + 1 → ⊥) → NameRef s w g n c p v → NameRef s w' g n (c + 1) p v
  ref_kept p i v e d f = record {
    even = λ z. let (a, b) = f.even z in (
      omega (arith, length_named s w g c, length_named s w' g (c + 1)),
      ap (λ (us : List Text). get_or us (v / 2) []) named-next ∙ get_or-append ts (printed_at s w g q ∷ []) [] (v / 2) a ∙ b ∙ sym (print-same p),
    );
    odd = λ z. let (a, b, u) = f.odd z in
        (a, key_print (v / 2) a ∙ b ∙ sym (print-same p), rw (print-same p, named-next) (has_more (printed_at s w g p) (printed_at s w g q) ts u (other z a b)));
  }
    where
      other : v % 2 ≡ 1 → v / 2 < n → printed_at s w g (key_at w g (v / 2)) ≡ printed_at s w g p → printed_at s w g q ≡ printed_at s w g p → ⊥
      other z a b t =
          let x = half_slot w g n (g.m.count + c) p (k.names.refers p i) k.names.own v e (λ y. omega arith) in
          let o : slot_at w g (key_at w g j) % 2 ≡ 1 = ap (λ (u : ℕ). u % 2) (ap (slot_at w g) (sym k.key) ∙ k.slot) ∙ (omega arith) in
          let m : v / 2 ≡ j = k.names.unlike (v / 2) j a k.below (omega arith) o (b ∙ sym t ∙ ap (printed_at s w g) k.key) in
          d (omega arith)

  new_refs : (p : ℕ) → among p ps ≡ true → NameRef s w' g n (c + 1) p (followed w' g (slot_at w' g p))
  new_refs p i = go (refer p i)
    where
      go : Refer p → NameRef s w' g n (c + 1) p (followed w' g (slot_at w' g p))
      go (inl (a, b)) =
          let z : followed w g (slot_at w g p) % 2 ≡ 1 = omega arith in
          let y : followed w g (slot_at w g p) / 2 ≡ j = omega arith in
          let t = ((k.names.refs p i).odd z).1 in
          subst (NameRef s w' g n (c + 1) p) (sym b) (ref_next p (ap (printed_at s w g) (k.key ∙ ap (key_at w g) (sym y)) ∙ t))
      go (inr (a, b)) = subst (NameRef s w' g n (c + 1) p) (sym b) (ref_kept p i (followed w g (slot_at w g p)) refl a (k.names.refs p i))

  new_entries : (i : ℕ) → i < c + 1 → (list_at w' g i % 2 ≡ 0 → list_at w' g i / 2 < n) × (list_at w' g i % 2 ≡ 1 → list_at w' g i / 2 < 9)
  new_entries i l = go (eqb i c) refl
    where
      go : (b : Bool) → eqb i c ≡ b → (list_at w' g i % 2 ≡ 0 → list_at w' g i / 2 < n) × (list_at w' g i % 2 ≡ 1 → list_at w' g i / 2 < 9)
      go true e =
          subst (λ (v : ℕ). (list_at w' g v % 2 ≡ 0 → list_at w' g v / 2 < n) × (list_at w' g v % 2 ≡ 1 → list_at w' g v / 2 < 9)) (sym (eqb-true i c e))
          (rw (list_own k) (λ _. omega (arith, half j, k.below), λ z. absurd (odd_twice j z)))
      go false e = let z = within i c l (eqb-false i c e) in rw (list_other k i z) (k.names.entries i z)

  -- theorem: the names then
  new_names : Names s w' g n (c + 1) ps
  new_names = record {
    records = new_records k;
    room = next_room k;
    apart = new_apart;
    entries = new_entries;
    pushed = λ i l. rw (key_same k i l) (k.names.pushed i l);
    inside = k.names.inside;
    off = k.names.off;
    refers = new_refers k;
    refs = new_refs;
    own = new_alone k;
    unlike = λ a b l m y z e. k.names.unlike a b l m (was_odd k a l y) (was_odd k b m z) (sym (key_print a l) ∙ e ∙ key_print b m);
  }

-- nothing changed
pub listed-none : (g : Ground) (w : List ℕ) → Listed g w w
listed-none g w = record { long = refl; others = λ i d. refl }

-- ---- `number`: v is the followed reference of the symbol at p
module _ (s w : List ℕ) (g : Ground) (n c p v : ℕ) (e : v ≡ followed w g (slot_at w g p)) (ps : List ℕ) (h : Names s w g n c ps) (i : among p ps ≡ true) where
  ref_here : NameRef s w g n c p v
  ref_here = rw e (h.refs p i)

  -- it has a number
  pub even_named : v % 2 ≡ 0 → NamedBy s w g n c p ps (record { number = v / 2; count = c }) w
  even_named z =
      let (a, b) = ref_here.even z in
      record {
        is = sym (ap (number (named_in s w g c)) (sym b) ∙ number-text (named_in s w g c) (v / 2) h.apart a);
        texts-are = sym (new_known (named_in s w g c) (printed_at s w g p) (rw (← b) (has-text (named_in s w g c) (v / 2) a)));
        names = h;
        changed = listed-none g w;
        most = omega arith;
        least = omega arith;
      }

  module _ (o : v % 2 ≡ 0 → ⊥) where
    pub half_less : v / 2 < n
    half_less = half_below w g n (g.m.count + c) p (h.refers p i) h.own v e o

    -- it has none: then it gets the next one
    pub next : Grounded s w g → list_place g c + 8 ≤ g.keys → (q : ℕ) → q ≡ key_at w g (v / 2) → (w' : List ℕ)
        → w' ≡ store (store w (list_place g c) (le 8 (2 * (v / 2)))) (slot_place g q) (le 8 (2 * (g.m.count + c))) → Next s w g n c ps (v / 2) q w'
    next r room q m w' d = record {
      ground = r;
      names = h;
      room = room;
      below = half_less;
      key = m;
      slot = ap (slot_at w g) m ∙ half_slot w g n (g.m.count + c) p (h.refers p i) h.own v e o;
      stored = d;
    }

    pub odd_named : (q : ℕ) (w' : List ℕ) → Next s w g n c ps (v / 2) q w' → NamedBy s w g n c p ps (record { number = g.m.count + c; count = c + 1 }) w'
    odd_named q w' k =
        let (a, b, u) = ref_here.odd (odd_one v o) in
        let same : printed_at s w g q ≡ printed_at s w g p = ap (printed_at s w g) k.key ∙ b in
        let f = named-next k ∙ ap (λ (t : Text). named_in s w g c ++ (t ∷ [])) same in
        let l : g.m.count + c < length (named_in s w' g (c + 1)) = omega (arith, length_named s w' g (c + 1)) in
        let t : get_or (named_in s w' g (c + 1)) (g.m.count + c) [] ≡ printed_at s w g p
        = ap (λ (us : List Text). get_or us (g.m.count + c) []) f ∙ ap (λ (m : ℕ). get_or (named_in s w g c ++ (printed_at s w g p ∷ [])) m []) (sym (length_named s w g c))
        ∙ get_or-append_seam (named_in s w g c) (printed_at s w g p) [] [] in
        record {
          is = sym (ap (number (named_in s w' g (c + 1))) (sym t) ∙ number-text (named_in s w' g (c + 1)) (g.m.count + c) (new_apart k) l);
          texts-are = f ∙ sym (new_unknown (named_in s w g c) (printed_at s w g p) u);
          names = new_names k;
          changed = new_listed k;
          most = omega arith;
          least = omega arith;
        }
