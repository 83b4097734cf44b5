-- What is held names the symbols that have references; and names stay where only other bytes change. Assumes nothing.
use mathlib.Core.Path.{◌≡◌, refl, sym, ap, ◌∙◌, subst}
use mathlib.Core.Bool.{Bool, true, false, cond, false≢true}
use mathlib.Core.Logic.{inl}
use mathlib.Core.List.{List, [], ◌∷◌, ◌++◌, map}
use Prim.Native.Nat.{ℕ, zero, suc, ◌+◌, ◌-◌, ◌/◌, ◌%◌, ◌<◌, ◌≤◌}
use native.Mathlib.Omega.{arith}
use borrow.Author.Tests.{eqb-true, eqb-false, ltb-true, ltb-false}
use lib.Dec.{eqb, ltb}
use lib.ListN.{length, get_or}
use Rattle.parse_tree.specs.Plain.Tree.{Text}
use Rattle.parse_tree.specs.Plain.Texts.{has, distinct}
use Rattle.texts.specs.Table.{Above, Agree, texts}
use Rattle.texts.proofs.TableStays.{le_at-agree}
use Rattle.replacing.specs.Prints.{print_at}
use Rattle.replacing.specs.Slots.{Ref, like, Slots, among}
use Rattle.replacing.specs.Sound.{HasRef, Good}
use Rattle.replacing.proofs.SlotsMean.{among-here, among_later}
use Rattle.replacing.proofs.Closing.{among-each}
use Rattle.replacing.proofs.NumbersMean.{has-append, firsts_one, news_out, ref_good}
use Rattle.expander.specs.declared.Ground.{Ground}
use Rattle.expander.specs.Ground.{stage_in, top_of, slot_place, slot_at, key_at, list_place, list_at, new_at, symbol_in, printed_at, KeyAt, Grounded}
use Rattle.expander.specs.Held.{down, keep_if, followed, ref_by, ref_in, is_like, Held}
use Rattle.expander.specs.Stage.{WroteOnly}
use Rattle.expander.specs.Names.{named_in, Names, SomeNamed}
use Rattle.expander.proofs.GroundLaws.{list_keys, keys_slots, slots_top}
use Rattle.expander.proofs.HeldLists.{among_none}
use Rattle.expander.proofs.RecordsLaws.{key_stays, records_stay}
use Rattle.expander.proofs.SlotsCode.{followed-odd, ref_text, ref_new, ref_like, half_below, half_slot, place_inside, key_has, followed-refers}
use Rattle.expander.proofs.HeldStays.{Between, between-wrote, stage_wrote, texts-wrote, grounded_wrote}
use Rattle.expander.proofs.NamesStay.{named_stay, names_stay}
use Rattle.expander.proofs.NamedTexts.{length_named, named-found, named_new, described_even, new_prints}

-- those of a list that pass a test are among the kept
among-kept : (f : ℕ → Bool) (k : ℕ → ℕ) (n j : ℕ) → j < n → f (k j) ≡ true → among (k j) (keep_if f (down k n)) ≡ true
unfolding down keep_if
among-kept f k zero j l e = absurd (omega arith)
among-kept f k (suc n) j l e = go (eqb j n) refl (f (k n)) refl (among-kept f k n j)
  where
    go : (a : Bool) → eqb j n ≡ a → (b : Bool) → f (k n) ≡ b → (j < n → f (k j) ≡ true → among (k j) (keep_if f (down k n)) ≡ true) → among (k j) (cond b (k n ∷ keep_if f (down k n)) (keep_if f (down k n))) ≡ true
    go true x true y r = subst (λ (i : ℕ). among (k j) (k i ∷ keep_if f (down k n)) ≡ true) (eqb-true j n x) (among-here (k j) (keep_if f (down k n)))
    go true x false y r = absurd (false≢true (sym y ∙ ap (λ (i : ℕ). f (k i)) (sym (eqb-true j n x)) ∙ e))
    go false x true y r = let z = eqb-false j n x in among_later (k j) (k n) (keep_if f (down k n)) (r (omega arith) e)
    go false x false y r = let z = eqb-false j n x in r (omega arith) e

-- ---- what is held names
module _ (s w : List ℕ) (g : Ground) (G : Grounded s w g) (n c : ℕ) (x : Slots) (h : Held s w g n c x) where
  abbrev pr : ℕ → Text
  pr p = printed_at s w g p

  abbrev ts : List Text
  ts = texts s w g.m

  named-is : named_in s w g c ≡ ts ++ map pr x.news
  unfolding named_in
  named-is = ap (λ (us : List Text). ts ++ us) (new_prints s w g c (λ i l. (h.entries i l).0) ∙ ap (map pr) (sym h.news))

  good : (p : ℕ) → HasRef p x → (v : ℕ) → v ≡ followed w g (slot_at w g p) → Good (symbol_in s w g) (KeyAt s w g) ts x.firsts p (ref_by w g v)
  unfolding ref_in
  good p i v e =
      subst (λ (r : Ref). Good (symbol_in s w g) (KeyAt s w g) ts x.firsts p r) (sym (h.refs p i) ∙ ap (ref_by w g) (sym e))
      (ref_good (symbol_in s w g) (KeyAt s w g) ts G.distinct-texts x.firsts p x.refs h.sound.refs i)

  -- a number: of a text that was found, or of a new one
  text_named : (p : ℕ) → HasRef p x → (v : ℕ) → v ≡ followed w g (slot_at w g p) → v % 2 ≡ 0 → (v / 2 < length (named_in s w g c)) × (get_or (named_in s w g c) (v / 2) [] ≡ pr p)
  unfolding print_at new_at
  text_named p i v e z = (omega (arith, below, length_named s w g c), go (ltb (v / 2) g.m.count) refl (good p i v e))
    where
      below : v / 2 < g.m.count + c
      below = (rw (← e) at (followed-refers s w g n c x h p i)).even z

      go : (b : Bool) → ltb (v / 2) g.m.count ≡ b → Good (symbol_in s w g) (KeyAt s w g) ts x.firsts p (ref_by w g v) → get_or (named_in s w g c) (v / 2) [] ≡ pr p
      go true d f =
          let l = ltb-true (v / 2) g.m.count d in
          named-found s w g c (v / 2) l ∙ (rw (ref_text w g v z l) at f).1
      go false d f =
          let l = ltb-false (v / 2) g.m.count d in
          let k = v / 2 - g.m.count in
          let m : k < c = omega (arith, below) in
          named_new s w g c (v / 2) l below ∙ described_even s w g (list_at w g k) (h.entries k m).0 ∙ (rw (ref_new w g v z l) at f).0

  -- none: then it is a first one's print, and no text is
  first_named : (p : ℕ) → HasRef p x → (v : ℕ) → v ≡ followed w g (slot_at w g p) → (v % 2 ≡ 0 → ⊥) → (v / 2 < n) × (pr (key_at w g (v / 2)) ≡ pr p) × (has (pr p) (named_in s w g c) ≡ false)
  unfolding print_at
  first_named p i v e o = (half_below w g n (g.m.count + c) p (h.refers p i) h.own v e o, f.0, rw (named-is, ← f.0, has-append (pr (key_at w g (v / 2))) ts (map pr x.news), known, unnumbered) refl)
    where
      f : Good (symbol_in s w g) (KeyAt s w g) ts x.firsts p (like (key_at w g (v / 2)))
      f = rw (ref_like w g v o) at (good p i v e)

      known : has (pr (key_at w g (v / 2))) ts ≡ false
      known = among-each (λ a. has (pr a) ts ≡ false) (key_at w g (v / 2)) x.firsts h.sound.firsts f.1

      none_yet : among (key_at w g (v / 2)) x.news ≡ false
      none_yet =
          ap (among (key_at w g (v / 2))) h.news
          ∙ among_none (key_at w g (v / 2)) (new_at w g) c (λ k l a. let y = (h.entries k l).2 in let t = ap (slot_at w g) a in let u = half_slot w g n (g.m.count + c) p (h.refers p i) h.own v e o in omega arith)

      unnumbered : has (pr (key_at w g (v / 2))) (map pr x.news) ≡ false
      unnumbered = news_out (symbol_in s w g) (KeyAt s w g) ts G.distinct-texts (key_at w g (v / 2)) x.news x.firsts h.sound.apart h.sound.news f.1 none_yet

  -- a pushed symbol without a number is a first one
  own_first : (j : ℕ) → j < n → slot_at w g (key_at w g j) % 2 ≡ 1 → among (key_at w g j) x.firsts ≡ true
  unfolding ref_in is_like
  own_first j l o =
      let k = h.own j l o in
      let z : slot_at w g (key_at w g j) % 2 ≡ 0 → ⊥ = λ b. omega arith in
      let a : slot_at w g (key_at w g j) / 2 ≡ j = omega arith in
      let f : followed w g (slot_at w g (key_at w g j)) ≡ slot_at w g (key_at w g j) = followed-odd w g (slot_at w g (key_at w g j)) z ∙ ap (λ (i : ℕ). slot_at w g (key_at w g i)) a in
      rw h.firsts (among-kept (λ q. is_like (ref_in w g q)) (key_at w g) n j l (ap is_like (ap (ref_by w g) f ∙ ref_like w g (slot_at w g (key_at w g j)) z)))

  own-unlike : (i j : ℕ) → i < n → j < n → slot_at w g (key_at w g i) % 2 ≡ 1 → slot_at w g (key_at w g j) % 2 ≡ 1 → pr (key_at w g i) ≡ pr (key_at w g j) → i ≡ j
  unfolding print_at
  own-unlike i j k l a b e =
      let z = firsts_one (symbol_in s w g) (KeyAt s w g) ts G.distinct-texts (key_at w g i) (key_at w g j) x.firsts h.sound.apart (own_first i k a) (own_first j l b) e in
      let y = ap (slot_at w g) z in
      omega (arith, h.own i k a, h.own j l b)

  held-distinct : distinct (named_in s w g c) ≡ true
  unfolding print_at
  held-distinct = ap distinct named-is ∙ h.sound.numbers

  -- theorem: all that have references are named
  pub held-names : Names s w g n c (map (λ (r : ℕ × Ref). r.0) x.refs)
  held-names = record {
    records = h.records;
    room = h.room;
    apart = held-distinct;
    entries = λ i l. let (a, b, d) = h.entries i l in (λ _. b, λ z. absurd (omega arith));
    pushed = key_has s w g n c x h;
    inside = h.inside;
    off = h.apart;
    refers = h.refers;
    refs = λ p i. record {
      even = λ z. text_named p i (followed w g (slot_at w g p)) refl z;
      odd = λ z. first_named p i (followed w g (slot_at w g p)) refl (λ y. omega arith);
    };
    own = h.own;
    unlike = own-unlike;
  }

  pub held-named : (p : ℕ) → HasRef p x → SomeNamed s w g n c p
  held-named p i = record { places = map (λ (r : ℕ × Ref). r.0) x.refs; names = held-names; here = i }

-- ---- names stay where neither the list of new texts, the records and the slots nor items and texts changed
module _ (s w w' : List ℕ) (g : Ground) (r : Grounded s w g) (k : Agree w w' (list_place g 0) (top_of g)) (items : stage_in w' g ≡ stage_in w g) (found : texts s w' g.m ≡ texts s w g.m)
    (n c : ℕ) (ps : List ℕ) (h : Names s w g n c ps) where
  print-same : (p : ℕ) → printed_at s w' g p ≡ printed_at s w g p
  print-same p = rw (items, found) refl

  kept : (i : ℕ) → g.keys ≤ i → i < g.slots → get_or w' i 0 ≡ get_or w i 0
  kept i a b = k.agree i (omega (arith, list_keys s w g r)) (omega (arith, slots_top s w g r))

  key_same : (j : ℕ) → j < n → key_at w' g j ≡ key_at w g j
  key_same j l = key_stays w w' g r.fits kept j (omega (arith, h.records.few))

  slot_same : (p : ℕ) → among p ps ≡ true → slot_at w' g p ≡ slot_at w g p
  slot_same p i = le_at-agree 8 w w' (slot_place g p) (λ a x y. k.agree a (omega (arith, list_keys s w g r, keys_slots s w g r)) (omega (arith, place_inside s w g r p (h.inside p i))))

  list_same : (i : ℕ) → i < c → list_at w' g i ≡ list_at w g i
  list_same i l = le_at-agree 8 w w' (list_place g i) (λ a x y. k.agree a (omega arith) (omega (arith, h.room, keys_slots s w g r, slots_top s w g r)))

  pub named-agree : named_in s w' g c ≡ named_in s w g c
  named-agree = named_stay s w w' g n c ps h key_same slot_same print-same found list_same

  pub names_agree : Names s w' g n c ps
  names_agree = names_stay s w w' g n c ps h key_same slot_same print-same found list_same (records_stay s w w' g n r.few r.fits kept items found h.records)

-- ---- bytes from a up to e changed, behind the slots and the items and before the texts, which stand from lim on
module _ (s w w' : List ℕ) (g : Ground) (a e lim : ℕ) (r : Grounded s w g) (top : top_of g ≤ a) (items : g.end ≤ a) (low : e ≤ lim) (above : Above s w g.m lim) (k : Between a e w w') where
  wrote : WroteOnly g a e w w'
  wrote = between-wrote g a e w w' top k (omega (arith, list_keys s w g r, keys_slots s w g r, slots_top s w g r))

  -- theorem: the ground stays
  pub ground_around : Grounded s w' g
  ground_around = grounded_wrote s w w' g a e lim r top items low above wrote

  slots_agree : Agree w w' (list_place g 0) (top_of g)
  slots_agree = record { agree = λ i x y. k.others i (inl (omega arith)) }

  module _ (n c : ℕ) (ps : List ℕ) (h : Names s w g n c ps) where
    -- theorem: the texts by number stay
    pub named-around : named_in s w' g c ≡ named_in s w g c
    named-around = named-agree s w w' g r slots_agree (stage_wrote s w w' g a e lim r top items low above wrote) (texts-wrote s w w' g a e lim r top items low above wrote) n c ps h

    -- theorem: and the names
    pub names_around : Names s w' g n c ps
    names_around = names_agree s w w' g r slots_agree (stage_wrote s w w' g a e lim r top items low above wrote) (texts-wrote s w w' g a e lim r top items low above wrote) n c ps h
