-- Laws of `number`: the number of a symbol's text, and the next one where it has none. Assumes nothing.
use mathlib.Core.Path.{◌≡◌, refl, sym, ap, ◌∙◌, subst}
use mathlib.Core.Bool.{Bool, true, false, cond}
use mathlib.Core.List.{List, map}
use Prim.Native.Nat.{ℕ, ◌+◌, ◌-◌, ◌*◌, ◌/◌, ◌%◌, ◌^◌, ◌<◌, ◌≤◌}
use native.Mathlib.Omega.{arith}
use mir.Syntax.{w64}
use mir.Val.{Fits}
use borrow.Author.Rules.{rules}
use borrow.Author.Tests.{ltb-true, ltb-false}
use lib.Dec.{ltb}
use lib.ListN.{length}
use Rattle.octets.specs.Plain.Numbers.{le}
use Rattle.octets.specs.Working.Stores.{store}
use Rattle.texts.specs.Fields.{mark_at}
use Rattle.texts.specs.Table.{texts}
use Rattle.replacing.specs.Slots.{Ref, text, like, Slots, ref_at, among, place_in, number_new, number_by, numbered}
use Rattle.replacing.specs.Sound.{HasRef, Sound}
use Rattle.replacing.proofs.NumbersMean.{numbered-sound}
use Rattle.expander.specs.declared.Ground.{Ground}
use Rattle.expander.specs.declared.slots.Noted.{Noted}
use Rattle.expander.specs.Ground.{slot_code, slot_place, slot_at, key_at, list_place, new_at, symbol_in, KeyAt, Grounded}
use Rattle.expander.specs.Held.{followed, ref_by, ref_in, Refers, Held, NumberedBy, Numbers}
use Rattle.expander.specs.Names.{SomeNamed, NameRoom, NamesOne}
use Rattle.expander.proofs.GroundLaws.{keys_slots, slots_top}
use Rattle.expander.proofs.HeldLists.{length_upto, among_none, among-upto, place_upto}
use Rattle.expander.proofs.SlotsCode.{named_followable, ref_text, ref_new, ref_like, odd_one, followed-refers, named-slot, named-record, number_fits}
use Rattle.expander.proofs.NamesLaws.{held-names}
use Rattle.expander.proofs.SlotsNextCode.{Next, new_listed}
use Rattle.expander.proofs.SlotsNamesCode.{listed-none, even_named, half_less, next, odd_named}
use Rattle.expander.proofs.SlotsNumberCode.{new_held}

-- ---- `numbered`, by what the reference is
module _ (base p : ℕ) (x : Slots) where
  numbered-text : (k : ℕ) → ref_at p x.refs ≡ text k → numbered base p x ≡ (k, x)
  unfolding numbered number_by
  numbered-text k e = ap (λ (r : Ref). number_by base r x) e

  numbered-known : (q : ℕ) → ref_at p x.refs ≡ like q → among q x.news ≡ true → numbered base p x ≡ (base + place_in q x.news, x)
  unfolding numbered number_by
  numbered-known q e f =
      ap (λ (r : Ref). number_by base r x) e ∙ ap (λ (b : Bool). cond b (base + place_in q x.news, x) (base + length x.news, number_new q x)) f

  numbered-new : (q : ℕ) → ref_at p x.refs ≡ like q → among q x.news ≡ false → numbered base p x ≡ (base + length x.news, number_new q x)
  unfolding numbered number_by
  numbered-new q e f =
      ap (λ (r : Ref). number_by base r x) e ∙ ap (λ (b : Bool). cond b (base + place_in q x.news, x) (base + length x.news, number_new q x)) f

module _ (s w : List ℕ) (g : Ground) (n c p : ℕ) (x : Slots) (h : Held s w g n c x) (i : HasRef p x) (v : ℕ) (e : v ≡ followed w g (slot_at w g p)) where
  ref_is : ref_at p x.refs ≡ ref_by w g v
  unfolding ref_in
  ref_is = sym (h.refs p i) ∙ ap (ref_by w g) (sym e)

  refers : Refers n (g.m.count + c) v
  refers = rw e (followed-refers s w g n c x h p i)

  -- ---- it has a number

  -- the slots of new texts differ
  new_once : (a b : ℕ) → a < c → b < c → new_at w g a ≡ new_at w g b → a ≡ b
  new_once a b k l f = let y = (h.entries a k).2 in let z = (h.entries b l).2 in let t = ap (slot_at w g) f in omega arith

  even_is : v % 2 ≡ 0 → numbered g.m.count p x ≡ (v / 2, x)
  even_is z = go (ltb (v / 2) g.m.count) refl
    where
      go : (b : Bool) → ltb (v / 2) g.m.count ≡ b → numbered g.m.count p x ≡ (v / 2, x)
      go true d = numbered-text g.m.count p x (v / 2) (ref_is ∙ ref_text w g v z (ltb-true (v / 2) g.m.count d))
      go false d =
          let l = ltb-false (v / 2) g.m.count d in
          let k = v / 2 - g.m.count in
          let m : k < c = omega (arith, refers.even z) in
          let f = ap (place_in (new_at w g k)) h.news ∙ place_upto (new_at w g) c k m new_once in
          let t : g.m.count + place_in (new_at w g k) x.news ≡ v / 2 = omega arith in
          numbered-known g.m.count p x (new_at w g k) (ref_is ∙ ref_new w g v z l) (ap (among (new_at w g k)) h.news ∙ among-upto (new_at w g) c k m) ∙ ap (λ (u : ℕ). (u, x)) t

  even_by : v % 2 ≡ 0 → NumberedBy s w g n c p x (record { number = v / 2; count = c }) w
  even_by z = record {
    number = sym (ap (λ (r : ℕ × Slots). r.0) (even_is z));
    held = subst (Held s w g n c) (sym (ap (λ (r : ℕ × Slots). r.1) (even_is z))) h;
    most = omega arith;
    least = omega arith;
    changed = listed-none g w;
  }

  -- ---- it has none
  module _ (o : v % 2 ≡ 0 → ⊥) (q : ℕ) (w' : List ℕ) (k : Next s w g n c (map (λ (r : ℕ × Ref). r.0) x.refs) (v / 2) q w') where
    ref_key : ref_at p x.refs ≡ like q
    ref_key = ref_is ∙ ref_like w g v o ∙ ap like (sym k.key)

    none_yet : among q x.news ≡ false
    none_yet = ap (among q) h.news ∙ among_none q (new_at w g) c (λ a l f. let y = (h.entries a l).2 in let t = ap (slot_at w g) f in let u = k.slot in omega arith)

    new_is : numbered g.m.count p x ≡ (g.m.count + c, number_new q x)
    new_is =
        numbered-new g.m.count p x q ref_key none_yet ∙ ap (λ (l : ℕ). (g.m.count + l, number_new q x)) (ap length h.news ∙ length_upto (new_at w g) c)

    new_sound : Sound (symbol_in s w g) (KeyAt s w g) (texts s w g.m) (number_new q x) h.expander
    new_sound =
        let ts = texts s w g.m in
        subst (λ (a : ℕ × Slots). Sound (symbol_in s w g) (KeyAt s w g) ts a.1 h.expander) (numbered-new (length ts) p x q ref_key none_yet)
        (numbered-sound (symbol_in s w g) (KeyAt s w g) ts k.ground.distinct-texts p x h.expander h.sound i).sound

    new_by : NumberedBy s w g n c p x (record { number = g.m.count + c; count = c + 1 }) w'
    new_by = record {
      number = sym (ap (λ (a : ℕ × Slots). a.0) new_is);
      held = subst (Held s w' g n (c + 1)) (sym (ap (λ (a : ℕ × Slots). a.1) new_is)) (new_held h k new_sound);
      most = omega arith;
      least = omega arith;
      changed = new_listed k;
    }

-- ---- there is room for one more, since it has none
module _ (s w : List ℕ) (g : Ground) (c p : ℕ) (room : NameRoom w g c p) (r : Grounded s w g) (v : ℕ) (e : v ≡ followed w g (slot_at w g p)) (o : v % 2 ≡ 0 → ⊥) where
  more_room : list_place g c + 8 ≤ g.keys
  more_room = room.more (subst (λ (u : ℕ). u % 2 ≡ 1) e (odd_one v o))

  pub list_room : list_place g c + 8 ≤ length w
  list_room = omega (arith, more_room, keys_slots s w g r, slots_top s w g r, r.top)

  pub sum_fits : length w < 2 ^ 64 → Fits w64 (g.m.count + c)
  sum_fits l = number_fits w g c list_room l

  pub next_fits : length w < 2 ^ 64 → Fits w64 (c + 1)
  next_fits l = record { fits = omega (arith, list_room) }

-- ---- `number`
module _ (s w : List ℕ) (g : Ground) (n c p v : ℕ) (e : v ≡ followed w g (slot_at w g p)) where
  pub known_done : v % 2 ≡ 0 → Numbers s w g n c p (record { number = v / 2; count = c }) w
  unfolding Numbers
  known_done z x h i = even_by s w g n c p x h i v e z

  pub known_named : v % 2 ≡ 0 → NamesOne s w g n c p (record { number = v / 2; count = c }) w
  unfolding NamesOne
  known_named z ps h i = even_named s w g n c p v e ps h i z

  module _ (r : Grounded s w g) (o : v % 2 ≡ 0 → ⊥) where
    module _ (room : NameRoom w g c p) (q : ℕ) (m : q ≡ mark_at w g.keys (v / 2)) (w' : List ℕ)
        (d : w' ≡ store (store w (list_place g c) (le 8 (2 * (v / 2)))) (slot_place g q) (le 8 (2 * (g.m.count + c)))) where
      pub numbers_done : Numbers s w g n c p (record { number = g.m.count + c; count = c + 1 }) w'
      unfolding Numbers key_at
      numbers_done x h i = new_by s w g n c p x h i v e o q w' (next s w g n c p v e (map (λ (a : ℕ × Ref). a.0) x.refs) (held-names s w g r n c x h) i o r (more_room s w g c p room r v e o) q m w' d)

      pub names_done : NamesOne s w g n c p (record { number = g.m.count + c; count = c + 1 }) w'
      unfolding NamesOne key_at
      names_done ps h i = odd_named s w g n c p v e ps h i o q w' (next s w g n c p v e ps h i o r (more_room s w g c p room r v e o) q m w' d)

    module _ (k : SomeNamed s w g n c p) where
      below : v / 2 < n
      below = half_less s w g n c p v e k.places k.names k.here o

      pub mark_room : g.keys + 24 * (v / 2) + 24 ≤ length w
      mark_room = named-record s w g n c k.places r k.names (v / 2) below

      pub half_room : 24 * (v / 2) ≤ length w
      half_room = omega (arith, mark_room)

      pub mark_slot_room : (q : ℕ) → q ≡ mark_at w g.keys (v / 2) → slot_place g q + 8 ≤ length w
      unfolding key_at
      mark_slot_room q m = rw m (named-slot s w g n c k.places r k.names (key_at w g (v / 2)) (k.names.pushed (v / 2) below))

-- by what the reference tells
module _ (s w : List ℕ) (g : Ground) (n c p : ℕ) (x : Noted) (e : slot_code x ≡ followed w g (slot_at w g p)) where
  module _ (k : ℕ) (i : x ≡ Noted.Text k) where
    told : 2 * k ≡ followed w g (slot_at w g p)
    told = sym (ap slot_code i) ∙ e

    half : 2 * k / 2 ≡ k
    half = omega arith

    pub text_done : Numbers s w g n c p (record { number = k; count = c }) w
    text_done = subst (λ (h : ℕ). Numbers s w g n c p (record { number = h; count = c }) w) half (known_done s w g n c p (2 * k) told (omega arith))

    pub text_named : NamesOne s w g n c p (record { number = k; count = c }) w
    text_named = subst (λ (h : ℕ). NamesOne s w g n c p (record { number = h; count = c }) w) half (known_named s w g n c p (2 * k) told (omega arith))

  module _ (r : Grounded s w g) (j : ℕ) (i : x ≡ Noted.Pushed j) where
    odd_told : 2 * j + 1 ≡ followed w g (slot_at w g p)
    odd_told = sym (ap slot_code i) ∙ e

    odd_half : (2 * j + 1) / 2 ≡ j
    odd_half = omega arith

    odd : (2 * j + 1) % 2 ≡ 0 → ⊥
    odd z = omega arith

    module _ (room : NameRoom w g c p) where
      pub pushed_list : list_place g c + 8 ≤ length w
      pushed_list = list_room s w g c p room r (2 * j + 1) odd_told odd

      pub pushed_sum : length w < 2 ^ 64 → Fits w64 (g.m.count + c)
      pushed_sum = sum_fits s w g c p room r (2 * j + 1) odd_told odd

      pub pushed_next : length w < 2 ^ 64 → Fits w64 (c + 1)
      pushed_next = next_fits s w g c p room r (2 * j + 1) odd_told odd

      module _ (q : ℕ) (m : q ≡ mark_at w g.keys j) (w' : List ℕ) (d : w' ≡ store (store w (list_place g c) (le 8 (2 * j))) (slot_place g q) (le 8 (2 * (g.m.count + c)))) where
        place_told : q ≡ mark_at w g.keys ((2 * j + 1) / 2)
        place_told = m ∙ ap (mark_at w g.keys) (sym odd_half)

        stored : w' ≡ store (store w (list_place g c) (le 8 (2 * ((2 * j + 1) / 2)))) (slot_place g q) (le 8 (2 * (g.m.count + c)))
        stored = d ∙ ap (λ (h : ℕ). store (store w (list_place g c) (le 8 (2 * h))) (slot_place g q) (le 8 (2 * (g.m.count + c)))) (sym odd_half)

        pub pushed_numbers : Numbers s w g n c p (record { number = g.m.count + c; count = c + 1 }) w'
        pushed_numbers = numbers_done s w g n c p (2 * j + 1) odd_told r odd room q place_told w' stored

        pub pushed_names : NamesOne s w g n c p (record { number = g.m.count + c; count = c + 1 }) w'
        pushed_names = names_done s w g n c p (2 * j + 1) odd_told r odd room q place_told w' stored

    module _ (k : SomeNamed s w g n c p) where
      pub pushed_mark : g.keys + 24 * j + 24 ≤ length w
      pushed_mark = subst (λ (h : ℕ). g.keys + 24 * h + 24 ≤ length w) odd_half (mark_room s w g n c p (2 * j + 1) odd_told r odd k)

      pub pushed_half : 24 * j ≤ length w
      pushed_half = omega (arith, pushed_mark)

      pub pushed_mark_slot : (q : ℕ) → q ≡ mark_at w g.keys j → slot_place g q + 8 ≤ length w
      pushed_mark_slot q m = mark_slot_room s w g n c p (2 * j + 1) odd_told r odd k q (m ∙ ap (mark_at w g.keys) (sym odd_half))

pub ruleset numbering = (rules, named_followable, text_done, text_named, pushed_numbers, pushed_names, pushed_mark, pushed_half, pushed_mark_slot, pushed_list, pushed_sum, pushed_next)
