-- `push_new` and `note`: what they ask of others, and what they leave. Assumes nothing.
use mathlib.Core.Path.{◌≡◌, refl, sym, ◌∙◌}
use mathlib.Core.Bool.{Bool, true, false}
use mathlib.Core.List.{List}
use Prim.Native.Nat.{ℕ, ◌+◌, ◌*◌, ◌/◌, ◌^◌, ◌<◌, ◌≤◌}
use native.Mathlib.Omega.{arith}
use borrow.Author.Rules.{rules}
use lib.ListN.{length, get_or}
use mir.Syntax.{w8, w64}
use mir.Val.{Fits}
use Rattle.octets.specs.Plain.Numbers.{le}
use Rattle.octets.specs.Working.Stores.{store}
use Rattle.std.specs.Prelude.{Option, Some, None}
use Rattle.texts.specs.Table.{texts, Is, Finds}
use Rattle.texts.proofs.TextCode.{length_texts}
use Rattle.parse_tree.specs.Plain.Texts.{has}
use Rattle.replacing.specs.Trees.{enter}
use Rattle.expander.specs.declared.Ground.{Ground}
use Rattle.expander.specs.Ground.{size_in, slot_place, top_of, key_at, pushed_text, symbol_in, printed_at, Grounded}
use Rattle.expander.specs.Held.{Notes}
use Rattle.expander.specs.Meet.{Notable}
use Rattle.expander.specs.Find.{NoneBefore, FindsKey}
use Rattle.expander.specs.Note.{Pushed}
use Rattle.expander.proofs.NoteMeans.{note_found, note_marked, note_pushed, note_new, noted_sound}
use Rattle.expander.proofs.NoteSlotCode.{place_room, by_found, by_marked, by_text, by_new}

module _ (s w : List ℕ) (g : Ground) (n p : ℕ) (d : Grounded s w g) (a : Notable s w g n p) where
  -- ---- what is asked
  note_room : n < size_in g / 9
  note_room = a.room

  pub note_slot : slot_place g p + 8 ≤ length w
  note_slot = place_room s w g p d a.inside

  pub note_slot_pushed : (w1 : List ℕ) → Pushed s w g n p w1 → slot_place g p + 8 ≤ length w1
  note_slot_pushed w1 k = rw k.long note_slot

  count_small : 24 * g.m.count < 256 ^ 8
  count_small = omega (arith, d.table.room, d.short)

  room_small : 24 * (size_in g / 9) < 256 ^ 8
  unfolding top_of
  room_small = omega (arith, d.fits, d.top, d.short)

  text_below : (k : ℕ) → Is (texts s w g.m) (printed_at s w g p) k → k < g.m.count
  unfolding texts
  text_below k i = omega (arith, i.below, length_texts s w g.m.base g.m.count)

  even_small : (k : ℕ) → k < g.m.count → 2 * k < 256 ^ 8
  even_small k l = omega (arith, count_small)

  odd_small : (j : ℕ) → j ≤ n → 2 * j + 1 < 256 ^ 8
  odd_small j l = omega (arith, room_small, note_room)

  pub note_next_fits : Fits w64 (n + 1)
  note_next_fits = record { fits = omega (arith, room_small, note_room) }

  pub note_odd_small : 2 * n + 1 < 2 ^ 64
  note_odd_small = omega (arith, room_small, note_room)

  -- of a text that was found
  module _ (r : Option ℕ) (k : ℕ) (i : Finds (texts s w g.m) (printed_at s w g p) r) (e : r ≡ Some k) where
    pub found_below : k < g.m.count
    unfolding Finds
    found_below = text_below k (rw e at i)

    pub found_small : 2 * k < 2 ^ 64
    found_small = even_small k found_below

  -- of a pushed symbol
  module _ (r : Option ℕ) (j : ℕ) (i : FindsKey s w g n p r) (e : r ≡ Some j) where
    key_below : j < n
    unfolding FindsKey
    key_below = (rw e at i).0

    pub key_odd_small : 2 * j + 1 < 2 ^ 64
    key_odd_small = omega (arith, room_small, note_room, key_below)

  -- or of none
  pub key_none : (r : Option ℕ) → FindsKey s w g n p r → r ≡ None → NoneBefore s w g n p
  unfolding FindsKey
  key_none r i e = rw e at i

  -- ---- what is left
  module _ (bytes : (i : ℕ) → Fits w8 (get_or w i 0)) where
    -- theorem: the j-th pushed symbol prints so
    pub noted_found : (r : Option ℕ) (j : ℕ) (w2 : List ℕ) → FindsKey s w g n p r → r ≡ Some j → w2 ≡ store w (slot_place g p) (le 8 (2 * j + 1)) → Notes s w g n p n w2
    unfolding FindsKey Notes
    noted_found r j w2 i e o c x h off =
        let (l, f) : (j < n) × (printed_at s w g (key_at w g j) ≡ printed_at s w g p) = rw e at i in
        by_found s w w w2 g n c n (2 * j + 1) p x d h off a.inside refl (λ i l. refl) (λ i l. refl) h.records o (odd_small j (omega arith))
        (enter (symbol_in s w g p) h.expander) (noted_sound s w g (λ i. (bytes i).fits) d n c x h p a.key) refl j refl l (note_found s w g (λ i. (bytes i).fits) d n c x h p j l f)

    module _ (no : NoneBefore s w g n p) where
      -- theorem: its text was pushed in an earlier round
      pub noted_marked : (r : Option ℕ) (k : ℕ) (t : Bool) (w2 : List ℕ) → Finds (texts s w g.m) (printed_at s w g p) r → r ≡ Some k → t ≡ pushed_text w g k → t ≡ true
          → w2 ≡ store w (slot_place g p) (le 8 (2 * k)) → Notes s w g n p n w2
      unfolding Finds Notes
      noted_marked r k t w2 i e y b o c x h off =
          let f : Is (texts s w g.m) (printed_at s w g p) k = rw e at i in
          let l = text_below k f in
          by_marked s w w w2 g n c n (2 * k) p x d h off a.inside refl (λ i l. refl) (λ i l. refl) h.records o (even_small k l)
          (enter (symbol_in s w g p) h.expander) (noted_sound s w g (λ i. (bytes i).fits) d n c x h p a.key) refl k refl l (note_marked s w g (λ i. (bytes i).fits) d n c x h p no k f (sym b ∙ y))

      module _ (w1 : List ℕ) (u : Pushed s w g n p w1) where
        -- theorem: it wasn't
        pub noted_text : (r : Option ℕ) (k : ℕ) (t : Bool) (w2 : List ℕ) → Finds (texts s w g.m) (printed_at s w g p) r → r ≡ Some k → t ≡ pushed_text w g k → t ≡ false
            → w2 ≡ store w1 (slot_place g p) (le 8 (2 * k)) → Notes s w g n p (n + 1) w2
        unfolding Finds Notes
        noted_text r k t w2 i e y b o c x h off =
            let f : Is (texts s w g.m) (printed_at s w g p) k = rw e at i in
            let l = text_below k f in
            by_text s w w1 w2 g n c (n + 1) (2 * k) p x d h off a.inside u.long u.before u.others u.records o (even_small k l)
            (enter (symbol_in s w g p) h.expander) (noted_sound s w g (λ i. (bytes i).fits) d n c x h p a.key) refl a.room u.here k refl l
            (note_pushed s w g (λ i. (bytes i).fits) d n c x h p no k f (sym b ∙ y))

        -- theorem: its print is no text
        pub noted_new : (r : Option ℕ) (w2 : List ℕ) → Finds (texts s w g.m) (printed_at s w g p) r → r ≡ None → w2 ≡ store w1 (slot_place g p) (le 8 (2 * n + 1)) → Notes s w g n p (n + 1) w2
        unfolding Finds Notes
        noted_new r w2 i e o c x h off =
            let f : has (printed_at s w g p) (texts s w g.m) ≡ false = rw e at i in
            by_new s w w1 w2 g n c (n + 1) (2 * n + 1) p x d h off a.inside u.long u.before u.others u.records o (odd_small n (omega arith))
            (enter (symbol_in s w g p) h.expander) (noted_sound s w g (λ i. (bytes i).fits) d n c x h p a.key) refl a.room u.here refl
            (note_new s w g (λ i. (bytes i).fits) d n c x h p no f)

pub ruleset noting = (rules, note_slot, note_slot_pushed, note_next_fits, note_odd_small, found_below, found_small, key_odd_small, key_none, noted_found, noted_marked, noted_text, noted_new)
