-- What `built` gives: a number that was given, that of a text which the table has, or the next one. Assumes nothing.
use mathlib.Core.Path.{◌≡◌, refl, sym, ap, ◌∙◌}
use mathlib.Core.Bool.{Bool, true, false, false≢true}
use mathlib.Core.Logic.{◌⊎◌, inl, inr}
use mathlib.Core.List.{List, [], ◌∷◌, ◌++◌, append-nil}
use Prim.Native.Nat.{ℕ, ◌+◌, ◌-◌, ◌*◌, ◌/◌, ◌%◌, ◌^◌, ◌<◌, ◌≤◌}
use native.Mathlib.Omega.{arith}
use borrow.Author.Tests.{eqb-true, eqb-false, ltb-true, ltb-false}
use lib.Dec.{eqb, ltb}
use lib.ListN.{length, get_or}
use lib.Seq.{get_or-append_seam}
use Rattle.octets.specs.Plain.Numbers.{le_at, le}
use Rattle.octets.specs.Working.Stores.{store}
use Rattle.octets.proofs.NumbersLaws.{length-le}
use Rattle.octets.proofs.StoreLaws.{length_store, get_d_store_before, get_d_store_after, le_at-other, le_at-same}
use Rattle.parse_tree.specs.Plain.Tree.{Text}
use Rattle.parse_tree.specs.Plain.Texts.{has, number, distinct, with_new}
use Rattle.parse_tree.proofs.TextLaws.{has-text, number-text, distinct_more}
use Rattle.texts.specs.Table.{Is, texts}
use Rattle.texts.proofs.TextCode.{length_texts}
use Rattle.laws.specs.Keys.{built_ins}
use Rattle.replacing.proofs.NumbersMean.{new_known, new_unknown}
use Rattle.expander.specs.declared.Ground.{Ground}
use Rattle.expander.specs.Ground.{key_at, list_place, list_at, printed_at, Grounded, Around}
use Rattle.expander.specs.Names.{described_by, named_in, Names}
use Rattle.expander.proofs.GroundLaws.{keys_slots, slots_top, texts-around}
use Rattle.expander.proofs.NamedTexts.{has_more, length_named, named-found, named_more}
use Rattle.appending.specs.Built.{built_text, built_place, built_at, BuiltIs, BuiltNot, Built, Gives}
use Rattle.appending.proofs.BuiltStays.{is_stays, not_stays}
use Rattle.appending.proofs.BuiltLaws.{built_has, built_one}
use Rattle.appending.proofs.BuiltRoom.{described_built, built_absent, built_room}
use Rattle.appending.proofs.BuiltNames.{Worded, around, key_same, key_print, list_same, named-kept, named_then}

pub length_found : (s w : List ℕ) (g : Ground) → length (texts s w g.m) ≡ g.m.count
unfolding texts
length_found s w g = length_texts s w g.m.base g.m.count

list_long : (g : Ground) (c : ℕ) → g.m.count + c ≤ list_place g c
list_long g c = omega arith

list_room : (g : Ground) (c : ℕ) → list_place g c + 8 ≤ g.keys → list_place g (c + 1) ≤ g.keys
list_room g c l = omega arith

module _ (s w : List ℕ) (g : Ground) (n c : ℕ) (ps : List ℕ) (e : Grounded s w g) (h : Names s w g n c ps) (b : Built s w g n c) (i : ℕ) (l : i < 9) where
  -- ---- the i-th has a number
  pub given : (k : ℕ) → BuiltIs s w g c i k → Gives s w g n c ps (built_text i) (record { number = k; count = c }) w
  given k x = record {
    is = sym (ap (number (named_in s w g c)) (sym x.is) ∙ number-text (named_in s w g c) k h.apart x.below);
    texts-are = sym (new_known (named_in s w g c) (built_text i) (rw (← x.is) (has-text (named_in s w g c) k x.below)));
    names = h;
    built = b;
    pile = λ _ _. refl;
    around = record { long = refl; others = λ _ _. refl };
  }

  -- ---- it gets the number k
  module _ (w' : List ℕ) (d : Worded g c w w') (k c' : ℕ) (own : built_at w' g i ≡ k + 1) (rest : (j : ℕ) → j < 9 → (j ≡ i → ⊥) → built_at w' g j ≡ built_at w g j)
      (below : k < length (named_in s w' g c')) (is : get_or (named_in s w' g c') k [] ≡ built_text i) (names : Names s w' g n c' ps)
      (named : named_in s w' g c' ≡ with_new (named_in s w g c) (built_text i ∷ [])) where
    abbrev nearby : Around g w w'
    nearby = around s w w' g n c ps e h b d

    words_then : (j : ℕ) → j < 9 → BuiltNot s w' g c' j ⊎ ((q : ℕ) × BuiltIs s w' g c' j q)
    words_then j m = go (eqb j i) refl (b.words j m)
      where
        go : (x : Bool) → eqb j i ≡ x → BuiltNot s w g c j ⊎ ((q : ℕ) × BuiltIs s w g c j q) → BuiltNot s w' g c' j ⊎ ((q : ℕ) × BuiltIs s w' g c' j q)
        go true z y = let a = eqb-true j i z in inr (k, rw a (record { word = own; below = below; is = is }))
        go false z (inl y) =
            let a = eqb-false j i z in
            inl (not_stays s w w' g c c' (built_text i) (texts-around s w w' g e nearby) named j (rest j m a) (λ _ u. a (sym (built_one i j l m u))) y)
        go false z (inr (q, y)) = let a = eqb-false j i z in inr (q, is_stays s w w' g c c' (built_text i) (texts-around s w w' g e nearby) named j q (rest j m a) y)

    gives : Gives s w g n c ps (built_text i) (record { number = k; count = c' }) w'
    gives = record {
      is = sym (ap (number (named_in s w' g c')) (sym is) ∙ number-text (named_in s w' g c') k names.apart below);
      texts-are = named;
      names = names;
      built = record {
        room = b.room;
        heads = b.heads;
        list = b.list;
        other = λ j m. ap (λ (t : Text). has t built_ins) (key_print s w w' g n c ps e h b d j m) ∙ b.other j m;
        words = words_then;
      };
      pile = key_same s w w' g n c ps e h b d;
      around = nearby;
    }

  -- ---- where the words stand
  pub word_from : (j : ℕ) → g.keys ≤ built_place g j
  word_from j = omega (arith, e.fits, b.room)

  word_start : (j : ℕ) → g.slots - 72 ≤ built_place g j
  word_start j = omega arith

  pub word_end : (j : ℕ) → j < 9 → built_place g j + 8 ≤ g.slots
  word_end j m = omega (arith, e.fits, b.room)

  pub word_inside : (j : ℕ) → j < 9 → built_place g j + 8 ≤ length w
  word_inside j m = omega (arith, word_end j m, slots_top s w g e, e.top)

  word_beside : (j : ℕ) → (j ≡ i → ⊥) → (built_place g j + 8 ≤ built_place g i) ⊎ (built_place g i + 8 ≤ built_place g j)
  word_beside j d = go (ltb j i) refl
    where
      go : (x : Bool) → ltb j i ≡ x → (g.slots - 72 + 8 * j + 8 ≤ g.slots - 72 + 8 * i) ⊎ (g.slots - 72 + 8 * i + 8 ≤ g.slots - 72 + 8 * j)
      go true z = let a = ltb-true j i z in inl (omega arith)
      go false z = let a = ltb-false j i z in inr (omega arith)

  -- a word that is stored
  stored_other : (u : List ℕ) (v : ℕ) (q : ℕ) → (q < g.slots - 72) ⊎ (g.slots ≤ q) → get_or (store u (built_place g i) (le 8 v)) q 0 ≡ get_or u q 0
  stored_other u v q (inl m) = get_d_store_before u (built_place g i) (le 8 v) q (omega (arith, word_start i))
  stored_other u v q (inr m) = get_d_store_after u (built_place g i) (le 8 v) q (omega (arith, length-le 8 v, word_end i l))

  stored_rest : (u : List ℕ) (v j : ℕ) → (j ≡ i → ⊥) → built_at (store u (built_place g i) (le 8 v)) g j ≡ built_at u g j
  stored_rest u v j d = le_at-other 8 u (built_place g i) (le 8 v) (built_place g j) (go (word_beside j d))
    where
      go : (built_place g j + 8 ≤ built_place g i) ⊎ (built_place g i + 8 ≤ built_place g j) → (built_place g j + 8 ≤ built_place g i) ⊎ (built_place g i + length (le 8 v) ≤ built_place g j)
      go (inl x) = inl x
      go (inr x) = inr (omega (arith, length-le 8 v))

  stored_own : (u : List ℕ) (v : ℕ) → length u ≡ length w → v < 256 ^ 8 → built_at (store u (built_place g i) (le 8 v)) g i ≡ v
  stored_own u v m k = le_at-same 8 u (built_place g i) v (omega (arith, word_inside i l)) k

  words_behind : g.keys ≤ g.slots - 72
  words_behind = omega (arith, e.fits, b.room)

  -- ---- the table has it as number k
  module _ (k : ℕ) (x : Is (texts s w g.m) (built_text i) k) (w' : List ℕ) (stored : w' ≡ store w (built_place g i) (le 8 (k + 1))) where
    found_less : k < g.m.count
    found_less = omega (arith, x.below, length_found s w g)

    found_worded : Worded g c w w'
    found_worded = rw stored (record { long = length_store w (built_place g i) (le 8 (k + 1)); others = λ q y. stored_other w (k + 1) q (go q y) })
      where
        go : (q : ℕ) → (q < list_place g c) ⊎ ((g.keys ≤ q) × (q < g.slots - 72)) ⊎ (g.slots ≤ q) → (q < g.slots - 72) ⊎ (g.slots ≤ q)
        go q (inl m) = inl (omega (arith, h.room, words_behind))
        go q (inr (inl m)) = inl m.1
        go q (inr (inr m)) = inr m

    found_kept : named_in s w' g c ≡ named_in s w g c
    found_kept = named-kept s w w' g n c ps e h b found_worded

    found_below : k < length (named_in s w g c)
    found_below = omega (arith, found_less, length_named s w g c)

    found_is : get_or (named_in s w g c) k [] ≡ built_text i
    found_is = named-found s w g c k found_less ∙ x.text

    found_names : Names s w' g n c ps
    unfolding has
    found_names =
        named_then s w w' g n c ps e h b found_worded c [] (omega arith) h.room (found_kept ∙ sym (append-nil (named_in s w g c))) (ap distinct found_kept ∙ h.apart)
        (λ j m. rw (list_same s w w' g n c ps e h b found_worded j m) (h.entries j m)) (λ _ _. refl)

    -- theorem: that is its number
    pub found_gives : Gives s w g n c ps (built_text i) (record { number = k; count = c }) w'
    found_gives =
        gives w' found_worded k c
        (ap (λ (u : List ℕ). built_at u g i) stored ∙ stored_own w (k + 1) refl (omega (arith, found_less, e.records, keys_slots s w g e, slots_top s w g e, e.top, e.short)))
        (λ j m d. ap (λ (u : List ℕ). built_at u g j) stored ∙ stored_rest w (k + 1) j d) (rw found_kept found_below) (ap (λ (ts : List Text). get_or ts k []) found_kept ∙ found_is) found_names
        (found_kept ∙ sym (new_known (named_in s w g c) (built_text i) (ap (λ (t : Text). has t (named_in s w g c)) (sym found_is) ∙ has-text (named_in s w g c) k found_below)))

  -- ---- it is no text yet
  module _ (x : BuiltNot s w g c i) (absent : has (built_text i) (texts s w g.m) ≡ false) (w' : List ℕ)
      (stored : w' ≡ store (store w (list_place g c) (le 8 (2 * i + 1))) (built_place g i) (le 8 (g.m.count + c + 1))) where
    abbrev w1 : List ℕ
    w1 = store w (list_place g c) (le 8 (2 * i + 1))

    abbrev ts : List Text
    ts = named_in s w g c

    room : list_place g c + 8 ≤ g.keys
    room = built_room s w g n c i x absent ps h b l

    next_worded : Worded g c w w'
    next_worded = rw stored (record { long = length_store w1 (built_place g i) (le 8 (g.m.count + c + 1)) ∙ length_store w (list_place g c) (le 8 (2 * i + 1)); others = go })
      where
        behind : (q : ℕ) → g.keys ≤ q → get_or w1 q 0 ≡ get_or w q 0
        behind q m = get_d_store_after w (list_place g c) (le 8 (2 * i + 1)) q (omega (arith, room, length-le 8 (2 * i + 1)))

        go : (q : ℕ) → (q < list_place g c) ⊎ ((g.keys ≤ q) × (q < g.slots - 72)) ⊎ (g.slots ≤ q) → get_or (store w1 (built_place g i) (le 8 (g.m.count + c + 1))) q 0 ≡ get_or w q 0
        go q (inl m) = stored_other w1 (g.m.count + c + 1) q (inl (omega (arith, room, words_behind))) ∙ get_d_store_before w (list_place g c) (le 8 (2 * i + 1)) q m
        go q (inr (inl m)) = stored_other w1 (g.m.count + c + 1) q (inl m.1) ∙ behind q m.0
        go q (inr (inr m)) = stored_other w1 (g.m.count + c + 1) q (inr m) ∙ behind q (omega (arith, keys_slots s w g e))

    next_own : built_at w' g i ≡ g.m.count + c + 1
    next_own =
        ap (λ (u : List ℕ). built_at u g i) stored
        ∙ stored_own w1 (g.m.count + c + 1) (length_store w (list_place g c) (le 8 (2 * i + 1))) number_small
      where
        number_small : g.m.count + c + 1 < 256 ^ 8
        number_small = omega (arith, list_long g c, room, keys_slots s w g e, slots_top s w g e, e.top, e.short)

    next_rest : (j : ℕ) → j < 9 → (j ≡ i → ⊥) → built_at w' g j ≡ built_at w g j
    next_rest j m d =
        ap (λ (u : List ℕ). built_at u g j) stored ∙ stored_rest w1 (g.m.count + c + 1) j d
        ∙ le_at-other 8 w (list_place g c) (le 8 (2 * i + 1)) (built_place g j) (inr (omega (arith, room, length-le 8 (2 * i + 1), word_from j)))

    list_own : list_at w' g c ≡ 2 * i + 1
    list_own =
        ap (λ (u : List ℕ). le_at 8 u (list_place g c)) stored
        ∙ le_at-other 8 w1 (built_place g i) (le 8 (g.m.count + c + 1)) (list_place g c) (inl (omega (arith, room, word_from i)))
        ∙ le_at-same 8 w (list_place g c) (2 * i + 1) (omega (arith, room, keys_slots s w g e, slots_top s w g e, e.top)) (omega arith)

    next_named : named_in s w' g (c + 1) ≡ ts ++ (built_text i ∷ [])
    next_named =
        named_more s w' g c
        ∙ ap (λ (us : List Text). us ++ (described_by s w' g (list_at w' g c) ∷ [])) (named-kept s w w' g n c ps e h b next_worded)
        ∙ ap (λ (t : Text). ts ++ (t ∷ [])) (ap (described_by s w' g) list_own ∙ described_built s w' g i)

    next_absent : has (built_text i) ts ≡ false
    next_absent = built_absent s w g n c i x absent

    next_apart : distinct (named_in s w' g (c + 1)) ≡ true
    next_apart = ap distinct next_named ∙ distinct_more ts (built_text i) h.apart next_absent

    next_entries : (j : ℕ) → j < c + 1 → (list_at w' g j % 2 ≡ 0 → list_at w' g j / 2 < n) × (list_at w' g j % 2 ≡ 1 → list_at w' g j / 2 < 9)
    next_entries j m = go (eqb j c) refl
      where
        go : (d : Bool) → eqb j c ≡ d → (list_at w' g j % 2 ≡ 0 → list_at w' g j / 2 < n) × (list_at w' g j % 2 ≡ 1 → list_at w' g j / 2 < 9)
        go true d =
            let z = ap (list_at w' g) (eqb-true j c d) ∙ list_own in
            (λ y. absurd (omega arith), λ y. omega arith)
        go false d =
            let y = eqb-false j c d in
            let z : j < c = omega arith in
            rw (list_same s w w' g n c ps e h b next_worded j z) (h.entries j z)

    next_other : (j : ℕ) → j < n → has (printed_at s w g (key_at w g j)) (built_text i ∷ []) ≡ false
    unfolding has
    next_other j m = has_more (printed_at s w g (key_at w g j)) (built_text i) [] refl (λ y. false≢true (sym (b.other j m) ∙ ap (λ (t : Text). has t built_ins) (sym y) ∙ built_has i l))

    next_names : Names s w' g n (c + 1) ps
    next_names = named_then s w w' g n c ps e h b next_worded (c + 1) (built_text i ∷ []) (omega arith) (list_room g c room) next_named next_apart next_entries next_other

    -- theorem: then it gets the next number
    pub next_gives : Gives s w g n c ps (built_text i) (record { number = g.m.count + c; count = c + 1 }) w'
    next_gives =
        gives w' next_worded (g.m.count + c) (c + 1) next_own next_rest (omega (arith, length_named s w' g (c + 1)))
        (ap (λ (us : List Text). get_or us (g.m.count + c) []) next_named ∙ ap (λ (q : ℕ). get_or (ts ++ (built_text i ∷ [])) q []) (sym (length_named s w g c)) ∙ get_or-append_seam ts (built_text i) [] []) next_names
        (next_named ∙ sym (new_unknown ts (built_text i) next_absent))
