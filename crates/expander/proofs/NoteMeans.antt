-- What noting a symbol is in each case: one that prints so was pushed this round, its text was in an earlier one, or neither. Assumes nothing.
use mathlib.Core.Path.{◌≡◌, refl, sym, ap, ◌∙◌}
use mathlib.Core.Bool.{Bool, true, false, cond, ◌||◌, false≢true, or-false}
use mathlib.Core.List.{List, [], ◌∷◌, map}
use mathlib.Core.Option.{none, some}
use Prim.Native.Nat.{ℕ, ◌<◌}
use borrow.Author.Tests.{eqb-true, eq-eqb}
use lib.Dec.{eqb}
use lib.ListN.{length, get_or}
use Rattle.octets.specs.Plain.Numbers.{Bytes}
use Rattle.octets.specs.Plain.Runs.{same_as}
use Rattle.octets.proofs.SameLaws.{same_as-eq, eq_same_as}
use Rattle.parse_tree.specs.Plain.Tree.{Text}
use Rattle.parse_tree.specs.Plain.Texts.{has, number}
use Rattle.parse_tree.specs.Plain.Display.{print}
use Rattle.parse_tree.specs.Working.Within.{Each}
use Rattle.parse_tree.proofs.TextLaws.{has-text, number-text}
use Rattle.parse_tree.proofs.ReadingLaws.{each_map}
use Rattle.texts.specs.Table.{texts, Is}
use Rattle.texts.proofs.TextCode.{length_texts}
use Rattle.replacing.specs.Trees.{enter}
use Rattle.replacing.specs.Prints.{print_at, same_print, text_is}
use Rattle.replacing.specs.Slots.{Ref, text, like, Slots, ref_at, among, refer, push_text, push_new, note_by, note_as, note}
use Rattle.replacing.specs.Sound.{Key, Good, Sound}
use Rattle.replacing.proofs.Keys.{firm_key}
use Rattle.replacing.proofs.SlotsMean.{has-or, or-true, note_sound, first-none}
use Rattle.replacing.proofs.NumbersMean.{first_some, ref_good}
use Rattle.expander.specs.declared.Ground.{Ground}
use Rattle.expander.specs.Ground.{stage_in, key_at, pushed_text, symbol_in, printed_at, KeyAt, same_at, text_in, Grounded}
use Rattle.expander.specs.Held.{down, ref_in, is_like, is_text, Held}
use Rattle.expander.specs.Find.{NoneBefore}
use Rattle.expander.proofs.NoteLaws.{all_down, any_one, any_none, keep_each}
use Rattle.expander.proofs.SlotsCode.{key_has}
use Rattle.expander.proofs.StageReads.{bytes_part}

module _ (s w : List ℕ) (g : Ground) (bytes : Bytes w) (d : Grounded s w g) where
  abbrev pr : ℕ → Text
  pr p = print (symbol_in s w g p)

  same_is : (p q : ℕ) → same_at s w g p q ≡ same_as (pr p) (pr q)
  unfolding same_print print_at
  same_is p q = refl

  text_is_lem : (p : ℕ) → text_in s w g p ≡ cond (has (pr p) (texts s w g.m)) (some (number (texts s w g.m) (pr p))) none
  unfolding text_is print_at
  text_is_lem p = refl

  key_print : (p : ℕ) → KeyAt s w g p → Key (pr p)
  unfolding stage_in
  key_print p k = firm_key false g.width.bytes (stage_in w g) (texts s w g.m) (bytes_part w g.from g.end bytes d.inside) p k

  many : length (texts s w g.m) ≡ g.m.count
  unfolding texts
  many = length_texts s w g.m.base g.m.count

  -- ---- the text of a print
  text_there : (p k : ℕ) → k < length (texts s w g.m) → get_or (texts s w g.m) k [] ≡ pr p → has (pr p) (texts s w g.m) ≡ true
  text_there p k l e = rw (← e) (has-text (texts s w g.m) k l)

  text_some : (p k : ℕ) → k < length (texts s w g.m) → get_or (texts s w g.m) k [] ≡ pr p → text_in s w g p ≡ some k
  text_some p k l e =
      let z : number (texts s w g.m) (pr p) ≡ k = ap (number (texts s w g.m)) (sym e) ∙ number-text (texts s w g.m) k d.distinct-texts l in
      text_is_lem p ∙ rw (text_there p k l e, z) refl

  text_none : (p : ℕ) → has (pr p) (texts s w g.m) ≡ false → text_in s w g p ≡ none
  text_none p e = text_is_lem p ∙ rw e refl

  -- ---- no place of a list prints as p
  prints_not : (t : Text) (qs : List ℕ) → Each (λ q. same_as (pr q) t ≡ false) qs → has t (map pr qs) ≡ false
  unfolding has
  prints_not t [] a = refl
  prints_not t (q ∷ qs) a = has-or t (pr q) (map pr qs) ∙ rw a.0 (prints_not t qs a.1)

  module _ (n c : ℕ) (x : Slots) (h : Held s w g n c x) (p : ℕ) where
    abbrev noted : Slots
    noted = note (same_at s w g) (text_in s w g) p x

    key_good : (j : ℕ) → j < n → Good (symbol_in s w g) (KeyAt s w g) (texts s w g.m) x.firsts (key_at w g j) (ref_at (key_at w g j) x.refs)
    key_good j l = ref_good (symbol_in s w g) (KeyAt s w g) (texts s w g.m) d.distinct-texts x.firsts (key_at w g j) x.refs h.sound.refs (key_has s w g n c x h j l)

    -- where no first prints so, its text says what it is
    note_apart : Each (λ q. same_as (pr q) (pr p) ≡ false) x.firsts → noted ≡ note_by p (text_in s w g p) x
    unfolding note note_as
    note_apart a =
        let z = first-none (symbol_in s w g) (KeyAt s w g) (texts s w g.m) d.distinct-texts (same_at s w g) (text_in s w g) same_is text_is_lem key_print p x.firsts (prints_not (pr p) x.firsts a) in
        rw z refl

    note_like : (q : ℕ) → among q x.firsts ≡ true → pr q ≡ pr p → noted ≡ refer p (like q) x
    unfolding note note_as
    note_like q i e =
        let z = first_some (symbol_in s w g) (KeyAt s w g) (texts s w g.m) d.distinct-texts (same_at s w g) same_is p q x.firsts h.sound.apart i e in
        rw z refl

    -- a text is the print of no first
    firsts_apart : has (pr p) (texts s w g.m) ≡ true → Each (λ q. same_as (pr q) (pr p) ≡ false) x.firsts
    firsts_apart i = each_map (λ q z. go q z (same_as (pr q) (pr p)) refl) x.firsts h.sound.firsts
      where
        go : (q : ℕ) → has (pr q) (texts s w g.m) ≡ false → (b : Bool) → same_as (pr q) (pr p) ≡ b → b ≡ false
        go q z true e = absurd (false≢true (sym z ∙ ap (λ (t : Text). has t (texts s w g.m)) (same_as-eq (pr q) (pr p) e) ∙ i))
        go q z false e = refl

    by_text : (k : ℕ) → text_in s w g p ≡ some k → among k x.marks ≡ true → note_by p (text_in s w g p) x ≡ refer p (text k) x
    unfolding note_by
    by_text k e m = rw (e, m) refl

    by_push : (k : ℕ) → text_in s w g p ≡ some k → among k x.marks ≡ false → note_by p (text_in s w g p) x ≡ push_text p k x
    unfolding note_by
    by_push k e m = rw (e, m) refl

    by_new : text_in s w g p ≡ none → note_by p (text_in s w g p) x ≡ push_new p x
    unfolding note_by
    by_new e = rw e refl

    -- ---- the j-th pushed symbol prints so
    module _ (j : ℕ) (l : j < n) (e : printed_at s w g (key_at w g j) ≡ printed_at s w g p) where
      alike : pr (key_at w g j) ≡ pr p
      unfolding print_at
      alike = e

      text_marked : (k : ℕ) → k < length (texts s w g.m) → ref_at (key_at w g j) x.refs ≡ text k → among k x.marks ≡ true
      unfolding is_text
      text_marked k b f =
          let y : is_text k (ref_in w g (key_at w g j)) ≡ true = ap (is_text k) (h.refs (key_at w g j) (key_has s w g n c x h j l) ∙ f) ∙ eq-eqb k k refl in
          h.marks k (rw many at b) ∙ ap (λ (t : Bool). pushed_text w g k || t) (any_one (λ q. is_text k (ref_in w g q)) (key_at w g) n j l y) ∙ or-true (pushed_text w g k)

      -- theorem: p refers to what it refers to
      pub note_found : noted ≡ refer p (ref_at (key_at w g j) x.refs) x
      note_found = go (ref_at (key_at w g j) x.refs) refl (key_good j l)
        where
          go : (ρ : Ref) → ref_at (key_at w g j) x.refs ≡ ρ → Good (symbol_in s w g) (KeyAt s w g) (texts s w g.m) x.firsts (key_at w g j) ρ → noted ≡ refer p ρ x
          go (like q) f a = note_like q a.1 (a.0 ∙ alike)
          go (text k) f a =
              note_apart (firsts_apart (text_there p k a.0 (a.1 ∙ alike))) ∙ by_text k (text_some p k a.0 (a.1 ∙ alike)) (text_marked k a.0 f)

    -- ---- none does
    module _ (no : NoneBefore s w g n p) where
      none_so : (j : ℕ) → j < n → same_as (pr (key_at w g j)) (pr p) ≡ false
      unfolding print_at
      none_so j l = no j l

      apart : Each (λ q. same_as (pr q) (pr p) ≡ false) x.firsts
      apart = rw h.firsts (keep_each (λ q. same_as (pr q) (pr p) ≡ false) (λ q. is_like (ref_in w g q)) (down (key_at w g) n) (all_down (λ q. same_as (pr q) (pr p) ≡ false) (key_at w g) n none_so))

      module _ (k : ℕ) (i : Is (texts s w g.m) (printed_at s w g p) k) where
        there : get_or (texts s w g.m) k [] ≡ pr p
        unfolding print_at
        there = i.text

        -- no reference of a pushed symbol is this text
        no_text : (j : ℕ) → j < n → is_text k (ref_in w g (key_at w g j)) ≡ false
        unfolding is_text
        no_text j l = ap (is_text k) (h.refs (key_at w g j) (key_has s w g n c x h j l)) ∙ go (ref_at (key_at w g j) x.refs) (key_good j l)
          where
            one : (m : ℕ) → get_or (texts s w g.m) m [] ≡ pr (key_at w g j) → (b : Bool) → eqb m k ≡ b → b ≡ false
            one m a true e = absurd (false≢true (sym (none_so j l) ∙ eq_same_as (pr (key_at w g j)) (pr p) (sym a ∙ ap (λ (v : ℕ). get_or (texts s w g.m) v []) (eqb-true m k e) ∙ there)))
            one m a false e = refl

            go : (ρ : Ref) → Good (symbol_in s w g) (KeyAt s w g) (texts s w g.m) x.firsts (key_at w g j) ρ → is_text k ρ ≡ false
            go (text m) a = one m a.1 (eqb m k) refl
            go (like q) a = refl

        marks_are : among k x.marks ≡ pushed_text w g k
        marks_are =
            h.marks k (rw many at i.below) ∙ ap (λ (b : Bool). pushed_text w g k || b) (any_none (λ q. is_text k (ref_in w g q)) (down (key_at w g) n) (all_down (λ q. is_text k (ref_in w g q) ≡ false) (key_at w g) n no_text))
            ∙ or-false (pushed_text w g k)

        -- theorem: its text was pushed in an earlier round
        pub note_marked : true ≡ pushed_text w g k → noted ≡ refer p (text k) x
        note_marked y = note_apart apart ∙ by_text k (text_some p k i.below there) (marks_are ∙ sym y)

        -- theorem: or wasn't
        pub note_pushed : false ≡ pushed_text w g k → noted ≡ push_text p k x
        note_pushed y = note_apart apart ∙ by_push k (text_some p k i.below there) (marks_are ∙ sym y)

      -- theorem: its print is no text
      pub note_new : has (printed_at s w g p) (texts s w g.m) ≡ false → noted ≡ push_new p x
      unfolding print_at
      note_new y = note_apart apart ∙ by_new (text_none p y)

    -- theorem: whatever it is, it is sound
    pub noted_sound : KeyAt s w g p → Sound (symbol_in s w g) (KeyAt s w g) (texts s w g.m) noted (enter (symbol_in s w g p) h.expander)
    noted_sound k = note_sound (symbol_in s w g) (KeyAt s w g) (texts s w g.m) d.distinct-texts (same_at s w g) (text_in s w g) same_is text_is_lem key_print p x h.expander k h.sound
