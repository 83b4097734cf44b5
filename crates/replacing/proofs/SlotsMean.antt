-- Noting places is entering the symbols that stand there, and the references and numbers are those of their prints. Assumes nothing.
use mathlib.Core.Path.{◌≡◌, refl, sym, ap, ◌∙◌}
use mathlib.Core.Bool.{Bool, true, false, cond, ◌||◌, false≢true}
use mathlib.Core.List.{List, [], ◌∷◌, ◌++◌, map}
use mathlib.Core.Option.{Option, none, some}
use Prim.Native.Nat.{ℕ, ◌<◌}
use borrow.Author.Tests.{eqb-true, eq-eqb}
use lib.Dec.{eqb}
use lib.ListN.{length, get_or}
use Rattle.octets.specs.Plain.Runs.{same_as}
use Rattle.octets.proofs.SameLaws.{same_as-eq, same_as-refl, same_as-sym}
use Rattle.parse_tree.specs.Plain.Tree.{Text, Sym}
use Rattle.parse_tree.specs.Plain.Texts.{has, number, distinct}
use Rattle.parse_tree.specs.Plain.Display.{print}
use Rattle.parse_tree.specs.Working.Within.{Each}
use Rattle.parse_tree.proofs.TextLaws.{number-below, text_number, has-text, number-text}
use Rattle.parse_tree.proofs.ReadingLaws.{each_map}
use Rattle.passes.specs.Macros.{Pending, MacroExpander}
use Rattle.replacing.specs.Trees.{inner, enter, enter_all}
use Rattle.replacing.specs.Sound.{Key, Good as GoodRef, Sound as SoundSlots}
use Rattle.replacing.specs.Slots.{Ref, text, like, Slots, among, refer, push_text, push_new, first_like, note_by, note_as, note, note_all}

-- ---- tests on lists
pub has-or : (x t : Text) (ts : List Text) → has x (t ∷ ts) ≡ (same_as t x || has x ts)
unfolding has
has-or x t ts = go (same_as t x)
  where
    go : (b : Bool) → (elim b [ true ↦ true | false ↦ has x ts ]) ≡ (b || has x ts)
    go true = refl
    go false = refl

pub or-true : (b : Bool) → (b || true) ≡ true
or-true true = refl
or-true false = refl

pub or_skip : (a b c : Bool) → (a || (b || c)) ≡ (b || (a || c))
or_skip true b c = sym (or-true b)
or_skip false b c = refl

pub or_assoc : (a b c : Bool) → (a || (b || c)) ≡ ((a || b) || c)
or_assoc true b c = refl
or_assoc false b c = refl

pub among-here : (k : ℕ) (ns : List ℕ) → among k (k ∷ ns) ≡ true
unfolding among
among-here k ns = rw (eq-eqb k k refl) refl

pub among_later : (k n : ℕ) (ns : List ℕ) → among k ns ≡ true → among k (n ∷ ns) ≡ true
unfolding among
among_later k n ns h = go (eqb n k)
  where
    go : (b : Bool) → cond b true (among k ns) ≡ true
    go true = refl
    go false = h

-- ---- at is the symbol at a place and pr its print, Here says that one stands there, ts are the texts that the round found
module _ (at : ℕ → Sym) (Here : ℕ → Type 0) (ts : List Text) (d : distinct ts ≡ true) where
  abbrev pr : ℕ → Text
  pr p = print (at p)

  abbrev text_of : ℕ → Text
  text_of k = get_or ts k []

  -- of a place among others its print is among theirs
  pub among-has : (p : ℕ) (qs : List ℕ) → among p qs ≡ true → has (pr p) (map pr qs) ≡ true
  unfolding among
  among-has p [] h = absurd (false≢true h)
  among-has p (q ∷ qs) h = has-or (pr p) (pr q) (map pr qs) ∙ go (eqb q p) refl h (among-has p qs)
    where
      go : (b : Bool) → eqb q p ≡ b → cond b true (among p qs) ≡ true → (among p qs ≡ true → has (pr p) (map pr qs) ≡ true) → (same_as (pr q) (pr p) || has (pr p) (map pr qs)) ≡ true
      go true e z f = rw (eqb-true q p e, same_as-refl (pr p)) refl
      go false e z f = rw (f z) (or-true (same_as (pr q) (pr p)))

  mark_in : (k : ℕ) (ns : List ℕ) → among k ns ≡ true → has (text_of k) (map text_of ns) ≡ true
  unfolding among
  mark_in k [] h = absurd (false≢true h)
  mark_in k (n ∷ ns) h = has-or (text_of k) (text_of n) (map text_of ns) ∙ go (eqb n k) refl h (mark_in k ns)
    where
      go : (b : Bool) → eqb n k ≡ b → cond b true (among k ns) ≡ true → (among k ns ≡ true → has (text_of k) (map text_of ns) ≡ true) → (same_as (text_of n) (text_of k) || has (text_of k) (map text_of ns)) ≡ true
      go true e z f = rw (eqb-true n k e, same_as-refl (text_of k)) refl
      go false e z f = rw (f z) (or-true (same_as (text_of n) (text_of k)))

  mark_out : (k : ℕ) (ns : List ℕ) → k < length ts → Each (λ n. n < length ts) ns → among k ns ≡ false → has (text_of k) (map text_of ns) ≡ false
  unfolding among has
  mark_out k [] l h z = refl
  mark_out k (n ∷ ns) l h z = has-or (text_of k) (text_of n) (map text_of ns) ∙ go (eqb n k) refl z (same_as (text_of n) (text_of k)) refl (mark_out k ns l h.1)
    where
      go : (b : Bool) → eqb n k ≡ b → cond b true (among k ns) ≡ false → (c : Bool) → same_as (text_of n) (text_of k) ≡ c
          → (among k ns ≡ false → has (text_of k) (map text_of ns) ≡ false) → (c || has (text_of k) (map text_of ns)) ≡ false
      go true e q c i f = absurd (false≢true (sym q))
      go false e q true i f =
          let u : n ≡ k = sym (number-text ts n d h.0) ∙ ap (number ts) (same_as-eq (text_of n) (text_of k) i) ∙ number-text ts k d l in
          absurd (false≢true (sym e ∙ eq-eqb n k u))
      go false e q false i f = f q

  mark_none : (t : Text) (ns : List ℕ) → has t ts ≡ false → Each (λ n. n < length ts) ns → has t (map text_of ns) ≡ false
  unfolding has
  mark_none t [] z h = refl
  mark_none t (n ∷ ns) z h = has-or t (text_of n) (map text_of ns) ∙ go (same_as (text_of n) t) refl (mark_none t ns z h.1)
    where
      go : (c : Bool) → same_as (text_of n) t ≡ c → has t (map text_of ns) ≡ false → (c || has t (map text_of ns)) ≡ false
      go true i f = absurd (false≢true (sym z ∙ rw (← (same_as-eq (text_of n) t i)) (has-text ts n h.0)))
      go false i f = f

  abbrev pub Good : List ℕ → ℕ → Ref → Type 0
  Good qs p r = GoodRef at Here ts qs p r

  abbrev pub Sound : Slots → MacroExpander → Type 0
  Sound x σ = SoundSlots at Here ts x σ

  -- places with references keep them
  piled_later : (p : ℕ) (r : Ref) (rs : List (ℕ × Ref)) (qs : List ℕ) → Each (λ q. among q (map (λ (v : ℕ × Ref). v.0) rs) ≡ true) qs
      → Each (λ q. among q (map (λ (v : ℕ × Ref). v.0) ((p, r) ∷ rs)) ≡ true) qs
  piled_later p r rs qs h = each_map (λ q. among_later q p (map (λ (v : ℕ × Ref). v.0) rs)) qs h

  -- a reference more, to what is there
  refer-sound : (p : ℕ) (r : Ref) (x : Slots) (σ : MacroExpander) → Good x.firsts p r → Sound x σ → Sound (refer p r x) σ
  unfolding refer
  refer-sound p r x σ g h = record {
    pile = h.pile;
    keys = h.keys;
    marks = h.marks;
    firsts = h.firsts;
    stands = h.stands;
    piled = piled_later p r x.refs x.pile h.piled;
    firsts_stand = h.firsts_stand;
    apart = h.apart;
    refs = (g, h.refs);
    news = h.news;
    numbers = h.numbers;
  }

  enter-old : (y : Sym) (σ : MacroExpander) → has (print y) σ.keys ≡ true → enter y σ ≡ σ
  unfolding enter
  enter-old y σ p = rw p refl

  entered : Sym → MacroExpander → MacroExpander
  entered y σ = record { keys = print y ∷ σ.keys; pile = inner y ∷ σ.pile }

  enter-new : (y : Sym) (σ : MacroExpander) → has (print y) σ.keys ≡ false → enter y σ ≡ entered y σ
  unfolding enter entered
  enter-new y σ p = rw p refl

  text_sound : (p k : ℕ) (x : Slots) (σ : MacroExpander) → Here p → k < length ts → text_of k ≡ pr p → Sound x σ → Sound (push_text p k x) (entered (at p) σ)
  unfolding push_text entered
  text_sound p k x σ i l e h = record {
    pile = ap (λ (l : List Pending). inner (at p) ∷ l) h.pile;
    keys = λ t y. has-or t (pr p) σ.keys ∙ ap (λ b. same_as (pr p) t || b) (h.keys t y)
        ∙ or_assoc (same_as (pr p) t) (has t (map text_of x.marks)) (has t (map pr x.firsts))
        ∙ ap (λ b. b || has t (map pr x.firsts)) (ap (λ u. same_as u t || has t (map text_of x.marks)) (sym e) ∙ sym (has-or t (text_of k) (map text_of x.marks)));
    marks = (l, h.marks);
    firsts = h.firsts;
    stands = (i, h.stands);
    piled = (among-here p (map (λ (v : ℕ × Ref). v.0) x.refs), piled_later p (text k) x.refs x.pile h.piled);
    firsts_stand = h.firsts_stand;
    apart = h.apart;
    refs = ((l, e), h.refs);
    news = h.news;
    numbers = h.numbers;
  }

  new_sound : (p : ℕ) (x : Slots) (σ : MacroExpander) → Here p → has (pr p) ts ≡ false → has (pr p) (map pr x.firsts) ≡ false → Sound x σ → Sound (push_new p x) (entered (at p) σ)
  unfolding push_new entered distinct
  new_sound p x σ i n f h = record {
    pile = ap (λ (l : List Pending). inner (at p) ∷ l) h.pile;
    keys = λ t y. has-or t (pr p) σ.keys ∙ ap (λ b. same_as (pr p) t || b) (h.keys t y)
        ∙ or_skip (same_as (pr p) t) (has t (map text_of x.marks)) (has t (map pr x.firsts))
        ∙ ap (λ b. has t (map text_of x.marks) || b) (sym (has-or t (pr p) (map pr x.firsts)));
    marks = h.marks;
    firsts = (n, h.firsts);
    stands = (i, h.stands);
    piled = (among-here p (map (λ (v : ℕ × Ref). v.0) x.refs), piled_later p (like p) x.refs x.pile h.piled);
    firsts_stand = (i, h.firsts_stand);
    apart = rw (f, h.apart) refl;
    refs = ((refl, among-here p x.firsts), each_map later x.refs h.refs);
    news = each_map (λ q. among_later q p x.firsts) x.news h.news;
    numbers = h.numbers;
  }
    where
      grown : (q : ℕ) (r : Ref) → Good x.firsts q r → Good (p ∷ x.firsts) q r
      grown q (text k) g = g
      grown q (like u) g = (g.0, among_later u p x.firsts g.1)

      later : (r : ℕ × Ref) → Good x.firsts r.0 r.1 → Good (p ∷ x.firsts) r.0 r.1
      later r g = grown r.0 r.1 g

  module _ (same : ℕ → ℕ → Bool) (text_at : ℕ → Option ℕ) (same_is : (p q : ℕ) → same p q ≡ same_as (pr p) (pr q))
      (text_is_lem : (p : ℕ) → text_at p ≡ cond (has (pr p) ts) (some (number ts (pr p))) none) (key_here : (p : ℕ) → Here p → Key (pr p)) where
    abbrev FirstSays : ℕ → List ℕ → Option ℕ → Type 0
    FirstSays p qs none = has (pr p) (map pr qs) ≡ false
    FirstSays p qs (some q) = (pr q ≡ pr p) × (among q qs ≡ true)

    first_says : (p : ℕ) (qs : List ℕ) → FirstSays p qs (first_like same p qs)
    unfolding first_like has
    first_says p [] = refl
    first_says p (q ∷ qs) = go (same p q) (same_is p q) (first_like same p qs) (first_says p qs)
      where
        more : (r : Option ℕ) → FirstSays p qs r → same_as (pr q) (pr p) ≡ false → FirstSays p (q ∷ qs) r
        more none h e = has-or (pr p) (pr q) (map pr qs) ∙ rw (e, h) refl
        more (some u) h e = (h.0, among_later u q qs h.1)

        go : (b : Bool) → b ≡ same_as (pr p) (pr q) → (r : Option ℕ) → FirstSays p qs r → FirstSays p (q ∷ qs) (cond b (some q) r)
        go true e r h = (sym (same_as-eq (pr p) (pr q) (sym e)), among-here q qs)
        go false e r h = more r h (same_as-sym (pr q) (pr p) ∙ sym e)

    -- one place
    note_by_lem : (p : ℕ) (x : Slots) (σ : MacroExpander) → Here p → has (pr p) (map pr x.firsts) ≡ false → Sound x σ
        → (b : Bool) → has (pr p) ts ≡ b → Sound (note_by p (cond b (some (number ts (pr p))) none) x) (enter (at p) σ)
    unfolding note_by
    note_by_lem p x σ y f h false e =
        let z : has (pr p) σ.keys ≡ false = h.keys (pr p) (key_here p y) ∙ rw (mark_none (pr p) x.marks e h.marks, f) refl in
        rw (enter-new (at p) σ z) (new_sound p x σ y e f h)
    note_by_lem p x σ y f h true e = go (among k x.marks) refl
      where
        k : ℕ
        k = number ts (pr p)

        l : k < length ts
        l = number-below ts (pr p) e

        t : text_of k ≡ pr p
        t = text_number ts (pr p) e

        go : (c : Bool) → among k x.marks ≡ c → Sound (cond c (refer p (text k) x) (push_text p k x)) (enter (at p) σ)
        go true i =
            let m : has (pr p) (map text_of x.marks) ≡ true = rw (← t) (mark_in k x.marks i) in
            let z : has (pr p) σ.keys ≡ true = h.keys (pr p) (key_here p y) ∙ ap (λ (c : Bool). c || has (pr p) (map pr x.firsts)) m in
            rw (enter-old (at p) σ z) (refer-sound p (text k) x σ (l, t) h)
        go false i =
            let m : has (pr p) (map text_of x.marks) ≡ false = rw (← t) (mark_out k x.marks l h.marks i) in
            let z : has (pr p) σ.keys ≡ false = h.keys (pr p) (key_here p y) ∙ rw (m, f) refl in
            rw (enter-new (at p) σ z) (text_sound p k x σ y l t h)

    pub note_sound : (p : ℕ) (x : Slots) (σ : MacroExpander) → Here p → Sound x σ → Sound (note same text_at p x) (enter (at p) σ)
    unfolding note note_as
    note_sound p x σ y h = go (first_like same p x.firsts) (first_says p x.firsts)
      where
        go : (r : Option ℕ) → FirstSays p x.firsts r → Sound (note_as text_at p r x) (enter (at p) σ)
        go none f = rw (text_is_lem p) (note_by_lem p x σ y f h (has (pr p) ts) refl)
        go (some q) f =
            let i : has (pr p) (map pr x.firsts) ≡ true = rw (← f.0) (among-has q x.firsts f.1) in
            let z : has (pr p) σ.keys ≡ true = h.keys (pr p) (key_here p y) ∙ rw i (or-true (has (pr p) (map text_of x.marks))) in
            rw (enter-old (at p) σ z) (refer-sound p (like q) x σ f h)

    -- and several
    pub notes_sound : (ps : List ℕ) (x : Slots) (σ : MacroExpander) → Each Here ps → Sound x σ → Sound (note_all same text_at ps x) (enter_all (map at ps) σ)
    unfolding note_all enter_all
    notes_sound [] x σ y h = h
    notes_sound (p ∷ ps) x σ y h = notes_sound ps (note same text_at p x) (enter (at p) σ) y.1 (note_sound p x σ y.0 h)

    pub notes_append : (ps qs : List ℕ) (x : Slots) → note_all same text_at (ps ++ qs) x ≡ note_all same text_at qs (note_all same text_at ps x)
    unfolding note_all
    notes_append [] qs x = refl
    notes_append (p ∷ ps) qs x = notes_append ps qs (note same text_at p x)

    -- a search in any order: none prints so
    pub first-none : (p : ℕ) (qs : List ℕ) → has (pr p) (map pr qs) ≡ false → first_like same p qs ≡ none
    first-none p qs z = go (first_like same p qs) (first_says p qs)
      where
        go : (r : Option ℕ) → FirstSays p qs r → r ≡ none
        go none h = refl
        go (some q) h = absurd (false≢true (sym z ∙ rw (← h.0) (among-has q qs h.1)))
