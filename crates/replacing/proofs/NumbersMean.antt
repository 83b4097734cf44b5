-- The number of a symbol's text is that of its print, in the texts that the round found and those that it named since. Assumes nothing.
use mathlib.Core.Path.{◌≡◌, refl, sym, ap, ◌∙◌, subst}
use mathlib.Core.Bool.{Bool, true, false, cond, ◌||◌, not, false≢true}
use mathlib.Core.List.{List, [], ◌∷◌, ◌++◌, map, append_assoc}
use mathlib.Core.Option.{some}
use Prim.Native.Nat.{ℕ, suc, ◌+◌}
use native.Mathlib.Omega.{arith}
use borrow.Author.Tests.{eqb-true, eq-eqb, not-true}
use lib.Dec.{eqb}
use lib.ListN.{length, length-append}
use Rattle.octets.specs.Plain.Runs.{same_as}
use Rattle.octets.proofs.SameLaws.{same_as-eq, same_as-refl, eq_same_as}
use Rattle.parse_tree.specs.Plain.Tree.{Text, Sym}
use Rattle.parse_tree.specs.Plain.Texts.{has, number, distinct, with_new}
use Rattle.parse_tree.specs.Plain.Display.{print}
use Rattle.parse_tree.specs.Working.Within.{Each}
use Rattle.parse_tree.proofs.TextLaws.{both, has-text, number-text, distinct_more}
use Rattle.passes.specs.Macros.{MacroExpander}
use Rattle.parse_tree.proofs.AmongLaws.{has_here, has-behind}
use Rattle.replacing.specs.Slots.{Ref, text, like, Slots, ref_at, among, first_like, place_in, number_new, number_by, numbered}
use Rattle.replacing.proofs.PlacesMean.{map-append}
use Rattle.replacing.proofs.SlotsMean.{has-or, or-true, or_assoc, among-here, among-has, Good, Sound}
use Rattle.replacing.proofs.Closing.{among-each}

-- ---- texts behind others
pub has-append : (x : Text) (ts us : List Text) → has x (ts ++ us) ≡ (has x ts || has x us)
unfolding has
has-append x [] us = refl
has-append x (t ∷ ts) us =
    has-or x t (ts ++ us) ∙ ap (λ b. same_as t x || b) (has-append x ts us) ∙ or_assoc (same_as t x) (has x ts) (has x us) ∙ ap (λ b. b || has x us) (sym (has-or x t ts))

pub number-before : (x : Text) (ts us : List Text) → has x ts ≡ true → number (ts ++ us) x ≡ number ts x
unfolding has number
number-before x [] us h = absurd (false≢true h)
number-before x (t ∷ ts) us h = go (same_as t x) h (number-before x ts us)
  where
    go : (b : Bool) → (elim b [ true ↦ true | false ↦ has x ts ]) ≡ true → (has x ts ≡ true → number (ts ++ us) x ≡ number ts x)
        → ◌≡◌ {A = ℕ} (elim b [ true ↦ 0 | false ↦ suc (number (ts ++ us) x) ]) (elim b [ true ↦ 0 | false ↦ suc (number ts x) ])
    go true k f = refl
    go false k f = ap suc (f k)

pub number_behind : (x : Text) (ts us : List Text) → has x ts ≡ false → number (ts ++ us) x ≡ length ts + number us x
unfolding has number
number_behind x [] us h = omega arith
number_behind x (t ∷ ts) us h = go (same_as t x) h (number_behind x ts us)
  where
    go : (b : Bool) → (elim b [ true ↦ true | false ↦ has x ts ]) ≡ false → (has x ts ≡ false → number (ts ++ us) x ≡ length ts + number us x)
        → (elim b [ true ↦ 0 | false ↦ suc (number (ts ++ us) x) ]) ≡ suc (length ts) + number us x
    go true k f = absurd (false≢true (sym k))
    go false k f = let z = f k in omega arith

number-first : (x : Text) → number (x ∷ []) x ≡ 0
unfolding number
number-first x = cc (same_as-refl x)

pub new_known : (ts : List Text) (x : Text) → has x ts ≡ true → with_new ts (x ∷ []) ≡ ts
unfolding with_new
new_known ts x h = cc h

pub new_unknown : (ts : List Text) (x : Text) → has x ts ≡ false → with_new ts (x ∷ []) ≡ ts ++ (x ∷ [])
unfolding with_new
new_unknown ts x h = cc h

map_length : {A B : Type 0} (f : A → B) (xs : List A) → length (map f xs) ≡ length xs
map_length f [] = refl
map_length f (x ∷ xs) = ap suc (map_length f xs)

module _ (at : ℕ → Sym) (Here : ℕ → Type 0) (ts : List Text) (d : distinct ts ≡ true) where
  abbrev pr : ℕ → Text
  pr p = print (at p)

  -- firsts that print alike are one
  pub firsts_one : (p q : ℕ) (qs : List ℕ) → distinct (map pr qs) ≡ true → among p qs ≡ true → among q qs ≡ true → pr p ≡ pr q → p ≡ q
  unfolding among distinct
  firsts_one p q [] u i j e = absurd (false≢true i)
  firsts_one p q (r ∷ qs) u i j e = go (eqb r p) refl i (eqb r q) refl j (firsts_one p q qs c.1)
    where
      c : (not (has (pr r) (map pr qs)) ≡ true) × (distinct (map pr qs) ≡ true)
      c = both (not (has (pr r) (map pr qs))) (distinct (map pr qs)) u

      out : (v : ℕ) → among v qs ≡ true → pr v ≡ pr r → ⊥
      out v k f = false≢true (sym (not-true (has (pr r) (map pr qs)) c.0) ∙ rw (← f) (among-has at Here ts d v qs k))

      go : (a : Bool) → eqb r p ≡ a → cond a true (among p qs) ≡ true → (b : Bool) → eqb r q ≡ b → cond b true (among q qs) ≡ true
          → (among p qs ≡ true → among q qs ≡ true → pr p ≡ pr q → p ≡ q) → p ≡ q
      go true x i' true y j' f = sym (eqb-true r p x) ∙ eqb-true r q y
      go true x i' false y j' f = absurd (out q j' (sym e ∙ ap pr (sym (eqb-true r p x))))
      go false x i' true y j' f = absurd (out p i' (e ∙ ap pr (sym (eqb-true r q y))))
      go false x i' false y j' f = f i' j' e

  -- one that isn't among others prints otherwise
  pub news_out : (q : ℕ) (ns qs : List ℕ) → distinct (map pr qs) ≡ true → Each (λ n. among n qs ≡ true) ns → among q qs ≡ true → among q ns ≡ false → has (pr q) (map pr ns) ≡ false
  unfolding among has
  news_out q [] qs u h i z = refl
  news_out q (n ∷ ns) qs u h i z = has-or (pr q) (pr n) (map pr ns) ∙ go (eqb n q) refl z (same_as (pr n) (pr q)) refl (news_out q ns qs u h.1 i)
    where
      go : (a : Bool) → eqb n q ≡ a → cond a true (among q ns) ≡ false → (c : Bool) → same_as (pr n) (pr q) ≡ c → (among q ns ≡ false → has (pr q) (map pr ns) ≡ false)
          → (c || has (pr q) (map pr ns)) ≡ false
      go true x j c y f = absurd (false≢true (sym j))
      go false x j true y f = absurd (false≢true (sym x ∙ eq-eqb n q (firsts_one n q qs u h.0 i (same_as-eq (pr n) (pr q) y))))
      go false x j false y f = f j

  news_number : (q : ℕ) (ns qs : List ℕ) → distinct (map pr qs) ≡ true → Each (λ n. among n qs ≡ true) ns → among q qs ≡ true → among q ns ≡ true → number (map pr ns) (pr q) ≡ place_in q ns
  unfolding among number place_in
  news_number q [] qs u h i z = absurd (false≢true z)
  news_number q (n ∷ ns) qs u h i z = go (eqb n q) refl z (same_as (pr n) (pr q)) refl (news_number q ns qs u h.1 i)
    where
      go : (a : Bool) → eqb n q ≡ a → cond a true (among q ns) ≡ true → (c : Bool) → same_as (pr n) (pr q) ≡ c → (among q ns ≡ true → number (map pr ns) (pr q) ≡ place_in q ns)
          → (elim c [ true ↦ 0 | false ↦ suc (number (map pr ns) (pr q)) ]) ≡ cond a 0 (suc (place_in q ns))
      go true x j true y f = refl
      go true x j false y f = absurd (false≢true (sym y ∙ eq_same_as (pr n) (pr q) (ap pr (eqb-true n q x))))
      go false x j true y f = absurd (false≢true (sym x ∙ eq-eqb n q (firsts_one n q qs u h.0 i (same_as-eq (pr n) (pr q) y))))
      go false x j false y f = ap suc (f j)

  -- a search in any order: the one that prints so is the first
  pub first_some : (same : ℕ → ℕ → Bool) → ((p q : ℕ) → same p q ≡ same_as (pr p) (pr q)) → (p q : ℕ) (qs : List ℕ) → distinct (map pr qs) ≡ true
      → among q qs ≡ true → pr q ≡ pr p → first_like same p qs ≡ some q
  unfolding first_like among distinct
  first_some same f p q [] u i e = absurd (false≢true i)
  first_some same f p q (r ∷ qs) u i e =
      go (eqb r q) refl (same p r) (f p r) (firsts_one r q (r ∷ qs) u (among-here r qs) i) i (first_some same f p q qs (both (not (has (pr r) (map pr qs))) (distinct (map pr qs)) u).1)
    where
      go : (a : Bool) → eqb r q ≡ a → (c : Bool) → c ≡ same_as (pr p) (pr r) → (pr r ≡ pr q → r ≡ q) → cond a true (among q qs) ≡ true
          → (among q qs ≡ true → pr q ≡ pr p → first_like same p qs ≡ some q) → cond c (some r) (first_like same p qs) ≡ some q
      go a x true y one j g = ap some (one (sym (same_as-eq (pr p) (pr r) (sym y)) ∙ sym e))
      go true x false y one j g = absurd (false≢true (y ∙ eq_same_as (pr p) (pr r) (sym e ∙ ap pr (sym (eqb-true r q x)))))
      go false x false y one j g = g j e

  -- ---- a place that has a reference
  abbrev pub Noted : ℕ → Slots → Type 0
  Noted p x = among p (map (λ (r : ℕ × Ref). r.0) x.refs) ≡ true

  -- its reference is good
  pub ref_good : (qs : List ℕ) (p : ℕ) (rs : List (ℕ × Ref)) → Each (λ (r : ℕ × Ref). Good at Here ts d qs r.0 r.1) rs → among p (map (λ (r : ℕ × Ref). r.0) rs) ≡ true → Good at Here ts d qs p (ref_at p rs)
  unfolding among ref_at
  ref_good qs p [] h i = absurd (false≢true i)
  ref_good qs p (r ∷ rs) h i = go (eqb r.0 p) refl i (ref_good qs p rs h.1)
    where
      go : (b : Bool) → eqb r.0 p ≡ b → cond b true (among p (map (λ (v : ℕ × Ref). v.0) rs)) ≡ true
          → (among p (map (λ (v : ℕ × Ref). v.0) rs) ≡ true → Good at Here ts d qs p (ref_at p rs)) → Good at Here ts d qs p (cond b r.1 (ref_at p rs))
      go true e j f = subst (λ (v : ℕ). Good at Here ts d qs v r.1) (eqb-true r.0 p e) h.0
      go false e j f = f j

  -- ---- numbering: the texts that the round found, then those that it named
  abbrev pub texts_of : Slots → List Text
  texts_of x = ts ++ map pr x.news

  -- the number of the text t in x, and the slots afterwards
  pub record Numbers (x : Slots) (σ : MacroExpander) (t : Text) (r : ℕ × Slots) : Type 0 where
    pub sound : Sound at Here ts d r.1 σ
    pub texts : texts_of r.1 ≡ with_new (texts_of x) (t ∷ [])
    pub is : r.0 ≡ number (texts_of r.1) t
    pub there : has t (texts_of r.1) ≡ true
    pub kept : r.1.refs ≡ x.refs

  known_numbers : (x : Slots) (σ : MacroExpander) (t : Text) (k : ℕ) → Sound at Here ts d x σ → has t (texts_of x) ≡ true → k ≡ number (texts_of x) t → Numbers x σ t (k, x)
  known_numbers x σ t k h i e = record { sound = h; texts = sym (new_known (texts_of x) t i); is = e; there = i; kept = refl }

  new_numbers : (q : ℕ) (x : Slots) (σ : MacroExpander) → Sound at Here ts d x σ → among q x.firsts ≡ true → has (pr q) (texts_of x) ≡ false
      → Numbers x σ (pr q) (length ts + length x.news, number_new q x)
  unfolding number_new has
  new_numbers q x σ h i n =
      let a : ts ++ map pr (x.news ++ (q ∷ [])) ≡ texts_of x ++ (pr q ∷ []) = ap (λ (l : List Text). ts ++ l) (map-append pr x.news (q ∷ [])) ∙ sym (append_assoc ts (map pr x.news) (pr q ∷ [])) in
      let k : length ts + length x.news ≡ length (texts_of x) = omega (arith, length-append ts (map pr x.news), map_length pr x.news) in
      record {
        sound = record {
          pile = h.pile;
          keys = h.keys;
          marks = h.marks;
          firsts = h.firsts;
          stands = h.stands;
          piled = h.piled;
          firsts_stand = h.firsts_stand;
          apart = h.apart;
          refs = h.refs;
          news = more x.news h.news;
          numbers = rw a (distinct_more (texts_of x) (pr q) h.numbers n);
        };
        texts = a ∙ sym (new_unknown (texts_of x) (pr q) n);
        is = rw a (let z = number_behind (pr q) (texts_of x) (pr q ∷ []) n in let y = number-first (pr q) in omega arith);
        there = rw a (has-behind (pr q) (texts_of x) (pr q ∷ []) (has_here (pr q) []));
        kept = refl;
      }
    where
      more : (ns : List ℕ) → Each (λ m. among m x.firsts ≡ true) ns → Each (λ m. among m x.firsts ≡ true) (ns ++ (q ∷ []))
      more [] u = (i, tt)
      more (m ∷ ns) u = (u.0, more ns u.1)

  number_by_lem : (p : ℕ) (x : Slots) (σ : MacroExpander) → Sound at Here ts d x σ → (r : Ref) → Good at Here ts d x.firsts p r → Numbers x σ (pr p) (number_by (length ts) r x)
  unfolding number_by
  number_by_lem p x σ h (text k) g =
      let i : has (pr p) ts ≡ true = rw (← g.1) (has-text ts k g.0) in
      let e : k ≡ number (texts_of x) (pr p) = sym (number-before (pr p) ts (map pr x.news) i ∙ ap (number ts) (sym g.1) ∙ number-text ts k d g.0) in
      known_numbers x σ (pr p) k h (has-append (pr p) ts (map pr x.news) ∙ rw i refl) e
  number_by_lem p x σ h (like q) g = subst (λ (t : Text). Numbers x σ t (number_by (length ts) (like q) x)) g.0 (go (among q x.news) refl)
    where
      n : has (pr q) ts ≡ false
      n = among-each (λ v. has (pr v) ts ≡ false) q x.firsts h.firsts g.1

      go : (b : Bool) → among q x.news ≡ b → Numbers x σ (pr q) (cond b (length ts + place_in q x.news, x) (length ts + length x.news, number_new q x))
      go true e =
          let i : has (pr q) (texts_of x) ≡ true = has-append (pr q) ts (map pr x.news) ∙ rw (among-has at Here ts d q x.news e) (or-true (has (pr q) ts)) in
          known_numbers x σ (pr q) (length ts + place_in q x.news) h i
          (sym (number_behind (pr q) ts (map pr x.news) n ∙ ap (λ (v : ℕ). length ts + v) (news_number q x.news x.firsts h.apart h.news g.1 e)))
      go false e = new_numbers q x σ h g.1 (has-append (pr q) ts (map pr x.news) ∙ rw (n, news_out q x.news x.firsts h.apart h.news g.1 e) refl)

  pub numbered-sound : (p : ℕ) (x : Slots) (σ : MacroExpander) → Sound at Here ts d x σ → Noted p x → Numbers x σ (pr p) (numbered (length ts) p x)
  unfolding numbered
  numbered-sound p x σ h i = number_by_lem p x σ h (ref_at p x.refs) (ref_good x.firsts p x.refs h.refs i)
