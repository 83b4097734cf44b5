-- `find`: a text is among those of its hash. Assumes nothing.
use mathlib.Core.Path.{◌≡◌, refl, sym, ap, ◌∙◌}
use mathlib.Core.Bool.{Bool, true, false}
use mathlib.Core.List.{List, [], ◌∷◌}
use Prim.Native.Nat.{ℕ, suc, ◌<◌, ◌≤◌}
use native.Mathlib.Omega.{arith}
use lib.ListN.{length, get_or}
use Rattle.octets.specs.Working.Choice.{pick}
use Rattle.octets.specs.Plain.Runs.{same_as}
use Rattle.octets.proofs.SameLaws.{same_as-eq}
use Rattle.parse_tree.specs.Plain.Tree.{Text}
use Rattle.parse_tree.specs.Plain.Texts.{has, number, distinct}
use Rattle.parse_tree.proofs.TextLaws.{has-text, number-text}
use Rattle.texts.specs.declared.Map.{Map}
use Rattle.std.specs.Prelude.{Option, Some, None}
use Rattle.texts.specs.Hash.{hash_of}
use Rattle.texts.specs.Fields.{hash_at}
use Rattle.texts.specs.Texts.{texts_of}
use Rattle.texts.specs.Table.{Table, texts, linked, Finds, found_in}
use Rattle.texts.proofs.TextCode.{length_texts, texts-at}
use Rattle.texts.specs.Search.{Searched}
use Rattle.texts.proofs.SearchCode.{Picks, picked}

-- ---- `find`: one of the texts is x, or none is
not_in : (ts : List Text) (x : Text) → ((i : ℕ) → i < length ts → same_as (get_or ts i []) x ≡ false) → has x ts ≡ false
unfolding has
not_in [] x h = refl
not_in (t ∷ ts) x h = cc (h 0 (omega arith), not_in ts x (λ i l. h (suc i) (omega arith)))

-- q tells the texts by number
module _ (ts : List Text) (q : ℕ → Text) (x : Text) (n : ℕ) (e : length ts ≡ n) (of : (i : ℕ) → i < n → get_or ts i [] ≡ q i) where
  pub picked_text : (r : Option ℕ) → Picks (λ i. same_as (q i) x) n r → Finds ts x r
  unfolding Finds Picks
  picked_text (Some k) g = record { below = omega (arith, e, g.0); text = of k g.0 ∙ same_as-eq (q k) x g.1 }
  picked_text None g = not_in ts x (λ i l. let b : i < n = omega (arith, e) in ap (λ (t : Text). same_as t x) (of i b) ∙ g i b)

module _ (s w : List ℕ) (m : Map) (x : Text) (h : ℕ) (g : Table s w m) (p : h ≡ hash_of x) where
  -- a text that is x has its hash
  find_of : (i : ℕ) → i < m.count → same_as (get_or (texts s w m) i []) x ≡ true → hash_at w m.base i ≡ h
  unfolding texts
  find_of i l d = g.hashes i l ∙ ap hash_of (sym (texts-at s w m.base m.count i l) ∙ same_as-eq (get_or (texts_of s w m.base m.count) i []) x d) ∙ sym p

  pub find_is : (A : ℕ → Bool → Type 0) (r : Option ℕ) → Searched A w m.base m.count h r → ((i : ℕ) (a : Bool) → A i a → a ≡ same_as (get_or (texts s w m) i []) x) → Finds (texts s w m) x r
  unfolding texts
  find_is A r d same =
      picked_text (texts s w m) (λ i. get_or (texts s w m) i []) x m.count (length_texts s w m.base m.count) (λ i l. refl) r
      (picked (λ i. same_as (get_or (texts s w m) i []) x) A w m.base m.count h r d same find_of)

pub linked-few : (k : ℕ) → k < 4294967295 → linked k ≡ k
unfolding linked
linked-few k h = omega arith

pub linked-many : (k : ℕ) → 4294967295 ≤ k → linked k ≡ 4294967295
unfolding linked
linked-many k h = omega arith

-- theorem: where no two texts are equal, the answer of `find` is the only one
pub answer_is : (ts : List Text) (t : Text) (r : Option ℕ) → distinct ts ≡ true → Finds ts t r → r ≡ found_in ts t
unfolding Finds found_in pick
answer_is ts t (Some k) d a =
    let n = number-text ts k d a.below in
    let y = has-text ts k a.below in
    let z = a.text in
    cc
answer_is ts t None d a = cc

-- theorem: a text is found by its number
pub answer_at : (ts : List Text) (t : Text) (k : ℕ) → distinct ts ≡ true → Finds ts t (Some k) → k ≡ number ts t
unfolding Finds
answer_at ts t k d a = sym (ap (number ts) (sym a.text) ∙ number-text ts k d a.below)

pub answer_none : (ts : List Text) (t : Text) → Finds ts t None → has t ts ≡ false
unfolding Finds
answer_none ts t a = a

pub answer_has : (ts : List Text) (t : Text) (k : ℕ) → Finds ts t (Some k) → has t ts ≡ true
unfolding Finds
answer_has ts t k a = let y = has-text ts k a.below in ap (λ (u : Text). has u ts) (sym a.text) ∙ y
