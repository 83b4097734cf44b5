-- find_name: a name is among those of its hash. Assumes nothing.
use mathlib.Core.Path.{◌≡◌, refl, sym, ap, ◌∙◌}
use mathlib.Core.Bool.{Bool, true, false}
use mathlib.Core.List.{List, [], ◌∷◌, ◌++◌}
use Prim.Native.Nat.{ℕ, zero, suc, ◌/◌, ◌<◌}
use native.Mathlib.Omega.{arith}
use borrow.Author.Rules.{rules}
use borrow.Author.Tests.{ltb-true, ltb-false}
use lib.Dec.{ltb}
use lib.ListN.{length, get_or, length-append, get_or-append}
use lib.Seq.{get_or-append_seam}
use Rattle.octets.specs.Plain.Runs.{same_as}
use Rattle.octets.proofs.SameLaws.{same_as-eq}
use Rattle.parse_tree.specs.Plain.Tree.{Text}
use Rattle.texts.specs.declared.Map.{Map}
use Rattle.std.specs.Prelude.{Option, min}
use Rattle.texts.specs.Hash.{hash_of}
use Rattle.texts.specs.Fields.{mark_at, hash_at, Chained}
use Rattle.texts.specs.Search.{Searched}
use Rattle.texts.specs.Table.{linked, Finds}
use Rattle.texts.proofs.SearchCode.{picked}
use Rattle.texts.proofs.TableFindCode.{picked_text}
use Rattle.precedence.specs.Names.{Naming, Based, Spelled, named_text, named_texts}
use Rattle.precedence.proofs.NamesHashCode.{named_table}

-- ---- what the invariant gives
module _ (s w : List ℕ) (m : Map) (n : ℕ) (g : Naming s w m n) where
  pub naming-based : (k : ℕ) → k < m.count → Based s w m k
  naming-based k h = record {
    below = h;
    room = omega (arith, g.room, g.upto);
    whole = g.whole k h;
    hash = g.hashes k (omega (arith, g.upto)) ∙ ap hash_of (named_table s w m k h);
  }

  pub naming-spelled : (k : ℕ) → k < n → Spelled s w m k
  naming-spelled k h = record {
    room = omega (arith, g.room);
    whole = g.whole k;
    base = λ l. naming-based (mark_at w m.base k / 4294967296) (g.bases k l h);
    hash = g.hashes k h;
  }

-- ---- the texts by number
pub length_named : (s w : List ℕ) (m : Map) (n : ℕ) → length (named_texts s w m n) ≡ n
unfolding named_texts
length_named s w m zero = refl
length_named s w m (suc n) = length-append (named_texts s w m n) (named_text s w m n ∷ []) ∙ omega (arith, length_named s w m n)

pub named-at : (s w : List ℕ) (m : Map) (n k : ℕ) → k < n → get_or (named_texts s w m n) k [] ≡ named_text s w m k
unfolding named_texts
named-at s w m zero k h = absurd (omega arith)
named-at s w m (suc n) k h = go (ltb k n) refl (named-at s w m n k)
  where
    go : (t : Bool) → ltb k n ≡ t → (k < n → get_or (named_texts s w m n) k [] ≡ named_text s w m k) → get_or (named_texts s w m n ++ (named_text s w m n ∷ [])) k [] ≡ named_text s w m k
    go true e i = let l = ltb-true k n e in get_or-append (named_texts s w m n) (named_text s w m n ∷ []) [] k (omega (arith, length_named s w m n)) ∙ i l
    go false e i =
        let l = ltb-false k n e in
        let z : k ≡ n = omega arith in
        let y : k ≡ length (named_texts s w m n) = z ∙ sym (length_named s w m n) in
        ap (λ (j : ℕ). get_or (named_texts s w m n ++ (named_text s w m n ∷ [])) j []) y ∙ get_or-append_seam (named_texts s w m n) (named_text s w m n) [] [] ∙ ap (named_text s w m) (sym z)

-- ---- the walk asks of each name
module _ (s w : List ℕ) (m : Map) (n : ℕ) (x : Text) (h : ℕ) (g : Naming s w m n) (p : h ≡ hash_of x) where
  -- a name that is x has its hash
  name_of : (i : ℕ) → i < n → same_as (named_text s w m i) x ≡ true → hash_at w m.base i ≡ h
  name_of i l d = g.hashes i l ∙ ap hash_of (same_as-eq (named_text s w m i) x d) ∙ sym p

  pub name_is : (A : ℕ → Bool → Type 0) (r : Option ℕ) → Searched A w m.base n h r → ((i : ℕ) (a : Bool) → A i a → a ≡ same_as (named_text s w m i) x) → Finds (named_texts s w m n) x r
  name_is A r d same =
      picked_text (named_texts s w m n) (named_text s w m) x n (length_named s w m n) (named-at s w m n) r
      (picked (λ i. same_as (named_text s w m i) x) A w m.base n h r d same name_of)

pub name_chained : (s w : List ℕ) (m : Map) (n : ℕ) → Naming s w m n → Chained w m.base m.buckets (linked n)
unfolding linked
name_chained s w m n g = let z : min n 4294967295 ≡ n = omega (arith, g.few) in rw z g.chained

pub ruleset tracing = (rules, naming-based, naming-spelled, name_chained)
