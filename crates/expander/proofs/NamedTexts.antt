-- Laws of the texts by number. Assumes nothing.
use mathlib.Core.Path.{◌≡◌, refl, sym, ap, ◌∙◌}
use mathlib.Core.Bool.{Bool, true, false, ◌||◌}
use mathlib.Core.List.{List, [], ◌∷◌, ◌++◌, map, append_assoc}
use Prim.Native.Nat.{ℕ, zero, suc, ◌+◌, ◌-◌, ◌/◌, ◌%◌, ◌<◌, ◌≤◌}
use native.Mathlib.Omega.{arith}
use borrow.Author.Tests.{eqb-true, eq-eqb, ltb-true, ltb-false}
use lib.Dec.{eqb, ltb}
use lib.ListN.{length, get_or, length-append, get_or-append}
use lib.Seq.{get_or-append_seam, get_or-append-add}
use Rattle.octets.specs.Working.Choice.{pick}
use Rattle.octets.specs.Plain.Runs.{same_as}
use Rattle.octets.proofs.SameLaws.{same_as-eq}
use Rattle.parse_tree.specs.Plain.Tree.{Text}
use Rattle.parse_tree.specs.Plain.Texts.{has}
use Rattle.texts.specs.Table.{texts}
use Rattle.texts.proofs.TextCode.{length_texts}
use Rattle.replacing.proofs.PlacesMean.{map-append}
use Rattle.replacing.proofs.SlotsMean.{has-or}
use Rattle.replacing.proofs.NumbersMean.{has-append}
use Rattle.expander.specs.declared.Ground.{Ground}
use Rattle.expander.specs.Ground.{key_at, list_at, new_at, printed_at}
use Rattle.expander.specs.Held.{upto}
use Rattle.expander.specs.Names.{described_by, listed_texts, named_in}

-- a text that isn't there isn't behind another one either
pub has_more : (x t : Text) (ts : List Text) → has x ts ≡ false → (t ≡ x → ⊥) → has x (ts ++ (t ∷ [])) ≡ false
unfolding has
has_more x t ts h e = has-append x ts (t ∷ []) ∙ ap (λ (b : Bool). b || has x (t ∷ [])) h ∙ has-or x t [] ∙ go (same_as t x) refl
  where
    go : (b : Bool) → same_as t x ≡ b → (b || false) ≡ false
    go true z = absurd (e (same_as-eq t x z))
    go false z = refl

module _ (s w : List ℕ) (g : Ground) where
  length_new : (c : ℕ) → length (listed_texts s w g c) ≡ c
  unfolding listed_texts
  length_new zero = refl
  length_new (suc c) = length-append (listed_texts s w g c) (described_by s w g (list_at w g c) ∷ []) ∙ (omega (arith, length_new c))

  new_next : (c : ℕ) → listed_texts s w g (suc c) ≡ listed_texts s w g c ++ (described_by s w g (list_at w g c) ∷ [])
  unfolding listed_texts
  new_next c = refl

  length_found : length (texts s w g.m) ≡ g.m.count
  unfolding texts
  length_found = length_texts s w g.m.base g.m.count

  pub length_named : (c : ℕ) → length (named_in s w g c) ≡ g.m.count + c
  unfolding named_in
  length_named c = length-append (texts s w g.m) (listed_texts s w g c) ∙ (omega (arith, length_found, length_new c))

  new_at_lem : (c k : ℕ) → k < c → get_or (listed_texts s w g c) k [] ≡ described_by s w g (list_at w g k)
  unfolding listed_texts
  new_at_lem zero k h = absurd (omega arith)
  new_at_lem (suc c) k h = go (ltb k c) refl (new_at_lem c k)
    where
      go : (t : Bool) → ltb k c ≡ t → (k < c → get_or (listed_texts s w g c) k [] ≡ described_by s w g (list_at w g k))
          → get_or (listed_texts s w g c ++ (described_by s w g (list_at w g c) ∷ [])) k [] ≡ described_by s w g (list_at w g k)
      go true e i = let l = ltb-true k c e in get_or-append (listed_texts s w g c) (described_by s w g (list_at w g c) ∷ []) [] k (omega (arith, length_new c)) ∙ i l
      go false e i =
          let l = ltb-false k c e in
          let z : k ≡ c = omega arith in
          let y : k ≡ length (listed_texts s w g c) = z ∙ sym (length_new c) in
          ap (λ (j : ℕ). get_or (listed_texts s w g c ++ (described_by s w g (list_at w g c) ∷ [])) j []) y ∙ get_or-append_seam (listed_texts s w g c) (described_by s w g (list_at w g c)) [] []
          ∙ ap (λ (j : ℕ). described_by s w g (list_at w g j)) (sym z)

  -- the text of a number that the round found, and of a new one
  pub named-found : (c k : ℕ) → k < g.m.count → get_or (named_in s w g c) k [] ≡ get_or (texts s w g.m) k []
  unfolding named_in
  named-found c k h = get_or-append (texts s w g.m) (listed_texts s w g c) [] k (omega (arith, length_found))

  pub named_new : (c k : ℕ) → g.m.count ≤ k → k < g.m.count + c → get_or (named_in s w g c) k [] ≡ described_by s w g (list_at w g (k - g.m.count))
  unfolding named_in
  named_new c k l h =
      let z : k ≡ length (texts s w g.m) + (k - g.m.count) = omega (arith, length_found) in
      ap (λ (j : ℕ). get_or (texts s w g.m ++ listed_texts s w g c) j []) z ∙ get_or-append-add (texts s w g.m) (listed_texts s w g c) (k - g.m.count) []
      ∙ new_at_lem c (k - g.m.count) (omega arith)

  pub described_even : (v : ℕ) → v % 2 ≡ 0 → described_by s w g v ≡ printed_at s w g (key_at w g (v / 2))
  unfolding described_by pick
  described_even v e = cc (eq-eqb (v % 2) 0 e)

  -- one more
  pub named_more : (c : ℕ) → named_in s w g (c + 1) ≡ named_in s w g c ++ (described_by s w g (list_at w g c) ∷ [])
  unfolding named_in
  named_more c = ap (λ (e : ℕ). texts s w g.m ++ listed_texts s w g e) next ∙ ap (λ (us : List Text). texts s w g.m ++ us) (new_next c) ∙ sym (append_assoc (texts s w g.m) (listed_texts s w g c) (described_by s w g (list_at w g c) ∷ []))
    where
      next : c + 1 ≡ suc c
      next = omega arith

  -- where all entries are of pushed symbols
  pub new_prints : (c : ℕ) → ((i : ℕ) → i < c → list_at w g i % 2 ≡ 0) → listed_texts s w g c ≡ map (λ p. printed_at s w g p) (upto (new_at w g) c)
  unfolding listed_texts upto new_at
  new_prints zero f = refl
  new_prints (suc c) f =
      ap (λ (ts : List Text). ts ++ (described_by s w g (list_at w g c) ∷ [])) (new_prints c (λ i l. f i (omega arith)))
      ∙ ap (λ (t : Text). map (λ p. printed_at s w g p) (upto (new_at w g) c) ++ (t ∷ [])) (described_even (list_at w g c) (f c (omega arith)))
      ∙ sym (map-append (λ p. printed_at s w g p) (upto (new_at w g) c) (new_at w g c ∷ []))

-- ---- the same texts in another work
module _ (s w w' : List ℕ) (g : Ground) where
  described_same : (v : ℕ) → (v % 2 ≡ 0 → printed_at s w' g (key_at w' g (v / 2)) ≡ printed_at s w g (key_at w g (v / 2))) → described_by s w' g v ≡ described_by s w g v
  unfolding described_by pick
  described_same v f = go (eqb (v % 2) 0) refl
    where
      go : (b : Bool) → eqb (v % 2) 0 ≡ b → described_by s w' g v ≡ described_by s w g v
      go true e = cc (f (eqb-true (v % 2) 0 e))
      go false e = cc

  new_same : (c : ℕ) → ((i : ℕ) → i < c → described_by s w' g (list_at w' g i) ≡ described_by s w g (list_at w g i)) → listed_texts s w' g c ≡ listed_texts s w g c
  unfolding listed_texts
  new_same zero f = refl
  new_same (suc c) f = cc (new_same c (λ i l. f i (omega arith)), f c (omega arith))

  -- theorem: texts, entries and their prints being the same
  pub named-same : (c : ℕ) → texts s w' g.m ≡ texts s w g.m → ((i : ℕ) → i < c → list_at w' g i ≡ list_at w g i)
      → ((i : ℕ) → i < c → list_at w g i % 2 ≡ 0 → printed_at s w' g (key_at w' g (list_at w g i / 2)) ≡ printed_at s w g (key_at w g (list_at w g i / 2))) → named_in s w' g c ≡ named_in s w g c
  unfolding named_in
  named-same c t l f = cc (t, new_same c (λ i k. ap (described_by s w' g) (l i k) ∙ described_same (list_at w g i) (f i k)))
