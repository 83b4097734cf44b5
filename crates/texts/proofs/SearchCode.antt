-- `search`: from a bucket's head the links pass every record of the bucket, and so each of the hash. Assumes nothing.
use mathlib.Core.Path.{◌≡◌, refl, sym, ap, subst, ◌∙◌}
use mathlib.Core.Bool.{Bool, true, false}
use mathlib.Core.List.{List}
use Prim.Native.Nat.{ℕ, zero, suc, ◌-◌, ◌<◌, ◌≤◌}
use native.Mathlib.Omega.{arith}
use borrow.Author.Rules.{rules}
use borrow.Author.Tests.{ltb-true, ltb-false, eqb-true, eqb-false}
use lib.Dec.{eqb, ltb}
use Rattle.std.specs.Prelude.{Option, Some, None, MatchOption}
use Rattle.octets.specs.Working.Choice.{pick}
use Rattle.texts.specs.Hash.{bucket_of}
use Rattle.texts.specs.Fields.{hash_at, link_at, head_at, bucket_at, last, Chained}
use Rattle.texts.specs.Table.{linked}
use Rattle.texts.specs.Search.{Asked, Rested, Searched}
use Rattle.texts.proofs.HashLaws.{bucket_small}
use Rattle.texts.proofs.TableStays.{linked-le}

-- ---- `last`
module _ (f : ℕ → ℕ) (y : ℕ) where
  pub last-le : (k : ℕ) → last f y k ≤ k
  unfolding last pick
  last-le zero = omega arith
  last-le (suc k) = go (eqb (f k) y) (last-le k)
    where
      go : (b : Bool) → last f y k ≤ k → pick b (suc k) (last f y k) ≤ suc k
      go true i = omega arith
      go false i = omega arith

  -- the record before it is of the bucket
  last_of : (k i : ℕ) → last f y k ≡ suc i → f i ≡ y
  unfolding last pick
  last_of zero i e = absurd (omega (arith, e))
  last_of (suc k) i e = go (eqb (f k) y) refl e (last_of k i)
    where
      go : (t : Bool) → eqb (f k) y ≡ t → pick t (suc k) (last f y k) ≡ suc i → (last f y k ≡ suc i → f i ≡ y) → f i ≡ y
      go true a c h = let z : i ≡ k = omega arith in rw z (eqb-true (f k) y a)
      go false a c h = h c

  -- and none behind it
  last_none : (k i : ℕ) → last f y k ≤ i → i < k → f i ≡ y → ⊥
  unfolding last pick
  last_none zero i a b e = omega arith
  last_none (suc k) i a b e = go (eqb (f k) y) refl a (last_none k i)
    where
      go : (t : Bool) → eqb (f k) y ≡ t → pick t (suc k) (last f y k) ≤ i → (last f y k ≤ i → i < k → f i ≡ y → ⊥) → ⊥
      go true c d h = omega arith
      go false c d h = step (ltb i k) refl
        where
          step : (u : Bool) → ltb i k ≡ u → ⊥
          step true l = h d (ltb-true i k l) e
          step false l = let z : i ≡ k = omega (arith, ltb-false i k l) in eqb-false (f k) y c (rw z at e)

-- ---- a record is asked where its hash is h
module _ (A : ℕ → Bool → Type 0) (w : List ℕ) (b h i q : ℕ) (e : q ≡ hash_at w b i) where
  pub asked_is : (r : Bool) → q ≡ h → A i r → Asked A w b h i r
  unfolding Asked
  asked_is true d a = (sym e ∙ d, a)
  asked_is false d a = λ z. a

  pub asked_not : (q ≡ h → ⊥) → Asked A w b h i (eqb q h)
  unfolding Asked
  asked_not n = go (eqb q h) refl
    where
      go : (t : Bool) → eqb q h ≡ t → Asked A w b h i t
      go true d = absurd (n (eqb-true q h d))
      go false d = λ z. absurd (n (e ∙ z))

  pub asked_yes : q ≡ h → A i true → Asked A w b h i true
  asked_yes = asked_is true

  pub asked_other : (q ≡ h → ⊥) → Asked A w b h i false
  unfolding Asked
  asked_other n = λ z. absurd (n (e ∙ z))

pub ruleset telling = (rules, asked_is, asked_not)

pub asked_no : (A : ℕ → Bool → Type 0) (w : List ℕ) (b h i : ℕ) → A i false → Asked A w b h i false
unfolding Asked
asked_no A w b h i a = λ z. a

-- ---- the walk: j is a record to look at, and one; x below is that record
pub record Asking (A : ℕ → Bool → Type 0) (w : List ℕ) (b m h n j : ℕ) : Type 0 where
  pub no : (i : ℕ) → j ≤ i → i < linked n → Asked A w b h i false
  pub chain : (i : ℕ) → j ≡ suc i → bucket_at w b m i ≡ bucket_of h m
  pub upto : j ≤ linked n

module _ (A : ℕ → Bool → Type 0) (w : List ℕ) (b m h n : ℕ) where
  -- the last of the bucket before k comes next
  ask_last : (k j : ℕ) → k ≤ linked n → ((i : ℕ) → k ≤ i → i < linked n → Asked A w b h i false) → j ≡ last (bucket_at w b m) (bucket_of h m) k → Asking A w b m h n j
  unfolding bucket_at Asked
  ask_last k j l g e = record {
    no = λ i p q. go i q (ltb i k) refl (rw e at p);
    chain = λ i z. last_of (bucket_at w b m) (bucket_of h m) k i (sym e ∙ z);
    upto = omega (arith, last-le (bucket_at w b m) (bucket_of h m) k);
  }
    where
      go : (i : ℕ) → i < linked n → (t : Bool) → ltb i k ≡ t → last (bucket_at w b m) (bucket_of h m) k ≤ i → Asked A w b h i false
      go i q true c p = λ r. absurd (last_none (bucket_at w b m) (bucket_of h m) k i p (ltb-true i k c) (ap (λ (v : ℕ). bucket_of v m) r))
      go i q false c p = g i (ltb-false i k c) q

  module _ (g : Chained w b m (linked n)) where
    pub ask_start : (y v j : ℕ) → h < 4294967296 → 0 < m → y ≡ bucket_of h m → v ≡ head_at w b y → j ≡ v → Asking A w b m h n j
    ask_start y v j s l e q r =
        ask_last (linked n) j (omega arith) (λ i p s. absurd (omega arith)) (r ∙ q ∙ ap (head_at w b) e ∙ g.heads (bucket_of h m) (bucket_small h m s l))

    module _ (j x : ℕ) (c : Asking A w b m h n j) (l : 1 ≤ j) (o : x ≡ j - 1) where
      pub ask_below : x < n
      ask_below = omega (arith, o, c.upto, linked-le n)

      link_is : link_at w b x ≡ last (bucket_at w b m) (bucket_of h m) x
      link_is = g.links x (omega (arith, o, c.upto)) ∙ ap (λ (v : ℕ). last (bucket_at w b m) v x) (c.chain x (omega (arith, o)))

      pub ask_next : (k : ℕ) → Asked A w b h x false → k ≡ link_at w b x → Asking A w b m h n k
      ask_next k a q = ask_last x k (omega (arith, o, c.upto)) (λ i p s. go i s (ltb i j) refl p) (q ∙ link_is)
        where
          go : (i : ℕ) → i < linked n → (t : Bool) → ltb i j ≡ t → x ≤ i → Asked A w b h i false
          go i s true d p = let z : x ≡ i = omega (arith, o, ltb-true i j d) in subst (λ (v : ℕ). Asked A w b h v false) z a
          go i s false d p = c.no i (ltb-false i j d) s

      pub ask_less : (k : ℕ) → k ≡ link_at w b x → k < j
      ask_less k q = omega (arith, o, link_is, last-le (bucket_at w b m) (bucket_of h m) x)

      pub ask_found : Asked A w b h x true → Searched A w b n h (Some x)
      unfolding Searched
      ask_found a = (ask_below, a)

  pub ask_rest : (j : ℕ) (r : Option ℕ) → Asking A w b m h n j → j ≤ 0 → Rested (Asked A w b h) n r → Searched A w b n h r
  unfolding Searched Rested
  ask_rest j (Some i) c l a = a
  ask_rest j None c l a = λ i k. go i k (ltb i (linked n)) refl
    where
      go : (i : ℕ) → i < n → (t : Bool) → ltb i (linked n) ≡ t → Asked A w b h i false
      go i k true d = c.no i (omega arith) (ltb-true i (linked n) d)
      go i k false d = a i (ltb-false i (linked n) d) k

pub ruleset asking = (rules, ask_start, ask_below, ask_next, ask_less, ask_found)

-- ---- `rest`: the first that is in no chain
module _ (A : ℕ → Bool → Type 0) (n : ℕ) where
  pub rested : (r : Option ℕ) → MatchOption r ((k : ℕ) → 4294967295 ≤ k → k < n → A k false) (λ i. (4294967295 ≤ i) × (i < n) × A i true × ((k : ℕ) → 4294967295 ≤ k → k < i → A k false)) → Rested A n r
  unfolding Rested linked
  rested (Some i) g = (g.1, g.2)
  rested None g = λ i l m. g i (omega arith) m

-- ---- what callers conclude, each answer being what `says` tells of its record: one of n, or none
unfoldable pub Picks : (ℕ → Bool) → ℕ → Option ℕ → Type 0
Picks says n (Some k) = (k < n) × (says k ≡ true)
Picks says n None = (i : ℕ) → i < n → says i ≡ false

-- h is the hash of each that `says` tells
module _ (says : ℕ → Bool) (A : ℕ → Bool → Type 0) (w : List ℕ) (b n h : ℕ) where
  pub picked : (r : Option ℕ) → Searched A w b n h r → ((i : ℕ) (a : Bool) → A i a → a ≡ says i) → ((i : ℕ) → i < n → says i ≡ true → hash_at w b i ≡ h) → Picks says n r
  unfolding Picks Searched Asked
  picked (Some k) g same of = (g.0, sym (same k true g.1.1))
  picked None g same of = λ i l. go i l (says i) refl
    where
      go : (i : ℕ) → i < n → (t : Bool) → says i ≡ t → t ≡ false
      go i l true e = sym e ∙ sym (same i false (g i l (of i l e)))
      go i l false e = refl
