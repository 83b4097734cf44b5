-- The laws of readings one behind another, in both directions: what lies in a tape is read, and what is read lies there. Assumes nothing.
use mathlib.Core.Path.{◌≡◌, refl, ap}
use mathlib.Core.List.{List, [], ◌∷◌, ◌++◌, append-nil, append_assoc}
use Prim.Native.Nat.{ℕ, zero, suc, ◌+◌, ◌≤◌}
use native.Mathlib.Omega.{arith}
use lib.ListN.{length, length-append}
use Rattle.octets.specs.Plain.Runs.{Lies}
use Rattle.octets.proofs.LiesLaws.{lies_none, lies_append, lies_split}
use Rattle.parse_tree.specs.Plain.Reading.{Reading, got, refused, then, times}
use Rattle.parse_tree.specs.Plain.WriteTape.{bytes_of_each}
use Rattle.parse_tree.specs.Working.Within.{Each}

-- no refusal is a yes
pub never : {A : Type 0} {k p e : ℕ} {x : A} → refused k p ≡ got x e → ⊥
never {A} {k} {p} {e} {x} q = let z : ◌≡◌ {A = ℕ} 0 1 = cc in omega arith

-- one yes is equal to one other only
pub got_as : {A : Type 0} (P : A → ℕ → Type 0) {d e : ℕ} {x y : A} → got x d ≡ got y e → P x d → P y e
got_as P {d} {e} {x} {y} p h =
    let q : x ≡ y = cc in
    let r : d ≡ e = cc in
    rw (← q, ← r) h

-- a yes of two readings: what the first read, and up to where
pub record Both {A B : Type 0} (m : Reading A) (f : A → ℕ → Reading B) (y : B) (e : ℕ) : Type 0 where
  pub value : A
  pub mid : ℕ
  pub first : m ≡ got value mid
  pub second : f value mid ≡ got y e

pub then-got : {A B : Type 0} (m : Reading A) (f : A → ℕ → Reading B) {y : B} {e : ℕ} → then m f ≡ got y e → Both m f y e
unfolding then
then-got (got x d) f p = record { value = x; mid = d; first = refl; second = p }
then-got (refused k q) f p = absurd (never p)

-- x lies from a to e, and is within its limits
pub record Found {A : Type 0} (s : List ℕ) (bytes : A → List ℕ) (Within : A → Type 0) (a : ℕ) (x : A) (e : ℕ) : Type 0 where
  pub lies : Lies s a (bytes x) e
  pub within : Within x

-- n of them, one behind another
abbrev pub FoundAll : {A : Type 0} → List ℕ → (A → List ℕ) → (A → Type 0) → ℕ → ℕ → List A → ℕ → Type 0
FoundAll s bytes Within n a xs e = Found s (bytes_of_each bytes) (λ ys. Each Within ys × (length ys ≡ n)) a xs e

pub found_as : {A : Type 0} {s : List ℕ} {bytes : A → List ℕ} {Within : A → Type 0} {a d e : ℕ} {x y : A} → got x d ≡ got y e → Found s bytes Within a x d → Found s bytes Within a y e
found_as {A} {s} {bytes} {Within} {a} {d} {e} {x} {y} p h = got_as (λ z m. Found s bytes Within a z m) p h

module _ {A : Type 0} (s : List ℕ) (f : ℕ → Reading A) (bytes : A → List ℕ) (Within : A → Type 0) where
  -- whatever lies in s and is within its limits is read
  abbrev pub Reads : Type 0
  Reads = (x : A) → Within x → (a e : ℕ) → Lies s a (bytes x) e → f a ≡ got x e

  -- whatever is read lies in s and is within its limits
  abbrev pub Finds : Type 0
  Finds = (a : ℕ) (x : A) (e : ℕ) → f a ≡ got x e → Found s bytes Within a x e

  pub times-reads : Reads → (xs : List A) → Each Within xs → (a e : ℕ) → Lies s a (bytes_of_each bytes xs) e → times f (length xs) a ≡ got xs e
  unfolding then times bytes_of_each
  times-reads r [] w a e l = let z : e ≡ a = omega (arith, l.end) in cc
  times-reads r (x ∷ xs) w a e l =
      let m = lies_split s a e (bytes x) (bytes_of_each bytes xs) l in
      cc (r x w.0 a (a + length (bytes x)) m.0, times-reads r xs w.1 (a + length (bytes x)) e m.1)

  times-finds : Finds → (n a : ℕ) (xs : List A) (e : ℕ) → times f n a ≡ got xs e → FoundAll s bytes Within n a xs e
  unfolding times bytes_of_each
  times-finds r zero a xs e p = found_as p (record { lies = lies_none s a; within = (tt, refl) })
  times-finds r (suc n) a xs e p =
      let b = then-got (f a) _ p in
      let c = then-got (times f n b.mid) _ b.second in
      let h = r a b.value b.mid b.first in
      let t = times-finds r n b.mid c.value c.mid c.first in
      found_as c.second (record { lies = lies_append h.lies t.lies; within = ((h.within, t.within.0), ap suc t.within.1) })

  -- and what is read behind them
  pub times-then : Finds → {B R : Type 0} (n a : ℕ) (g : List A → ℕ → Reading B) {y : B} {e : ℕ} → then (times f n a) g ≡ got y e
      → ((xs : List A) (m : ℕ) → FoundAll s bytes Within n a xs m → g xs m ≡ got y e → R) → R
  times-then r n a g p k =
      let h = then-got (times f n a) g p in
      k h.value h.mid (times-finds r n a h.value h.mid h.first) h.second

-- ---- each of a list
pub each_append : {A : Type 0} (P : A → Type 0) (xs ys : List A) → Each P xs → Each P ys → Each P (xs ++ ys)
each_append P [] ys h k = k
each_append P (x ∷ xs) ys h k = (h.0, each_append P xs ys h.1 k)

pub each_map : {A : Type 0} {P Q : A → Type 0} → ((a : A) → P a → Q a) → (xs : List A) → Each P xs → Each Q xs
each_map f [] h = tt
each_map f (x ∷ xs) h = (f x h.0, each_map f xs h.1)

-- the same where P and Q are told
pub each_all : {A : Type 0} (P Q : A → Type 0) → ((a : A) → P a → Q a) → (xs : List A) → Each P xs → Each Q xs
each_all P Q f xs h = each_map f xs h

module _ {A : Type 0} (bytes : A → List ℕ) where
  pub bytes_more : (xs : List A) (y : A) → bytes_of_each bytes (xs ++ (y ∷ [])) ≡ bytes_of_each bytes xs ++ bytes y
  unfolding bytes_of_each
  bytes_more [] y = append-nil (bytes y)
  bytes_more (x ∷ xs) y = cc (bytes_more xs y, append_assoc (bytes x) (bytes_of_each bytes xs) (bytes y))

  -- where each has a byte, there are at least as many bytes
  pub bytes_many : ((x : A) → 1 ≤ length (bytes x)) → (xs : List A) → length xs ≤ length (bytes_of_each bytes xs)
  unfolding bytes_of_each
  bytes_many h [] = omega arith
  bytes_many h (x ∷ xs) = omega (arith, h x, bytes_many h xs, length-append (bytes x) (bytes_of_each bytes xs))
