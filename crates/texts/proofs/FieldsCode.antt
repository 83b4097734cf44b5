-- The fields of a record, read after stores. Assumes nothing.
use mathlib.Core.Path.{◌≡◌, refl, ◌∙◌}
use mathlib.Core.Bool.{Bool, true, false}
use mathlib.Core.Logic.{◌⊎◌, inl, inr}
use mathlib.Core.List.{List}
use Prim.Native.Nat.{ℕ, ◌+◌, ◌*◌, ◌%◌, ◌^◌, ◌<◌, ◌≤◌}
use native.Mathlib.Omega.{arith}
use borrow.Author.Rules.{rules}
use borrow.Author.Tests.{ltb-true, ltb-false}
use lib.Dec.{ltb}
use lib.ListN.{length, get_or}
use Rattle.octets.specs.Plain.Numbers.{le_at, le}
use Rattle.octets.specs.Working.Stores.{store}
use Rattle.octets.proofs.NumbersLaws.{length-le}
use Rattle.octets.proofs.StoreLaws.{length_store, le_at-other, le_at-same, get_d_store_before, get_d_store_after}
use Rattle.texts.specs.Fields.{mark_at, class_at, hash_at, link_at, head_at, cell_at, RecordWritten}

-- ---- the readers
module _ (w : List ℕ) (b k x : ℕ) where
  pub mark_done : x ≡ le_at 8 w (b + 24 * k) → x ≡ mark_at w b k
  unfolding mark_at
  mark_done p = p

  pub class_done : (n : ℕ) → n ≡ x % 4 → x ≡ mark_at w b k → n ≡ class_at w b k
  unfolding class_at
  class_done n e p = rw p at e

  pub head_done : x ≡ le_at 4 w (b + 24 * k + 16) → x ≡ head_at w b k
  unfolding head_at
  head_done p = p

  pub cell_done : x ≡ le_at 4 w (b + 24 * k + 20) → x ≡ cell_at w b k
  unfolding cell_at
  cell_done p = p

  module _ (r : ℕ) (e : r ≡ x) where
    pub hash_done : x ≡ le_at 4 w (b + 24 * k + 8) → r ≡ hash_at w b k
    unfolding hash_at
    hash_done p = e ∙ p

    pub link_done : x ≡ le_at 4 w (b + 24 * k + 12) → r ≡ link_at w b k
    unfolding link_at
    link_done p = e ∙ p

pub ruleset fielding = (rules, mark_done, class_done, cell_done, hash_done, link_done, head_done)

-- ---- a number of a record is as it was after a store in another record, or beside it in the same
module _ (w : List ℕ) (y : ℕ) (vs : List ℕ) (b i p : ℕ) (at : y ≡ b + 24 * i + p) (fit : p + length vs ≤ 24) where
  other : (n x j o : ℕ) → x ≡ b + 24 * j + o → o + n ≤ 24 → (j ≡ i → (o + n ≤ p) ⊎ (p + length vs ≤ o)) → le_at n (store w y vs) x ≡ le_at n w x
  other n x j o e l f = le_at-other n w y vs x (go (ltb j i) refl (ltb i j) refl)
    where
      go : (s : Bool) → ltb j i ≡ s → (t : Bool) → ltb i j ≡ t → (x + n ≤ y) ⊎ (y + length vs ≤ x)
      go true a t c = let z = ltb-true j i a in inl (omega arith)
      go false a true c = let z = ltb-true i j c in inr (omega arith)
      go false a false c =
          let u = ltb-false j i a in
          let v = ltb-false i j c in
          let z : j ≡ i = omega arith in
          elim (f z) [ inl q ↦ inl (omega arith) | inr q ↦ inr (omega arith) ]

  pub mark_other : (j : ℕ) → (j ≡ i → (8 ≤ p) ⊎ (p + length vs ≤ 0)) → mark_at (store w y vs) b j ≡ mark_at w b j
  unfolding mark_at
  mark_other j f = other 8 (b + 24 * j) j 0 (omega arith) (omega arith) f

  pub hash_other : (j : ℕ) → (j ≡ i → (12 ≤ p) ⊎ (p + length vs ≤ 8)) → hash_at (store w y vs) b j ≡ hash_at w b j
  unfolding hash_at
  hash_other j f = other 4 (b + 24 * j + 8) j 8 refl (omega arith) f

  pub link_other : (j : ℕ) → (j ≡ i → (16 ≤ p) ⊎ (p + length vs ≤ 12)) → link_at (store w y vs) b j ≡ link_at w b j
  unfolding link_at
  link_other j f = other 4 (b + 24 * j + 12) j 12 refl (omega arith) f

  pub head_other : (j : ℕ) → (j ≡ i → (20 ≤ p) ⊎ (p + length vs ≤ 16)) → head_at (store w y vs) b j ≡ head_at w b j
  unfolding head_at
  head_other j f = other 4 (b + 24 * j + 16) j 16 refl (omega arith) f

  pub cell_other : (j : ℕ) → (j ≡ i → (24 ≤ p) ⊎ (p + length vs ≤ 20)) → cell_at (store w y vs) b j ≡ cell_at w b j
  unfolding cell_at
  cell_other j f = other 4 (b + 24 * j + 20) j 20 refl (omega arith) f

  pub before-other : (j : ℕ) → j < b + 24 * i → get_or (store w y vs) j 0 ≡ get_or w j 0
  before-other j l = get_d_store_before w y vs j (omega arith)

  pub after-other : (j : ℕ) → b + 24 * i + 24 ≤ j → get_or (store w y vs) j 0 ≡ get_or w j 0
  after-other j l = get_d_store_after w y vs j (omega arith)

-- ---- all of it, of one store
pub record Beside (w w' : List ℕ) (b i p l : ℕ) : Type 0 where
  pub long : length w' ≡ length w
  pub mark : (j : ℕ) → (j ≡ i → (8 ≤ p) ⊎ (p + l ≤ 0)) → mark_at w' b j ≡ mark_at w b j
  pub hash : (j : ℕ) → (j ≡ i → (12 ≤ p) ⊎ (p + l ≤ 8)) → hash_at w' b j ≡ hash_at w b j
  pub link : (j : ℕ) → (j ≡ i → (16 ≤ p) ⊎ (p + l ≤ 12)) → link_at w' b j ≡ link_at w b j
  pub head : (j : ℕ) → (j ≡ i → (20 ≤ p) ⊎ (p + l ≤ 16)) → head_at w' b j ≡ head_at w b j
  pub cell : (j : ℕ) → (j ≡ i → (24 ≤ p) ⊎ (p + l ≤ 20)) → cell_at w' b j ≡ cell_at w b j
  pub before : (j : ℕ) → j < b + 24 * i → get_or w' j 0 ≡ get_or w j 0
  pub after : (j : ℕ) → b + 24 * i + 24 ≤ j → get_or w' j 0 ≡ get_or w j 0

pub beside : (w w' : List ℕ) (y : ℕ) (vs : List ℕ) (b i p l : ℕ) → w' ≡ store w y vs → y ≡ b + 24 * i + p → length vs ≡ l → p + l ≤ 24 → Beside w w' b i p l
beside w w' y vs b i p l o e n f =
    let g : p + length vs ≤ 24 = omega arith in
    rw (o, ← n) (record {
      long = length_store w y vs;
      mark = mark_other w y vs b i p e g;
      hash = hash_other w y vs b i p e g;
      link = link_other w y vs b i p e g;
      head = head_other w y vs b i p e g;
      cell = cell_other w y vs b i p e g;
      before = before-other w y vs b i p e g;
      after = after-other w y vs b i p e g;
    })

-- ---- `write`: three stores
module _ (w w1 w2 w3 : List ℕ) (b k x h c : ℕ) where
  pub written : b + 24 * k + 24 ≤ length w → x < 2 ^ 64 → h < 4294967296 → c < 4294967296 → w1 ≡ store w (b + 24 * k) (le 8 x) → w2 ≡ store w1 (b + 24 * k + 8) (le 4 h) → w3 ≡ store w2 (b + 24 * k + 20) (le 4 c)
      → RecordWritten w b k x h c w3
  unfolding mark_at hash_at cell_at
  written r xf hf cf p q o =
      let d1 : Beside w w1 b k 0 8 = beside w w1 (b + 24 * k) (le 8 x) b k 0 8 p (omega arith) (length-le 8 x) (omega arith) in
      let d2 : Beside w1 w2 b k 8 4 = beside w1 w2 (b + 24 * k + 8) (le 4 h) b k 8 4 q refl (length-le 4 h) (omega arith) in
      let d3 : Beside w2 w3 b k 20 4 = beside w2 w3 (b + 24 * k + 20) (le 4 c) b k 20 4 o refl (length-le 4 c) (omega arith) in
      let l1 = d1.long in
      let l2 = d2.long in
      let s1 : mark_at w1 b k ≡ x = rw p (le_at-same 8 w (b + 24 * k) x (omega arith) xf) in
      let s2 : hash_at w2 b k ≡ h = rw q (le_at-same 4 w1 (b + 24 * k + 8) h (omega arith) hf) in
      let s3 : cell_at w3 b k ≡ c = rw o (le_at-same 4 w2 (b + 24 * k + 20) c (omega arith) cf) in
      record {
        long = d3.long ∙ l2 ∙ l1;
        mark = d3.mark k (λ _. inl (omega arith)) ∙ d2.mark k (λ _. inl (omega arith)) ∙ s1;
        hash = d3.hash k (λ _. inl (omega arith)) ∙ s2;
        cell = s3;
        marks = λ j n. d3.mark j (λ _. inl (omega arith)) ∙ d2.mark j (λ _. inl (omega arith)) ∙ d1.mark j (λ e. absurd (n e));
        hashes = λ j n. d3.hash j (λ _. inl (omega arith)) ∙ d2.hash j (λ e. absurd (n e)) ∙ d1.hash j (λ _. inr (omega arith));
        cells = λ j n. d3.cell j (λ e. absurd (n e)) ∙ d2.cell j (λ _. inr (omega arith)) ∙ d1.cell j (λ _. inr (omega arith));
        links = λ j. d3.link j (λ _. inl (omega arith)) ∙ d2.link j (λ _. inr (omega arith)) ∙ d1.link j (λ _. inr (omega arith));
        heads = λ j. d3.head j (λ _. inl (omega arith)) ∙ d2.head j (λ _. inr (omega arith)) ∙ d1.head j (λ _. inr (omega arith));
        before = λ j l. d3.before j l ∙ d2.before j l ∙ d1.before j l;
        after = λ j l. d3.after j l ∙ d2.after j l ∙ d1.after j l;
      }

pub ruleset writing = (rules, written)
