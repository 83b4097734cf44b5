-- The chains: a record more, none, and all anew. Assumes nothing.
use mathlib.Core.Path.{◌≡◌, refl, sym, ap, ◌∙◌}
use mathlib.Core.Bool.{Bool, true, false}
use mathlib.Core.Logic.{inl, inr}
use mathlib.Core.List.{List}
use Prim.Native.Nat.{ℕ, zero, suc, ◌+◌, ◌*◌, ◌<◌, ◌≤◌}
use native.Mathlib.Omega.{arith}
use native.Mathlib.Numerals.{add-one}
use borrow.Author.Rules.{rules}
use borrow.Author.Tests.{ltb-true, ltb-false, eqb-true, eqb-false}
use lib.Dec.{eqb, ltb}
use lib.ListN.{length}
use Rattle.octets.specs.Working.Choice.{pick}
use Rattle.octets.specs.Plain.Numbers.{le}
use Rattle.octets.specs.Working.Stores.{store}
use Rattle.octets.proofs.NumbersLaws.{length-le}
use Rattle.octets.proofs.StoreLaws.{le_at-same}
use Rattle.texts.specs.Hash.{bucket_of}
use Rattle.texts.specs.Fields.{hash_at, link_at, head_at, bucket_at, last, Chained, RecordsKept, Relinking, Relinked, Linked}
use Rattle.texts.proofs.HashLaws.{bucket_small}
use Rattle.texts.proofs.FieldsCode.{Beside, beside}

-- ---- what is kept
pub kept-all : (w : List ℕ) (b k n : ℕ) → RecordsKept w w b k n
kept-all w b k n = record { long = refl; marks = λ i. refl; hashes = λ i. refl; cells = λ i. refl; before = λ i h. refl; after = λ i g h. refl }

pub kept_trans : (w w1 w2 : List ℕ) (b k n : ℕ) → RecordsKept w w1 b k n → RecordsKept w1 w2 b k n → RecordsKept w w2 b k n
kept_trans w w1 w2 b k n p q = record {
  long = q.long ∙ p.long;
  marks = λ i. q.marks i ∙ p.marks i;
  hashes = λ i. q.hashes i ∙ p.hashes i;
  cells = λ i. q.cells i ∙ p.cells i;
  before = λ i h. q.before i h ∙ p.before i h;
  after = λ i g h. q.after i g h ∙ p.after i g h;
}

pub kept-wide : (w w1 : List ℕ) (b k e n : ℕ) → k ≤ e → RecordsKept w w1 b k n → RecordsKept w w1 b e n
kept-wide w w1 b k e n l p = record {
  long = p.long;
  marks = p.marks;
  hashes = p.hashes;
  cells = p.cells;
  before = p.before;
  after = λ i g h. p.after i (omega arith) h;
}

-- ---- `last`
pub last-same : (f g : ℕ → ℕ) (y k : ℕ) → ((i : ℕ) → i < k → g i ≡ f i) → last g y k ≡ last f y k
unfolding last
last-same f g y zero e = refl
last-same f g y (suc k) e = cc (e k (omega arith), last-same f g y k (λ i h. e i (omega arith)))

-- the chains are as they were where the fields are
pub chained_same : (w w1 : List ℕ) (b n k : ℕ) → ((i : ℕ) → i < k → hash_at w1 b i ≡ hash_at w b i) → ((i : ℕ) → i < k → link_at w1 b i ≡ link_at w b i) → ((y : ℕ) → y < n → head_at w1 b y ≡ head_at w b y)
    → Chained w b n k → Chained w1 b n k
unfolding bucket_at
chained_same w w1 b n k e l d c = record {
  links = λ i h. l i h ∙ c.links i h ∙ ap (λ (y : ℕ). last (bucket_at w b n) y i) (sym (f i h)) ∙ sym (last-same (bucket_at w b n) (bucket_at w1 b n) (bucket_at w1 b n i) i (λ j g. f j (omega arith)));
  heads = λ y h. d y h ∙ c.heads y h ∙ sym (last-same (bucket_at w b n) (bucket_at w1 b n) y k f);
}
  where
    f : (i : ℕ) → i < k → bucket_at w1 b n i ≡ bucket_at w b n i
    f i h = ap (λ (x : ℕ). bucket_of x n) (e i h)

pub buckets_same : (w w1 : List ℕ) (b n : ℕ) → ((i : ℕ) → hash_at w1 b i ≡ hash_at w b i) → (i : ℕ) → bucket_at w1 b n i ≡ bucket_at w b n i
unfolding bucket_at
buckets_same w w1 b n e i = ap (λ (h : ℕ). bucket_of h n) (e i)

-- ---- `put_in_bucket`
pub link_bucket : (h n y : ℕ) → h < 4294967296 → 0 < n → y ≡ bucket_of h n → y < n
link_bucket h n y l m e = rw e (bucket_small h n l m)

module _ (w w1 w2 : List ℕ) (b n k y v : ℕ) where
  put_linked : b + 24 * k + 24 ≤ length w → b + 24 * n ≤ length w → y < n → k < 4294967295 → v < 4294967296 → v ≡ head_at w b y → w1 ≡ store w (b + 24 * k + 12) (le 4 v) → w2 ≡ store w1 (b + 24 * y + 16) (le 4 (k + 1))
      → Linked w b n k y w2
  unfolding link_at head_at
  put_linked r m l kf vf e p q =
      let d1 : Beside w w1 b k 12 4 = beside w w1 (b + 24 * k + 12) (le 4 v) b k 12 4 p refl (length-le 4 v) (omega arith) in
      let d2 : Beside w1 w2 b y 16 4 = beside w1 w2 (b + 24 * y + 16) (le 4 (k + 1)) b y 16 4 q refl (length-le 4 (k + 1)) (omega arith) in
      let l1 = d1.long in
      let s1 : link_at w1 b k ≡ v = rw p (le_at-same 4 w (b + 24 * k + 12) v (omega arith) vf) in
      let s2 : head_at w2 b y ≡ k + 1 = rw q (le_at-same 4 w1 (b + 24 * y + 16) (k + 1) (omega arith) (omega arith)) in
      record {
        kept = record {
          long = d2.long ∙ l1;
          marks = λ i. d2.mark i (λ _. inl (omega arith)) ∙ d1.mark i (λ _. inl (omega arith));
          hashes = λ i. d2.hash i (λ _. inl (omega arith)) ∙ d1.hash i (λ _. inl (omega arith));
          cells = λ i. d2.cell i (λ _. inr (omega arith)) ∙ d1.cell i (λ _. inr (omega arith));
          before = λ i h. d2.before i (omega arith) ∙ d1.before i (omega arith);
          after = λ i g h. d2.after i (omega arith) ∙ d1.after i (omega arith);
        };
        link = d2.link k (λ _. inl (omega arith)) ∙ s1 ∙ e;
        links = λ i x. d2.link i (λ _. inl (omega arith)) ∙ d1.link i (λ z. absurd (x z));
        head = s2;
        heads = λ i x. d2.head i (λ z. absurd (x z)) ∙ d1.head i (λ _. inr (omega arith));
      }

pub link_is : (w w1 w2 : List ℕ) (b n k y v h : ℕ) → y ≡ bucket_of h n → b + 24 * k + 24 ≤ length w → b + 24 * n ≤ length w → h < 4294967296 → 0 < n → k < 4294967295 → v < 4294967296 → v ≡ head_at w b y → w1 ≡ store w (b + 24 * k + 12) (le 4 v)
    → w2 ≡ store w1 (b + 24 * y + 16) (le 4 (k + 1)) → Linked w b n k (bucket_of h n) w2
link_is w w1 w2 b n k y v h d r m l s f g e p q = let z = put_linked w w1 w2 b n k y v r m (link_bucket h n y l s d) f g e p q in rw d at z

pub ruleset linking = (rules, link_bucket, link_is)

-- a record more in the chains
module _ (w w1 : List ℕ) (b n k h : ℕ) (c : Chained w b n k) (e : h ≡ hash_at w b k) (m : bucket_of h n < n) (l : Linked w b n k (bucket_of h n) w1) where
  here : bucket_of h n ≡ bucket_at w b n k
  unfolding bucket_at
  here = rw e

  same : (y i : ℕ) → last (bucket_at w1 b n) y i ≡ last (bucket_at w b n) y i
  same y i = last-same (bucket_at w b n) (bucket_at w1 b n) y i (λ j _. buckets_same w w1 b n l.kept.hashes j)

  was : (i : ℕ) → bucket_at w1 b n i ≡ bucket_at w b n i
  was i = buckets_same w w1 b n l.kept.hashes i

  link_at_lem : (i : ℕ) (t : Bool) → ltb i k ≡ t → i < suc k → link_at w1 b i ≡ last (bucket_at w1 b n) (bucket_at w1 b n i) i
  link_at_lem i true u x =
      let v = ltb-true i k u in
      l.links i (λ z. omega arith) ∙ c.links i v ∙ sym (same (bucket_at w1 b n i) i ∙ ap (λ (y : ℕ). last (bucket_at w b n) y i) (was i))
  link_at_lem i false u x =
      let z : i ≡ k = omega (arith, ltb-false i k u) in
      rw z (l.link ∙ go)
    where
      go : head_at w b (bucket_of h n) ≡ last (bucket_at w1 b n) (bucket_at w1 b n k) k
      go = c.heads (bucket_of h n) m ∙ ap (λ (y : ℕ). last (bucket_at w b n) y k) (here ∙ sym (was k)) ∙ sym (same (bucket_at w1 b n k) k)

  head_at_lem : (y : ℕ) (t : Bool) → eqb (bucket_at w1 b n k) y ≡ t → y < n → head_at w1 b y ≡ pick t (suc k) (last (bucket_at w1 b n) y k)
  unfolding pick
  head_at_lem y true u x =
      let z : bucket_of h n ≡ y = here ∙ sym (was k) ∙ eqb-true (bucket_at w1 b n k) y u in
      ap (head_at w1 b) (sym z) ∙ l.head ∙ add-one k
  head_at_lem y false u x =
      let z : y ≡ bucket_of h n → ⊥ = λ q. eqb-false (bucket_at w1 b n k) y u (was k ∙ sym here ∙ sym q) in
      l.heads y z ∙ c.heads y x ∙ sym (same y k)

  pub chained_more : Chained w1 b n (k + 1)
  unfolding last
  chained_more = rw (add-one k) (record {
    links = λ i x. link_at_lem i (ltb i k) refl x;
    heads = λ y x. head_at_lem y (eqb (bucket_at w1 b n k) y) refl x;
  })

-- ---- `empty`: the first y heads are 0
pub record Emptying (w₀ w : List ℕ) (b n y : ℕ) : Type 0 where
  pub kept : RecordsKept w₀ w b 0 n
  pub wide : b + 24 * n ≤ length w
  pub upto : y ≤ n
  pub none : (i : ℕ) → i < y → head_at w b i ≡ 0

pub empty_start : (w : List ℕ) (b n : ℕ) → b + 24 * n ≤ length w → Emptying w w b n 0
empty_start w b n h = record { kept = kept-all w b 0 n; wide = h; upto = omega arith; none = λ i k. absurd (omega arith) }

module _ (w₀ w : List ℕ) (b n y : ℕ) (g : Emptying w₀ w b n y) where
  pub empty_room : y < n → b + 24 * y + 24 ≤ length w
  empty_room h = omega (arith, g.wide)

  pub empty_next : (w1 : List ℕ) → y < n → w1 ≡ store w (b + 24 * y + 16) (le 4 0) → Emptying w₀ w1 b n (y + 1)
  unfolding head_at
  empty_next w1 h p =
      let v = g.wide in
      let d : Beside w w1 b y 16 4 = beside w w1 (b + 24 * y + 16) (le 4 0) b y 16 4 p refl (length-le 4 0) (omega arith) in
      let s : head_at w1 b y ≡ 0 = rw p (le_at-same 4 w (b + 24 * y + 16) 0 (omega arith) (omega arith)) in
      record {
        kept = kept_trans w₀ w w1 b 0 n g.kept (record {
          long = d.long;
          marks = λ i. d.mark i (λ _. inl (omega arith));
          hashes = λ i. d.hash i (λ _. inl (omega arith));
          cells = λ i. d.cell i (λ _. inr (omega arith));
          before = λ i k. d.before i (omega arith);
          after = λ i j k. d.after i (omega arith);
        });
        wide = rw d.long v;
        upto = omega arith;
        none = λ i k. go d s i (ltb i y) refl k;
      }
    where
      go : Beside w w1 b y 16 4 → head_at w1 b y ≡ 0 → (i : ℕ) (t : Bool) → ltb i y ≡ t → i < y + 1 → head_at w1 b i ≡ 0
      go d s i true u k = let v = ltb-true i y u in d.head i (λ z. absurd (omega arith)) ∙ g.none i v
      go d s i false u k = let z : i ≡ y = omega (arith, ltb-false i y u) in rw z s

  pub empty_done : n ≤ y → Relinked w₀ w b 0 n
  unfolding last
  empty_done h = record {
    kept = g.kept;
    chained = record { links = λ i k. absurd (omega arith); heads = λ i k. g.none i (omega arith) };
  }

  pub empty_long : length w ≡ length w₀
  empty_long = g.kept.long

pub ruleset emptying = (rules, empty_start, empty_room, empty_next, empty_done, empty_long)

-- ---- `relink`: the first i are in the chains
pub record Chains (w₀ w : List ℕ) (b n e i : ℕ) : Type 0 where
  pub kept : RecordsKept w₀ w b e n
  pub again : Relinking w b n i e

pub chains_start : (w : List ℕ) (b n k e : ℕ) → Relinking w b n k e → Chains w w b n e k
chains_start w b n k e r = record { kept = kept-all w b e n; again = r }

module _ (w₀ w : List ℕ) (b n e i : ℕ) (g : Chains w₀ w b n e i) where
  pub chains_record : i < e → b + 24 * i + 24 ≤ length w
  chains_record h = omega (arith, g.again.room)

  pub chains_wide : b + 24 * n ≤ length w
  chains_wide = g.again.wide

  pub chains_some : i < e → 0 < n
  chains_some h = g.again.some h

  pub chains_narrow : n ≤ 4294967295
  chains_narrow = g.again.narrow

  pub chains_few : i < e → i < 4294967295
  chains_few h = omega (arith, g.again.few)

  pub chains_next : (h : ℕ) (w1 : List ℕ) → i < e → h < 4294967296 → h ≡ hash_at w b i → Linked w b n i (bucket_of h n) w1 → Chains w₀ w1 b n e (i + 1)
  chains_next h w1 l s p k =
      let r = g.again in
      record {
        kept = kept_trans w₀ w w1 b e n g.kept (kept-wide w w1 b (i + 1) e n (omega arith) k.kept);
        again = record {
          chained = chained_more w w1 b n i h r.chained p (bucket_small h n s (r.some l)) k;
          upto = omega arith;
          few = r.few;
          narrow = r.narrow;
          room = rw k.kept.long r.room;
          wide = rw k.kept.long r.wide;
          some = λ q. r.some l;
        };
      }

  pub chains_done : e ≤ i → Relinked w₀ w b e n
  chains_done l =
      let z : i ≡ e = omega (arith, g.again.upto) in
      record { kept = g.kept; chained = rw z at g.again.chained }

  pub chains_long : length w ≡ length w₀
  chains_long = g.kept.long

pub ruleset chaining = (rules, chains_start, chains_record, chains_wide, chains_some, chains_narrow, chains_few, chains_next, chains_done, chains_long)
