-- Which texts were met, by numbers: the marks that a round begins with, and the cells that it leaves to the next one. Assumes nothing.
use mathlib.Core.Path.{◌≡◌, refl, sym, ap, ◌∙◌, subst}
use mathlib.Core.Bool.{Bool, true, false, cond, ◌||◌, or_comm, false≢true}
use mathlib.Core.Logic.{◌⊎◌, inl, inr}
use mathlib.Core.List.{List, [], ◌∷◌, ◌++◌, map}
use Prim.Native.Nat.{ℕ, zero, suc, ◌+◌, ◌-◌, ◌/◌, ◌%◌, ◌<◌, ◌≤◌}
use native.Mathlib.Omega.{arith}
use borrow.Author.Tests.{eqb-true, eqb-false, eq-eqb, ne_eqb, ltb-true, ltb-false, lt-ltb, le-leb, lt-leb}
use lib.Dec.{eqb, ltb, leb}
use lib.ListN.{length, get_or}
use Rattle.octets.specs.Working.Choice.{pick}
use Rattle.octets.specs.Plain.Runs.{same_as}
use Rattle.octets.proofs.SameLaws.{same_as-eq, eq_same_as}
use Rattle.parse_tree.specs.Plain.Tree.{Text}
use Rattle.parse_tree.specs.Plain.Texts.{has, number, distinct}
use Rattle.parse_tree.specs.Working.Within.{Each}
use Rattle.parse_tree.proofs.TextLaws.{number-below, text_number, has-text, number-text}
use Rattle.parse_tree.proofs.AmongLaws.{has_here, has-later, has-cases, has-before}
use Rattle.texts.specs.Fields.{cell_at}
use Rattle.texts.specs.Table.{texts}
use Rattle.texts.proofs.TextCode.{length_texts}
use Rattle.texts.proofs.TableStays.{le_at-agree}
use Rattle.laws.specs.Keys.{built_ins}
use Rattle.replacing.specs.Slots.{text, like, among}
use Rattle.replacing.specs.Sound.{Key}
use Rattle.replacing.proofs.SlotsMean.{has-or, among-here, among_later}
use Rattle.replacing.proofs.Closing.{among-each}
use Rattle.replacing.proofs.NumbersMean.{has-append}
use Rattle.expander.specs.declared.Ground.{Ground}
use Rattle.expander.specs.Ground.{slot_at, key_at, list_place, list_at, new_at, pushed_text, printed_at}
use Rattle.expander.specs.Held.{down, keep_if, any_of, followed, ref_by, ref_in, is_text}
use Rattle.expander.specs.Names.{described_by, named_in, NameRef, Names}
use Rattle.expander.specs.Stage.{MarksAre}
use Rattle.expander.proofs.NamedTexts.{length_named, named-found, named_new, described_even}
use Rattle.settling.specs.One.{new_cell}
use Rattle.settling.specs.Settle.{Settles, MarkedPushed}
use Rattle.settling.specs.declared.settle.Settled.{Settled}
use Rattle.rounds.specs.Paid.{KeysKnown}

-- two tests that hold together
same_test : (a b : Bool) → (a ≡ true → b ≡ true) → (b ≡ true → a ≡ true) → a ≡ b
same_test true b f g = sym (f refl)
same_test false true f g = g refl
same_test false false f g = refl

-- ---- the numbers below n that pass a test
abbrev passing : (ℕ → Bool) → ℕ → List ℕ
passing f n = keep_if f (down (λ i. i) n)

passing_below : (f : ℕ → Bool) (n m : ℕ) → n ≤ m → Each (λ (i : ℕ). i < m) (passing f n)
unfolding keep_if down
passing_below f zero m l = tt
passing_below f (suc n) m l = go (f n) (passing_below f n m (omega arith))
  where
    go : (b : Bool) → Each (λ (i : ℕ). i < m) (passing f n) → Each (λ (i : ℕ). i < m) (cond b (n ∷ passing f n) (passing f n))
    go true h = (omega arith, h)
    go false h = h

passing_none : (f : ℕ → Bool) (n m : ℕ) → n ≤ m → among m (passing f n) ≡ false
unfolding keep_if down among
passing_none f zero m l = refl
passing_none f (suc n) m l = go (f n) (passing_none f n m (omega arith))
  where
    go : (b : Bool) → among m (passing f n) ≡ false → among m (cond b (n ∷ passing f n) (passing f n)) ≡ false
    go true h = ap (λ (c : Bool). cond c true (among m (passing f n))) (ne_eqb n m (λ e. omega arith)) ∙ h
    go false h = h

passing_is : (f : ℕ → Bool) (n k : ℕ) → k < n → among k (passing f n) ≡ f k
unfolding keep_if down among
passing_is f zero k l = absurd (omega arith)
passing_is f (suc n) k l = go (f n) refl (eqb n k) refl (passing_is f n k)
  where
    go : (b : Bool) → f n ≡ b → (c : Bool) → eqb n k ≡ c → (k < n → among k (passing f n) ≡ f k) → among k (cond b (n ∷ passing f n) (passing f n)) ≡ f k
    go true x true y h = ap (λ (c : Bool). cond c true (among k (passing f n))) y ∙ sym (ap f (sym (eqb-true n k y)) ∙ x)
    go true x false y h = let z = eqb-false n k y in ap (λ (c : Bool). cond c true (among k (passing f n))) y ∙ h (omega arith)
    go false x true y h = let z = eqb-true n k y in passing_none f n k (omega arith) ∙ sym (ap f (sym z) ∙ x)
    go false x false y h = let z = eqb-false n k y in h (omega arith)

-- ---- texts by number
text_in_lem : (h : ℕ → Text) (k : ℕ) (ms : List ℕ) → among k ms ≡ true → has (h k) (map h ms) ≡ true
unfolding among
text_in_lem h k [] e = absurd (false≢true e)
text_in_lem h k (m ∷ ms) e = go (eqb m k) refl e (text_in_lem h k ms)
  where
    go : (b : Bool) → eqb m k ≡ b → cond b true (among k ms) ≡ true → (among k ms ≡ true → has (h k) (map h ms) ≡ true) → has (h k) (h m ∷ map h ms) ≡ true
    go true y z f = subst (λ (v : ℕ). has (h k) (h v ∷ map h ms) ≡ true) (sym (eqb-true m k y)) (has_here (h k) (map h ms))
    go false y z f = has-later (h k) (h m) (map h ms) (f z)

text_from : (h : ℕ → Text) (t : Text) (ms : List ℕ) → has t (map h ms) ≡ true → (k : ℕ) × (among k ms ≡ true) × (h k ≡ t)
unfolding has
text_from h t [] e = absurd (false≢true e)
text_from h t (m ∷ ms) e = go (has-cases t (h m) (map h ms) e) (text_from h t ms)
  where
    go : (h m ≡ t) ⊎ (has t (map h ms) ≡ true) → (has t (map h ms) ≡ true → (k : ℕ) × (among k ms ≡ true) × (h k ≡ t)) → (k : ℕ) × (among k (m ∷ ms) ≡ true) × (h k ≡ t)
    go (inl z) f = (m, among-here m ms, z)
    go (inr z) f = let (k, a, b) = f z in (k, among_later k m ms a, b)

-- a text that isn't P is not among texts that all are
each-out : (P : Text → Type 0) (t : Text) (us : List Text) → Each P us → (P t → ⊥) → has t us ≡ false
unfolding has
each-out P t [] h n = refl
each-out P t (u ∷ us) h n = has-or t u us ∙ go (same_as u t) refl (each-out P t us h.1 n)
  where
    go : (b : Bool) → same_as u t ≡ b → has t us ≡ false → (b || has t us) ≡ false
    go true e f = absurd (n (subst P (same_as-eq u t e) h.0))
    go false e f = f

-- ---- THE THEOREM: the numbers of the texts that were met, where their cells say so
module _ (s w : List ℕ) (g : Ground) (K : List Text) (known : KeysKnown (texts s w g.m) K)
    (old : (k : ℕ) → k < g.m.count → Key (get_or (texts s w g.m) k []) → leb 2147483648 (cell_at w g.m.base k) ≡ has (get_or (texts s w g.m) k []) K) where
  abbrev ts : List Text
  ts = texts s w g.m

  abbrev text_of : ℕ → Text
  text_of k = get_or ts k []

  abbrev met : List ℕ
  met = passing (pushed_text w g) g.m.count

  count-texts : length ts ≡ g.m.count
  unfolding texts
  count-texts = length_texts s w g.m.base g.m.count

  -- the cell of a text that is a key
  cell_met : (k : ℕ) → k < g.m.count → (t : Text) → Key t → text_of k ≡ t → among k met ≡ has t K
  unfolding pushed_text
  cell_met k l t q e = passing_is (pushed_text w g) g.m.count k l ∙ old k l (subst Key (sym e) q) ∙ ap (λ (u : Text). has u K) e

  key_in : (t : Text) → Key t → has t K ≡ true → has t (map text_of met) ≡ true
  key_in t q e =
      let i = known t q e in
      let l : number ts t < g.m.count = omega (arith, number-below ts t i, count-texts) in
      let x = text_number ts t i in
      subst (λ (u : Text). has u (map text_of met) ≡ true) x (text_in_lem text_of (number ts t) met (cell_met (number ts t) l t q x ∙ e))

  key_from : (t : Text) → Key t → has t (map text_of met) ≡ true → has t K ≡ true
  key_from t q e =
      let (k, a, x) = text_from text_of t met e in
      let l : k < g.m.count = among-each (λ (i : ℕ). i < g.m.count) k met (passing_below (pushed_text w g) g.m.count g.m.count (omega arith)) a in
      sym (cell_met k l t q x) ∙ a

pub marks_are : (s w : List ℕ) (g : Ground) (K : List Text) → distinct (texts s w g.m) ≡ true → KeysKnown (texts s w g.m) K
    → ((k : ℕ) → k < g.m.count → Key (get_or (texts s w g.m) k []) → leb 2147483648 (cell_at w g.m.base k) ≡ has (get_or (texts s w g.m) k []) K)
    → (ms : List ℕ) × MarksAre w g ms × ((t : Text) → Key t → has t K ≡ has t (map (λ k. get_or (texts s w g.m) k []) ms))
marks_are s w g K d known old = (
  met s w g K known old,
  record {
    marks = λ k l. passing_is (pushed_text w g) g.m.count k l;
    below = passing_below (pushed_text w g) g.m.count g.m.count (omega arith);
  },
  λ t q. same_test (has t K) (has t (map (λ k. get_or (texts s w g.m) k []) (met s w g K known old))) (key_in s w g K known old t q) (key_from s w g K known old t q),
)

-- ---- a reference to a text
module _ (w : List ℕ) (g : Ground) (k v : ℕ) where
  ref_is : is_text k (ref_by w g v) ≡ true → (v % 2 ≡ 0) × (v / 2 ≡ k)
  unfolding ref_by pick is_text
  ref_is e = go (eqb (v % 2) 0) refl (ltb (v / 2) g.m.count) e
    where
      go : (a : Bool) → eqb (v % 2) 0 ≡ a → (b : Bool) → is_text k (pick a (pick b (text (v / 2)) (like (new_at w g (v / 2 - g.m.count)))) (like (key_at w g (v / 2)))) ≡ true → (v % 2 ≡ 0) × (v / 2 ≡ k)
      go true x true z = (eqb-true (v % 2) 0 x, eqb-true (v / 2) k z)
      go true x false z = absurd (false≢true z)
      go false x b z = absurd (false≢true z)

  ref_to : v % 2 ≡ 0 → v / 2 ≡ k → k < g.m.count → is_text k (ref_by w g v) ≡ true
  unfolding ref_by pick is_text
  ref_to e i l = rw (eq-eqb (v % 2) 0 e, lt-ltb (v / 2) g.m.count (omega arith)) (eq-eqb (v / 2) k i)

-- ---- lists of places by index
any_has : (f : ℕ → Bool) (pr : ℕ → Text) (t : Text) (q : ℕ → ℕ) (n : ℕ) → ((j : ℕ) → j < n → f (q j) ≡ same_as (pr (q j)) t) → any_of f (down q n) ≡ has t (map pr (down q n))
unfolding down any_of has
any_has f pr t q zero h = refl
any_has f pr t q (suc n) h =
    ap (λ (b : Bool). b || any_of f (down q n)) (h n (omega arith)) ∙ ap (λ (b : Bool). same_as (pr (q n)) t || b) (any_has f pr t q n (λ j l. h j (omega arith)))
    ∙ sym (has-or t (pr (q n)) (map pr (down q n)))

print-in : (pr : ℕ → Text) (q : ℕ → ℕ) (n j : ℕ) → j < n → has (pr (q j)) (map pr (down q n)) ≡ true
unfolding down
print-in pr q zero j l = absurd (omega arith)
print-in pr q (suc n) j l = go (eqb n j) refl (print-in pr q n j)
  where
    go : (b : Bool) → eqb n j ≡ b → (j < n → has (pr (q j)) (map pr (down q n)) ≡ true) → has (pr (q j)) (pr (q n) ∷ map pr (down q n)) ≡ true
    go true e f = subst (λ (v : ℕ). has (pr (q j)) (pr (q v) ∷ map pr (down q n)) ≡ true) (sym (eqb-true n j e)) (has_here (pr (q j)) (map pr (down q n)))
    go false e f = let z = eqb-false n j e in has-later (pr (q j)) (pr (q n)) (map pr (down q n)) (f (omega arith))

-- ---- the cell of a new text
new_even : (v : ℕ) → v % 2 ≡ 0 → leb 2147483648 (new_cell v) ≡ true
unfolding new_cell pick
new_even v e = rw (eq-eqb (v % 2) 0 e) (le-leb 2147483648 2147483648 (omega arith))

new_odd : (v : ℕ) → (v % 2 ≡ 0 → ⊥) → leb 2147483648 (new_cell v) ≡ false
unfolding new_cell pick
new_odd v e = rw (ne_eqb (v % 2) 0 e) (lt-leb 2147483648 0 (omega arith))

described_odd : (s w : List ℕ) (g : Ground) (v : ℕ) → (v % 2 ≡ 0 → ⊥) → described_by s w g v ≡ get_or built_ins (v / 2) []
unfolding described_by pick
described_odd s w g v e = cc (ne_eqb (v % 2) 0 e)

nine : length built_ins ≡ 9
unfolding built_ins
nine = refl

-- ---- the texts that were there
module _ (s w : List ℕ) (g : Ground) (n c : ℕ) (ps : List ℕ) (N : Names s w g n c ps) (k : ℕ) (l : k < g.m.count) where
  abbrev named : List Text
  named = named_in s w g c

  below : k < length named
  below = omega (arith, length_named s w g c)

  -- a pushed symbol refers to the text that it prints
  module _ (p v : ℕ) (f : NameRef s w g n c p v) where
    ref_print : is_text k (ref_by w g v) ≡ true → same_as (printed_at s w g p) (get_or named k []) ≡ true
    ref_print e = let (a, i) = ref_is w g k v e in eq_same_as (printed_at s w g p) (get_or named k []) (sym (f.even a).1 ∙ ap (λ (j : ℕ). get_or named j []) i)

    print-ref : printed_at s w g p ≡ get_or named k [] → is_text k (ref_by w g v) ≡ true
    print-ref e = go (eqb (v % 2) 0) refl
      where
        go : (b : Bool) → eqb (v % 2) 0 ≡ b → is_text k (ref_by w g v) ≡ true
        go true x =
            let a = eqb-true (v % 2) 0 x in
            let (y, z) = f.even a in
            ref_to w g k v a (sym (number-text named (v / 2) N.apart y) ∙ ap (number named) (z ∙ e) ∙ number-text named k N.apart below) l
        go false x =
            let a = eqb-false (v % 2) 0 x in
            let (y, z, u) = f.odd (omega arith) in
            absurd (false≢true (sym u ∙ ap (λ (t : Text). has t named) e ∙ has-text named k below))

    ref_same : is_text k (ref_by w g v) ≡ same_as (printed_at s w g p) (get_or named k [])
    ref_same = same_test (is_text k (ref_by w g v)) (same_as (printed_at s w g p) (get_or named k [])) ref_print (λ e. print-ref (same_as-eq (printed_at s w g p) (get_or named k []) e))

  pushed-has : any_of (λ q. is_text k (ref_in w g q)) (down (key_at w g) n) ≡ has (get_or named k []) (map (printed_at s w g) (down (key_at w g) n))
  unfolding ref_in
  pushed-has =
      any_has (λ q. is_text k (ref_in w g q)) (printed_at s w g) (get_or named k []) (key_at w g) n
      (λ j i. ref_same (key_at w g j) (followed w g (slot_at w g (key_at w g j))) (N.refs (key_at w g j) (N.pushed j i)))

-- ---- THE THEOREM: the cells that a round leaves say which texts were met by then
module _ (s w : List ℕ) (g : Ground) (n c : ℕ) (ps : List ℕ) (N : Names s w g n c ps) (K : List Text)
    (old : (k : ℕ) → k < g.m.count → Key (get_or (texts s w g.m) k []) → leb 2147483648 (cell_at w g.m.base k) ≡ has (get_or (texts s w g.m) k []) K)
    (other : Each (λ (t : Text). has t built_ins ≡ false) (map (printed_at s w g) (down (key_at w g) n) ++ K))
    (w1 : List ℕ) (M : MarkedPushed s w g n w1) (end : ℕ) (r : Settled) (w2 : List ℕ) (S : Settles s w1 g c end r w2) where
  abbrev prints : List Text
  prints = map (printed_at s w g) (down (key_at w g) n)

  abbrev text_at : ℕ → Text
  text_at k = get_or (named_in s w g c) k []

  found_next : (k : ℕ) → k < g.m.count → Key (text_at k) → leb 2147483648 (cell_at w2 g.m.base k) ≡ has (text_at k) (prints ++ K)
  unfolding pushed_text
  found_next k l q =
      let e = named-found s w g c k l in
      ap (leb 2147483648) (S.cells k l) ∙ M.pushed k l
      ∙ ap (λ (b : Bool). b || any_of (λ p. is_text k (ref_in w g p)) (down (key_at w g) n)) (old k l (subst Key e q) ∙ ap (λ (t : Text). has t K) (sym e))
      ∙ ap (λ (b : Bool). has (text_at k) K || b) (pushed-has s w g n c ps N k l)
      ∙ or_comm (has (text_at k) K) (has (text_at k) prints)
      ∙ sym (has-append (text_at k) prints K)

  list_same : (i : ℕ) → list_at w1 g i ≡ list_at w g i
  list_same i = le_at-agree 8 w w1 (list_place g i) (λ a x y. M.cells.others a (inr (omega arith)))

  entry_next : (i : ℕ) → i < c → leb 2147483648 (new_cell (list_at w g i)) ≡ has (described_by s w g (list_at w g i)) (prints ++ K)
  entry_next i l = go (eqb (list_at w g i % 2) 0) refl
    where
      go : (b : Bool) → eqb (list_at w g i % 2) 0 ≡ b → leb 2147483648 (new_cell (list_at w g i)) ≡ has (described_by s w g (list_at w g i)) (prints ++ K)
      go true x =
          let a = eqb-true (list_at w g i % 2) 0 x in
          let t = printed_at s w g (key_at w g (list_at w g i / 2)) in
          new_even (list_at w g i) a
          ∙ sym (ap (λ (u : Text). has u (prints ++ K)) (described_even s w g (list_at w g i) a) ∙ has-before t prints K (print-in (printed_at s w g) (key_at w g) n (list_at w g i / 2) ((N.entries i l).0 a)))
      go false x =
          let a = eqb-false (list_at w g i % 2) 0 x in
          let t = get_or built_ins (list_at w g i / 2) [] in
          let b : has t built_ins ≡ true = has-text built_ins (list_at w g i / 2) (omega (arith, nine, (N.entries i l).1 (omega arith))) in
          new_odd (list_at w g i) a
          ∙ sym (ap (λ (u : Text). has u (prints ++ K)) (described_odd s w g (list_at w g i) a) ∙ each-out (λ (u : Text). has u built_ins ≡ false) t (prints ++ K) other (λ z. false≢true (sym z ∙ b)))

  new_next : (k : ℕ) → g.m.count ≤ k → k < g.m.count + c → leb 2147483648 (cell_at w2 g.m.base k) ≡ has (text_at k) (prints ++ K)
  new_next k h l =
      let i = k - g.m.count in
      let z : k ≡ g.m.count + i = omega arith in
      let y : i < c = omega arith in
      ap (λ (j : ℕ). leb 2147483648 (cell_at w2 g.m.base j)) z
      ∙ ap (leb 2147483648) (S.new i y ∙ ap new_cell (list_same i))
      ∙ entry_next i y
      ∙ ap (λ (t : Text). has t (prints ++ K)) (sym (named_new s w g c k h l))

  pub marks_next : (k : ℕ) → k < r.m.count → Key (get_or (named_in s w g c) k []) → leb 2147483648 (cell_at w2 r.m.base k) ≡ has (get_or (named_in s w g c) k []) (map (printed_at s w g) (down (key_at w g) n) ++ K)
  marks_next k l q = ap (λ (b : ℕ). leb 2147483648 (cell_at w2 b k)) S.base ∙ go (ltb k g.m.count) refl
    where
      go : (b : Bool) → ltb k g.m.count ≡ b → leb 2147483648 (cell_at w2 g.m.base k) ≡ has (text_at k) (prints ++ K)
      go true e = found_next k (ltb-true k g.m.count e) q
      go false e = new_next k (ltb-false k g.m.count e) (omega (arith, S.count))
