-- What is held before the replacing stage: nothing is pushed, and the marks are the numbers of the texts that were pushed in earlier rounds. Assumes nothing.
use mathlib.Core.Path.{◌≡◌, refl, sym, ap, ◌∙◌, subst}
use mathlib.Core.Bool.{Bool, true, false, cond, ◌||◌, false≢true}
use mathlib.Core.List.{List, [], ◌∷◌, map, append-nil}
use Prim.Native.Nat.{ℕ, zero, suc, ◌<◌, ◌≤◌}
use native.Mathlib.Omega.{arith}
use borrow.Author.Tests.{eqb-true, eqb-false, ne_eqb}
use lib.Dec.{eqb}
use lib.ListN.{length, get_or}
use Rattle.parse_tree.specs.Plain.Tree.{Text, Sym}
use Rattle.parse_tree.specs.Plain.Texts.{has, distinct}
use Rattle.parse_tree.specs.Working.Within.{Each}
use Rattle.parse_tree.proofs.ReadingLaws.{each_map}
use Rattle.texts.specs.Fields.{Chained}
use Rattle.texts.specs.Table.{texts}
use Rattle.texts.proofs.TextCode.{length_texts}
use Rattle.texts.proofs.TableFindCode.{linked-few}
use Rattle.replacing.specs.Runs.{started}
use Rattle.replacing.specs.Slots.{among}
use Rattle.replacing.specs.Sound.{HasRef, Sound}
use Rattle.expander.specs.declared.Ground.{Ground}
use Rattle.expander.specs.Ground.{pushed_text, symbol_in, KeyAt, Grounded, Records}
use Rattle.expander.specs.Held.{down, upto, keep_if, any_of, Held, AllBefore}
use Rattle.expander.specs.Stage.{MarksAre}
use Rattle.expander.proofs.GroundLaws.{list_keys}

or-none : (b : Bool) → b ≡ (b || false)
or-none true = refl
or-none false = refl

-- as many texts as the table counts
pub texts-many : (s w : List ℕ) (g : Ground) → length (texts s w g.m) ≡ g.m.count
unfolding texts
texts-many s w g = length_texts s w g.m.base g.m.count

-- ---- slots that stand for no keys but the texts that are marked
start_sound : (at : ℕ → Sym) (Here : ℕ → Type 0) (ts : List Text) (ms : List ℕ) → distinct ts ≡ true → Each (λ (k : ℕ). k < length ts) ms
    → Sound at Here ts (started ms) (record { keys = map (λ k. get_or ts k []) ms; pile = [] })
unfolding started has distinct
start_sound at Here ts ms d l = record {
  pile = refl;
  stands = tt;
  piled = tt;
  keys = λ t y. or-none (has t (map (λ k. get_or ts k []) ms));
  marks = l;
  firsts = tt;
  firsts_stand = tt;
  apart = refl;
  refs = tt;
  news = tt;
  numbers = ap distinct (append-nil ts) ∙ d;
}

none_has : (ms : List ℕ) (p : ℕ) → HasRef p (started ms) → ⊥
unfolding started among
none_has ms p h = false≢true h

pub start_before : (ms : List ℕ) (p : ℕ) → AllBefore p (started ms)
start_before ms p q h = absurd (none_has ms q h)

module _ (s w : List ℕ) (g : Ground) (G : Grounded s w g) (e : Chained w g.keys g.buckets 0) where
  start_records : Records s w g 0
  start_records = record {
    few = omega arith;
    chained = subst (Chained w g.keys g.buckets) (sym (linked-few 0 (omega arith))) e;
    keys = λ j d. absurd (omega arith);
    hashes = λ j d. absurd (omega arith);
    lengths = λ j d. absurd (omega arith);
  }

  pub start_held : (ms : List ℕ) → MarksAre w g ms → Held s w g 0 0 (started ms)
  unfolding started down upto keep_if any_of
  start_held ms m = record {
    records = start_records;
    room = list_keys s w g G;
    pile = refl;
    firsts = refl;
    news = refl;
    entries = λ i d. absurd (omega arith);
    refs = λ p h. absurd (none_has ms p h);
    refers = λ p h. absurd (none_has ms p h);
    own = λ j d. absurd (omega arith);
    marks = λ k l. m.marks k l ∙ or-none (pushed_text w g k);
    inside = λ p h. absurd (none_has ms p h);
    apart = λ p q h i. absurd (none_has ms p h);
    expander = record { keys = map (λ k. get_or (texts s w g.m) k []) ms; pile = [] };
    sound =
        start_sound (symbol_in s w g) (KeyAt s w g) (texts s w g.m) ms G.distinct-texts
        (each_map (λ k l. omega (arith, l, texts-many s w g)) ms m.below);
  }

-- ---- there are such marks
module _ (f : ℕ → Bool) where
  marked : ℕ → List ℕ
  marked zero = []
  marked (suc n) = cond (f n) (n ∷ marked n) (marked n)

  marked_not : (n k : ℕ) → n ≤ k → among k (marked n) ≡ false
  unfolding among marked
  marked_not zero k h = refl
  marked_not (suc n) k h = go (f n) (marked_not n k (omega arith))
    where
      go : (b : Bool) → among k (marked n) ≡ false → among k (cond b (n ∷ marked n) (marked n)) ≡ false
      go true i = cc (ne_eqb n k (λ e. omega arith))
      go false i = i

  marked_is : (n k : ℕ) → k < n → among k (marked n) ≡ f k
  unfolding among marked
  marked_is zero k h = absurd (omega arith)
  marked_is (suc n) k h = go (f n) refl (eqb n k) refl (marked_is n k)
    where
      go : (b : Bool) → f n ≡ b → (d : Bool) → eqb n k ≡ d → (k < n → among k (marked n) ≡ f k) → among k (cond b (n ∷ marked n) (marked n)) ≡ f k
      go true i true j r = ap (λ (v : Bool). cond v true (among k (marked n))) j ∙ sym i ∙ ap f (eqb-true n k j)
      go true i false j r = ap (λ (v : Bool). cond v true (among k (marked n))) j ∙ r (less (eqb-false n k j))
        where
          less : (n ≡ k → ⊥) → k < n
          less e = omega arith
      go false i true j r = marked_not n k (omega (arith, eqb-true n k j)) ∙ sym i ∙ ap f (eqb-true n k j)
      go false i false j r = r (less (eqb-false n k j))
        where
          less : (n ≡ k → ⊥) → k < n
          less e = omega arith

  marked_below : (n c : ℕ) → n ≤ c → Each (λ (k : ℕ). k < c) (marked n)
  unfolding marked
  marked_below zero c h = tt
  marked_below (suc n) c h = go (f n) (marked_below n c (omega arith))
    where
      go : (b : Bool) → Each (λ (k : ℕ). k < c) (marked n) → Each (λ (k : ℕ). k < c) (cond b (n ∷ marked n) (marked n))
      go true i = (omega arith, i)
      go false i = i

pub some_marks : (w : List ℕ) (g : Ground) → List ℕ
some_marks w g = marked (pushed_text w g) g.m.count

pub some_marks_lem : (w : List ℕ) (g : Ground) → MarksAre w g (some_marks w g)
unfolding some_marks
some_marks_lem w g = record { marks = λ k l. marked_is (pushed_text w g) g.m.count k l; below = marked_below (pushed_text w g) g.m.count g.m.count (omega arith) }
