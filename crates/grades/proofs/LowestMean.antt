-- What `lowest` means: among the keys level by level it finds the alternative that check_lowest refuses. Assumes nothing.
use mathlib.Core.Path.{◌≡◌, refl, sym, ap, ◌∙◌}
use mathlib.Core.Bool.{Bool, true, false, cond}
use mathlib.Core.Logic.{◌⊎◌, inl, inr}
use mathlib.Core.List.{List, [], ◌∷◌, ◌++◌}
use mathlib.Core.Option.{Option, none, some}
use Prim.Native.Nat.{ℕ, zero, suc, ◌+◌, ◌*◌, ◌/◌, ◌%◌, ◌≤◌, ◌<◌}
use native.Mathlib.Omega.{arith}
use borrow.Author.Tests.{eq-eqb, ne_eqb, eqb-false, lt-ltb}
use lib.Dec.{eqb, ltb}
use lib.ListN.{length}
use Rattle.std.specs.Prelude.{Option as Maybe, Some, None}
use Rattle.octets.specs.Plain.Numbers.{le_at}
use Rattle.octets.specs.Working.Choice.{pick}
use Rattle.parse_tree.specs.Plain.Tree.{Text}
use Rattle.parse_tree.specs.declared.syntax.Span.{Span}
use Rattle.parse_tree.specs.Working.Within.{Each}
use Rattle.parse_tree.proofs.ReadingLaws.{each_append}
use Rattle.passes.specs.Outcome.{Outcome, yes, no}
use Rattle.passes.specs.Grades.{Side, all, non, left, right, Graded}
use Rattle.passes.specs.Levels.{insert, levels_of, of_level, groups_of, grouped, is_all, all_all, check_lowest}
use Rattle.laws.specs.Sort.{Ascends, key_of, level_keys, by_levels}
use Rattle.laws.proofs.Levels.{levels-ascend}
use Rattle.grades.specs.Grade.{assoc_of}
use Rattle.grades.specs.Sort.{keys_at, level_at}
use Rattle.grades.specs.Key.{side_number, code_of}
use Rattle.grades.specs.Alternatives.{place_of_key, lowest_from}
use Rattle.grades.proofs.AscendsMean.{side_few}

-- ---- on a list of keys: the first of a level whose side is not 3
unfoldable first_in : ℕ → List ℕ → Option ℕ
first_in l [] = none
first_in l (k ∷ ks) = pick (eqb (k / 262144) l) (pick (eqb (k % 4) 3) (first_in l ks) (some k)) none

module _ (w : List ℕ) (keys places n : ℕ) where
  abbrev as_place : Option ℕ → Maybe ℕ
  as_place none = None
  as_place (some k) = place_of_key w places n k

  picked : (c d : Bool) (x : Maybe ℕ) (o : Option ℕ) (k : ℕ) → x ≡ as_place o → pick c (pick d x (place_of_key w places n k)) None ≡ as_place (pick c (pick d o (some k)) none)
  unfolding pick
  picked true true x o k h = h
  picked true false x o k h = refl
  picked false d x o k h = refl

  lowest_list : (more i : ℕ) → lowest_from w keys places n i more ≡ as_place (first_in (level_at w keys 0) (keys_at w (keys + 8 * i) more))
  unfolding lowest_from keys_at first_in level_at
  lowest_list zero i = refl
  lowest_list (suc more) i =
      picked (eqb (le_at 8 w (keys + 8 * i) / 262144) (level_at w keys 0)) (eqb (le_at 8 w (keys + 8 * i) % 4) 3) (lowest_from w keys places n (i + 1) more)
      (first_in (level_at w keys 0) (keys_at w (keys + 8 * i + 8) more)) (le_at 8 w (keys + 8 * i))
      (lowest_list more (i + 1) ∙ ap (λ (z : ℕ). as_place (first_in (level_at w keys 0) (keys_at w z more))) (omega arith))

-- ---- the parts of a key
module _ (v i : ℕ) (s : Side) (h : i < 65536) where
  key_level : key_of code_of v i s / 262144 ≡ v
  key_level = omega (arith, side_few (assoc_of s))

  key_index : key_of code_of v i s / 4 % 65536 ≡ i
  key_index = omega (arith, side_few (assoc_of s))

  key_side_lem : key_of code_of v i s % 4 ≡ code_of s
  key_side_lem = omega (arith, side_few (assoc_of s))

-- ---- keys of other levels
abbrev Other : ℕ → ℕ → Type 0
Other v k = k / 262144 ≡ v → ⊥

none_of : (v : ℕ) (ks : List ℕ) → Each (Other v) ks → first_in v ks ≡ none
unfolding first_in pick
none_of v [] h = refl
none_of v (k ∷ ks) h = cc (ne_eqb (k / 262144) v h.0)

level_others : (v u : ℕ) → (u ≡ v → ⊥) → (gs : List Graded) (i : ℕ) → i + length gs ≤ 65536 → Each (Other v) (level_keys code_of u i gs)
unfolding level_keys
level_others v u h [] i k = tt
level_others v u h (g ∷ gs) i k = go (eqb g.level u) (level_others v u h gs (suc i) (omega arith))
  where
    go : (c : Bool) → Each (Other v) (level_keys code_of u (suc i) gs) → Each (Other v) (cond c (key_of code_of u i g.side ∷ level_keys code_of u (suc i) gs) (level_keys code_of u (suc i) gs))
    go true f = ((λ z. h (sym (key_level u i g.side (omega arith)) ∙ z)), f)
    go false f = f

others : (v : ℕ) (us : List ℕ) → Each (λ u. v < u) us → (gs : List Graded) → length gs ≤ 65536 → Each (Other v) (by_levels code_of us 0 gs)
unfolding by_levels
others v [] h gs k = tt
others v (u ∷ us) h gs k = each_append (Other v) (level_keys code_of u 0 gs) (by_levels code_of us 0 gs) (level_others v u (λ z. absurd (omega (arith, z, h.0))) gs 0 (omega arith)) (others v us h.1 gs k)

-- ---- the first of a level whose side is not `all`
abbrev pub SpanAt : List Graded → ℕ → Span → Type 0
SpanAt [] j sp = ⊥
SpanAt (g ∷ gs) zero sp = g.alternative.span ≡ sp
SpanAt (g ∷ gs) (suc j) sp = SpanAt gs j sp

record FirstNot (gs : List Graded) (i v q : ℕ) (sp : Span) (o : Option ℕ) : Type 0 where
  index : ℕ
  side : Side
  below : index < length gs
  key : o ≡ some (key_of code_of v (i + index) side)
  span : SpanAt gs index sp
  question : q ≡ 16

abbrev FirstMeans : List Graded → ℕ → ℕ → Option ℕ → Outcome (Unit {0}) → Type 0
FirstMeans gs i v o (yes u) = o ≡ none
FirstMeans gs i v o (no q sp) = FirstNot gs i v q sp o

first-same : (gs : List Graded) (i v : ℕ) (o p : Option ℕ) (x : Outcome (Unit {0})) → o ≡ p → FirstMeans gs i v p x → FirstMeans gs i v o x
first-same gs i v o p x q f = rw q f

module _ (g : Graded) (gs : List Graded) (i v : ℕ) (h : i + suc (length gs) ≤ 65536) where
  shift : (o : Option ℕ) (x : Outcome (Unit {0})) → FirstMeans gs (suc i) v o x → FirstMeans (g ∷ gs) i v o x
  shift o (yes u) f = f
  shift o (no q sp) f = record {
    index = suc f.index;
    side = f.side;
    below = omega (arith, f.below);
    key = f.key ∙ ap (λ (z : ℕ). some (key_of code_of v z f.side)) (omega arith);
    span = f.span;
    question = f.question;
  }

  module _ (more : List ℕ) where
    first_all : first_in v (key_of code_of v i all ∷ more) ≡ first_in v more
    unfolding first_in pick side_number
    first_all = cc (eq-eqb (key_of code_of v i all / 262144) v (key_level v i all (omega arith)), eq-eqb (key_of code_of v i all % 4) 3 (key_side_lem v i all (omega arith)))

    first_some : (s : Side) → (code_of s ≡ 3 → ⊥) → first_in v (key_of code_of v i s ∷ more) ≡ some (key_of code_of v i s)
    unfolding first_in pick
    first_some s k = cc (eq-eqb (key_of code_of v i s / 262144) v (key_level v i s (omega arith)), ne_eqb (key_of code_of v i s % 4) 3 (λ z. k (sym (key_side_lem v i s (omega arith)) ∙ z)))

    first_here : (s : Side) → (code_of s ≡ 3 → ⊥) → FirstNot (g ∷ gs) i v 16 g.alternative.span (first_in v (key_of code_of v i s ∷ more))
    first_here s k = record {
      index = 0;
      side = s;
      below = omega arith;
      key = first_some s k ∙ ap (λ (z : ℕ). some (key_of code_of v z s)) (omega arith);
      span = refl;
      question = refl;
    }

    here : (s : Side) (x : Outcome (Unit {0})) → FirstMeans (g ∷ gs) i v (first_in v more) x
        → FirstMeans (g ∷ gs) i v (first_in v (key_of code_of v i s ∷ more)) (cond (is_all s) x (no 16 g.alternative.span))
    unfolding side_number
    here all x f = first-same (g ∷ gs) i v _ _ x first_all f
    here non x f = first_here non (λ z. absurd (omega (arith, z)))
    here left x f = first_here left (λ z. absurd (omega (arith, z)))
    here right x f = first_here right (λ z. absurd (omega (arith, z)))

level_first : (v : ℕ) (tail : List ℕ) → first_in v tail ≡ none → (gs : List Graded) (i : ℕ) → i + length gs ≤ 65536
    → FirstMeans gs i v (first_in v (level_keys code_of v i gs ++ tail)) (all_all (of_level v gs))
unfolding level_keys of_level
level_first v tail h [] i k = h
level_first v tail h (g ∷ gs) i k = go (eqb g.level v) (shift g gs i v k _ (all_all (of_level v gs)) (level_first v tail h gs (suc i) (omega arith)))
  where
    go : (c : Bool) → FirstMeans (g ∷ gs) i v (first_in v (level_keys code_of v (suc i) gs ++ tail)) (all_all (of_level v gs))
        → FirstMeans (g ∷ gs) i v (first_in v (cond c (key_of code_of v i g.side ∷ level_keys code_of v (suc i) gs) (level_keys code_of v (suc i) gs) ++ tail)) (all_all (cond c (g ∷ of_level v gs) (of_level v gs)))
    go true f = here g gs i v k (level_keys code_of v (suc i) gs ++ tail) g.side (all_all (of_level v gs)) f
    go false f = f

-- ---- the first key has the lowest level
abbrev Holds : List Graded → ℕ → Type 0
Holds [] v = ⊥
Holds (g ∷ gs) v = (g.level ≡ v) ⊎ Holds gs v

insert-each : (P : ℕ → Type 0) (v : ℕ) (xs : List ℕ) → P v → Each P xs → Each P (insert v xs)
insert-each P v [] h k = (h, tt)
insert-each P v (x ∷ xs) h k = go (ltb v x) (eqb v x) (insert-each P v xs h k.1)
  where
    go : (c d : Bool) → Each P (insert v xs) → Each P (cond c (v ∷ x ∷ xs) (cond d (x ∷ xs) (x ∷ insert v xs)))
    go true d f = (h, k)
    go false true f = k
    go false false f = (k.0, f)

each_more : (g : Graded) (gs : List Graded) (vs : List ℕ) → Each (Holds gs) vs → Each (Holds (g ∷ gs)) vs
each_more g gs [] h = tt
each_more g gs (v ∷ vs) h = (inr h.0, each_more g gs vs h.1)

levels-present : (gs : List Graded) → Each (Holds gs) (levels_of gs)
unfolding levels_of
levels-present [] = tt
levels-present (g ∷ gs) = insert-each (Holds (g ∷ gs)) g.level (levels_of gs) (inl refl) (each_more g gs (levels_of gs) (levels-present gs))

abbrev HeadLevel : ℕ → List ℕ → Type 0
HeadLevel v [] = ⊥
HeadLevel v (k ∷ ks) = k / 262144 ≡ v

head_level : (v : ℕ) (tail : List ℕ) (gs : List Graded) (i : ℕ) → i + length gs ≤ 65536 → Holds gs v → HeadLevel v (level_keys code_of v i gs ++ tail)
unfolding level_keys
head_level v tail [] i k h = absurd h
head_level v tail (g ∷ gs) i k h = go (eqb g.level v) refl h (λ z. head_level v tail gs (suc i) (omega arith) z)
  where
    go : (c : Bool) → eqb g.level v ≡ c → (g.level ≡ v) ⊎ Holds gs v → (Holds gs v → HeadLevel v (level_keys code_of v (suc i) gs ++ tail))
        → HeadLevel v (cond c (key_of code_of v i g.side ∷ level_keys code_of v (suc i) gs) (level_keys code_of v (suc i) gs) ++ tail)
    go true e x f = key_level v i g.side (omega arith)
    go false e (inl x) f = absurd (eqb-false g.level v e x)
    go false e (inr x) f = f x

head_at_lem : (w : List ℕ) (keys v n : ℕ) → HeadLevel v (keys_at w keys n) → level_at w keys 0 ≡ v
unfolding keys_at level_at
head_at_lem w keys v zero h = absurd h
head_at_lem w keys v (suc n) h = ap (λ (z : ℕ). le_at 8 w z / 262144) (omega arith) ∙ h

-- ---- all of it
module _ (w : List ℕ) (keys places n : ℕ) (gs : List Graded) (few : length gs ≤ 65536) (upto : length gs ≤ n) where
  -- the place of the alternative that is refused
  pub record LowRefused (q : ℕ) (sp : Span) (r : Maybe ℕ) : Type 0 where
    pub index : ℕ
    pub answer : r ≡ Some (le_at 8 w (places + 8 * index))
    pub span : SpanAt gs index sp
    pub question : q ≡ 16

  abbrev pub LowestMeans : Maybe ℕ → Outcome (Unit {0}) → Type 0
  LowestMeans r (yes u) = r ≡ None
  LowestMeans r (no q sp) = LowRefused q sp r

  place_of : (k j : ℕ) → k / 4 % 65536 ≡ j → j < n → place_of_key w places n k ≡ Some (le_at 8 w (places + 8 * j))
  unfolding place_of_key pick
  place_of k j e h = cc (lt-ltb j n h, e)

  as_lowest : (v : ℕ) (r : Maybe ℕ) (o : Option ℕ) (x : Outcome (Unit {0})) → r ≡ as_place w keys places n o → FirstMeans gs 0 v o x → LowestMeans r x
  as_lowest v r o (yes u) e f = e ∙ ap (as_place w keys places n) f
  as_lowest v r o (no q sp) e f = record {
    index = f.index;
    answer = e ∙ ap (as_place w keys places n) f.key ∙ place_of _ f.index (key_index v (0 + f.index) f.side (omega (arith, f.below)) ∙ omega arith) (omega (arith, f.below));
    span = f.span;
    question = f.question;
  }

  -- theorem: `lowest` finds nothing where check_lowest says yes, else the alternative that it refuses
  pub lowest_means : (E : Text) → keys_at w keys n ≡ by_levels code_of (levels_of gs) 0 gs → LowestMeans (lowest_from w keys places n 0 n) (check_lowest (grouped E gs))
  unfolding groups_of by_levels first_in
  lowest_means E = go (levels_of gs) (levels-ascend gs) (levels-present gs)
    where
      go : (vs : List ℕ) → Ascends vs → Each (Holds gs) vs → keys_at w keys n ≡ by_levels code_of vs 0 gs → LowestMeans (lowest_from w keys places n 0 n) (check_lowest (groups_of E gs none vs))
      go [] a p k = lowest_list w keys places n n 0 ∙ ap (λ (z : ℕ). as_place w keys places n (first_in (level_at w keys 0) (keys_at w z n))) (omega arith) ∙ ap (λ (ks : List ℕ). as_place w keys places n (first_in (level_at w keys 0) ks)) k
      go (v ∷ vs) a p k =
          let f = level_first v (by_levels code_of vs 0 gs) (none_of v (by_levels code_of vs 0 gs) (others v vs a.0 gs few)) gs 0 (omega arith) in
          let d : HeadLevel v (keys_at w keys n) = rw k (head_level v (by_levels code_of vs 0 gs) gs 0 (omega arith) p.0) in
          let c = head_at_lem w keys v n d in
          as_lowest v (lowest_from w keys places n 0 n) _ (all_all (of_level v gs))
          (lowest_list w keys places n n 0 ∙ ap (λ (z : ℕ). as_place w keys places n (first_in (level_at w keys 0) (keys_at w z n))) (omega arith)
          ∙ ap (λ (ks : List ℕ). as_place w keys places n (first_in (level_at w keys 0) ks)) k ∙ ap (λ (l : ℕ). as_place w keys places n (first_in l (by_levels code_of (v ∷ vs) 0 gs))) c) f
