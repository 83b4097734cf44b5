-- Grading all alternatives, and the lowest level: the ways out of the code. Assumes nothing.
use mathlib.Core.Path.{◌≡◌, refl, sym, ap, ◌∙◌}
use mathlib.Core.Bool.{Bool, true, false, not, cond}
use mathlib.Core.Logic.{inl, inr}
use mathlib.Core.List.{List, [], ◌∷◌, map}
use Prim.Native.Nat.{ℕ, zero, suc, ◌+◌, ◌-◌, ◌*◌, ◌%◌, ◌≤◌, ◌<◌}
use native.Mathlib.Omega.{arith}
use borrow.Author.Rules.{rules}
use borrow.Author.Tests.{tests, lt-ltb, le-ltb, le-leb, lt-leb, leb-false}
use denote.Enum.Bare.{sameb}
use lib.Dec.{eqb, leb, ltb}
use lib.ListN.{length}
use Rattle.std.specs.Prelude.{Option, Some, None, MatchOption, Result, Ok, Err}
use Rattle.std.specs.List.{range_with_len, take_while, find}
use Rattle.std.proofs.lemmas.List.Sums.{take_while-cons}
use Rattle.octets.specs.Working.Choice.{pick}
use Rattle.octets.specs.Plain.Numbers.{le_at, le}
use Rattle.octets.specs.Working.Stores.{store}
use Rattle.octets.proofs.ChoiceLaws.{by_pick}
use Rattle.octets.proofs.NumbersLaws.{length-le}
use Rattle.octets.proofs.StoreLaws.{length_store, get_d_store_before, get_d_store_after}
use Rattle.parse_tree.specs.Plain.Tree.{Text}
use Rattle.parse_tree.specs.declared.refusal.Question.{Question}
use Rattle.texts.specs.declared.Map.{Map}
use Rattle.texts.specs.Table.{Above, Agree, texts}
use Rattle.resolve.specs.Whole.{Apart}
use Rattle.grades.specs.declared.Assoc.{Assoc}
use Rattle.grades.specs.contracts.Assoc.{the_type as assoc_type}
use Rattle.grades.specs.declared.Graded.{Graded}
use Rattle.grades.specs.declared.Ungraded.{Ungraded}
use Rattle.grades.specs.declared.Ids.{Ids}
use Rattle.grades.specs.Annotations.{conditions_from, symbols_from, alternative_end}
use Rattle.grades.specs.Grading.{Worded, graded_at}
use Rattle.grades.specs.Key.{grade_key, key_side}
use Rattle.grades.specs.Sort.{level_at}
use Rattle.grades.specs.Alternatives.{graded_there, next_grade, stored_grade, OffTable, Gradable, grade_then, grade_from, Grades, still_ascends, place_of_key, lowest_from}
use Rattle.grades.proofs.WordedLaws.{worded_stays}

-- ---- next_grade
module _ (wd : ℕ) (ids : Ids) (ts : List Text) (w : List ℕ) (at e level : ℕ) (side : Assoc) where
  pub next-none : e ≤ at → Err (record { question = None; at = at }) ≡ next_grade wd ids ts w at e level side
  unfolding next_grade pick
  next-none h = cc (le-leb e at h)

  module _ (h : at < e) (x : ℕ) (q : x ≡ symbols_from wd w at) where
    pub next_short : e < x → Err (record { question = None; at = at }) ≡ next_grade wd ids ts w at e level side
    unfolding next_grade pick
    next_short l = cc (lt-leb e at h, lt-ltb e x l)

    module _ (l : x ≤ e) (r : Result Graded Question) (g : r ≡ graded_at wd ids ts w at level side) where
      there : graded_there at r ≡ next_grade wd ids ts w at e level side
      unfolding next_grade pick
      there = cc (lt-leb e at h, le-ltb e x l)

      pub next_there : (k : Graded) → r ≡ Ok k → Ok k ≡ next_grade wd ids ts w at e level side
      unfolding graded_there
      next_there k z = cc there

      pub next_fails : (q : Question) → r ≡ Err q → Err (record { question = Some q; at = at }) ≡ next_grade wd ids ts w at e level side
      unfolding graded_there
      next_fails q z = cc there

pub next_fits : (wd : ℕ) (w : List ℕ) (at e x : ℕ) → x ≡ symbols_from wd w at → x ≤ e → e + 16 ≤ length w → conditions_from wd w at ≤ length w
unfolding symbols_from
next_fits wd w at e x q l k = omega arith

pub ruleset nexting = (rules, next-none, next_short, next_there, next_fails, next_fits)

-- ---- put_grade
pub put_is : (w w1 w2 : List ℕ) (places keys i at level k : ℕ) (side : Assoc) → k ≡ grade_key level i side → w1 ≡ store w (places + 8 * i) (le 8 at) → w2 ≡ store w1 (keys + 8 * i) (le 8 k)
    → w2 ≡ stored_grade w places keys i at level side
unfolding stored_grade
put_is w w1 w2 places keys i at level k side a b c = cc

pub ruleset putting_grades = (rules, put_is)

-- ---- ascends
pub ascends_not : (b : Bool) (level v : ℕ) → v < level → false ≡ still_ascends b level v
unfolding still_ascends pick
ascends_not b level v h = cc (lt-ltb v level h)

pub ascends_still : (b : Bool) (level v : ℕ) → level ≤ v → b ≡ still_ascends b level v
unfolding still_ascends pick
ascends_still b level v h = cc (le-ltb v level h)

pub ruleset ascending = (rules, ascends_not, ascends_still)

-- ---- the texts stay where an array is written
agree_store : (w : List ℕ) (at : ℕ) (vs : List ℕ) (a b x y : ℕ) → x ≤ at → at + length vs ≤ y → Apart a b x y → Agree w (store w at vs) a b
agree_store w at vs a b x y h k (inl l) = record { agree = λ i p q. get_d_store_before w at vs i (omega arith) }
agree_store w at vs a b x y h k (inr l) = record { agree = λ i p q. get_d_store_after w at vs i (omega arith) }

store-stays : (s w : List ℕ) (m : Map) (z x y at : ℕ) (vs : List ℕ) → Worded s w m → Above s w m z → OffTable m (length w) z x y → x ≤ at → at + length vs ≤ y
    → Worded s (store w at vs) m × (texts s (store w at vs) m ≡ texts s w m) × Above s (store w at vs) m z
store-stays s w m z x y at vs g a o h k =
    worded_stays s w (store w at vs) m z g a (length_store w at vs)
    (record { agree = λ i p q. get_d_store_after w at vs i (omega (arith, o.below)) })
    (agree_store w at vs m.base (m.base + 24 * m.count) x y h k o.records)

pub stored_long : (w : List ℕ) (places keys i at level : ℕ) (side : Assoc) → length (stored_grade w places keys i at level side) ≡ length w
unfolding stored_grade
stored_long w places keys i at level side =
    length_store (store w (places + 8 * i) (le 8 at)) (keys + 8 * i) (le 8 (grade_key level i side)) ∙ length_store w (places + 8 * i) (le 8 at)

module _ (s w : List ℕ) (m : Map) (places keys n e : ℕ) (g : Gradable s w m places keys n e) (i at level : ℕ) (side : Assoc) (h : i < n) where
  abbrev first : List ℕ
  first = store w (places + 8 * i) (le 8 at)

  first_stays : Worded s first m × (texts s first m ≡ texts s w m) × Above s first m g.texts-from
  first_stays = store-stays s w m g.texts-from places (places + 8 * n + 8) (places + 8 * i) (le 8 at) g.worded g.above g.places-off (omega arith) (omega (arith, length-le 8 at))

  first_long : length first ≡ length w
  first_long = length_store w (places + 8 * i) (le 8 at)

  abbrev both : List ℕ
  both = stored_grade w places keys i at level side

  both_stay : Worded s both m × (texts s both m ≡ texts s first m) × Above s both m g.texts-from
  unfolding stored_grade
  both_stay = store-stays s first m g.texts-from keys (keys + 8 * n) (keys + 8 * i) (le 8 (grade_key level i side)) first_stays.0 first_stays.2
      (rw first_long g.keys_off) (omega arith) (omega (arith, length-le 8 (grade_key level i side)))

  pub texts-kept : texts s (stored_grade w places keys i at level side) m ≡ texts s w m
  texts-kept = both_stay.1 ∙ first_stays.1

  pub gradable_stays : Gradable s (stored_grade w places keys i at level side) m places keys n e
  gradable_stays =
      let l = stored_long w places keys i at level side in
      record {
        worded = both_stay.0;
        few = g.few;
        inside = rw l g.inside;
        texts-from = g.texts-from;
        above = both_stay.2;
        places-off = rw l g.places-off;
        keys_off = rw l g.keys_off;
      }

-- ---- grade: what is left from p on makes the whole
pub record Walking (s w₀ : List ℕ) (m : Map) (wd : ℕ) (ids : Ids) (places keys n at e : ℕ) (w : List ℕ) (p i level : ℕ) (side : Assoc) (b : Bool) : Type 0 where
  pub narrow : 2 ≤ wd
  pub wide : wd ≤ 3
  pub gradable : Gradable s w m places keys n e
  pub left : ℕ
  pub many : i + left ≡ n
  pub same : length w ≡ length w₀
  pub carry : grade_from wd ids s m e places keys left i p level side b w ≡ grade_from wd ids s m e places keys n 0 at 0 Assoc.FullyAssoc true w₀

pub walk_start : (s w : List ℕ) (m : Map) (wd : ℕ) (ids : Ids) (places keys n at e : ℕ) → 2 ≤ wd → wd ≤ 3 → Gradable s w m places keys n e
    → Walking s w m wd ids places keys n at e w at 0 0 Assoc.FullyAssoc true
walk_start s w m wd ids places keys n at e h k g = record { narrow = h; wide = k; gradable = g; left = n; many = omega arith; same = refl; carry = refl }

-- what was read stands before e
abbrev IsBefore : ℕ → ℕ → Result Graded Ungraded → Type 0
IsBefore p e (Ok k) = p < e
IsBefore p e (Err q) = Unit {0}

any_before : (p e : ℕ) (r : Result Graded Ungraded) → p < e → IsBefore p e r
any_before p e (Ok k) h = h
any_before p e (Err q) h = tt

module _ (wd : ℕ) (ids : Ids) (ts : List Text) (w : List ℕ) (p e level : ℕ) (side : Assoc) (r : Result Graded Ungraded) (f : r ≡ next_grade wd ids ts w p e level side) (k : Graded) (q : r ≡ Ok k) where
  next_before : IsBefore p e (next_grade wd ids ts w p e level side)
  unfolding next_grade
  next_before = by_pick (IsBefore p e) (leb e p) (λ h. tt) (λ h. any_before p e (pick (ltb e (symbols_from wd w p)) (Err (record { question = None; at = p })) (graded_there p (graded_at wd ids ts w p level side))) (leb-false e p h))

  pub read_before : p < e
  read_before = let z : IsBefore p e r = rw f next_before in rw q at z

module _ (s w₀ : List ℕ) (m : Map) (wd : ℕ) (ids : Ids) (places keys n at e : ℕ) (w : List ℕ) (p i level : ℕ) (side : Assoc) (b : Bool)
    (g : Walking s w₀ m wd ids places keys n at e w p i level side b) where
  pub walk_worded : Worded s w m
  walk_worded = g.gradable.worded

  pub walk_inside : e + 16 ≤ length w
  walk_inside = g.gradable.inside

  pub walk_last : places + 8 * n + 8 ≤ length w
  walk_last = g.gradable.places-off.inside

  pub walk_done : n ≤ i → (w1 : List ℕ) → w1 ≡ store w (places + 8 * n) (le 8 p) → Grades (grade_from wd ids s m e places keys n 0 at 0 Assoc.FullyAssoc true w₀) (Ok b) w1
  unfolding grade_from
  walk_done h w1 o = let z : g.left ≡ 0 = omega (arith, g.many) in let y : i ≡ n = omega (arith, g.many) in record { is = sym g.carry ∙ cc (z, o, y) }

  module _ (h : i < n) where
    pub walk_few : i < 65536
    walk_few = omega (arith, g.gradable.few)

    pub walk_place : places + 8 * i + 8 ≤ length w
    walk_place = omega (arith, g.gradable.places-off.inside)

    pub walk_key : keys + 8 * i + 8 ≤ length w
    walk_key = omega (arith, g.gradable.keys_off.inside)

    one : g.left ≡ suc (g.left - 1)
    one = omega (arith, g.many)

    module _ (r : Result Graded Ungraded) (f : r ≡ next_grade wd ids (texts s w m) w p e level side) where
      pub walk_refused : (u : Ungraded) → r ≡ Err u → Grades (grade_from wd ids s m e places keys n 0 at 0 Assoc.FullyAssoc true w₀) (Err u) w
      unfolding grade_from grade_then
      walk_refused u z = record { is = sym g.carry ∙ cc (one, f, z) }

      module _ (k : Graded) (z : r ≡ Ok k) (end : ℕ) (a : end ≡ alternative_end wd w p e) (w1 : List ℕ) (o : w1 ≡ stored_grade w places keys i p k.level k.side) where
        pub walk_same : length w1 ≡ length w₀
        walk_same = rw o (stored_long w places keys i p k.level k.side) ∙ g.same

        pub walk-next : (c : Bool) → c ≡ still_ascends b level k.level → Walking s w₀ m wd ids places keys n at e w1 end (i + 1) k.level k.side c
        unfolding grade_from grade_then
        walk-next c j = record {
          narrow = g.narrow;
          wide = g.wide;
          gradable = rw o (gradable_stays s w m places keys n e g.gradable i p k.level k.side h);
          left = g.left - 1;
          many = omega (arith, g.many);
          same = walk_same;
          carry = cc (one, f, z, a, o, j) ∙ g.carry;
        }

pub ruleset walking = (rules, walk_start, read_before, walk_worded, walk_inside, walk_last, walk_done, walk_few, walk_place, walk_key, walk_refused, walk_same, walk-next)

-- ---- lowest
-- a key's side is FullyAssoc where its last number is 3
side_all : (k : ℕ) → sameb assoc_type (key_side k) Assoc.FullyAssoc ≡ eqb (k % 4) 3
unfolding key_side pick
side_all k = go (k % 4) (omega arith)
  where
    go : (m : ℕ) → m < 4 → sameb assoc_type (pick (eqb m 0) Assoc.Left (pick (eqb m 1) Assoc.Right (pick (eqb m 2) Assoc.NonAssoc Assoc.FullyAssoc))) Assoc.FullyAssoc ≡ eqb m 3
    go zero h = refl
    go (suc zero) h = refl
    go (suc (suc zero)) h = refl
    go (suc (suc (suc zero))) h = refl
    go (suc (suc (suc (suc n)))) h = absurd (omega arith)

abbrev pub sided : ℕ → Bool
sided k = not (eqb (k % 4) 3)

pub sided_is : (k : ℕ) (s : Assoc) (b : Bool) → s ≡ key_side k → b ≡ not (sameb assoc_type s Assoc.FullyAssoc) → b ≡ sided k
sided_is k s b p q = q ∙ ap (λ (a : Assoc). not (sameb assoc_type a Assoc.FullyAssoc)) p ∙ ap not (side_all k)

-- the i-th key is of the first key's level
abbrev pub low_level : List ℕ → ℕ → ℕ → Bool
low_level w keys i = eqb (level_at w keys i) (level_at w keys 0)

abbrev pub low_key : List ℕ → ℕ → ℕ → ℕ
low_key w keys i = le_at 8 w (keys + 8 * i)

-- what is found among the keys left from the i-th on
abbrev pub found_low : List ℕ → ℕ → ℕ → ℕ → Option ℕ
found_low w keys i left = find sided (map (low_key w keys) (take_while (low_level w keys) (range_with_len i left)))

module _ (w : List ℕ) (keys places n : ℕ) where
  abbrev placed : Option ℕ → Option ℕ
  placed None = None
  placed (Some k) = place_of_key w places n k

  one_by : (c d : Bool) (i : ℕ) (xs : List ℕ) (r : Option ℕ) → r ≡ placed (find sided (map (low_key w keys) xs)) → eqb (low_key w keys i % 4) 3 ≡ d
      → pick c (pick d r (place_of_key w places n (low_key w keys i))) None ≡ placed (find sided (map (low_key w keys) (cond c (i ∷ xs) [])))
  unfolding pick
  one_by true true i xs r e h = rw h e
  one_by true false i xs r e h = rw h refl
  one_by false d i xs r e h = refl

  chain_is : (left i : ℕ) → lowest_from w keys places n i left ≡ placed (found_low w keys i left)
  unfolding lowest_from
  chain_is zero i = refl
  chain_is (suc left) i =
      let later = take_while (low_level w keys) (range_with_len (i + 1) left) in
      rw (take_while-cons (low_level w keys) i (range_with_len (i + 1) left)) (one_by (low_level w keys i) (eqb (low_key w keys i % 4) 3) i later (lowest_from w keys places n (i + 1) left) (chain_is left (i + 1)) refl)

  pub lowest_is : (o r : Option ℕ) → o ≡ found_low w keys 0 n → MatchOption o (r ≡ None) (λ k. r ≡ place_of_key w places n k) → r ≡ lowest_from w keys places n 0 n
  lowest_is o r e f = go o f ∙ ap placed e ∙ sym (chain_is n 0)
    where
      go : (x : Option ℕ) → MatchOption x (r ≡ None) (λ k. r ≡ place_of_key w places n k) → r ≡ placed x
      go None h = h
      go (Some k) h = h

pub ruleset lowering = (rules, tests, sided_is)
