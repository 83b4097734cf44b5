-- The keys of an annotated nonterminal, sorted: level by level, with the places noted; and what `lowest` then says. Assumes nothing.
use mathlib.Core.Path.{◌≡◌, refl, sym, ap, ◌∙◌}
use mathlib.Core.Bool.{Bool, true, false}
use mathlib.Core.Logic.{◌⊎◌, inl, inr}
use mathlib.Core.List.{List}
use Prim.Native.Nat.{ℕ, zero, suc, ◌+◌, ◌*◌, ◌≤◌, ◌<◌}
use native.Mathlib.Omega.{arith}
use lib.ListN.{length, get_or}
use Rattle.std.specs.Prelude.{Option, Some, None, Result, Ok, Err}
use Rattle.octets.specs.Plain.Numbers.{le_at}
use Rattle.octets.specs.Plain.Runs.{Lies}
use Rattle.parse_tree.specs.Plain.Tree.{Nonterminal}
use Rattle.parse_tree.specs.declared.syntax.Span.{Span}
use Rattle.parse_tree.specs.declared.refusal.Refusal.{Refusal}
use Rattle.parse_tree.specs.Plain.WriteTape.{bytes_of_each}
use Rattle.parse_tree.specs.Working.Encode.{alternative_bytes}
use Rattle.parse_tree.specs.Working.Nodes.{span_in}
use Rattle.parse_tree.specs.Working.Refusals.{refusal_over}
use Rattle.texts.specs.declared.Map.{Map}
use Rattle.texts.specs.Table.{texts}
use Rattle.texts.proofs.TableStays.{le_at-agree}
use Rattle.passes.specs.Outcome.{Outcome, yes, no}
use Rattle.passes.specs.Grades.{all, with_levels, graded}
use Rattle.passes.specs.Levels.{levels_of, grouped, check_lowest}
use Rattle.laws.specs.Sort.{by_levels}
use Rattle.resolve.proofs.CellsLaws.{lies_agree}
use Rattle.grades.specs.declared.Ungraded.{Ungraded}
use Rattle.grades.specs.declared.Ids.{Ids}
use Rattle.grades.specs.Sort.{keys_at, Sorted}
use Rattle.grades.specs.Alternatives.{lowest_from}
use Rattle.grades.specs.Key.{code_of}
use Rattle.grades.proofs.AscendsMean.{ascends_from}
use Rattle.grades.proofs.AlternativesWholeMean.{Keyed}
use Rattle.grades.proofs.AlternativesStored.{places_from}
use Rattle.grades.proofs.KeysMean.{ascending_keys, sorted_keys}
use Rattle.grades.proofs.LowestMean.{LowestMeans, lowest_means}
use Rattle.precedence.proofs.LeadMean.{span_noted}
use Rattle.levels.specs.declared.Room.{Room}
use Rattle.levels.specs.declared.Written.{Written}
use Rattle.levels.specs.Expand.{SortsKeys, Expandable, ExpandedBy, alternatives_at}
use Rattle.laws.proofs.LevelsMany.{graded-length}
use Rattle.levels.proofs.ExpandMean.{keys_place, stands_headed, stands_before}

-- keys whose bytes are as they were
keys_agree : (w w1 : List ℕ) (at n : ℕ) → ((i : ℕ) → at ≤ i → i < at + 8 * n → get_or w1 i 0 ≡ get_or w i 0) → keys_at w1 at n ≡ keys_at w at n
unfolding keys_at
keys_agree w w1 at zero f = refl
keys_agree w w1 at (suc n) f = cc (le_at-agree 8 w w1 at (λ i h k. f i h (omega arith)), keys_agree w w1 (at + 8) n (λ i h k. f i (omega arith) (omega arith)))

-- an answer of `lowest` is one of two
at-not : {a : ℕ} → Some a ≡ None → ⊥
at-not {a} e = let z : ◌≡◌ {A = ℕ} 0 1 = cc in omega arith

module _ (s : List ℕ) (m : Map) (room : Room) (wd p e : ℕ) (w : List ℕ) (four : Bool) (d : Nonterminal) (n : ℕ) where
  -- from w to w2 the places of d's alternatives were noted and its keys stored, sorted at k; nothing else changed but the arrays
  pub record Ordered (k : ℕ) (w2 : List ℕ) : Type 0 where
    pub long : length w2 ≡ length w
    pub from : room.arrays ≤ k
    pub upto : k + 8 * n ≤ room.at
    pub keyed : keys_at w2 k n ≡ by_levels code_of (levels_of (graded d)) 0 (graded d)
    pub noted : keys_at w2 room.arrays (suc n)
        ≡ places_from four wd (texts s w m) s m room.arrays (keys_place room n) n e (alternatives_at wd (texts s w m) p d) d.alternatives
    pub others : (j : ℕ) → (j < room.arrays) ⊎ (room.at ≤ j) → get_or w2 j 0 ≡ get_or w j 0

  module _ (few : length d.alternatives < 65536) (roomy : room.arrays + (24 * n + 8) ≤ room.at) (b : Bool) (w1 : List ℕ)
      (K : Keyed four wd (texts s w m) s m room.arrays (keys_place room n) n e w (alternatives_at wd (texts s w m) p d) d.alternatives (Ok b) w1) where
    graded-few : length (graded d) ≤ 65536
    graded-few = omega (arith, graded-length d, few)

    beside : (j : ℕ) → (j < room.arrays) ⊎ (room.at ≤ j) → get_or w1 j 0 ≡ get_or w j 0
    beside j (inl h) = K.others j (inl (omega arith)) (inl (omega arith))
    beside j (inr h) = K.others j (inr (omega arith)) (inr (omega arith))

    places-noted : keys_at w1 room.arrays (suc n)
        ≡ places_from four wd (texts s w m) s m room.arrays (keys_place room n) n e (alternatives_at wd (texts s w m) p d) d.alternatives
    places-noted = let z : suc n ≡ n + 1 = omega arith in ap (keys_at w1 room.arrays) z ∙ K.places-are

    ascending : b ≡ true → ascends_from true 0 (with_levels 0 d.alternatives) ≡ true
    ascending z = go K.answer
      where
        go : {c : Bool} → ◌≡◌ {A = Result Bool Ungraded} (Ok b) (Ok c) → c ≡ true
        go q = cc

    -- what ascends stays
    unsorted : b ≡ true → Ordered (keys_place room n) w1
    unsorted z = record {
      long = K.long;
      from = omega arith;
      upto = omega (arith, roomy);
      keyed = K.keys_are ∙ ascending_keys (with_levels 0 d.alternatives) all graded-few (ascending z);
      noted = places-noted;
      others = beside;
    }

    -- what does not is sorted
    merged : (k : ℕ) (w2 : List ℕ) → Sorted w1 (keys_place room n) (keys_place room n + 8 * n) n k w2 → Ordered k w2
    merged k w2 f =
        let i = go f.place in
        record {
          long = f.long ∙ K.long;
          from = i.0;
          upto = i.1;
          keyed = sorted_keys (graded d) graded-few w1 (keys_place room n) (keys_place room n + 8 * n) n k w2 K.keys_are f;
          noted = keys_agree w1 w2 room.arrays (suc n) (λ j h l. f.others j (inl (omega arith)) (inl (omega arith))) ∙ places-noted;
          others = λ j h. far j h ∙ beside j h;
        }
      where
        go : (k ≡ keys_place room n) ⊎ (k ≡ keys_place room n + 8 * n) → (room.arrays ≤ k) × (k + 8 * n ≤ room.at)
        go (inl z) = (omega arith, omega (arith, roomy))
        go (inr z) = (omega arith, omega (arith, roomy))

        far : (j : ℕ) → (j < room.arrays) ⊎ (room.at ≤ j) → get_or w2 j 0 ≡ get_or w1 j 0
        far j (inl h) = f.others j (inl (omega arith)) (inl (omega arith))
        far j (inr h) = f.others j (inr (omega (arith, roomy))) (inr (omega (arith, roomy)))

    -- theorem: where `grade` has answered, `sorted` leaves the keys level by level
    pub keys_ordered : (k : ℕ) (w2 : List ℕ) → SortsKeys w1 (keys_place room n) (keys_place room n + 8 * n) n b k w2 → Ordered k w2
    unfolding SortsKeys
    keys_ordered k w2 f = go b refl f
      where
        go : (c : Bool) → b ≡ c → SortsKeys w1 (keys_place room n) (keys_place room n + 8 * n) n c k w2 → Ordered k w2
        go true z x = rw (x.0, x.1) (unsorted z)
        go false z x = merged k w2 x

-- ---- the lowest level
module _ (s : List ℕ) (m : Map) (room : Room) (wd : ℕ) (ids : Ids) (p e : ℕ) (v : Written) (w : List ℕ) (four : Bool) (d : Nonterminal) (S : Expandable s m room wd ids p e v w four d) (n : ℕ) (many : n ≡ length d.alternatives)
    (k : ℕ) (w2 : List ℕ) (O : Ordered s m room wd p e w four d n k w2) where
  abbrev at : ℕ
  at = alternatives_at wd (texts s w m) p d

  pub few : length (graded d) ≤ 65536
  few = omega (arith, graded-length d, S.stood.within.fewer)

  pub upto : length (graded d) ≤ n
  upto = omega (arith, graded-length d, many)

  alternatives_lie : Lies w2 at (bytes_of_each (alternative_bytes wd (texts s w m)) d.alternatives) e
  alternatives_lie =
      let h = stands_before s m room wd ids p e v w four d S in
      lies_agree w w2 at e _ O.long (omega (arith, h.2)) (λ j x y. O.others j (inl (omega (arith, h.1)))) (stands_headed s m room wd ids p e v w four d S).alternatives

  -- what `lowest` says of the nonterminal
  abbrev pub LowSays : Option ℕ → Type 0
  LowSays r = LowestMeans w2 k room.arrays n (graded d) few upto r (check_lowest (grouped d.name (graded d)))

  -- theorem: it finds the alternative that check_lowest refuses
  pub lowest_says : (r : Option ℕ) → r ≡ lowest_from w2 k room.arrays n 0 n → LowSays r
  lowest_says r z = rw z (lowest_means w2 k room.arrays n (graded d) few upto d.name O.keyed)

  module _ (narrow : 2 ≤ wd) where
    noted_all : keys_at w2 room.arrays (suc (length d.alternatives))
        ≡ places_from four wd (texts s w m) s m room.arrays (keys_place room n) n e at d.alternatives
    noted_all = ap (λ (x : ℕ). keys_at w2 room.arrays (suc x)) (sym many) ∙ O.noted

    -- the alternative at a place that is noted
    record Refused (q a : ℕ) (sp : Span) : Type 0 where
      question : q ≡ 16
      span : span_in w2 (a + 1) ≡ sp
      inside : a + 16 ≤ e

    refused : (a q : ℕ) (sp : Span) → LowestMeans w2 k room.arrays n (graded d) few upto (Some a) (no q sp) → Refused q a sp
    refused a q sp f =
        let x = span_noted four wd (texts s w m) s m w2 room.arrays (keys_place room n) n at e d.alternatives S.stood.within.alternatives alternatives_lie noted_all S.stood.within.fewer narrow f.index sp f.span in
        let z : a ≡ le_at 8 w2 (room.arrays + 8 * f.index) = go f.answer in
        record { question = f.question; span = rw z x.0; inside = rw z x.1 }
      where
        go : {y : ℕ} → Some a ≡ Some y → a ≡ y
        go q = cc

    -- theorem: the alternative stands in work
    pub low_inside : (a : ℕ) → LowSays (Some a) → a + 9 ≤ length w2
    low_inside a = go (check_lowest (grouped d.name (graded d)))
      where
        go : (o : Outcome (Unit {0})) → LowestMeans w2 k room.arrays n (graded d) few upto (Some a) o → a + 9 ≤ length w2
        go (yes u) f = absurd (at-not f)
        go (no q sp) f = omega (arith, (refused a q sp f).inside, O.long, (stands_before s m room wd ids p e v w four d S).2)

    -- theorem: and is refused by question 16
    pub low_means : (a : ℕ) → LowSays (Some a) → (why : Refusal) → why ≡ refusal_over 16 (span_in w2 (a + 1))
        → ExpandedBy s m room wd ids (check_lowest (grouped d.name (graded d))) d v w (Err why) w2
    unfolding ExpandedBy
    low_means a f why z = go (check_lowest (grouped d.name (graded d))) f
      where
        go : (o : Outcome (Unit {0})) → LowestMeans w2 k room.arrays n (graded d) few upto (Some a) o → ExpandedBy s m room wd ids o d v w (Err why) w2
        go (yes u) f = absurd (at-not f)
        go (no q sp) f = let x = refused a q sp f in cc (z, x.question, x.span)

  -- theorem: nothing found is a yes
  pub low_none : LowSays None → check_lowest (grouped d.name (graded d)) ≡ yes tt
  low_none = go (check_lowest (grouped d.name (graded d)))
    where
      go : (o : Outcome (Unit {0})) → LowestMeans w2 k room.arrays n (graded d) few upto None o → o ≡ yes tt
      go (yes u) f = refl
      go (no q sp) f = absurd (at-not (sym f.answer))
