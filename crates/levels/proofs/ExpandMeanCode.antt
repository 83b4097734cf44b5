-- The ways out of `expand_nonterm`: refused by `grade`, refused by `lowest`, or written level by level. Assumes nothing.
use mathlib.Core.Path.{ap, ◌≡◌, refl, sym, ◌∙◌}
use mathlib.Core.Bool.{Bool, true}
use mathlib.Core.Logic.{inl}
use mathlib.Core.List.{List}
use mathlib.Core.Option.{none}
use Prim.Native.Nat.{ℕ, ◌+◌, ◌*◌, ◌≤◌}
use native.Mathlib.Omega.{arith}
use lib.ListN.{length}
use Rattle.std.specs.Prelude.{Option as Maybe, Some, None, Result, Ok, Err}
use Rattle.octets.specs.Plain.Numbers.{le_at}
use Rattle.parse_tree.specs.Plain.Tree.{Nonterminal}
use Rattle.parse_tree.specs.declared.refusal.Refusal.{Refusal}
use Rattle.parse_tree.specs.Working.Nodes.{span_in, nonterminal_here}
use Rattle.parse_tree.specs.declared.syntax.NonterminalData.{NonterminalData}
use Rattle.parse_tree.specs.Working.Refusals.{number_of, refusal_over}
use Rattle.parse_tree.specs.declared.refusal.Question.{Question}
use Rattle.texts.specs.declared.Map.{Map}
use Rattle.texts.specs.Table.{texts}
use Rattle.passes.specs.Outcome.{Outcome, yes, no, after}
use Rattle.passes.specs.Grades.{graded}
use Rattle.passes.specs.Levels.{levels_of, grouped, check_attributes, check_lowest}
use Rattle.grades.specs.declared.Assoc.{Assoc}
use Rattle.grades.specs.declared.Ungraded.{Ungraded}
use Rattle.grades.specs.declared.Ids.{Ids}
use Rattle.grades.specs.Annotations.{first_alternative}
use Rattle.grades.specs.Sort.{Arrays}
use Rattle.grades.specs.Alternatives.{ungraded_as, Gradable, grade_from, Grades, lowest_from}
use Rattle.grades.proofs.AlternativesWholeMean.{Keyed, GradeMeans}
use Rattle.levels.specs.declared.Room.{Room}
use Rattle.levels.specs.declared.Written.{Written}
use Rattle.levels.specs.Expand.{SortsKeys, SomeLeft, Finishes, Expandable, SomeExpandable, ExpandedBy, ExpandsOne, alternatives_at}
use Rattle.levels.proofs.ExpandMean.{keys_place, is_not, unasked-not, stands_many, stands_roomy, stands_gradable, stands_graded, refused_inside, refused_means}
use Rattle.levels.proofs.ExpandMeanSorted.{Ordered, keys_ordered, lowest_says, low_inside, low_means, low_none}
use Rattle.levels.proofs.ExpandMeanLeft.{all_left, all_written}

-- ---- of one nonterminal that `grade` has not refused
module _ (s : List ℕ) (m : Map) (room : Room) (wd : ℕ) (ids : Ids) (p e : ℕ) (v : Written) (w : List ℕ) (four : Bool) (d : Nonterminal) (S : Expandable s m room wd ids p e v w four d)
    (n : ℕ) (many : n ≡ le_at 2 w (p + 11 + wd)) (wide : wd ≤ 3) (at : ℕ) (first : at ≡ first_alternative wd w p) (b : Bool) (w1 : List ℕ)
    (x : Grades (grade_from wd ids s m e room.arrays (keys_place room n) n 0 at 0 Assoc.FullyAssoc true w) (Ok b) w1) where
  abbrev Said : Outcome (Unit {0}) → Type 0
  Said o = GradeMeans four wd (texts s w m) s m room.arrays (keys_place room n) n e w (alternatives_at wd (texts s w m) p d) d.alternatives (Ok b) w1 o

  said : Said (check_attributes d.alternatives)
  said = stands_graded s m room wd ids p e v w four d S n many wide at first (Ok b) w1 x

  -- theorem: its keys and places are stored
  pub keyed-of : Keyed four wd (texts s w m) s m room.arrays (keys_place room n) n e w (alternatives_at wd (texts s w m) p d) d.alternatives (Ok b) w1
  keyed-of = go (check_attributes d.alternatives) said
    where
      go : (o : Outcome (Unit {0})) → Said o → Said (yes tt)
      go (yes u) f = f
      go (no q sp) f = absurd (is_not f.answer)

  -- theorem: and sorted
  pub ordered_of : (k : ℕ) (w2 : List ℕ) → SortsKeys w1 (keys_place room n) (keys_place room n + 8 * n) n b k w2 → Ordered s m room wd p e w four d n k w2
  ordered_of k w2 y =
      keys_ordered s m room wd p e w four d n S.stood.within.fewer (stands_roomy s m room wd ids p e v w four d S n many) b w1 keyed-of k w2 y

  -- theorem: the answer of check_lowest is the answer
  pub after-attributes : (r : Result Written Refusal) (w3 : List ℕ) → ExpandedBy s m room wd ids (check_lowest (grouped d.name (graded d))) d v w r w3
      → ExpandedBy s m room wd ids (after (check_attributes d.alternatives) (λ u. check_lowest (grouped d.name (graded d)))) d v w r w3
  after-attributes r w3 f = go (check_attributes d.alternatives) said
    where
      go : (o : Outcome (Unit {0})) → Said o → ExpandedBy s m room wd ids (after o (λ u. check_lowest (grouped d.name (graded d)))) d v w r w3
      go (yes u) k = f
      go (no q sp) k = absurd (is_not k.answer)

-- theorem: how many alternatives are read
pub read_many : (wd : ℕ) (w : List ℕ) (p n : ℕ) {d : NonterminalData} → d ≡ nonterminal_here wd w p → n ≡ d.alternatives → n ≡ le_at 2 w (p + 11 + wd)
read_many wd w p n e i = i ∙ ap (λ (k : NonterminalData). k.alternatives) e

-- ---- the code: there is such a nonterminal, and so it is of each
module _ {s : List ℕ} {m : Map} {room : Room} {wd : ℕ} {ids : Ids} {p e : ℕ} {v : Written} {w : List ℕ} (narrow : 2 ≤ wd) (wide : wd ≤ 3)
    (pre : SomeExpandable s m room wd ids p e v w) where
  abbrev four : Bool
  four = pre.four

  abbrev d : Nonterminal
  d = pre.nonterminal

  abbrev S : Expandable s m room wd ids p e v w four d
  S = pre.standing

  module _ {n : ℕ} (many : n ≡ le_at 2 w (p + 11 + wd)) where
    -- theorem: and so do the arrays
    pub expand_room : room.arrays + (24 * n + 8) ≤ length w
    expand_room = omega (arith, stands_roomy s m room wd ids p e v w four d S n many, S.laid.ordered, S.laid.inside)

    -- theorem: what `grade` asks holds
    pub expand_gradable : Gradable s w m room.arrays (room.arrays + 8 * n + 8) n e
    expand_gradable = stands_gradable s m room wd ids p e v w four d S n many

    module _ {at : ℕ} (first : at ≡ first_alternative wd w p) {g : Result Bool Ungraded} {w1 : List ℕ}
        (x : Grades (grade_from wd ids s m e room.arrays (room.arrays + 8 * n + 8) n 0 at 0 Assoc.FullyAssoc true w) g w1) where
      -- ---- `grade` refuses
      module _ {u : Ungraded} (z : g ≡ Err u) where
        abbrev a : ℕ
        a = u.at

        -- what `grade` answers, by its question
        by-question : {o : Maybe Question} → u.question ≡ o → g ≡ Err (record { question = o; at = a })
        by-question t = z ∙ ap (λ (o : Maybe Question). Err (record { question = o; at = a })) t

        module _ {q : Question} (t : u.question ≡ Some q) where
          says : (four' : Bool) (d' : Nonterminal) → Expandable s m room wd ids p e v w four' d'
              → GradeMeans four' wd (texts s w m) s m room.arrays (keys_place room n) n e w (alternatives_at wd (texts s w m) p d') d'.alternatives (ungraded_as q a) w1 (check_attributes d'.alternatives)
          says four' d' S' = stands_graded s m room wd ids p e v w four' d' S' n many wide at first (ungraded_as q a) w1 (rw (by-question t) at x)

          -- theorem: the place that it answers lies in work
          pub expand_refused_inside : a + 9 ≤ length w1
          expand_refused_inside = refused_inside s m room wd ids p e v w four d S n _ w1 q a (check_attributes d.alternatives) (says four d S)

          -- theorem: each nonterminal that stands there is refused so
          pub expand_refused : {why : Refusal} → why ≡ refusal_over (number_of q) (span_in w1 (a + 1)) → ExpandsOne s m room wd ids p e v w (Err why) w1
          unfolding ExpandsOne
          expand_refused {why} y four' d' S' =
              refused_means s m room wd ids p e v w four' d' S' n _ w1 q a (check_attributes d'.alternatives) (λ u. check_lowest (grouped d'.name (graded d'))) (says four' d' S') why y

        -- theorem: and never because an alternative doesn't stand there
        pub expand_none_missing : u.question ≡ None → ⊥
        expand_none_missing t = go (check_attributes d.alternatives) (stands_graded s m room wd ids p e v w four d S n many wide at first (Err (record { question = None; at = a })) w1 (rw (by-question t) at x))
          where
            go : (o : Outcome (Unit {0})) → GradeMeans four wd (texts s w m) s m room.arrays (keys_place room n) n e w (alternatives_at wd (texts s w m) p d) d.alternatives (Err (record { question = None; at = a })) w1 o → ⊥
            go (yes y) f = let i = f.answer in cc
            go (no q sp) f = absurd (unasked-not f.answer)

      -- ---- or answers
      module _ {b : Bool} (z : g ≡ Ok b) where
        answered : Grades (grade_from wd ids s m e room.arrays (room.arrays + 8 * n + 8) n 0 at 0 Assoc.FullyAssoc true w) (Ok b) w1
        answered = rw z at x

        long : length w1 ≡ length w
        long = (keyed-of s m room wd ids p e v w four d S n many wide at first b w1 answered).long

        -- theorem: there are two arrays to sort in
        pub expand_arrays : Arrays (length w1) (room.arrays + 8 * n + 8) (room.arrays + 8 * n + 8 + 8 * n) n
        expand_arrays = record { one = omega (arith, long, expand_room); two = omega (arith, long, expand_room); apart = inl (omega arith) }

        module _ (k : ℕ) (w2 : List ℕ) (y : SortsKeys w1 (room.arrays + 8 * n + 8) (room.arrays + 8 * n + 8 + 8 * n) n b k w2) where
          ordered : (four' : Bool) (d' : Nonterminal) → Expandable s m room wd ids p e v w four' d' → Ordered s m room wd p e w four' d' n k w2
          ordered four' d' S' = ordered_of s m room wd ids p e v w four' d' S' n many wide at first b w1 answered k w2 y

          mine : Ordered s m room wd p e w four d n k w2
          mine = ordered four d S

          -- theorem: the sorted keys lie in work
          pub expand_keys : k + 8 * n ≤ length w2
          expand_keys = omega (arith, mine.upto, mine.long, S.laid.ordered, S.laid.inside)

          -- theorem: and so do the places
          pub expand_places : room.arrays + 8 * n ≤ length w2
          expand_places = omega (arith, mine.long, expand_room)

          module _ {r : Maybe ℕ} (l : r ≡ lowest_from w2 k room.arrays n 0 n) where
            -- ---- `lowest` finds one
            module _ {a : ℕ} (t : r ≡ Some a) where
              found : Some a ≡ lowest_from w2 k room.arrays n 0 n
              found = sym t ∙ l

              -- theorem: its place lies in work
              pub expand_low_inside : a + 9 ≤ length w2
              expand_low_inside =
                  let c = stands_many s m room wd ids p e v w four d S n many in
                  low_inside s m room wd ids p e v w four d S n c k w2 mine narrow a (lowest_says s m room wd ids p e v w four d S n c k w2 mine (Some a) found)

              -- theorem: each nonterminal that stands there is refused so
              pub expand_low : {why : Refusal} → why ≡ refusal_over 16 (span_in w2 (a + 1)) → ExpandsOne s m room wd ids p e v w (Err why) w2
              unfolding ExpandsOne
              expand_low {why} u four' d' S' =
                  let c = stands_many s m room wd ids p e v w four' d' S' n many in
                  let o = ordered four' d' S' in
                  after-attributes s m room wd ids p e v w four' d' S' n many wide at first b w1 answered (Err why) w2
                  (low_means s m room wd ids p e v w four' d' S' n c k w2 o narrow a (lowest_says s m room wd ids p e v w four' d' S' n c k w2 o (Some a) found) why u)

            -- ---- or none
            module _ (t : r ≡ None) where
              none_found : None ≡ lowest_from w2 k room.arrays n 0 n
              none_found = sym t ∙ l

              -- theorem: what `write_levels` asks holds
              pub expand_left : SomeLeft s m room wd ids p e room.arrays k n 0 None v w2
              expand_left = record {
                four = four;
                nonterminal = d;
                lower = none;
                levels = levels_of (graded d);
                left = all_left s m room wd ids p e v w four d S n (stands_many s m room wd ids p e v w four d S n many) k w2 mine;
              }

              -- theorem: the levels of each nonterminal that stands there are written
              pub expand_written : (u : Written) (w3 : List ℕ) → Finishes s m room wd ids p e room.arrays k n 0 None v w2 u w3 → ExpandsOne s m room wd ids p e v w (Ok u) w3
              unfolding ExpandsOne ExpandedBy
              expand_written u w3 f four' d' S' =
                  let c = stands_many s m room wd ids p e v w four' d' S' n many in
                  let o = ordered four' d' S' in
                  let i = low_none s m room wd ids p e v w four' d' S' n c k w2 o (lowest_says s m room wd ids p e v w four' d' S' n c k w2 o None none_found) in
                  after-attributes s m room wd ids p e v w four' d' S' n many wide at first b w1 answered (Ok u) w3 (rw i (u, refl, all_written s m room wd ids p e v w four' d' S' n c k w2 o u w3 f))
