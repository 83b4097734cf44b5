-- An annotated nonterminal that stands in work can be graded; what `grade` then says of it. Assumes nothing.
use mathlib.Core.Path.{ap, ◌≡◌, refl, sym, ◌∙◌}
use mathlib.Core.Bool.{Bool, true}
use mathlib.Core.Logic.{inl}
use mathlib.Core.List.{List}
use Prim.Native.Nat.{ℕ, ◌+◌, ◌*◌, ◌≤◌}
use native.Mathlib.Omega.{arith}
use lib.ListN.{length}
use Rattle.std.specs.Prelude.{Option, Some, None, Result, Ok, Err}
use Rattle.octets.specs.Plain.Numbers.{le_at}
use Rattle.parse_tree.specs.Plain.Tree.{Nonterminal}
use Rattle.parse_tree.specs.declared.refusal.Refusal.{Refusal}
use Rattle.parse_tree.specs.Working.Nodes.{span_in}
use Rattle.parse_tree.specs.Working.Refusals.{number_of, refusal_over}
use Rattle.parse_tree.specs.declared.refusal.Question.{Question}
use Rattle.texts.specs.declared.Map.{Map}
use Rattle.texts.specs.Table.{texts}
use Rattle.passes.specs.Outcome.{Outcome, yes, no, after}
use Rattle.passes.specs.Levels.{check_attributes}
use Rattle.resolve.proofs.GrammarLaws.{Headed, headed}
use Rattle.grades.specs.declared.Assoc.{Assoc}
use Rattle.grades.specs.declared.Ungraded.{Ungraded}
use Rattle.grades.specs.declared.Ids.{Ids}
use Rattle.grades.specs.Annotations.{first_alternative}
use Rattle.grades.specs.Ids.{ids_in}
use Rattle.grades.specs.Alternatives.{ungraded_as, OffTable, Gradable, grade_from, Grades}
use Rattle.grades.proofs.AlternativesMean.{first_means}
use Rattle.grades.proofs.AlternativesWholeMean.{GradeMeans, grade_means}
use Rattle.grades.proofs.AlternativesStored.{Ready}
use Rattle.precedence.proofs.NamesMean.{naming-worded}
use Rattle.levels.specs.declared.Room.{Room}
use Rattle.levels.specs.declared.Written.{Written}
use Rattle.levels.specs.Expand.{Expandable, ExpandedBy, alternatives_at}

-- what a refusal says
abbrev question_said : Result Bool Ungraded → Option Question
question_said (Ok b) = None
question_said (Err u) = u.question

abbrev place_said : Result Bool Ungraded → ℕ
place_said (Ok b) = 0
place_said (Err u) = u.at

-- an answer is not a refusal
pub is_not : {b : Bool} {q : Question} {a : ℕ} → Ok b ≡ ungraded_as q a → ⊥
is_not {b} {q} {a} e = let z : ◌≡◌ {A = ℕ} 0 1 = cc in omega arith

-- nor is a refusal without a question one with it
pub unasked-not : {q : Question} {a b : ℕ} → ◌≡◌ {A = Result Bool Ungraded} (Err (record { question = None; at = b })) (ungraded_as q a) → ⊥
unasked-not {q} {a} {b} e = let t : None ≡ Some q = ap question_said e in let z : ◌≡◌ {A = ℕ} 0 1 = cc in omega arith

-- where the keys stand: behind the places of n alternatives and of what is behind them
abbrev pub keys_place : Room → ℕ → ℕ
keys_place room n = room.arrays + 8 * n + 8

module _ (s : List ℕ) (m : Map) (room : Room) (wd : ℕ) (ids : Ids) (p e : ℕ) (v : Written) (w : List ℕ) (four : Bool) (d : Nonterminal) (S : Expandable s m room wd ids p e v w four d) where
  -- theorem: the nonterminal's first bytes are what they should be
  pub stands_headed : Headed w wd (texts s w m) p d e
  stands_headed = headed four w wd (texts s w m) p d e S.stood.within S.stood.lies

  -- theorem: it stands before the arrays, and what is read beyond it is still in work
  pub stands_before : (p + 13 + wd ≤ e) × (e ≤ room.arrays) × (e + 16 ≤ length w)
  stands_before =
      let l = S.laid in
      (omega (arith, stands_headed.alternatives.end), omega (arith, S.stood.before, l.heads), omega (arith, S.stood.before, l.heads, l.arrays, l.ordered, l.inside))

  module _ (n : ℕ) (many : n ≡ le_at 2 w (p + 11 + wd)) where
    -- theorem: the two bytes tell how many alternatives it has
    pub stands_many : n ≡ length d.alternatives
    stands_many = many ∙ stands_headed.many

    -- theorem: the three arrays lie between the records and the items
    pub stands_roomy : room.arrays + (24 * n + 8) ≤ room.at
    stands_roomy = rw stands_many S.laid.arrays

    records_below : m.base + 24 * m.count ≤ room.arrays
    records_below = omega (arith, S.names.naming.upto, S.laid.names)

    off_table : (a b : ℕ) → room.arrays ≤ a → b ≤ room.at → OffTable m (length w) (room.lim + 16) a b
    off_table a b h k =
        let l = S.laid in
        record { inside = omega (arith, l.ordered, l.inside); below = omega (arith, l.ordered); records = inl (omega (arith, records_below)) }

    -- theorem: there is room to grade it
    pub stands_gradable : Gradable s w m room.arrays (keys_place room n) n e
    stands_gradable = record {
      worded = naming-worded s w m v.count S.names.naming;
      few = omega (arith, stands_many, S.stood.within.fewer);
      inside = stands_before.2;
      texts-from = room.lim + 16;
      above = S.names.above;
      places-off = off_table room.arrays (room.arrays + 8 * n + 8) (omega arith) (omega (arith, stands_roomy));
      keys_off = off_table (keys_place room n) (keys_place room n + 8 * n) (omega arith) (omega (arith, stands_roomy));
    }

    module _ (wide : wd ≤ 3) where
      ready : Ready four wd (texts s w m) s m room.arrays (keys_place room n) n e w 0 (alternatives_at wd (texts s w m) p d) 0 d.alternatives
      ready = record {
        width = wide;
        gradable = stands_gradable;
        same = refl;
        many = omega (arith, stands_many);
        small = omega arith;
        narrow = S.laid.narrow;
        within = S.stood.within.alternatives;
        lies = stands_headed.alternatives;
        off_places = inl stands_before.1;
        off_keys = inl (omega (arith, stands_before.1));
        apart = inl (omega arith);
      }

      module _ (at : ℕ) (first : at ≡ first_alternative wd w p) where
        -- theorem: the alternatives begin where the code goes
        pub stands_at : at ≡ alternatives_at wd (texts s w m) p d
        stands_at = first ∙ first_means four wd (texts s w m) w p e d stands_headed

        -- theorem: `grade` says what check_attributes says, and leaves the keys and the places
        pub stands_graded : (g : Result Bool Ungraded) (w1 : List ℕ) → Grades (grade_from wd ids s m e room.arrays (keys_place room n) n 0 at 0 Assoc.FullyAssoc true w) g w1
            → GradeMeans four wd (texts s w m) s m room.arrays (keys_place room n) n e w (alternatives_at wd (texts s w m) p d) d.alternatives g w1 (check_attributes d.alternatives)
        stands_graded g w1 x =
            let i = S.names.ids_table in
            let y : Grades (grade_from wd (ids_in (texts s w m)) s m e room.arrays (keys_place room n) n 0 (alternatives_at wd (texts s w m) p d) 0 Assoc.FullyAssoc true w) g w1 = rw (i, stands_at) at x in
            grade_means four wd (texts s w m) s m room.arrays (keys_place room n) n e d.alternatives w (alternatives_at wd (texts s w m) p d) ready g w1 y

  -- ---- a refusal of `grade`
  module _ (n at : ℕ) (w1 : List ℕ) (q : Question) (a : ℕ) where
    -- what it says of the nonterminal
    abbrev Said : Outcome (Unit {0}) → Type 0
    Said o = GradeMeans four wd (texts s w m) s m room.arrays (keys_place room n) n e w at d.alternatives (ungraded_as q a) w1 o

    -- theorem: the alternative that is refused stands in work
    pub refused_inside : (o : Outcome (Unit {0})) → Said o → a + 9 ≤ length w1
    refused_inside (yes u) k = absurd (is_not (sym k.answer))
    refused_inside (no r sp) k = let z : a ≡ k.place = same_place k.answer in omega (arith, k.inside, k.long, stands_before.2)
      where
        same_place : {x : Question} {y : ℕ} → ungraded_as q a ≡ ungraded_as x y → a ≡ y
        same_place z = ap place_said z

    -- theorem: and it is refused as it should be
    pub refused_means : (o : Outcome (Unit {0})) (f : Unit {0} → Outcome (Unit {0})) → Said o → (why : Refusal) → why ≡ refusal_over (number_of q) (span_in w1 (a + 1))
        → ExpandedBy s m room wd ids (after o f) d v w (Err why) w1
    unfolding ExpandedBy
    refused_means (yes u) f k why z = absurd (is_not (sym k.answer))
    refused_means (no r sp) f k why z = go k.place k.question k.asks k.answer k.span
      where
        go : (x : ℕ) (c : Question) → number_of c ≡ r → ungraded_as q a ≡ ungraded_as c x → span_in w1 (x + 1) ≡ sp → ◌≡◌ {A = Result Written Refusal} (Err why) (Err (refusal_over r sp))
        go x c n i j = let y : a ≡ x = ap place_said i in let t : Some q ≡ Some c = ap question_said i in let u : q ≡ c = cc in let l : number_of q ≡ r = ap number_of u ∙ n in cc (z, y, l, j)
