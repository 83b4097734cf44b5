-- What grading alternatives comes to, one stored after another: the places and keys that stand then, or the one that is refused; and the step over one alternative. Assumes nothing.
use mathlib.Core.Path.{◌≡◌, refl, ap, ◌∙◌}
use mathlib.Core.Bool.{Bool, true, false, cond}
use mathlib.Core.Logic.{◌⊎◌, inl, inr}
use mathlib.Core.List.{List, [], ◌∷◌, ◌++◌}
use Prim.Native.Nat.{ℕ, suc, ◌+◌, ◌*◌, ◌^◌, ◌≤◌, ◌<◌}
use native.Mathlib.Omega.{arith}
use borrow.Author.Tests.{lt-leb, le-ltb}
use lib.ListN.{length, get_or}
use Rattle.std.specs.Prelude.{Some, Result, Ok, Err}
use Rattle.octets.specs.Plain.Numbers.{le_at, le}
use Rattle.octets.specs.Plain.Runs.{Lies}
use Rattle.octets.specs.Working.Choice.{pick}
use Rattle.octets.specs.Working.Stores.{store}
use Rattle.octets.proofs.LiesLaws.{lies_split}
use Rattle.octets.proofs.NumbersLaws.{length-le}
use Rattle.octets.proofs.StoreLaws.{length_store, le_at-same, le_at-other}
use Rattle.parse_tree.specs.Plain.Tree.{Text, Alternative}
use Rattle.parse_tree.specs.declared.syntax.Span.{Span}
use Rattle.parse_tree.specs.Plain.WriteTape.{bytes_of_each}
use Rattle.parse_tree.specs.Working.Nodes.{node_bytes, span_bytes, span_in}
use Rattle.parse_tree.specs.Working.Encode.{alternative_node, alternative_bytes}
use Rattle.parse_tree.specs.Working.Within.{Each, AlternativeWithin}
use Rattle.parse_tree.proofs.FieldLaws.{byte_read, span_read}
use Rattle.parse_tree.specs.declared.refusal.Question.{Question}
use Rattle.parse_tree.specs.Working.Refusals.{number_of}
use Rattle.texts.specs.declared.Map.{Map}
use Rattle.texts.specs.Table.{texts}
use Rattle.texts.proofs.TableStays.{le_at-agree}
use Rattle.passes.specs.Outcome.{Outcome, yes, no}
use Rattle.passes.specs.Grades.{Side, all, precedence, assoc, value_of, is_given, level_in, side_in, level_of, side_of, without_first, with_levels, with_sides}
use Rattle.passes.specs.Levels.{is_readable, check_attributes}
use Rattle.laws.specs.Sort.{keys_from}
use Rattle.resolve.specs.Whole.{Apart}
use Rattle.resolve.proofs.CellsLaws.{lies_agree, part_apart}
use Rattle.grades.specs.declared.Ungraded.{Ungraded}
use Rattle.grades.specs.Annotations.{conditions_from, symbols_from, alternative_end}
use Rattle.grades.specs.Grade.{assoc_of}
use Rattle.grades.specs.Ids.{ids_in}
use Rattle.grades.specs.Sort.{keys_at}
use Rattle.grades.specs.Grading.{graded_as}
use Rattle.grades.specs.Key.{grade_key, code_of}
use Rattle.grades.specs.Alternatives.{ungraded_as, graded_there, next_grade, stored_grade, Gradable, GradesOut, grades_out, grade_then, grade_from, still_ascends}
use Rattle.grades.proofs.AlternativesMean.{AlternativeAt, alternative_read, end_means}
use Rattle.grades.proofs.GradingMean.{asked_by, grade_says, graded-means}
use Rattle.grades.proofs.AlternativesCode.{stored_long, texts-kept, gradable_stays}
use Rattle.grades.proofs.AscendsMean.{ascends_from, side_few}
use Rattle.grades.proofs.AlternativesLaws.{level_of_small, Outside, outside_part, apart_outside, stored_kept}

module _ (four : Bool) (wd : ℕ) (ts : List Text) (s : List ℕ) (m : Map) (places keys n e : ℕ) where
  -- the alternatives cs lie from p up to e, and both arrays are off them
  pub record Ready (w : List ℕ) (i p level : ℕ) (cs : List Alternative) : Type 0 where
    pub width : wd ≤ 3
    pub gradable : Gradable s w m places keys n e
    pub same : texts s w m ≡ ts
    pub many : i + length cs ≡ n
    pub small : level < 4294967296
    pub narrow : length w < 256 ^ 8
    pub within : Each (AlternativeWithin four wd ts) cs
    pub lies : Lies w p (bytes_of_each (alternative_bytes wd ts) cs) e
    pub off_places : Apart p e places (places + 8 * n + 8)
    pub off_keys : Apart p e keys (keys + 8 * n)
    pub apart : Apart places (places + 8 * n + 8) keys (keys + 8 * n)

  -- the places of the alternatives, and the one behind the last
  unfoldable pub places_from : ℕ → List Alternative → List ℕ
  places_from p [] = p ∷ []
  places_from p (a ∷ rest) = p ∷ places_from (p + length (alternative_bytes wd ts a)) rest

  abbrev pub answer_of : GradesOut → Result Bool Ungraded
  answer_of (grades_out r w) = r

  abbrev pub work_of : GradesOut → List ℕ
  work_of (grades_out r w) = w

  -- nothing else changed from the i-th on
  abbrev pub Others : List ℕ → ℕ → List ℕ → Type 0
  Others w i w' = (j : ℕ) → Outside (places + 8 * i) (places + 8 * n + 8) j → Outside (keys + 8 * i) (keys + 8 * n) j → get_or w' j 0 ≡ get_or w j 0

  -- all are stored
  pub record AllStored (w : List ℕ) (i p level : ℕ) (side : Side) (b : Bool) (cs : List Alternative) (x : GradesOut) : Type 0 where
    pub answer : answer_of x ≡ Ok (ascends_from b level (with_levels level cs))
    pub long : length (work_of x) ≡ length w
    pub keys_are : keys_at (work_of x) (keys + 8 * i) (length cs) ≡ keys_from code_of i (with_sides side (with_levels level cs))
    pub places-are : keys_at (work_of x) (places + 8 * i) (suc (length cs)) ≡ places_from p cs
    pub others : Others w i (work_of x)

  -- or one is refused, with its span; it stands before e
  pub record OneRefused (w : List ℕ) (i q : ℕ) (sp : Span) (x : GradesOut) : Type 0 where
    pub place : ℕ
    pub inside : place + 14 ≤ e
    pub question : Question
    pub asks : number_of question ≡ q
    pub answer : answer_of x ≡ ungraded_as question place
    pub span : span_in (work_of x) (place + 1) ≡ sp
    pub long : length (work_of x) ≡ length w
    pub others : Others w i (work_of x)

  abbrev pub GradesMean : List ℕ → ℕ → ℕ → ℕ → Side → Bool → List Alternative → GradesOut → Outcome (Unit {0}) → Type 0
  GradesMean w i p level side b cs x (yes u) = AllStored w i p level side b cs x
  GradesMean w i p level side b cs x (no q sp) = OneRefused w i q sp x

  pub mean_same : (w : List ℕ) (i p level : ℕ) (side : Side) (b : Bool) (cs : List Alternative) (o : Outcome (Unit {0})) (x y : GradesOut) → x ≡ y
      → GradesMean w i p level side b cs y o → GradesMean w i p level side b cs x o
  mean_same w i p level side b cs o x y q f = rw q f

  -- ---- one alternative, and what is left
  module _ (w : List ℕ) (i p level : ℕ) (side : Side) (b : Bool) (a : Alternative) (rest : List Alternative) (r : Ready w i p level (a ∷ rest)) where
    abbrev v : ℕ
    v = level_of level (value_of precedence a.attributes)

    abbrev t : Side
    t = side_of (cond (is_given (value_of precedence a.attributes)) all side) (value_of assoc (without_first precedence a.attributes))

    abbrev next : ℕ
    next = p + length (alternative_bytes wd ts a)

    abbrev w1 : List ℕ
    w1 = stored_grade w places keys i p v (assoc_of t)

    abbrev more : List ℕ
    more = bytes_of_each (alternative_bytes wd ts) rest

    lies_all : Lies w p (alternative_bytes wd ts a ++ more) e
    unfolding bytes_of_each
    lies_all = r.lies

    split : Lies w p (alternative_bytes wd ts a) next × Lies w next more e
    split = lies_split w p e (alternative_bytes wd ts a) more lies_all

    place : AlternativeAt four wd ts w p a
    place = alternative_read four wd ts w p e a more r.within.0 lies_all

    symbols_past : p + 14 ≤ symbols_from wd w p
    unfolding symbols_from conditions_from
    symbols_past = omega arith

    before : p + 14 ≤ e
    before = omega (arith, symbols_past, place.place.end, split.1.end)

    read_is : next_grade wd (ids_in ts) (texts s w m) w p e level (assoc_of side) ≡ graded_there p (grade_says level side a)
    unfolding next_grade pick
    read_is =
        let x = lt-leb e p (omega (arith, before)) in
        let y = le-ltb e (symbols_from wd w p) (omega (arith, place.place.end, split.1.end)) in
        rw (r.same, x, y) (ap (graded_there p) (graded-means four wd ts w p e a more r.within.0 lies_all level side))

    end_is : alternative_end wd w p e ≡ next
    end_is = end_means four wd ts w p e e a more r.within.0 lies_all (omega (arith, split.1.end))

    span_is : span_in w (p + 1) ≡ a.span
    unfolding alternative_bytes alternative_node node_bytes span_bytes le
    span_is = let c = byte_read w _ p (p + 1) refl lies_all in (span_read w _ (p + 1) (p + 9) {sp = a.span} (omega arith) r.within.0.span c.1).0

    stepped : next_grade wd (ids_in ts) (texts s w m) w p e level (assoc_of side) ≡ Ok (record { level = v; side = assoc_of t })
        → grade_from wd (ids_in ts) s m e places keys (suc (length rest)) i p level (assoc_of side) b w
        ≡ grade_from wd (ids_in ts) s m e places keys (length rest) (i + 1) next v (assoc_of t) (still_ascends b level v) w1
    unfolding grade_from grade_then
    stepped z = cc (z, end_is)

    refused_is : (q : Question) → next_grade wd (ids_in ts) (texts s w m) w p e level (assoc_of side) ≡ Err (record { question = Some q; at = p })
        → grade_from wd (ids_in ts) s m e places keys (suc (length rest)) i p level (assoc_of side) b w ≡ grades_out (ungraded_as q p) w
    unfolding grade_from grade_then
    refused_is q z = cc z

    refused : (q : Question) (x : GradesOut) → x ≡ grades_out (ungraded_as q p) w → OneRefused w i (number_of q) a.span x
    refused q x z = rw z (record { place = p; inside = before; question = q; asks = refl; answer = refl; span = span_is; long = refl; others = λ j c d. refl })

    fewer : i < n
    fewer = omega (arith, r.many)

    small : v < 4294967296
    small = level_of_small level r.small (value_of precedence a.attributes)

    kept : (j : ℕ) → next ≤ j → j < e → get_or w1 j 0 ≡ get_or w j 0
    kept j h k = stored_kept w places keys i p v (assoc_of t) j
        (outside_part places (places + 8 * n + 8) (places + 8 * i) (places + 8 * i + 8) j (omega arith) (omega (arith, fewer)) (apart_outside p e places (places + 8 * n + 8) j r.off_places (omega arith) k))
        (outside_part keys (keys + 8 * n) (keys + 8 * i) (keys + 8 * i + 8) j (omega arith) (omega (arith, fewer)) (apart_outside p e keys (keys + 8 * n) j r.off_keys (omega arith) k))

    ready : Ready w1 (i + 1) next v rest
    ready =
        let l = stored_long w places keys i p v (assoc_of t) in
        record {
          width = r.width;
          gradable = gradable_stays s w m places keys n e r.gradable i p v (assoc_of t) fewer;
          same = texts-kept s w m places keys n e r.gradable i p v (assoc_of t) fewer ∙ r.same;
          many = omega (arith, r.many);
          small = small;
          narrow = omega (arith, r.narrow, l);
          within = r.within.1;
          lies = lies_agree w w1 next e more l (omega (arith, r.gradable.inside)) kept split.1;
          off_places = part_apart p e places (places + 8 * n + 8) next e (omega arith) (omega arith) r.off_places;
          off_keys = part_apart p e keys (keys + 8 * n) next e (omega arith) (omega arith) r.off_keys;
          apart = r.apart;
        }

    -- the i-th cells, as they are stored
    key_small : grade_key v i (assoc_of t) < 256 ^ 8
    unfolding grade_key
    key_small = omega (arith, small, fewer, r.gradable.few, side_few (assoc_of t))

    key_there : le_at 8 w1 (keys + 8 * i) ≡ grade_key v i (assoc_of t)
    unfolding stored_grade
    key_there = le_at-same 8 (store w (places + 8 * i) (le 8 p)) (keys + 8 * i) (grade_key v i (assoc_of t))
        (omega (arith, length_store w (places + 8 * i) (le 8 p), fewer, r.gradable.keys_off.inside)) key_small

    place_there : le_at 8 w1 (places + 8 * i) ≡ p
    unfolding stored_grade
    place_there =
        let g = r.gradable in
        le_at-other 8 (store w (places + 8 * i) (le 8 p)) (keys + 8 * i) (le 8 (grade_key v i (assoc_of t))) (places + 8 * i) (go r.apart)
        ∙ le_at-same 8 w (places + 8 * i) p (omega (arith, fewer, g.places-off.inside)) (omega (arith, r.narrow, before, g.inside))
      where
        go : Apart places (places + 8 * n + 8) keys (keys + 8 * n) → (places + 8 * i + 8 ≤ keys + 8 * i) ⊎ (keys + 8 * i + length (le 8 (grade_key v i (assoc_of t))) ≤ places + 8 * i)
        go (inl h) = inl (omega (arith, fewer))
        go (inr h) = inr (omega (arith, fewer, length-le 8 (grade_key v i (assoc_of t))))

    -- and as they stay
    module _ (w2 : List ℕ) (o : Others w1 (i + 1) w2) where
      key_stays : le_at 8 w2 (keys + 8 * i) ≡ le_at 8 w1 (keys + 8 * i)
      key_stays = le_at-agree 8 w1 w2 (keys + 8 * i) (λ j h k. o j (go r.apart j h k) (inl (omega arith)))
        where
          go : Apart places (places + 8 * n + 8) keys (keys + 8 * n) → (j : ℕ) → keys + 8 * i ≤ j → j < keys + 8 * i + 8 → Outside (places + 8 * (i + 1)) (places + 8 * n + 8) j
          go (inl x) j h k = inr (omega arith)
          go (inr x) j h k = inl (omega (arith, fewer))

      place-stays : le_at 8 w2 (places + 8 * i) ≡ le_at 8 w1 (places + 8 * i)
      place-stays = le_at-agree 8 w1 w2 (places + 8 * i) (λ j h k. o j (inl (omega arith)) (go r.apart j h k))
        where
          go : Apart places (places + 8 * n + 8) keys (keys + 8 * n) → (j : ℕ) → places + 8 * i ≤ j → j < places + 8 * i + 8 → Outside (keys + 8 * (i + 1)) (keys + 8 * n) j
          go (inl x) j h k = inl (omega (arith, fewer))
          go (inr x) j h k = inr (omega arith)

      others_all : Others w i w2
      others_all j x y =
          o j (outside_part (places + 8 * i) (places + 8 * n + 8) (places + 8 * (i + 1)) (places + 8 * n + 8) j (omega arith) (omega arith) x)
          (outside_part (keys + 8 * i) (keys + 8 * n) (keys + 8 * (i + 1)) (keys + 8 * n) j (omega arith) (omega arith) y)
          ∙ stored_kept w places keys i p v (assoc_of t) j
          (outside_part (places + 8 * i) (places + 8 * n + 8) (places + 8 * i) (places + 8 * i + 8) j (omega arith) (omega (arith, fewer)) x)
          (outside_part (keys + 8 * i) (keys + 8 * n) (keys + 8 * i) (keys + 8 * i + 8) j (omega arith) (omega (arith, fewer)) y)

    module _ (y : GradesOut) where
      stored_next : AllStored w1 (i + 1) next v t (still_ascends b level v) rest y → AllStored w i p level side b (a ∷ rest) y
      unfolding keys_at keys_from places_from ascends_from grade_key
      stored_next f =
          let k0 : le_at 8 (work_of y) (keys + 8 * i) ≡ grade_key v i (assoc_of t) = key_stays (work_of y) f.others ∙ key_there in
          let p0 : le_at 8 (work_of y) (places + 8 * i) ≡ p = place-stays (work_of y) f.others ∙ place_there in
          let ks : keys_at (work_of y) (keys + 8 * i + 8) (length rest) ≡ keys_from code_of (suc i) (with_sides t (with_levels v rest))
          = ap (λ (z : ℕ). keys_at (work_of y) z (length rest)) (omega arith) ∙ f.keys_are ∙ ap (λ (z : ℕ). keys_from code_of z (with_sides t (with_levels v rest))) (omega arith) in
          let ps : keys_at (work_of y) (places + 8 * i + 8) (suc (length rest)) ≡ places_from next rest = ap (λ (z : ℕ). keys_at (work_of y) z (suc (length rest))) (omega arith) ∙ f.places-are in
          record {
            answer = f.answer;
            long = f.long ∙ stored_long w places keys i p v (assoc_of t);
            keys_are = ap (λ (z : ℕ). z ∷ keys_at (work_of y) (keys + 8 * i + 8) (length rest)) k0 ∙ ap (λ (zs : List ℕ). grade_key v i (assoc_of t) ∷ zs) ks;
            places-are = ap (λ (z : ℕ). z ∷ keys_at (work_of y) (places + 8 * i + 8) (suc (length rest))) p0 ∙ ap (λ (zs : List ℕ). p ∷ zs) ps;
            others = others_all (work_of y) f.others;
          }

      refused_next : (k : ℕ) (sp : Span) → OneRefused w1 (i + 1) k sp y → OneRefused w i k sp y
      refused_next k sp f = record {
        place = f.place;
        inside = f.inside;
        question = f.question;
        asks = f.asks;
        answer = f.answer;
        span = f.span;
        long = f.long ∙ stored_long w places keys i p v (assoc_of t);
        others = others_all (work_of y) f.others;
      }

      mean_next : (o : Outcome (Unit {0})) → GradesMean w1 (i + 1) next v t (still_ascends b level v) rest y o → GradesMean w i p level side b (a ∷ rest) y o
      mean_next (yes u) f = stored_next f
      mean_next (no k sp) f = refused_next k sp f

    -- the two questions, and then the rest
    asked : (c d : Bool) (o : Outcome (Unit {0}))
        → next_grade wd (ids_in ts) (texts s w m) w p e level (assoc_of side) ≡ graded_there p (elim (cond c (cond d (yes (tt {0})) (no 15 a.span)) (no 14 a.span)) [ yes u ↦ graded_as v (assoc_of t) | no q z ↦ Err (asked_by q) ])
        → GradesMean w1 (i + 1) next v t (still_ascends b level v) rest (grade_from wd (ids_in ts) s m e places keys (length rest) (i + 1) next v (assoc_of t) (still_ascends b level v) w1) o
        → GradesMean w i p level side b (a ∷ rest) (grade_from wd (ids_in ts) s m e places keys (suc (length rest)) i p level (assoc_of side) b w) (cond c (cond d o (no 15 a.span)) (no 14 a.span))
    unfolding graded_there
    asked true true o z f = mean_same w i p level side b (a ∷ rest) o _ _ (stepped z) (mean_next _ o f)
    asked true false o z f = refused Question.Side _ (refused_is Question.Side z)
    asked false d o z f = refused Question.Level _ (refused_is Question.Level z)

    -- where the rest is graded so, all is
    pub one_more : ((w' : List ℕ) (i' p' level' : ℕ) (side' : Side) (b' : Bool) → Ready w' i' p' level' rest
        → GradesMean w' i' p' level' side' b' rest (grade_from wd (ids_in ts) s m e places keys (length rest) i' p' level' (assoc_of side') b' w') (check_attributes rest))
        → GradesMean w i p level side b (a ∷ rest) (grade_from wd (ids_in ts) s m e places keys (suc (length rest)) i p level (assoc_of side) b w) (check_attributes (a ∷ rest))
    one_more f =
        asked (is_readable (value_of precedence a.attributes) (λ x. is_given (level_in x))) (is_readable (value_of assoc a.attributes) (λ x. is_given (side_in x))) (check_attributes rest)
        read_is (f w1 (i + 1) next v t (still_ascends b level v) ready)
