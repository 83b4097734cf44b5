-- What reading level and side means: the refusal of check_attributes, else the level and the side of with_levels and with_sides. Assumes nothing.
use mathlib.Core.Path.{◌≡◌, refl, sym, ap, ◌∙◌}
use mathlib.Core.Bool.{Bool, true, false, cond}
use mathlib.Core.List.{List, [], ◌∷◌, ◌++◌}
use mathlib.Core.Option.{Option, none, some}
use Prim.Native.Nat.{ℕ, ◌+◌}
use Rattle.std.specs.Prelude.{eqb, Option as Maybe, Some, None, Result, Err}
use Rattle.octets.specs.Working.Choice.{pick}
use Rattle.octets.specs.Plain.Runs.{Lies, same_as}
use Rattle.octets.proofs.SameLaws.{same_as-eq}
use Rattle.parse_tree.specs.Plain.Tree.{Text, Attribute, Alternative}
use Rattle.parse_tree.specs.declared.syntax.Span.{Span}
use Rattle.parse_tree.specs.Working.Encode.{alternative_bytes}
use Rattle.parse_tree.specs.Working.Within.{AlternativeWithin}
use Rattle.passes.specs.Outcome.{yes, no}
use Rattle.passes.specs.Grades.{Side, all, precedence, assoc, value_of, is_given, level_in, side_in, level_of, side_of, without_first, with_levels, with_sides, Graded}
use Rattle.passes.specs.Levels.{is_readable, check_attributes}
use Rattle.parse_tree.specs.declared.refusal.Question.{Question}
use Rattle.grades.specs.declared.Assoc.{Assoc}
use Rattle.grades.specs.declared.Graded.{Graded as GradeRead}
use Rattle.grades.specs.Annotations.{first_index}
use Rattle.grades.specs.Grade.{assoc_of, level_answer, assoc_answer, level_said, assoc_said}
use Rattle.grades.specs.Ids.{ids_in}
use Rattle.grades.specs.Grading.{graded_as, side_said, sided_at, level_then, graded_by, graded_at}
use Rattle.grades.proofs.AnnotationsMean.{text_given, Says}
use Rattle.grades.proofs.AlternativesMean.{Annotations, alternative_means}

-- ---- on values: what the code says of them
abbrev sided_on : Option (Option Text) → ℕ → Assoc → Result GradeRead Question
sided_on va l s = pick (is_given va) (side_said l (assoc_said (text_given va))) (graded_as l s)

abbrev graded_on : Option (Option Text) → Option (Option Text) → ℕ → Assoc → Result GradeRead Question
graded_on vp va l s = pick (is_given vp) (level_then (sided_on va) (level_said (text_given vp))) (sided_on va l s)

-- and what Grades says
abbrev side_on : Option (Option Text) → ℕ → Side → Result GradeRead Question
side_on va l s = cond (is_readable va (λ t. is_given (side_in t))) (graded_as l (assoc_of (side_of s va))) (Err Question.Side)

abbrev grade_on : Option (Option Text) → Option (Option Text) → ℕ → Side → Result GradeRead Question
grade_on vp va l s = cond (is_readable vp (λ t. is_given (level_in t))) (side_on va (level_of l vp) (cond (is_given vp) all s)) (Err Question.Level)

sided_on_lem : (va : Option (Option Text)) (l : ℕ) (s : Side) → sided_on va l (assoc_of s) ≡ side_on va l s
unfolding pick side_said assoc_said same_as
sided_on_lem none l s = refl
sided_on_lem (some none) l s = refl
sided_on_lem (some (some t)) l s = go (side_in t)
  where
    go : (o : Option Side) → side_said l (assoc_answer o) ≡ cond (is_given o) (graded_as l (assoc_of (elim o [ none ↦ s | some v ↦ v ]))) (Err Question.Side)
    go none = refl
    go (some v) = refl

graded-on : (vp va : Option (Option Text)) (l : ℕ) (s : Side) → graded_on vp va l (assoc_of s) ≡ grade_on vp va l s
unfolding pick level_then level_said
graded-on none va l s = sided_on_lem va l s
graded-on (some none) va l s = refl
graded-on (some (some t)) va l s = go (level_in t)
  where
    go : (o : Option ℕ) → level_then (sided_on va) (level_answer o) ≡ cond (is_given o) (side_on va (elim o [ none ↦ l | some v ↦ v ]) all) (Err Question.Level)
    go none = refl
    go (some v) = sided_on_lem va v all

-- ---- what Grades says of an alternative alone
-- the question of a number, 14 or 15
abbrev pub asked_by : ℕ → Question
asked_by q = cond (eqb q 15) Question.Side Question.Level

abbrev pub first_grade : List Graded → Result GradeRead Question
first_grade [] = Err Question.Level
first_grade (g ∷ rest) = graded_as g.level (assoc_of g.side)

abbrev pub grade_says : ℕ → Side → Alternative → Result GradeRead Question
grade_says l s a = elim (check_attributes (a ∷ [])) [ yes u ↦ first_grade (with_sides s (with_levels l (a ∷ []))) | no q z ↦ Err (asked_by q) ]

apart : same_as assoc precedence ≡ false
unfolding same_as
apart = refl

-- removing the first `precedence` leaves each `assoc`
assoc-stays : (xs : List Attribute) → value_of assoc (without_first precedence xs) ≡ value_of assoc xs
assoc-stays [] = refl
assoc-stays (a ∷ rest) = go (same_as precedence a.id) refl (assoc-stays rest)
  where
    value : Option Text
    value = elim a.argument [ none ↦ none | some kv ↦ some kv.1 ]

    go : (b : Bool) → same_as precedence a.id ≡ b → value_of assoc (without_first precedence rest) ≡ value_of assoc rest
        → value_of assoc (cond b rest (a ∷ without_first precedence rest)) ≡ value_of assoc (a ∷ rest)
    go true e i = sym (ap (λ (x : Bool). cond x (some value) (value_of assoc rest)) (ap (same_as assoc) (sym (same_as-eq precedence a.id e)) ∙ apart))
    go false e i = ap (λ (x : Option (Option Text)). cond (same_as assoc a.id) (some value) x) i

outcomes : (b c : Bool) (g : Result GradeRead Question) (z : Span)
    → cond b (cond c g (Err Question.Side)) (Err Question.Level) ≡ elim (cond b (cond c (yes (tt {0})) (no 15 z)) (no 14 z)) [ yes u ↦ g | no q z ↦ Err (asked_by q) ]
outcomes true true g z = refl
outcomes true false g z = refl
outcomes false c g z = refl

says_is : (l : ℕ) (s : Side) (a : Alternative) → grade_on (value_of precedence a.attributes) (value_of assoc a.attributes) l s ≡ grade_says l s a
says_is l s a =
    ap (λ (v : Option (Option Text)). cond (is_readable (value_of precedence a.attributes) (λ t. is_given (level_in t)))
    (cond (is_readable (value_of assoc a.attributes) (λ t. is_given (side_in t)))
    (graded_as (level_of l (value_of precedence a.attributes)) (assoc_of (side_of (cond (is_given (value_of precedence a.attributes)) all s) v))) (Err Question.Side))
    (Err Question.Level)) (sym (assoc-stays a.attributes))
    ∙ outcomes (is_readable (value_of precedence a.attributes) (λ t. is_given (level_in t))) (is_readable (value_of assoc a.attributes) (λ t. is_given (side_in t))) _ a.span

-- ---- on the bytes
then_same : (f g : ℕ → Assoc → Result GradeRead Question) → ((v : ℕ) (c : Assoc) → f v c ≡ g v c) → (x : Maybe ℕ) → level_then f x ≡ level_then g x
unfolding level_then
then_same f g h None = refl
then_same f g h (Some v) = h v Assoc.FullyAssoc

module _ (four : Bool) (wd : ℕ) (ts : List Text) (w : List ℕ) (at : ℕ) where
  sided_at_lem : (va : Option (Option Text)) (o : Maybe ℕ) → Says four wd ts w at va o → (l : ℕ) (c : Assoc) → sided_at wd ts w at o l c ≡ sided_on va l c
  unfolding sided_at pick
  sided_at_lem va None s l c = rw s refl
  sided_at_lem va (Some j) s l c = let x = s.0 in let y = s.1 in rw (x, y) refl

  graded-by : (vp va : Option (Option Text)) (o p : Maybe ℕ) → Says four wd ts w at vp o → Says four wd ts w at va p → (l : ℕ) (c : Assoc) → graded_by wd ts w at o p l c ≡ graded_on vp va l c
  unfolding graded_by pick
  graded-by vp va None p s t l c = rw s (sided_at_lem va p t l c)
  graded-by vp va (Some i) p s t l c =
      let x = s.0 in
      let y = s.1 in
      rw (x, y) (then_same (sided_at wd ts w at p) (sided_on va) (sided_at_lem va p t) (level_said (text_given vp)))

module _ (four : Bool) (wd : ℕ) (ts : List Text) where
  graded-at : (w : List ℕ) (p : ℕ) (a : Alternative) → Annotations four wd ts w p a → (l : ℕ) (c : Assoc)
      → graded_at wd (ids_in ts) ts w p l c ≡ graded_by wd ts w (p + 14 + wd) (first_index precedence a.attributes) (first_index assoc a.attributes) l c
  unfolding graded_at
  graded-at w p a r l c = rw (r.many, r.level.index, r.side.index) refl

  -- theorem: the alternative at a place is refused as check_attributes refuses it, else it has the level and the side that Grades gives
  pub graded-means : (w : List ℕ) (p e : ℕ) (a : Alternative) (more : List ℕ) → AlternativeWithin four wd ts a → Lies w p (alternative_bytes wd ts a ++ more) e → (l : ℕ) (s : Side)
      → graded_at wd (ids_in ts) ts w p l (assoc_of s) ≡ grade_says l s a
  graded-means w p e a more h k l s =
      let r = alternative_means four wd ts w p e a more h k in
      graded-at w p a r l (assoc_of s)
      ∙ graded-by four wd ts w (p + 14 + wd) (value_of precedence a.attributes) (value_of assoc a.attributes) (first_index precedence a.attributes) (first_index assoc a.attributes) r.level.says r.side.says l (assoc_of s)
      ∙ graded-on (value_of precedence a.attributes) (value_of assoc a.attributes) l s
      ∙ says_is l s a
