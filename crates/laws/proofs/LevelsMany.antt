-- How many levels there are: no more than alternatives, which grading keeps, and none of them is empty. Assumes nothing.
use mathlib.Core.Path.{◌≡◌, refl, ap, ◌∙◌}
use mathlib.Core.Bool.{Bool, true, false, cond}
use mathlib.Core.List.{List, [], ◌∷◌}
use Prim.Native.Nat.{ℕ, suc, ◌≤◌}
use native.Mathlib.Omega.{arith}
use borrow.Author.Tests.{eq-eqb}
use lib.Dec.{eqb, ltb}
use lib.ListN.{length}
use Rattle.parse_tree.specs.Plain.Tree.{Alternative, Nonterminal}
use Rattle.parse_tree.specs.Working.Within.{Each}
use Rattle.passes.specs.Grades.{Side, all, Levelled, level_of, value_of, precedence, assoc, with_levels, Graded, side_of, with_sides, graded}
use Rattle.passes.specs.Levels.{insert, levels_of, of_level}

-- ---- as many graded alternatives as alternatives
levels-length : (l : ℕ) (as' : List Alternative) → length (with_levels l as') ≡ length as'
levels-length l [] = refl
levels-length l (a ∷ rest) = ap suc (levels-length (level_of l (value_of precedence a.attributes)) rest)

sides_length : (s : Side) (xs : List Levelled) → length (with_sides s xs) ≡ length xs
sides_length s [] = refl
sides_length s (x ∷ rest) = ap suc (sides_length (side_of (cond x.is_new all s) (value_of assoc x.alternative.attributes)) rest)

-- theorem: grading keeps their number
pub graded-length : (d : Nonterminal) → length (graded d) ≡ length d.alternatives
graded-length d = sides_length all (with_levels 0 d.alternatives) ∙ levels-length 0 d.alternatives

-- ---- at most as many levels
insert-few : (v : ℕ) (xs : List ℕ) → length (insert v xs) ≤ suc (length xs)
insert-few v [] = omega arith
insert-few v (x ∷ xs) = go (ltb v x) (eqb v x) (insert-few v xs)
  where
    go : (s t : Bool) → length (insert v xs) ≤ suc (length xs) → length (cond s (v ∷ x ∷ xs) (cond t (x ∷ xs) (x ∷ insert v xs))) ≤ suc (suc (length xs))
    go true t i = omega arith
    go false true i = omega arith
    go false false i = omega arith

-- theorem: there are no more levels than alternatives
pub levels-few : (gs : List Graded) → length (levels_of gs) ≤ length gs
unfolding levels_of
levels-few [] = omega arith
levels-few (g ∷ gs) = omega (arith, insert-few g.level (levels_of gs), levels-few gs)

-- ---- no level is empty
insert-each : (P : ℕ → Type 0) (v : ℕ) (xs : List ℕ) → P v → Each P xs → Each P (insert v xs)
insert-each P v [] p h = (p, tt)
insert-each P v (x ∷ xs) p h = go (ltb v x) (eqb v x) (insert-each P v xs p h.1)
  where
    go : (s t : Bool) → Each P (insert v xs) → Each P (cond s (v ∷ x ∷ xs) (cond t (x ∷ xs) (x ∷ insert v xs)))
    go true t i = (p, h)
    go false true i = h
    go false false i = (h.0, i)

own-some : (g : Graded) (gs : List Graded) → 1 ≤ length (of_level g.level (g ∷ gs))
unfolding of_level
own-some g gs = let z = eq-eqb g.level g.level refl in rw z (omega arith)

more_some : (g : Graded) (gs : List Graded) (v : ℕ) → 1 ≤ length (of_level v gs) → 1 ≤ length (of_level v (g ∷ gs))
unfolding of_level
more_some g gs v h = go (eqb g.level v)
  where
    go : (b : Bool) → 1 ≤ length (cond b (g ∷ of_level v gs) (of_level v gs))
    go true = omega arith
    go false = h

all_more : (g : Graded) (gs : List Graded) (vs : List ℕ) → Each (λ (v : ℕ). 1 ≤ length (of_level v gs)) vs → Each (λ (v : ℕ). 1 ≤ length (of_level v (g ∷ gs))) vs
all_more g gs [] h = tt
all_more g gs (v ∷ vs) h = (more_some g gs v h.0, all_more g gs vs h.1)

-- theorem: each level has an alternative
pub levels-full : (gs : List Graded) → Each (λ (v : ℕ). 1 ≤ length (of_level v gs)) (levels_of gs)
unfolding levels_of
levels-full [] = tt
levels-full (g ∷ gs) = insert-each (λ (v : ℕ). 1 ≤ length (of_level v (g ∷ gs))) g.level (levels_of gs) (own-some g gs) (all_more g gs (levels_of gs) (levels-full gs))
