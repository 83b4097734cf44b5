-- The names of levels end in the nonterminal's own, and their alternatives are all of them, each once. Assumes nothing.
use mathlib.Core.Path.{◌≡◌, refl, sym, ap}
use mathlib.Core.Bool.{Bool, true, false, cond}
use mathlib.Core.List.{List, [], ◌∷◌, ◌++◌, map}
use mathlib.Core.Option.{Option, none, some}
use Prim.Native.Nat.{ℕ, ◌+◌, ◌≤◌}
use native.Mathlib.Omega.{arith}
use borrow.Author.Tests.{eq-eqb, ne_eqb, eqb-true, eqb-false}
use lib.Dec.{eqb, ltb}
use lib.ListN.{length}
use Rattle.octets.specs.Working.Choice.{pick}
use Rattle.parse_tree.specs.Plain.Tree.{Text, Nonterminal}
use Rattle.parse_tree.specs.Working.Within.{Each}
use Rattle.passes.specs.Grades.{Graded, graded}
use Rattle.passes.specs.Levels.{insert, levels_of, of_level, decimal, Group, level_name, groups_of}
use Rattle.laws.specs.Sort.{often}
use Rattle.laws.proofs.Levels.{levels-hold}
use Rattle.laws.proofs.LevelsMany.{graded-length}
use Rattle.levels.specs.Names.{group_names}

-- ---- the highest keeps the name
-- texts of E and a level
abbrev pub Numbered : Text → Text → Type 0
Numbered E x = (v : ℕ) × (x ≡ E ++ decimal v)

-- names that end in E, those before it with a level each
pub record EndsIn (E : Text) (names : List Text) : Type 0 where
  pub front : List Text
  pub is : names ≡ front ++ (E ∷ [])
  pub numbered : Each (Numbered E) front

names_end : (E : Text) (gs : List Graded) (lower : Option Text) (v : ℕ) (vs : List ℕ) → EndsIn E (map (λ (g : Group Graded). g.name) (groups_of E gs lower (v ∷ vs)))
unfolding groups_of
names_end E gs lower v [] = record { front = []; is = refl; numbered = tt }
names_end E gs lower v (u ∷ us) =
    let n = level_name E v (u ∷ us) in
    let i = names_end E gs (some n) u us in
    record { front = n ∷ i.front; is = ap (λ (l : List Text). n ∷ l) i.is; numbered = ((v, refl), i.numbered) }

some_end : (E : Text) (gs : List Graded) (vs : List ℕ) → 1 ≤ length vs → EndsIn E (map (λ (g : Group Graded). g.name) (groups_of E gs none vs))
some_end E gs [] h = absurd (omega arith)
some_end E gs (v ∷ vs) h = names_end E gs none v vs

insert-some : (v : ℕ) (xs : List ℕ) → 1 ≤ length (insert v xs)
insert-some v [] = omega arith
insert-some v (x ∷ xs) = go (ltb v x) (eqb v x)
  where
    go : (s t : Bool) → 1 ≤ length (cond s (v ∷ x ∷ xs) (cond t (x ∷ xs) (x ∷ insert v xs)))
    go true t = omega arith
    go false true = omega arith
    go false false = omega arith

levels-some : (gs : List Graded) → 1 ≤ length gs → 1 ≤ length (levels_of gs)
unfolding levels_of
levels-some [] h = absurd (omega arith)
levels-some (g ∷ gs) h = insert-some g.level (levels_of gs)

-- theorem: the names of a nonterminal that has an alternative end in its own, and the others have a level each
pub group_names_head : (d : Nonterminal) → 1 ≤ length d.alternatives → EndsIn d.name (group_names d)
unfolding group_names
group_names_head d h = some_end d.name (graded d) (levels_of (graded d)) (levels-some (graded d) (omega (arith, graded-length d)))

-- ---- the levels' alternatives are all of them, each once
-- how many alternatives some levels have
unfoldable pub total : List ℕ → List Graded → ℕ
total [] gs = 0
total (v ∷ vs) gs = length (of_level v gs) + total vs gs

total_none : (vs : List ℕ) → total vs [] ≡ 0
unfolding total of_level
total_none [] = refl
total_none (v ∷ vs) = omega (arith, total_none vs)

chosen : (v w : ℕ) → eqb v w ≡ eqb w v
chosen v w = go (eqb w v) refl
  where
    go : (b : Bool) → eqb w v ≡ b → eqb v w ≡ b
    go true e = eq-eqb v w (sym (eqb-true w v e))
    go false e = ne_eqb v w (λ z. eqb-false w v e (sym z))

level_first : (v : ℕ) (g : Graded) (gs : List Graded) → length (of_level v (g ∷ gs)) ≡ pick (eqb v g.level) 1 0 + length (of_level v gs)
unfolding of_level pick
level_first v g gs = rw (chosen v g.level) (go (eqb g.level v))
  where
    go : (b : Bool) → length (cond b (g ∷ of_level v gs) (of_level v gs)) ≡ pick b 1 0 + length (of_level v gs)
    go true = omega arith
    go false = omega arith

total_first : (vs : List ℕ) (g : Graded) (gs : List Graded) → total vs (g ∷ gs) ≡ often g.level vs + total vs gs
unfolding total often
total_first [] g gs = refl
total_first (v ∷ vs) g gs = omega (arith, level_first v g gs, total_first vs g gs)

total_all : (vs : List ℕ) (gs : List Graded) → Each (λ (g : Graded). often g.level vs ≡ 1) gs → total vs gs ≡ length gs
total_all vs [] h = total_none vs
total_all vs (g ∷ gs) h = omega (arith, total_first vs g gs, total_all vs gs h.1, h.0)

-- theorem: the levels have as many alternatives as there are
pub levels-total : (gs : List Graded) → total (levels_of gs) gs ≡ length gs
levels-total gs = total_all (levels_of gs) gs (levels-hold gs)
