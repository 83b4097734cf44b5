-- The groups and items of an annotated nonterminal, each by its level alone: what the definitions hand on from one level to the next is said here of
-- the level itself. These forms are equal to the definitions' (`grouped-at`, `items_at_lem`). Assumes nothing.
use mathlib.Core.Path.{◌≡◌, refl, sym, ap, ap₂, ◌∙◌, subst, fun_ext}
use mathlib.Core.Logic.{◌⊎◌, inl, inr, ◌≢◌}
use Prim.Native.Nat.{ℕ, suc, ◌≤◌, ◌<◌}
use mathlib.Core.List.Memᴰ
use mathlib.Core.List.{List, [], ◌∷◌, ◌++◌, map, map-map, Memᴰ}
use mathlib.Core.Option.{Option, none, some}
use mathlib.Core.Bool.{Bool, true, false, cond}
use borrow.Author.Tests.{eq-eqb, ne_eqb}
use lib.Dec.{eqb}
use native.Mathlib.Omega.{arith}
use Rattle.parse_tree.specs.Plain.Tree.{Text, nonterminal, leaf, nil, cons, Alternative, Nonterminal, item, no_action}
use Rattle.passes.specs.Outcome.{with_alternatives, with_name, simple}
use Rattle.passes.specs.Grades.{Side, all, non, left, right, Graded, graded, ceiling}
use Rattle.meaning.specs.Meaning.{below}
use Rattle.passes.specs.Levels.{levels_of, of_level, decimal, Group, level_name, groups_of, grouped, occurs_in, replace_occurrences_in, lower_name, substitute, substituted, fall_through, with_fall_through, level_items}
use Rattle.meaning.proofs.Basics.{test}
use Rattle.meaning.proofs.Levels.LevelFacts.{Level, highest, highest_max, highest_least, below-max, is_lowest, below-level, not_lowest, levels-have, levels-only, Ascends, levels-ascend, Sided}

-- ---- the forms
module _ (d : Nonterminal) where
  -- the name of level v
  unfoldable pub name_at : ℕ → Text
  name_at v = cond (eqb v (highest (graded d))) d.name (d.name ++ decimal v)

  -- and that of the next lower level, if there is one
  abbrev pub lower_at : ℕ → Option Text
  lower_at v = cond (is_lowest v (graded d)) none (some (name_at (below v (graded d))))

  abbrev pub group_at : ℕ → Group Graded
  group_at v = record { name = name_at v; lower = lower_at v; alternatives = of_level v (graded d) }

  -- an alternative in the item of its level
  abbrev pub substitute_at : Graded → Alternative
  substitute_at g = substitute d.name (group_at g.level) g

  -- the fall-through of a level that is not the lowest
  abbrev pub fall_at : ℕ → Alternative
  fall_at v = simple d.span no_action (cons (leaf d.span (nonterminal (name_at (below v (graded d))))) nil)

  unfoldable pub level_item : ℕ → Nonterminal
  level_item v = with_name (with_alternatives d (map (substitute d.name (group_at v)) (of_level v (graded d)) ++ fall_through d.span (lower_at v))) (name_at v)

  -- ---- the highest level has the nonterminal's name
  pub highest_name : name_at (highest (graded d)) ≡ d.name
  unfolding name_at
  highest_name = rw (eq-eqb (highest (graded d)) (highest (graded d)) refl)

  -- ---- the groups
  -- vs are the levels above p, or all levels
  abbrev Above : Option ℕ → List ℕ → Type 0
  Above none vs = (u : ℕ) → Level (graded d) u → Memᴰ u vs
  Above (some p) vs = Level (graded d) p × ((u : ℕ) → Memᴰ u vs → p < u) × ((u : ℕ) → Level (graded d) u → (u ≤ p) ⊎ Memᴰ u vs)

  -- and the name of p
  abbrev name_of : Option ℕ → Option Text
  name_of none = none
  name_of (some p) = some (name_at p)

  -- each is a level
  abbrev Levels : List ℕ → Type 0
  Levels vs = (u : ℕ) → Memᴰ u vs → Level (graded d) u

  -- the first of them is the least
  at_least : (v : ℕ) (vs : List ℕ) → Ascends (v ∷ vs) → (u : ℕ) → Memᴰ u (v ∷ vs) → v ≤ u
  at_least v vs a u (Memᴰ.head e) = omega arith
  at_least v vs a u (Memᴰ.tail i) = let z : v < u = a.0 u i in omega arith

  above_cases : (p : Option ℕ) (v : ℕ) (vs : List ℕ) → Above p (v ∷ vs) → (u : ℕ) → Level (graded d) u → (u ≤ v) ⊎ Memᴰ u vs
  above_cases none v vs h u l = go (h u l)
    where
      go : Memᴰ u (v ∷ vs) → (u ≤ v) ⊎ Memᴰ u vs
      go (Memᴰ.head e) = inl (omega arith)
      go (Memᴰ.tail i) = inr i
  above_cases (some p) v vs (lp, least, rest) u l = go (rest u l)
    where
      go : (u ≤ p) ⊎ Memᴰ u (v ∷ vs) → (u ≤ v) ⊎ Memᴰ u vs
      go (inl h) = let z : p < v = least v (Memᴰ.head refl) in inl (omega arith)
      go (inr (Memᴰ.head e)) = inl (omega arith)
      go (inr (Memᴰ.tail i)) = inr i

  above_next : (p : Option ℕ) (v : ℕ) (vs : List ℕ) → Ascends (v ∷ vs) → Levels (v ∷ vs) → Above p (v ∷ vs) → Above (some v) vs
  above_next p v vs a ls h = (ls v (Memᴰ.head refl), a.0, above_cases p v vs h)

  -- the name of the first: it is the highest level if it is the last one
  first_name : (p : Option ℕ) (v : ℕ) (vs : List ℕ) → Ascends (v ∷ vs) → Levels (v ∷ vs) → Above p (v ∷ vs) → level_name d.name v vs ≡ name_at v
  unfolding name_at
  first_name p v [] a ls h = rw (eq-eqb v (highest (graded d)) (both (highest_max (graded d) v (ls v (Memᴰ.head refl))) (highest_least (graded d) v all-below)))
    where
      all-below : (u : ℕ) → Level (graded d) u → u ≤ v
      all-below u l = go (above_cases p v [] h u l)
        where
          go : (u ≤ v) ⊎ Memᴰ u [] → u ≤ v
          go (inl k) = k
          go (inr i) = absurd (Memᴰ.not-nil i)

      both : v ≤ highest (graded d) → highest (graded d) ≤ v → v ≡ highest (graded d)
      both x y = omega arith
  first_name p v (u ∷ us) a ls h = rw (ne_eqb v (highest (graded d)) (less (a.0 u (Memᴰ.head refl)) (highest_max (graded d) u (ls u (Memᴰ.tail (Memᴰ.head refl))))))
    where
      less : v < u → u ≤ highest (graded d) → v ≢ highest (graded d)
      less x y z = omega arith

  -- and p is the next lower level
  first_lower : (p : Option ℕ) (v : ℕ) (vs : List ℕ) → Ascends (v ∷ vs) → Above p (v ∷ vs) → name_of p ≡ lower_at v
  first_lower none v vs a h = go (test (is_lowest v (graded d)))
    where
      bad : (b : ℕ) → b < v → v ≤ b → ⊥
      bad b x y = omega arith

      go : (is_lowest v (graded d) ≡ true) ⊎ (is_lowest v (graded d) ≡ false) → none ≡ lower_at v
      go (inl e) = rw e
      go (inr e) = let (l, b) = below-level v (graded d) e in absurd (bad (below v (graded d)) b (at_least v vs a (below v (graded d)) (h (below v (graded d)) l)))
  first_lower (some p) v vs a (lp, least, rest) = rw (nl, same)
    where
      under : p < v
      under = least v (Memᴰ.head refl)

      nl : is_lowest v (graded d) ≡ false
      nl = not_lowest v (graded d) p lp under

      equal : (b : ℕ) → p ≤ b → b < v → (b ≤ p) ⊎ (v ≤ b) → b ≡ p
      equal b x y (inl z) = omega arith
      equal b x y (inr z) = absurd (omega arith)

      later : (b : ℕ) → (b ≤ p) ⊎ Memᴰ b (v ∷ vs) → (b ≤ p) ⊎ (v ≤ b)
      later b (inl z) = inl z
      later b (inr i) = inr (at_least v vs a b i)

      same : below v (graded d) ≡ p
      same =
          let (l, b) = below-level v (graded d) nl in
          equal (below v (graded d)) (below-max v (graded d) p lp under) b (later (below v (graded d)) (rest (below v (graded d)) l))

  groups_at : (p : Option ℕ) (vs : List ℕ) → Ascends vs → Levels vs → Above p vs → groups_of d.name (graded d) (name_of p) vs ≡ map group_at vs
  unfolding groups_of
  groups_at p [] a ls h = refl
  groups_at p (v ∷ vs) a ls h =
      let n = first_name p v vs a ls h in
      ap₂ {C = List (Group Graded)} (λ x xs. x ∷ xs)
      (ap₂ {C = Group Graded} (λ x l. record { name = x; lower = l; alternatives = of_level v (graded d) }) n (first_lower p v vs a h))
      (ap (λ (x : Text). groups_of d.name (graded d) (some x) vs) n ∙ groups_at (some v) vs a.1 (λ u i. ls u (Memᴰ.tail i)) (above_next p v vs a ls h))

  -- the groups, handed on from level to level, are those of the levels, each by itself
  pub grouped-at : grouped d.name (graded d) ≡ map group_at (levels_of (graded d))
  grouped-at = groups_at none (levels_of (graded d)) (levels-ascend (graded d)) (λ v i. levels-only (graded d) v i) (λ v l. levels-have (graded d) v l)

  -- and so are the items
  pub items_at_lem : level_items d ≡ map (λ v. item (level_item v)) (levels_of (graded d))
  unfolding level_items substituted with_fall_through level_item
  items_at_lem =
      ap (λ (gs : List (Group Graded)). map (with_fall_through d) (map (substituted d.name) gs)) grouped-at
      ∙ ap (map (with_fall_through d)) (map-map (substituted d.name) group_at (levels_of (graded d)))
      ∙ map-map (with_fall_through d) (λ v. substituted d.name (group_at v)) (levels_of (graded d))

  -- ---- the name of a ceiling is the ceiling of the names, if the lowest level has only `all`
  abbrev pub ceiling_in : Graded → ℕ → ℕ
  ceiling_in g = ceiling g.side g.level (below g.level (graded d)) (occurs_in d.name g.alternative.symbols)

  ceiling-name : (s : Side) (v low total j : ℕ) → ceiling s (name_at v) (name_at low) total j ≡ name_at (ceiling s v low total j)
  ceiling-name s v low total j = go s
    where
      either : (b : Bool) → cond b (name_at v) (name_at low) ≡ name_at (cond b v low)
      either true = refl
      either false = refl

      go : (s : Side) → ceiling s (name_at v) (name_at low) total j ≡ name_at (ceiling s v low total j)
      go all = refl
      go non = refl
      go left = either (eqb j 0)
      go right = either (eqb (suc j) total)

  names_at : Sided d → (γ : Graded) → Memᴰ γ (graded d) → (total j : ℕ)
      → ceiling γ.side (name_at γ.level) (lower_name (group_at γ.level)) total j ≡ name_at (ceiling γ.side γ.level (below γ.level (graded d)) total j)
  names_at sided γ i total j = go (test (is_lowest γ.level (graded d)))
    where
      v : ℕ
      v = γ.level

      low : ℕ
      low = below γ.level (graded d)

      Named : Side → Option Text → Type 0
      Named s l = ceiling s (name_at v) (elim l [ none ↦ name_at v | some n ↦ n ]) total j ≡ name_at (ceiling s v low total j)

      go : (is_lowest v (graded d) ≡ true) ⊎ (is_lowest v (graded d) ≡ false) → Named γ.side (lower_at v)
      go (inl e) = subst (λ (s : Side). Named s (lower_at v)) (sym (sided γ i e)) refl
      go (inr e) = subst (λ (b : Bool). Named γ.side (cond b none (some (name_at low)))) (sym e) (ceiling-name γ.side v low total j)

  pub symbols_at : Sided d → (γ : Graded) → Memᴰ γ (graded d)
      → (substitute_at γ).symbols ≡ replace_occurrences_in d.name (λ j. name_at (ceiling_in γ j)) γ.alternative.symbols 0
  symbols_at sided γ i = ap (λ (f : ℕ → Text). replace_occurrences_in d.name f γ.alternative.symbols 0) (fun_ext (names_at sided γ i (occurs_in d.name γ.alternative.symbols)))
