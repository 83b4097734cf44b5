-- The levels of a nonterminal: the highest, the next lower one, the lowest, and the list of them. Assumes nothing.
use mathlib.Core.Path.{◌≡◌, refl, sym, ap, ◌∙◌, subst}
use mathlib.Core.Logic.{◌⊎◌, inl, inr, ◌≢◌}
use Prim.Native.Nat.{ℕ, suc, ◌≤◌, ◌<◌}
use mathlib.Core.List.Memᴰ
use mathlib.Core.List.{List, [], ◌∷◌, Memᴰ}
use mathlib.Core.Bool.{Bool, true, false, cond, not, ◌&&◌, true≢false, false≢true}
use borrow.Author.Tests.{leb-true, leb-false, ltb-true, ltb-false, eqb-true, eqb-false}
use lib.Dec.{eqb, ltb, leb, leb-zero}
use native.Mathlib.Omega.{arith}
use Rattle.parse_tree.specs.Plain.Tree.{Syms, Alternative, Nonterminal}
use Rattle.passes.specs.Grades.{Side, all, non, left, right, starts_annotated, annotated, value_of, is_given, without_first, precedence, assoc, level_of, side_of, with_levels, Graded, with_sides, graded, ceiling}
use Rattle.meaning.specs.Meaning.{below}
use Rattle.passes.specs.Levels.{insert, levels_of}
use Rattle.meaning.proofs.Basics.{test}

-- some alternative has the level v
abbrev pub Level : List Graded → ℕ → Type 0
Level gs v = (g : Graded) × Memᴰ g gs × (g.level ≡ v)

up : (g : Graded) (gs : List Graded) (v : ℕ) → Level gs v → Level (g ∷ gs) v
up g gs v (x, i, e) = (x, Memᴰ.tail i, e)

same_level : (g x : Graded) (v : ℕ) → g.level ≡ v → g ≡ x → v ≡ x.level
same_level g x v e q = sym e ∙ ap (λ (y : Graded). y.level) q

between-bad : (a b c : ℕ) → a ≡ b → a < c → c ≤ b → ⊥
between-bad a b c p q r = omega arith

-- ---- every level is at most the highest, and the highest is a level
abbrev pub highest : List Graded → ℕ
highest [] = 0
highest (g ∷ rest) = cond (leb (highest rest) g.level) g.level (highest rest)

pub highest_max : (gs : List Graded) (v : ℕ) → Level gs v → v ≤ highest gs
highest_max [] v (g, i, e) = absurd (Memᴰ.not-nil i)
highest_max (x ∷ gs) v (g, i, e) = go (leb (highest gs) x.level) refl i (λ j. highest_max gs v (g, j, e))
  where
    go : (b : Bool) → leb (highest gs) x.level ≡ b → Memᴰ g (x ∷ gs) → (Memᴰ g gs → v ≤ highest gs) → v ≤ cond b x.level (highest gs)
    go true t (Memᴰ.head q) k = let z : v ≡ x.level = same_level g x v e q in omega arith
    go true t (Memᴰ.tail j) k = let z : v ≤ highest gs = k j in let z' : highest gs ≤ x.level = leb-true (highest gs) x.level t in omega arith
    go false t (Memᴰ.head q) k = let z : v ≡ x.level = same_level g x v e q in let z' : x.level < highest gs = leb-false (highest gs) x.level t in omega arith
    go false t (Memᴰ.tail j) k = k j

pub highest_least : (gs : List Graded) (b : ℕ) → ((u : ℕ) → Level gs u → u ≤ b) → highest gs ≤ b
highest_least [] b h = omega arith
highest_least (x ∷ gs) b h = go (leb (highest gs) x.level) (h x.level (x, Memᴰ.head refl, refl)) (highest_least gs b (λ u l. h u (up x gs u l)))
  where
    go : (t : Bool) → x.level ≤ b → highest gs ≤ b → cond t x.level (highest gs) ≤ b
    go true p q = p
    go false p q = q

pub highest_level : (g : Graded) (gs : List Graded) → Level (g ∷ gs) (highest (g ∷ gs))
highest_level g [] = (g, Memᴰ.head refl, sym (ap (λ (b : Bool). cond b g.level 0) (leb-zero g.level)))
highest_level g (x ∷ gs) = go (leb (highest (x ∷ gs)) g.level) (highest_level x gs)
  where
    go : (b : Bool) → Level (x ∷ gs) (highest (x ∷ gs)) → Level (g ∷ x ∷ gs) (cond b g.level (highest (x ∷ gs)))
    go true k = (g, Memᴰ.head refl, refl)
    go false k = up g (x ∷ gs) _ k

pub has-highest : (d : Nonterminal) → annotated d ≡ true → Level (graded d) (highest (graded d))
has-highest d an = go d.alternatives refl
  where
    go : (l : List Alternative) → d.alternatives ≡ l → Level (graded d) (highest (graded d))
    go [] e = absurd (false≢true (sym (ap starts_annotated e) ∙ an))
    go (a ∷ rest) e = subst (λ (z : List Alternative). Level (with_sides all (with_levels 0 z)) (highest (with_sides all (with_levels 0 z)))) (sym e) (highest_level _ _)

-- ---- the next lower level is the highest one below v
pub below-max : (v : ℕ) (gs : List Graded) (u : ℕ) → Level gs u → u < v → u ≤ below v gs
below-max v [] u (g, i, e) h = absurd (Memᴰ.not-nil i)
below-max v (x ∷ gs) u (g, i, e) h = go (ltb x.level v) (leb (below v gs) x.level) refl refl i (λ j. below-max v gs u (g, j, e) h)
  where
    go : (b c : Bool) → ltb x.level v ≡ b → leb (below v gs) x.level ≡ c → Memᴰ g (x ∷ gs) → (Memᴰ g gs → u ≤ below v gs) → u ≤ cond (b && c) x.level (below v gs)
    go true true t t' (Memᴰ.head q) k = let z : u ≡ x.level = same_level g x u e q in omega arith
    go true false t t' (Memᴰ.head q) k = let z : u ≡ x.level = same_level g x u e q in let z' : x.level < below v gs = leb-false (below v gs) x.level t' in omega arith
    go false c t t' (Memᴰ.head q) k = absurd (between-bad u x.level v (same_level g x u e q) h (ltb-false x.level v t))
    go true true t t' (Memᴰ.tail j) k = let z : u ≤ below v gs = k j in let z' : below v gs ≤ x.level = leb-true (below v gs) x.level t' in omega arith
    go true false t t' (Memᴰ.tail j) k = k j
    go false c t t' (Memᴰ.tail j) k = k j

-- b is a level and below v
abbrev pub Lower : ℕ → List Graded → ℕ → Type 0
Lower v gs b = Level gs b × (b < v)

lower_up : (v : ℕ) (x : Graded) (gs : List Graded) (b : ℕ) → Lower v gs b → Lower v (x ∷ gs) b
lower_up v x gs b (l, z) = (up x gs b l, z)

below_or : (v : ℕ) (gs : List Graded) → (below v gs ≡ 0) ⊎ Lower v gs (below v gs)
below_or v [] = inl refl
below_or v (x ∷ gs) = go (ltb x.level v) (leb (below v gs) x.level) refl (below_or v gs)
  where
    low : (below v gs ≡ 0) ⊎ Lower v gs (below v gs) → (below v gs ≡ 0) ⊎ Lower v (x ∷ gs) (below v gs)
    low (inl z) = inl z
    low (inr l) = inr (lower_up v x gs (below v gs) l)

    go : (b c : Bool) → ltb x.level v ≡ b → (below v gs ≡ 0) ⊎ Lower v gs (below v gs) → (cond (b && c) x.level (below v gs) ≡ 0) ⊎ Lower v (x ∷ gs) (cond (b && c) x.level (below v gs))
    go true true t k = inr ((x, Memᴰ.head refl, refl), ltb-true x.level v t)
    go true false t k = low k
    go false c t k = low k

-- no level is below v
abbrev pub is_lowest : ℕ → List Graded → Bool
is_lowest v [] = true
is_lowest v (g ∷ rest) = not (ltb g.level v) && is_lowest v rest

-- and a level, if there is one
pub below-level : (v : ℕ) (gs : List Graded) → is_lowest v gs ≡ false → Lower v gs (below v gs)
below-level v [] e = absurd (true≢false e)
below-level v (x ∷ gs) e = go (ltb x.level v) (leb (below v gs) x.level) refl refl e (below-level v gs) (below_or v gs)
  where
    positive : (a b : ℕ) → a < b → b ≡ 0 → ⊥
    positive a b p q = omega arith

    go : (b c : Bool) → ltb x.level v ≡ b → leb (below v gs) x.level ≡ c → not b && is_lowest v gs ≡ false → (is_lowest v gs ≡ false → Lower v gs (below v gs))
        → (below v gs ≡ 0) ⊎ Lower v gs (below v gs) → Lower v (x ∷ gs) (cond (b && c) x.level (below v gs))
    go true true t t' e' k o = ((x, Memᴰ.head refl, refl), ltb-true x.level v t)
    go true false t t' e' k (inl z) = absurd (positive x.level (below v gs) (leb-false (below v gs) x.level t') z)
    go true false t t' e' k (inr o) = lower_up v x gs (below v gs) o
    go false c t t' e' k o = lower_up v x gs (below v gs) (k e')

pub not_lowest : (v : ℕ) (gs : List Graded) (u : ℕ) → Level gs u → u < v → is_lowest v gs ≡ false
not_lowest v [] u (g, i, e) h = absurd (Memᴰ.not-nil i)
not_lowest v (x ∷ gs) u (g, i, e) h = go (ltb x.level v) refl i (λ j. not_lowest v gs u (g, j, e) h)
  where
    go : (b : Bool) → ltb x.level v ≡ b → Memᴰ g (x ∷ gs) → (Memᴰ g gs → is_lowest v gs ≡ false) → not b && is_lowest v gs ≡ false
    go true t j k = refl
    go false t (Memᴰ.head q) k = absurd (between-bad u x.level v (same_level g x u e q) h (ltb-false x.level v t))
    go false t (Memᴰ.tail j) k = k j

-- ---- the list of levels has the levels and no others
abbrev inserted : Bool → Bool → ℕ → ℕ → List ℕ → List ℕ
inserted b c v x l = cond b (v ∷ x ∷ l) (cond c (x ∷ l) (x ∷ insert v l))

insert-here : (v : ℕ) (l : List ℕ) → Memᴰ v (insert v l)
insert-here v [] = Memᴰ.head refl
insert-here v (x ∷ l) = go (ltb v x) (eqb v x) refl (insert-here v l)
  where
    go : (b c : Bool) → eqb v x ≡ c → Memᴰ v (insert v l) → Memᴰ v (inserted b c v x l)
    go true c t k = Memᴰ.head refl
    go false true t k = Memᴰ.head (eqb-true v x t)
    go false false t k = Memᴰ.tail k

insert-keep : (v : ℕ) (l : List ℕ) (u : ℕ) → Memᴰ u l → Memᴰ u (insert v l)
insert-keep v [] u i = absurd (Memᴰ.not-nil i)
insert-keep v (x ∷ l) u i = go (ltb v x) (eqb v x) i (insert-keep v l u)
  where
    go : (b c : Bool) → Memᴰ u (x ∷ l) → (Memᴰ u l → Memᴰ u (insert v l)) → Memᴰ u (inserted b c v x l)
    go true c j k = Memᴰ.tail j
    go false true j k = j
    go false false (Memᴰ.head e) k = Memᴰ.head e
    go false false (Memᴰ.tail j) k = Memᴰ.tail (k j)

insert-only : (v : ℕ) (l : List ℕ) (u : ℕ) → Memᴰ u (insert v l) → (u ≡ v) ⊎ Memᴰ u l
insert-only v [] u (Memᴰ.head e) = inl e
insert-only v [] u (Memᴰ.tail i) = absurd (Memᴰ.not-nil i)
insert-only v (x ∷ l) u i = go (ltb v x) (eqb v x) i (insert-only v l u)
  where
    low : (u ≡ v) ⊎ Memᴰ u l → (u ≡ v) ⊎ Memᴰ u (x ∷ l)
    low (inl e) = inl e
    low (inr j) = inr (Memᴰ.tail j)

    go : (b c : Bool) → Memᴰ u (inserted b c v x l) → (Memᴰ u (insert v l) → (u ≡ v) ⊎ Memᴰ u l) → (u ≡ v) ⊎ Memᴰ u (x ∷ l)
    go true c (Memᴰ.head e) k = inl e
    go true c (Memᴰ.tail j) k = inr j
    go false true j k = inr j
    go false false (Memᴰ.head e) k = inr (Memᴰ.head e)
    go false false (Memᴰ.tail j) k = low (k j)

pub levels-have : (gs : List Graded) (v : ℕ) → Level gs v → Memᴰ v (levels_of gs)
unfolding levels_of
levels-have [] v (g, i, e) = absurd (Memᴰ.not-nil i)
levels-have (x ∷ gs) v (g, Memᴰ.head q, e) = subst (λ (u : ℕ). Memᴰ u (insert x.level (levels_of gs))) (sym (same_level g x v e q)) (insert-here x.level (levels_of gs))
levels-have (x ∷ gs) v (g, Memᴰ.tail i, e) = insert-keep x.level (levels_of gs) v (levels-have gs v (g, i, e))

pub levels-only : (gs : List Graded) (v : ℕ) → Memᴰ v (levels_of gs) → Level gs v
unfolding levels_of
levels-only [] v i = absurd (Memᴰ.not-nil i)
levels-only (x ∷ gs) v i = go (insert-only x.level (levels_of gs) v i) (levels-only gs v)
  where
    go : (v ≡ x.level) ⊎ Memᴰ v (levels_of gs) → (Memᴰ v (levels_of gs) → Level gs v) → Level (x ∷ gs) v
    go (inl e) k = (x, Memᴰ.head refl, sym e)
    go (inr j) k = up x gs v (k j)

-- ---- the list of levels ascends
abbrev pub Ascends : List ℕ → Type 0
Ascends [] = Unit {0}
Ascends (v ∷ vs) = ((u : ℕ) → Memᴰ u vs → v < u) × Ascends vs

insert-ascends : (v : ℕ) (l : List ℕ) → Ascends l → Ascends (insert v l)
insert-ascends v [] a = (λ u i. absurd (Memᴰ.not-nil i), tt)
insert-ascends v (x ∷ l) a = go (ltb v x) (eqb v x) refl refl (insert-ascends v l a.1)
  where
    first : v < x → (u : ℕ) → Memᴰ u (x ∷ l) → v < u
    first h u (Memᴰ.head e) = omega arith
    first h u (Memᴰ.tail i) = let z : x < u = a.0 u i in omega arith

    later : x < v → (u : ℕ) → (u ≡ v) ⊎ Memᴰ u l → x < u
    later h u (inl e) = omega arith
    later h u (inr i) = a.0 u i

    go : (b c : Bool) → ltb v x ≡ b → eqb v x ≡ c → Ascends (insert v l) → Ascends (inserted b c v x l)
    go true c t t' k = (first (ltb-true v x t), a)
    go false true t t' k = a
    go false false t t' k =
        let p : x ≤ v = ltb-false v x t in
        let q : v ≢ x = eqb-false v x t' in
        (λ u i. later (omega (arith, q)) u (insert-only v l u i), k)

pub levels-ascend : (gs : List Graded) → Ascends (levels_of gs)
unfolding levels_of
levels-ascend [] = tt
levels-ascend (g ∷ gs) = insert-ascends g.level (levels_of gs) (levels-ascend gs)

-- ---- the ceiling of an occurrence is a level, if the lowest level has only `all` (question 16)
abbrev pub Sided : Nonterminal → Type 0
Sided d = (g : Graded) → Memᴰ g (graded d) → is_lowest g.level (graded d) ≡ true → g.side ≡ all

abbrev code : Side → ℕ
code all = 0
code non = 1
code left = 2
code right = 3

pub ceiling-level : (d : Nonterminal) → Sided d → (γ : Graded) → Memᴰ γ (graded d) → (total j : ℕ) → Level (graded d) (ceiling γ.side γ.level (below γ.level (graded d)) total j)
ceiling-level d sides γ i total j = go γ.side refl
  where
    own-level : Level (graded d) γ.level
    own-level = (γ, i, refl)

    low_level : γ.side ≢ all → Level (graded d) (below γ.level (graded d))
    low_level ne = low (test (is_lowest γ.level (graded d)))
      where
        low : (is_lowest γ.level (graded d) ≡ true) ⊎ (is_lowest γ.level (graded d) ≡ false) → Level (graded d) (below γ.level (graded d))
        low (inl e) = absurd (ne (sides γ i e))
        low (inr e) = (below-level γ.level (graded d) e).0

    differs : (s : Side) → γ.side ≡ s → code s ≢ 0 → γ.side ≢ all
    differs s e ne q = ne (ap code (sym e ∙ q))

    pick : (b : Bool) → Level (graded d) (below γ.level (graded d)) → Level (graded d) (cond b γ.level (below γ.level (graded d)))
    pick true k = own-level
    pick false k = k

    go : (s : Side) → γ.side ≡ s → Level (graded d) (ceiling s γ.level (below γ.level (graded d)) total j)
    go all e = own-level
    go non e = low_level (differs non e (λ z. omega arith))
    go left e = pick (eqb j 0) (low_level (differs left e (λ z. omega arith)))
    go right e = pick (eqb (suc j) total) (low_level (differs right e (λ z. omega arith)))

-- the graded alternatives have the symbols of the nonterminal's
pub graded-symbols : (P : Syms → Type 0) (l : ℕ) (s : Side) (xs : List Alternative) → ((a : Alternative) → Memᴰ a xs → P a.symbols) → (γ : Graded)
    → Memᴰ γ (with_sides s (with_levels l xs)) → P γ.alternative.symbols
graded-symbols P l s [] h γ i = absurd (Memᴰ.not-nil i)
graded-symbols P l s (a ∷ rest) h γ (Memᴰ.head e) = subst (λ (y : Graded). P y.alternative.symbols) (sym e) (h a (Memᴰ.head refl))
graded-symbols P l s (a ∷ rest) h γ (Memᴰ.tail i) =
    let given = value_of precedence a.attributes in
    let v : Side = side_of (cond (is_given given) all s) (value_of assoc (without_first precedence a.attributes)) in
    graded-symbols P (level_of l given) v rest (λ b j. h b (Memᴰ.tail j)) γ i
