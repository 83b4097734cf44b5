-- The items of a levelled tree, their alternatives, and its terminals. Assumes nothing.
use mathlib.Core.Path.{◌≡◌, refl, sym, ap, ◌∙◌, subst}
use mathlib.Core.Logic.{◌⊎◌, inl, inr}
use Prim.Native.Nat.{ℕ}
use mathlib.Core.List.Memᴰ
use mathlib.Core.List.{List, [], ◌∷◌, map, Memᴰ}
use mathlib.Core.Option.{none, some}
use mathlib.Core.Bool.{Bool, true, false, cond, ◌||◌, false≢true}
use borrow.Author.Tests.{eqb-true, eq-eqb}
use lib.Dec.{eqb}
use Rattle.octets.specs.Plain.Runs.{same_as}
use Rattle.parse_tree.specs.Plain.Tree.{Text, Alternative, Nonterminal, Item, item}
use Rattle.passes.specs.Outcome.{Tree}
use Rattle.passes.specs.Grades.{annotated, Graded, graded}
use Rattle.meaning.specs.Meaning.{is_terminal, below}
use Rattle.passes.specs.Levels.{levels_of, of_level, substitute, fall_through, level_items, levelled}
use Rattle.meaning.proofs.Basics.{item_inj, item≢terminal, terminal_append}
use Rattle.meaning.proofs.Levels.LevelFacts.{Level, is_lowest, levels-have, levels-only}
use Rattle.meaning.proofs.Levels.LevelForms.{name_at, lower_at, group_at, substitute_at, fall_at, level_item, items_at_lem}

-- what stands for the nonterminal d in the levelled tree
abbrev in_place : Bool → Nonterminal → List Item
in_place b d = cond b (level_items d) (item d ∷ [])

-- the item of a level
abbrev item_at : Nonterminal → ℕ → Item
item_at d v = item (level_item d v)

-- ---- terminals stay
no_level_terminal : (d : Nonterminal) (vs : List ℕ) (n : Text) → is_terminal (map (item_at d) vs) n ≡ false
no_level_terminal d [] n = refl
no_level_terminal d (v ∷ vs) n = no_level_terminal d vs n

pub levelled-terminals : (R : Tree) (n : Text) → is_terminal (levelled R) n ≡ is_terminal R n
unfolding levelled
levelled-terminals [] n = refl
levelled-terminals (item d ∷ rest) n = terminal_append (in_place (annotated d) d) (levelled rest) n ∙ ap (◌|| is_terminal (levelled rest) n) (go (annotated d)) ∙ levelled-terminals rest n
  where
    go : (b : Bool) → is_terminal (in_place b d) n ≡ false
    go true = ap (λ (is : List Item). is_terminal is n) (items_at_lem d) ∙ no_level_terminal d (levels_of (graded d)) n
    go false = refl
levelled-terminals (Item.terminal s o t ∷ rest) n = ap (same_as n t ||◌) (levelled-terminals rest n)

-- ---- the items
items_have : (d : Nonterminal) (v : ℕ) → Level (graded d) v → Memᴰ (item (level_item d v)) (level_items d)
items_have d v l = subst (Memᴰ (item_at d v)) (sym (items_at_lem d)) (Memᴰ.map (item_at d) (levels-have (graded d) v l))

pub levelled-plain : (R : Tree) (d : Nonterminal) → Memᴰ (item d) R → annotated d ≡ false → Memᴰ (item d) (levelled R)
unfolding levelled
levelled-plain [] d i a = absurd (Memᴰ.not-nil i)
levelled-plain (item x ∷ rest) d (Memᴰ.head e) a =
    Memᴰ.append_left (levelled rest) (subst (λ (b : Bool). Memᴰ (item d) (in_place b x)) (sym (ap annotated (sym (item_inj d x e)) ∙ a)) (Memᴰ.head e))
levelled-plain (item x ∷ rest) d (Memᴰ.tail i) a = Memᴰ.append_right (in_place (annotated x) x) (levelled-plain rest d i a)
levelled-plain (Item.terminal s o t ∷ rest) d (Memᴰ.head e) a = absurd (item≢terminal d s o t e)
levelled-plain (Item.terminal s o t ∷ rest) d (Memᴰ.tail i) a = Memᴰ.tail (levelled-plain rest d i a)

pub levelled-at : (R : Tree) (d : Nonterminal) → Memᴰ (item d) R → annotated d ≡ true → (v : ℕ) → Level (graded d) v → Memᴰ (item (level_item d v)) (levelled R)
unfolding levelled
levelled-at [] d i a v l = absurd (Memᴰ.not-nil i)
levelled-at (item x ∷ rest) d (Memᴰ.head e) a v l =
    Memᴰ.append_left (levelled rest)
    (subst (λ (z : Nonterminal). Memᴰ (item (level_item d v)) (in_place (annotated z) z)) (item_inj d x e)
    (subst (λ (b : Bool). Memᴰ (item (level_item d v)) (in_place b d)) (sym a) (items_have d v l)))
levelled-at (item x ∷ rest) d (Memᴰ.tail i) a v l = Memᴰ.append_right (in_place (annotated x) x) (levelled-at rest d i a v l)
levelled-at (Item.terminal s o t ∷ rest) d (Memᴰ.head e) a v l = absurd (item≢terminal d s o t e)
levelled-at (Item.terminal s o t ∷ rest) d (Memᴰ.tail i) a v l = Memᴰ.tail (levelled-at rest d i a v l)

items_only : (d : Nonterminal) (x : Nonterminal) → Memᴰ (item x) (level_items d) → (v : ℕ) × Level (graded d) v × (x ≡ level_item d v)
items_only d x i =
    let (v, j, e) = Memᴰ.of_map (item_at d) (levels_of (graded d)) (subst (Memᴰ (item x)) (items_at_lem d) i) in
    (v, levels-only (graded d) v j, item_inj x (level_item d v) (sym e))

-- x is the item of level v of an annotated nonterminal of R
abbrev pub OfLevel : Tree → Nonterminal → Type 0
OfLevel R x = (d : Nonterminal) × (v : ℕ) × Memᴰ (item d) R × (annotated d ≡ true) × Level (graded d) v × (x ≡ level_item d v)

-- where an item of the levelled tree comes from
abbrev pub Origin : Tree → Nonterminal → Type 0
Origin R x = (Memᴰ (item x) R × (annotated x ≡ false)) ⊎ OfLevel R x

origin_later : (y : Item) (rest : Tree) (x : Nonterminal) → Origin rest x → Origin (y ∷ rest) x
origin_later y rest x (inl (j, a)) = inl (Memᴰ.tail j, a)
origin_later y rest x (inr (d, v, j, a, l, e)) = inr (d, v, Memᴰ.tail j, a, l, e)

pub levelled-only : (R : Tree) (x : Nonterminal) → Memᴰ (item x) (levelled R) → Origin R x
unfolding levelled
levelled-only [] x i = absurd (Memᴰ.not-nil i)
levelled-only (item y ∷ rest) x i = go (Memᴰ.append_cases (in_place (annotated y) y) i) (levelled-only rest x)
  where
    here : (b : Bool) → annotated y ≡ b → Memᴰ (item x) (in_place b y) → Origin (item y ∷ rest) x
    here true t j = let (v, k, e) = items_only y x j in inr (y, v, Memᴰ.head refl, t, k, e)
    here false t j = let e = Memᴰ.eq_of_singleton j in inl (Memᴰ.head e, ap annotated (item_inj x y e) ∙ t)

    go : Memᴰ (item x) (in_place (annotated y) y) ⊎ Memᴰ (item x) (levelled rest) → (Memᴰ (item x) (levelled rest) → Origin rest x) → Origin (item y ∷ rest) x
    go (inl j) k = here (annotated y) refl j
    go (inr j) k = origin_later (item y) rest x (k j)
levelled-only (Item.terminal s o t ∷ rest) x (Memᴰ.head e) = absurd (item≢terminal x s o t e)
levelled-only (Item.terminal s o t ∷ rest) x (Memᴰ.tail i) = origin_later (Item.terminal s o t) rest x (levelled-only rest x i)

pub level_args : (d : Nonterminal) (v : ℕ) → (level_item d v).args ≡ d.args
unfolding level_item
level_args d v = refl

pub level_name_lem : (d : Nonterminal) (v : ℕ) → (level_item d v).name ≡ name_at d v
unfolding level_item
level_name_lem d v = refl

-- ---- the alternatives of a level
pub of_level-have : (gs : List Graded) (g : Graded) → Memᴰ g gs → Memᴰ g (of_level g.level gs)
unfolding of_level
of_level-have [] g i = absurd (Memᴰ.not-nil i)
of_level-have (x ∷ gs) g i = go (eqb x.level g.level) refl i (of_level-have gs g)
  where
    its_own : x.level ≡ g.level → eqb x.level g.level ≡ true
    its_own e = eq-eqb x.level g.level e

    go : (b : Bool) → eqb x.level g.level ≡ b → Memᴰ g (x ∷ gs) → (Memᴰ g gs → Memᴰ g (of_level g.level gs)) → Memᴰ g (cond b (x ∷ of_level g.level gs) (of_level g.level gs))
    go true t (Memᴰ.head e) k = Memᴰ.head e
    go true t (Memᴰ.tail j) k = Memᴰ.tail (k j)
    go false t (Memᴰ.head e) k = absurd (false≢true (sym t ∙ its_own (sym (ap (λ (y : Graded). y.level) e))))
    go false t (Memᴰ.tail j) k = k j

of_level-only : (v : ℕ) (gs : List Graded) (g : Graded) → Memᴰ g (of_level v gs) → Memᴰ g gs × (g.level ≡ v)
unfolding of_level
of_level-only v [] g i = absurd (Memᴰ.not-nil i)
of_level-only v (x ∷ gs) g i = go (eqb x.level v) refl i (of_level-only v gs g)
  where
    low : Memᴰ g gs × (g.level ≡ v) → Memᴰ g (x ∷ gs) × (g.level ≡ v)
    low (j, p) = (Memᴰ.tail j, p)

    go : (b : Bool) → eqb x.level v ≡ b → Memᴰ g (cond b (x ∷ of_level v gs) (of_level v gs)) → (Memᴰ g (of_level v gs) → Memᴰ g gs × (g.level ≡ v)) → Memᴰ g (x ∷ gs) × (g.level ≡ v)
    go true t (Memᴰ.head e) k = (Memᴰ.head e, ap (λ (y : Graded). y.level) e ∙ eqb-true x.level v t)
    go true t (Memᴰ.tail j) k = low (k j)
    go false t j k = low (k j)

pub level_have : (d : Nonterminal) (g : Graded) → Memᴰ g (graded d) → Memᴰ (substitute_at d g) (level_item d g.level).alternatives
unfolding level_item
level_have d g i = Memᴰ.append_left (fall_through d.span (lower_at d g.level)) (Memᴰ.map (substitute d.name (group_at d g.level)) (of_level-have (graded d) g i))

-- what falls through if there is a lower level
abbrev falling : Bool → Nonterminal → ℕ → List Alternative
falling b d v = fall_through d.span (cond b none (some (name_at d (below v (graded d)))))

pub level_falls : (d : Nonterminal) (v : ℕ) → is_lowest v (graded d) ≡ false → Memᴰ (fall_at d v) (level_item d v).alternatives
unfolding level_item
level_falls d v e =
    Memᴰ.append_right (map (substitute d.name (group_at d v)) (of_level v (graded d))) (subst (λ (b : Bool). Memᴰ (fall_at d v) (falling b d v)) (sym e) (Memᴰ.head refl))

-- an alternative of level v is one of the nonterminal's, substituted, or the fall-through
abbrev pub LevelAlternative : Nonterminal → ℕ → Alternative → Type 0
LevelAlternative d v a = ((g : Graded) × Memᴰ g (graded d) × (g.level ≡ v) × (a ≡ substitute_at d g)) ⊎ ((is_lowest v (graded d) ≡ false) × (a ≡ fall_at d v))

pub level_only : (d : Nonterminal) (v : ℕ) (a : Alternative) → Memᴰ a (level_item d v).alternatives → LevelAlternative d v a
unfolding level_item
level_only d v a i = go (Memᴰ.append_cases (map (substitute d.name (group_at d v)) (of_level v (graded d))) i)
  where
    one : (b : Bool) → is_lowest v (graded d) ≡ b → Memᴰ a (falling b d v) → (is_lowest v (graded d) ≡ false) × (a ≡ fall_at d v)
    one true t j = absurd (Memᴰ.not-nil j)
    one false t j = (t, Memᴰ.eq_of_singleton j)

    go : Memᴰ a (map (substitute d.name (group_at d v)) (of_level v (graded d))) ⊎ Memᴰ a (fall_through d.span (lower_at d v)) → LevelAlternative d v a
    go (inl j) =
        let (g, k, q) = Memᴰ.of_map (substitute d.name (group_at d v)) (of_level v (graded d)) j in
        let (i', p) = of_level-only v (graded d) g k in
        inl (g, i', p, sym (ap (λ (u : ℕ). substitute d.name (group_at d u) g) p ∙ q))
    go (inr j) = inr (one (is_lowest v (graded d)) refl j)
