-- Precedence levels, in the five steps of the book's chapter, with questions 14, 15 and 16. Assumes nothing: these are definitions.
use Rattle.std.specs.Prelude.{ℕ, zero, suc, ◌+◌, ◌/◌, ◌%◌, Bool, true, false, cond, List, [], ◌∷◌, ◌++◌, map, eqb, ltb}
use Rattle.std.proofs.Math.Option.{Option, none, some}
use Rattle.octets.specs.Plain.Runs.{same_as}
use Rattle.parse_tree.specs.Plain.Tree.{Text, Sym, Syms, nonterminal, leaf, around, over, nil, cons, Alternative, Nonterminal, Item, item, no_action}
use Rattle.parse_tree.specs.declared.syntax.Span.{Span}
use Rattle.passes.specs.Outcome.{Tree, Outcome, yes, no, after, with_symbols, with_alternatives, with_name, simple}
use Rattle.passes.specs.Views.{as_nonterminal}
use Rattle.passes.specs.Grades.{Side, all, non, left, right, level_in, side_in, precedence, assoc, value_of, is_given, annotated, with_levels, Graded, with_sides, graded, ceiling}

-- first the level, then the side: `graded` (Grades)

-- ---- then grouping by level: "Levels come ascending"
abbrev pub insert : ℕ → List ℕ → List ℕ
insert v [] = v ∷ []
insert v (x ∷ xs) = cond (ltb v x) (v ∷ x ∷ xs) (cond (eqb v x) (x ∷ xs) (x ∷ insert v xs))

unfoldable pub levels_of : List Graded → List ℕ
levels_of [] = []
levels_of (g ∷ rest) = insert g.level (levels_of rest)

unfoldable pub of_level : ℕ → List Graded → List Graded
of_level v [] = []
of_level v (g ∷ rest) = cond (eqb g.level v) (g ∷ of_level v rest) (of_level v rest)

-- a level in plain digits
abbrev pub decimal_from : ℕ → ℕ → Text → Text
decimal_from zero n r = r
decimal_from (suc more) n r = let r' = (0x30 + n % 10) ∷ r in let q = decimal_from more (n / 10) r' in cond (ltb n 10) r' q

-- a `u32` has at most ten digits
abbrev pub decimal : ℕ → Text
decimal n = decimal_from 10 n []

-- a number of 64 bits has at most twenty
unfoldable pub number_digits : ℕ → Text
number_digits n = decimal_from 20 n []

-- the alternatives of one level, its name and the next lower level's, if it has one
pub record Group (A : Type 0) : Type 0 where
  pub name : Text
  pub lower : Option Text
  pub alternatives : List A

-- "The highest level keeps the name; the others append the level"
abbrev pub level_name : Text → ℕ → List ℕ → Text
level_name E v [] = E
level_name E v (u ∷ us) = E ++ decimal v

unfoldable pub groups_of : Text → List Graded → Option Text → List ℕ → List (Group Graded)
groups_of E gs lower [] = []
groups_of E gs lower (v ∷ vs) = let n = level_name E v vs in record { name = n; lower = lower; alternatives = of_level v gs } ∷ groups_of E gs (some n) vs

abbrev pub grouped : Text → List Graded → List (Group Graded)
grouped E gs = groups_of E gs none (levels_of gs)

-- ---- then substitution: occurrences of the nonterminal E, in tape order. "A macro's own name is never replaced"
module _ (E : Text) where
  unfoldable mutual
    pub occurs : Sym → ℕ
    occurs (leaf s l) = elim (as_nonterminal l) [ none ↦ 0 | some n ↦ cond (same_as n E) 1 0 ]
    occurs (around s a x) = occurs x
    occurs (over s o xs) = occurs_in xs

    pub occurs_in : Syms → ℕ
    occurs_in nil = 0
    occurs_in (cons x xs) = occurs x + occurs_in xs

  module _ (f : ℕ → Text) where
    unfoldable mutual
      -- occurrence j, counted from i, becomes f j
      pub replace_occurrences : Sym → ℕ → Sym
      replace_occurrences (leaf s l) i = leaf s (elim (as_nonterminal l) [ none ↦ l | some n ↦ cond (same_as n E) (nonterminal (f i)) l ])
      replace_occurrences (around s a x) i = around s a (replace_occurrences x i)
      replace_occurrences (over s o xs) i = over s o (replace_occurrences_in xs i)

      pub replace_occurrences_in : Syms → ℕ → Syms
      replace_occurrences_in nil i = nil
      replace_occurrences_in (cons x xs) i = cons (replace_occurrences x i) (replace_occurrences_in xs (i + occurs x))

-- the lowest level has no lower one; it has only `all`, so its own name is never put to use here
abbrev pub lower_name : {A : Type 0} → Group A → Text
lower_name g = elim g.lower [ none ↦ g.name | some n ↦ n ]

abbrev pub substitute : Text → Group Graded → Graded → Alternative
substitute E group g =
    let xs = g.alternative.symbols in
    with_symbols g.alternative (replace_occurrences_in E (ceiling g.side group.name (lower_name group) (occurs_in E xs)) xs 0)

unfoldable pub substituted : Text → Group Graded → Group Alternative
substituted E group = record { name = group.name; lower = group.lower; alternatives = map (substitute E group) group.alternatives }

-- ---- then the fall-through: "each but the lowest ends in a fall-through with the nonterminal's span"
abbrev pub fall_through : Span → Option Text → List Alternative
fall_through s none = []
fall_through s (some n) = simple s no_action (cons (leaf s (nonterminal n)) nil) ∷ []

unfoldable pub with_fall_through : Nonterminal → Group Alternative → Item
with_fall_through d g = item (with_name (with_alternatives d (g.alternatives ++ fall_through d.span g.lower)) g.name)

-- ---- the five, one behind another
unfoldable pub level_items : Nonterminal → List Item
level_items d = map (with_fall_through d) (map (substituted d.name) (grouped d.name (with_sides all (with_levels 0 d.alternatives))))

unfoldable pub levelled : Tree → Tree
levelled [] = []
levelled (item d ∷ rest) = cond (annotated d) (level_items d) (item d ∷ []) ++ levelled rest
levelled (Item.terminal s o t ∷ rest) = Item.terminal s o t ∷ levelled rest

-- ---- "Per annotated nonterminal, alternatives in order: level readable? 14. Side one of left, right, none, all? 15"
abbrev pub is_readable : Option (Option Text) → (Text → Bool) → Bool
is_readable none f = true
is_readable (some none) f = false
is_readable (some (some t)) f = f t

abbrev pub check_attributes : List Alternative → Outcome (Unit {0})
check_attributes [] = yes tt
check_attributes (a ∷ rest) =
    cond (is_readable (value_of precedence a.attributes) (λ t. is_given (level_in t)))
    (cond (is_readable (value_of assoc a.attributes) (λ t. is_given (side_in t))) (check_attributes rest) (no 15 a.span))
    (no 14 a.span)

-- "Then: lowest level only `all`? 16"
abbrev pub is_all : Side → Bool
is_all all = true
is_all non = false
is_all left = false
is_all right = false

abbrev pub all_all : List Graded → Outcome (Unit {0})
all_all [] = yes tt
all_all (g ∷ rest) = cond (is_all g.side) (all_all rest) (no 16 g.alternative.span)

abbrev pub check_lowest : List (Group Graded) → Outcome (Unit {0})
check_lowest [] = yes tt
check_lowest (lowest ∷ rest) = all_all lowest.alternatives

abbrev pub check_nonterminal : Nonterminal → Outcome (Unit {0})
check_nonterminal d = cond (annotated d) (after (check_attributes d.alternatives) (λ u. check_lowest (grouped d.name (graded d)))) (yes tt)

unfoldable pub check_levels : Tree → Outcome (Unit {0})
check_levels [] = yes tt
check_levels (item d ∷ rest) = after (check_nonterminal d) (λ u. check_levels rest)
check_levels (Item.terminal s o t ∷ rest) = check_levels rest

-- questions 14 to 16 of a resolved tree, and its levels
unfoldable pub levels : Tree → Outcome Tree
levels R = after (check_levels R) (λ u. yes (levelled R))
