-- What holds of the texts of a tree and of the names of lower levels holds of the texts of its levels. Assumes nothing.
use mathlib.Core.Bool.{Bool, true, false, cond}
use mathlib.Core.List.{List, [], ◌∷◌, ◌++◌, map}
use mathlib.Core.Option.{Option, none, some}
use Prim.Native.Nat.{ℕ, suc, ◌+◌}
use lib.Dec.{eqb}
use Rattle.octets.specs.Plain.Runs.{same_as}
use Rattle.parse_tree.specs.Plain.Tree.{Text, Leaf, Sym, Syms, Attribute, Alternative, Nonterminal, Item, ambiguous, bare, quoted, regex, nonterminal, lookahead, lookbehind, error, leaf, around, over, nil, cons, item, conditions}
use Rattle.parse_tree.specs.Plain.References.{texts_of_each, leaf_texts, around_texts, over_texts, sym_texts, syms_texts, action_texts, attribute_texts, condition_texts, alternative_texts, item_texts}
use Rattle.parse_tree.specs.Working.Within.{Each}
use Rattle.parse_tree.specs.declared.syntax.Span.{Span}
use Rattle.parse_tree.proofs.ReadingLaws.{each_append}
use Rattle.passes.specs.Outcome.{Tree}
use Rattle.passes.specs.Grades.{Side, all, non, left, right, value_of, is_given, without_first, precedence, assoc, level_of, side_of, with_levels, Graded, with_sides, graded, annotated, ceiling}
use Rattle.passes.specs.Levels.{decimal, levels_of, of_level, Group, groups_of, occurs, replace_occurrences, replace_occurrences_in, lower_name, substitute, substituted, fall_through, with_fall_through, level_items, levelled}
use Rattle.appending.proofs.SymbolsTrees.{each-parts}
use Rattle.begins.specs.Lowers.{lowers_of, lowers, plain_lowers, macro_lowers}

module _ (P : Text → Type 0) where
  -- ---- texts one by one and together
  split : {A : Type 0} (f : A → List Text) (xs : List A) → Each P (texts_of_each f xs) → Each (λ x. Each P (f x)) xs
  unfolding texts_of_each
  split f [] h = tt
  split f (x ∷ xs) h = let (a, b) = each-parts P (f x) (texts_of_each f xs) h in (a, split f xs b)

  join : {A : Type 0} (f : A → List Text) (xs : List A) → Each (λ x. Each P (f x)) xs → Each P (texts_of_each f xs)
  unfolding texts_of_each
  join f [] h = tt
  join f (x ∷ xs) h = each_append P (f x) (texts_of_each f xs) h.0 (join f xs h.1)

  -- ---- occurrences of E become texts of which P holds
  module _ (E : Text) (f : ℕ → Text) (p : (i : ℕ) → P (f i)) where
    leaf_texts_lem : (l : Leaf) (s : Span) (i : ℕ) → Each P (leaf_texts l) → Each P (sym_texts (replace_occurrences E f (leaf s l) i))
    unfolding replace_occurrences sym_texts leaf_texts
    leaf_texts_lem (ambiguous n) s i h = h
    leaf_texts_lem (bare n) s i h = h
    leaf_texts_lem (quoted t) s i h = h
    leaf_texts_lem (regex t) s i h = h
    leaf_texts_lem (nonterminal n) s i h = go (same_as n E)
      where
        go : (b : Bool) → Each P (leaf_texts (cond b (nonterminal (f i)) (nonterminal n)))
        go true = (p i, tt)
        go false = h
    leaf_texts_lem lookahead s i h = h
    leaf_texts_lem lookbehind s i h = h
    leaf_texts_lem error s i h = h

    mutual
      unfolding replace_occurrences replace_occurrences_in sym_texts syms_texts

      symbol_texts : (x : Sym) (i : ℕ) → Each P (sym_texts x) → Each P (sym_texts (replace_occurrences E f x i))
      symbol_texts (leaf s l) i h = leaf_texts_lem l s i h
      symbol_texts (around s a x) i h =
          let (b, c) = each-parts P (around_texts a) (sym_texts x) h in
          each_append P (around_texts a) (sym_texts (replace_occurrences E f x i)) b (symbol_texts x i c)
      symbol_texts (over s o xs) i h =
          let (b, c) = each-parts P (over_texts o) (syms_texts xs) h in
          each_append P (over_texts o) (syms_texts (replace_occurrences_in E f xs i)) b (symbols_texts xs i c)

      symbols_texts : (xs : Syms) (i : ℕ) → Each P (syms_texts xs) → Each P (syms_texts (replace_occurrences_in E f xs i))
      symbols_texts nil i h = tt
      symbols_texts (cons x xs) i h =
          let (b, c) = each-parts P (sym_texts x) (syms_texts xs) h in
          each_append P (sym_texts (replace_occurrences E f x i)) (syms_texts (replace_occurrences_in E f xs (i + occurs E x))) (symbol_texts x i b) (symbols_texts xs (i + occurs E x) c)

  -- ---- an alternative's texts, by its parts
  abbrev AttributeHolds : Attribute → Type 0
  AttributeHolds x = Each P (attribute_texts x)

  record Parts (a : Alternative) : Type 0 where
    action : Each P (action_texts a.action)
    attributes : Each AttributeHolds a.attributes
    condition : Each P (texts_of_each condition_texts (conditions a.condition))
    symbols : Each P (syms_texts a.symbols)

  into : (a : Alternative) → Each P (alternative_texts a) → Parts a
  unfolding alternative_texts
  into a h =
      let ts = texts_of_each attribute_texts a.attributes in
      let cs = texts_of_each condition_texts (conditions a.condition) in
      let (x, r) = each-parts P (action_texts a.action) (ts ++ (cs ++ syms_texts a.symbols)) h in
      let (y, q) = each-parts P ts (cs ++ syms_texts a.symbols) r in
      let (z, u) = each-parts P cs (syms_texts a.symbols) q in
      record { action = x; attributes = split attribute_texts a.attributes y; condition = z; symbols = u }

  from : (a : Alternative) → Parts a → Each P (alternative_texts a)
  unfolding alternative_texts
  from a h =
      let ts = texts_of_each attribute_texts a.attributes in
      let cs = texts_of_each condition_texts (conditions a.condition) in
      each_append P (action_texts a.action) (ts ++ (cs ++ syms_texts a.symbols)) h.action
      (each_append P ts (cs ++ syms_texts a.symbols) (join attribute_texts a.attributes h.attributes) (each_append P cs (syms_texts a.symbols) h.condition h.symbols))

  all_into : (as' : List Alternative) → Each (λ a. Each P (alternative_texts a)) as' → Each Parts as'
  all_into [] h = tt
  all_into (a ∷ rest) h = (into a h.0, all_into rest h.1)

  all_from : (as' : List Alternative) → Each Parts as' → Each (λ a. Each P (alternative_texts a)) as'
  all_from [] h = tt
  all_from (a ∷ rest) h = (from a h.0, all_from rest h.1)

  -- ---- alternatives with their levels
  abbrev GradedParts : Graded → Type 0
  GradedParts g = Parts g.alternative

  without_texts : (id : Text) (xs : List Attribute) → Each AttributeHolds xs → Each AttributeHolds (without_first id xs)
  without_texts id [] h = tt
  without_texts id (a ∷ xs) h = go (same_as id a.id) (without_texts id xs h.1)
    where
      go : (b : Bool) → Each AttributeHolds (without_first id xs) → Each AttributeHolds (cond b xs (a ∷ without_first id xs))
      go true i = h.1
      go false i = (h.0, i)

  sides_texts : (s : Side) (l : ℕ) (as' : List Alternative) → Each Parts as' → Each GradedParts (with_sides s (with_levels l as'))
  sides_texts s l [] h = tt
  sides_texts s l (a ∷ rest) h =
      let given = value_of precedence a.attributes in
      let v : Side = side_of (cond (is_given given) all s) (value_of assoc (without_first precedence a.attributes)) in (
        record { action = h.0.action; attributes = without_texts _ (without_first _ a.attributes) (without_texts _ a.attributes h.0.attributes); condition = h.0.condition; symbols = h.0.symbols },
        sides_texts v (level_of l given) rest h.1,
      )

  of_level_texts : (v : ℕ) (gs : List Graded) → Each GradedParts gs → Each GradedParts (of_level v gs)
  unfolding of_level
  of_level_texts v [] h = tt
  of_level_texts v (g ∷ rest) h = go (eqb g.level v) (of_level_texts v rest h.1)
    where
      go : (b : Bool) → Each GradedParts (of_level v rest) → Each GradedParts (cond b (g ∷ of_level v rest) (of_level v rest))
      go true i = (h.0, i)
      go false i = i

  -- ---- what an occurrence gets
  ceiling-holds : (side : Side) (own low : Text) (total j : ℕ) → P own → P low → P (ceiling side own low total j)
  ceiling-holds all own low total j a b = a
  ceiling-holds non own low total j a b = b
  ceiling-holds left own low total j a b = go (eqb j 0)
    where
      go : (t : Bool) → P (cond t own low)
      go true = a
      go false = b
  ceiling-holds right own low total j a b = go (eqb (suc j) total)
    where
      go : (t : Bool) → P (cond t own low)
      go true = a
      go false = b

  abbrev LowerHolds : Option Text → Type 0
  LowerHolds none = Unit {0}
  LowerHolds (some n) = P n

  lower_holds : (own : Text) (o : Option Text) → P own → LowerHolds o → P (elim o [ none ↦ own | some n ↦ n ])
  lower_holds own none a b = a
  lower_holds own (some n) a b = b

  -- ---- a level
  substitute-texts : (E : Text) (level : Group Graded) (gs : List Graded) → P level.name → LowerHolds level.lower → Each GradedParts gs → Each Parts (map (substitute E level) gs)
  substitute-texts E level [] a b h = tt
  substitute-texts E level (g ∷ gs) a b h = (
    record {
      action = h.0.action;
      attributes = h.0.attributes;
      condition = h.0.condition;
      symbols = symbols_texts E _ (λ i. ceiling-holds g.side level.name (lower_name level) _ i a (lower_holds level.name level.lower a b)) g.alternative.symbols 0 h.0.symbols;
    },
    substitute-texts E level gs a b h.1,
  )

  fall_texts : (s : Span) (o : Option Text) → LowerHolds o → Each Parts (fall_through s o)
  unfolding texts_of_each action_texts syms_texts sym_texts leaf_texts
  fall_texts s none h = tt
  fall_texts s (some n) h = (record { action = tt; attributes = tt; condition = tt; symbols = (h, tt) }, tt)

  level_texts : (d : Nonterminal) (g : Group Graded) → P g.name → LowerHolds g.lower → Each P d.args → Each GradedParts g.alternatives → Each P (item_texts (with_fall_through d (substituted d.name g)))
  unfolding item_texts with_fall_through substituted
  level_texts d g a b q h =
      let xs = map (substitute d.name g) g.alternatives ++ fall_through d.span g.lower in
      let parts = each_append Parts (map (substitute d.name g) g.alternatives) (fall_through d.span g.lower) (substitute-texts d.name g g.alternatives a b h) (fall_texts d.span g.lower b) in
      (a, each_append P d.args (texts_of_each alternative_texts xs) q (join alternative_texts xs (all_from xs parts)))

  levels-texts : (d : Nonterminal) (gs : List Graded) (lower : Option Text) (vs : List ℕ) → P d.name → Each P (lowers_of d.name vs) → LowerHolds lower → Each P d.args → Each GradedParts gs
      → Each (λ i. Each P (item_texts i)) (map (with_fall_through d) (map (substituted d.name) (groups_of d.name gs lower vs)))
  unfolding groups_of lowers_of
  levels-texts d gs lower [] a n l q h = tt
  levels-texts d gs lower (v ∷ []) a n l q h = (level_texts d _ a l q (of_level_texts v gs h), tt)
  levels-texts d gs lower (v ∷ u ∷ us) a n l q h = (
    level_texts d _ n.0 l q (of_level_texts v gs h),
    levels-texts d gs (some (d.name ++ decimal v)) (u ∷ us) a n.1 n.0 q h,
  )

  -- ---- a tree
  one_texts : (d : Nonterminal) (b : Bool) → Each P (item_texts (item d)) → Each P (cond b (lowers_of d.name (levels_of (graded d))) []) → Each (λ i. Each P (item_texts i)) (cond b (level_items d) (item d ∷ []))
  unfolding item_texts level_items
  one_texts d true h n =
      let (q, r) = each-parts P d.args (texts_of_each alternative_texts d.alternatives) h.1 in
      levels-texts d (graded d) none (levels_of (graded d)) h.0 n tt q (sides_texts all 0 d.alternatives (all_into d.alternatives (split alternative_texts d.alternatives r)))
  one_texts d false h n = (h, tt)

  -- theorem
  pub levelled-texts : (R : Tree) → Each (λ i. Each P (item_texts i)) R → Each P (plain_lowers R) → Each P (macro_lowers R) → Each (λ i. Each P (item_texts i)) (levelled R)
  unfolding levelled plain_lowers macro_lowers lowers
  levelled-texts [] h a b = tt
  levelled-texts (item d ∷ rest) h a b =
      let (x, y) = each-parts P (elim d.args [ [] ↦ lowers d | p ∷ ps ↦ [] ]) (plain_lowers rest) a in
      let (z, u) = each-parts P (elim d.args [ [] ↦ [] | p ∷ ps ↦ lowers d ]) (macro_lowers rest) b in
      each_append (λ i. Each P (item_texts i)) (cond (annotated d) (level_items d) (item d ∷ [])) (levelled rest) (one_texts d (annotated d) h.0 (go d.args x z)) (levelled-texts rest h.1 y u)
    where
      go : (ps : List Text) → Each P (elim ps [ [] ↦ lowers d | q ∷ qs ↦ [] ]) → Each P (elim ps [ [] ↦ [] | q ∷ qs ↦ lowers d ]) → Each P (lowers d)
      go [] x z = x
      go (q ∷ qs) x z = z
  levelled-texts (Item.terminal s o t ∷ rest) h a b = (h.0, levelled-texts rest h.1 a b)
