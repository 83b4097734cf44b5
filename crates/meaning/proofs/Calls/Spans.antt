-- The spans of a tree, and that resolving and the levels only hand them on: what holds of every span of a tree holds of every span of theirs.
-- Assumes nothing.
use mathlib.Core.Path.{◌≡◌}
use mathlib.Core.Bool.{Bool, true, false, cond}
use mathlib.Core.List.{List, [], ◌∷◌, map}
use mathlib.Core.Option.{Option, none, some}
use Prim.Native.Nat.{ℕ, zero, suc, ◌+◌}
use lib.Dec.{eqb}
use Rattle.parse_tree.specs.Plain.Tree.{Text, Leaf, Sym, Syms, ambiguous, bare, quoted, regex, nonterminal, lookahead, lookbehind, error, leaf, around, over, nil, cons, count, Alternative, Nonterminal, Item, item}
use Rattle.parse_tree.specs.Working.Within.{Each}
use Rattle.parse_tree.specs.declared.syntax.Span.{Span}
use Rattle.parse_tree.proofs.ReadingLaws.{each_append}
use Rattle.passes.specs.Outcome.{Tree, yes}
use Rattle.passes.specs.Resolve.{Def, terminal_def, nonterminal_def, argument_def, lookup, globals, check_globals, check_condition, validate_nonterminal, rewrite_ambiguous_id, validate_leaf, validate_over, validate_symbol, validate_symbols, validate_alternatives, validate_macro_args, validate_items, resolve}
use Rattle.passes.specs.Grades.{Side, all, value_of, is_given, without_first, precedence, assoc, level_of, side_of, with_levels, Graded, with_sides, graded, annotated}
use Rattle.passes.specs.Levels.{level_name, levels_of, of_level, Group, groups_of, occurs, replace_occurrences, replace_occurrences_in, substitute, substituted, fall_through, with_fall_through, level_items, levelled, check_levels, levels}
use Rattle.passes.proofs.Outcomes.{no≢yes, after-yes}
use Rattle.passes.proofs.ResolveKeeps.{yes_as}
use Rattle.meaning.specs.Spans.{SymSpans, SymsSpans, AlternativeSpans, ItemSpans}

-- ---- resolving: G is the tree, ps an item's arguments
module _ (P : Span → Type 0) (G : Tree) (ps : List Text) where
  ambiguous_spans : (s : Span) (n : Text) (o : Option Def) (y : Sym) → P s → rewrite_ambiguous_id G ps s n o ≡ yes y → SymSpans P y
  ambiguous_spans s n none y h e = absurd (no≢yes 8 s y e)
  ambiguous_spans s n (some terminal_def) y h e = yes_as (SymSpans P) e h
  ambiguous_spans s n (some (nonterminal_def zero)) y h e = yes_as (SymSpans P) e h
  ambiguous_spans s n (some (nonterminal_def (suc k))) y h e = absurd (no≢yes 13 s y e)
  ambiguous_spans s n (some argument_def) y h e = yes_as (SymSpans P) e h

  nonterminal_spans : (s : Span) (n : Text) (o : Option Def) (y : Sym) → P s → validate_nonterminal G ps s n o ≡ yes y → SymSpans P y
  nonterminal_spans s n none y h e = absurd (no≢yes 8 s y e)
  nonterminal_spans s n (some terminal_def) y h e = absurd (no≢yes 10 s y e)
  nonterminal_spans s n (some (nonterminal_def zero)) y h e = yes_as (SymSpans P) e h
  nonterminal_spans s n (some (nonterminal_def (suc k))) y h e = absurd (no≢yes 10 s y e)
  nonterminal_spans s n (some argument_def) y h e = yes_as (SymSpans P) e h

  leaf_spans : (s : Span) (l : Leaf) (y : Sym) → P s → validate_leaf G ps s l ≡ yes y → SymSpans P y
  leaf_spans s (ambiguous n) y h e = ambiguous_spans s n (lookup G ps n) y h e
  leaf_spans s (bare n) y h e = yes_as (SymSpans P) e h
  leaf_spans s (quoted t) y h e = yes_as (SymSpans P) e h
  leaf_spans s (regex t) y h e = yes_as (SymSpans P) e h
  leaf_spans s (nonterminal n) y h e = nonterminal_spans s n (lookup G ps n) y h e
  leaf_spans s lookahead y h e = yes_as (SymSpans P) e h
  leaf_spans s lookbehind y h e = yes_as (SymSpans P) e h
  leaf_spans s error y h e = yes_as (SymSpans P) e h

  mutual
    unfolding validate_symbol validate_symbols

    symbol_spans : (x y : Sym) → SymSpans P x → validate_symbol G ps x ≡ yes y → SymSpans P y
    symbol_spans (leaf s l) y h e = leaf_spans s l y h e
    symbol_spans (around s a x) y h e =
        let (z, ez, e1) = after-yes (validate_symbol G ps x) _ y e in
        yes_as (SymSpans P) e1 (h.0, symbol_spans x z h.1 ez)
    symbol_spans (over s o xs) y h e =
        let (u, eu, e1) = after-yes (validate_over G ps s o (count xs)) _ y e in
        let (zs, ez, e2) = after-yes (validate_symbols G ps xs) _ y e1 in
        yes_as (SymSpans P) e2 (h.0, symbols_spans xs zs h.1 ez)

    symbols_spans : (xs ys : Syms) → SymsSpans P xs → validate_symbols G ps xs ≡ yes ys → SymsSpans P ys
    symbols_spans nil ys h e = yes_as (SymsSpans P) e tt
    symbols_spans (cons x xs) ys h e =
        let (z, ez, e1) = after-yes (validate_symbol G ps x) _ ys e in
        let (zs, es, e2) = after-yes (validate_symbols G ps xs) _ ys e1 in
        yes_as (SymsSpans P) e2 (symbol_spans x z h.0 ez, symbols_spans xs zs h.1 es)

  alternatives_spans : (as' bs : List Alternative) → Each (AlternativeSpans P) as' → validate_alternatives G ps as' ≡ yes bs → Each (AlternativeSpans P) bs
  unfolding validate_alternatives
  alternatives_spans [] bs h e = yes_as (Each (AlternativeSpans P)) e tt
  alternatives_spans (a ∷ rest) bs h e =
      let (u, eu, e1) = after-yes (check_condition G ps a.condition) _ bs e in
      let (ys, ey, e2) = after-yes (validate_symbols G ps a.symbols) _ bs e1 in
      let (cs, ec, e3) = after-yes (validate_alternatives G ps rest) _ bs e2 in
      yes_as (Each (AlternativeSpans P)) e3 ((h.0.0, h.0.1, symbols_spans a.symbols ys h.0.2 ey), alternatives_spans rest cs h.1 ec)

module _ (P : Span → Type 0) where
  items_spans : (G : Tree) (is js : List Item) → Each (ItemSpans P) is → validate_items G is ≡ yes js → Each (ItemSpans P) js
  unfolding validate_items
  items_spans G [] js h e = yes_as (Each (ItemSpans P)) e tt
  items_spans G (item d ∷ rest) js h e =
      let (u, eu, e1) = after-yes (validate_macro_args d) _ js e in
      let (bs, eb, e2) = after-yes (validate_alternatives G d.args d.alternatives) _ js e1 in
      let (ks, ek, e3) = after-yes (validate_items G rest) _ js e2 in
      yes_as (Each (ItemSpans P)) e3 ((h.0.0, alternatives_spans P G d.args d.alternatives bs h.0.1 eb), items_spans G rest ks h.1 ek)
  items_spans G (Item.terminal s o t ∷ rest) js h e =
      let (ks, ek, e1) = after-yes (validate_items G rest) _ js e in
      yes_as (Each (ItemSpans P)) e1 (h.0, items_spans G rest ks h.1 ek)

  pub resolve-spans : (G R : Tree) → Each (ItemSpans P) G → resolve G ≡ yes R → Each (ItemSpans P) R
  unfolding resolve
  resolve-spans G R h e = let (u, eu, e1) = after-yes (check_globals [] (globals G)) _ R e in items_spans G G R h e1

-- ---- levels: E is the nonterminal whose occurrences change, f their new names
module _ (P : Span → Type 0) (E : Text) (f : ℕ → Text) where
  mutual
    unfolding replace_occurrences replace_occurrences_in

    occurrences_spans : (x : Sym) (i : ℕ) → SymSpans P x → SymSpans P (replace_occurrences E f x i)
    occurrences_spans (leaf s l) i h = h
    occurrences_spans (around s a x) i h = (h.0, occurrences_spans x i h.1)
    occurrences_spans (over s o xs) i h = (h.0, occurrences_in_spans xs i h.1)

    occurrences_in_spans : (xs : Syms) (i : ℕ) → SymsSpans P xs → SymsSpans P (replace_occurrences_in E f xs i)
    occurrences_in_spans nil i h = tt
    occurrences_in_spans (cons x xs) i h = (occurrences_spans x i h.0, occurrences_in_spans xs (i + occurs E x) h.1)

module _ (P : Span → Type 0) where
  abbrev GradedSpans : Graded → Type 0
  GradedSpans g = AlternativeSpans P g.alternative

  sides_spans : (s : Side) (l : ℕ) (as' : List Alternative) → Each (AlternativeSpans P) as' → Each GradedSpans (with_sides s (with_levels l as'))
  sides_spans s l [] h = tt
  sides_spans s l (a ∷ rest) h =
      let given = value_of precedence a.attributes in
      let v : Side = side_of (cond (is_given given) all s) (value_of assoc (without_first precedence a.attributes)) in
      (h.0, sides_spans v (level_of l given) rest h.1)

  of_level-spans : (v : ℕ) (gs : List Graded) → Each GradedSpans gs → Each GradedSpans (of_level v gs)
  unfolding of_level
  of_level-spans v [] h = tt
  of_level-spans v (g ∷ rest) h = go (eqb g.level v) (of_level-spans v rest h.1)
    where
      go : (b : Bool) → Each GradedSpans (of_level v rest) → Each GradedSpans (cond b (g ∷ of_level v rest) (of_level v rest))
      go true k = (h.0, k)
      go false k = k

  substituted-spans : (E : Text) (group : Group Graded) (gs : List Graded) → Each GradedSpans gs → Each (AlternativeSpans P) (map (substitute E group) gs)
  substituted-spans E group [] h = tt
  substituted-spans E group (g ∷ gs) h = ((h.0.0, h.0.1, occurrences_in_spans P E _ g.alternative.symbols 0 h.0.2), substituted-spans E group gs h.1)

  fall_through-spans : (s : Span) (lower : Option Text) → P s → Each (AlternativeSpans P) (fall_through s lower)
  fall_through-spans s none h = tt
  fall_through-spans s (some n) h = ((h, tt, (h, tt)), tt)

  group_spans : (d : Nonterminal) (group : Group Graded) → P d.span → Each GradedSpans group.alternatives → ItemSpans P (with_fall_through d (substituted d.name group))
  unfolding substituted with_fall_through
  group_spans d group h hs =
      let as' = map (substitute d.name group) group.alternatives in
      (h, each_append (AlternativeSpans P) as' (fall_through d.span group.lower) (substituted-spans d.name group group.alternatives hs) (fall_through-spans d.span group.lower h))

  groups_spans : (d : Nonterminal) (gs : List Graded) (lower : Option Text) (vs : List ℕ) → P d.span → Each GradedSpans gs
      → Each (ItemSpans P) (map (with_fall_through d) (map (substituted d.name) (groups_of d.name gs lower vs)))
  unfolding groups_of
  groups_spans d gs lower [] h hs = tt
  groups_spans d gs lower (v ∷ vs) h hs = (group_spans d _ h (of_level-spans v gs hs), groups_spans d gs (some (level_name d.name v vs)) vs h hs)

  level_items-spans : (d : Nonterminal) → ItemSpans P (item d) → Each (ItemSpans P) (level_items d)
  unfolding level_items
  level_items-spans d h = groups_spans d (graded d) none (levels_of (graded d)) h.0 (sides_spans all 0 d.alternatives h.1)

  levelled-spans : (R : Tree) → Each (ItemSpans P) R → Each (ItemSpans P) (levelled R)
  unfolding levelled
  levelled-spans [] h = tt
  levelled-spans (item d ∷ rest) h =
      each_append (ItemSpans P) (cond (annotated d) (level_items d) (item d ∷ [])) (levelled rest) (go (annotated d)) (levelled-spans rest h.1)
    where
      go : (b : Bool) → Each (ItemSpans P) (cond b (level_items d) (item d ∷ []))
      go true = level_items-spans d h.0
      go false = (h.0, tt)
  levelled-spans (Item.terminal s o t ∷ rest) h = (h.0, levelled-spans rest h.1)

  pub levels-spans : (R L : Tree) → Each (ItemSpans P) R → levels R ≡ yes L → Each (ItemSpans P) L
  unfolding levels
  levels-spans R L h e = let (u, eu, e1) = after-yes (check_levels R) _ L e in yes_as (Each (ItemSpans P)) e1 (levelled-spans R h)
