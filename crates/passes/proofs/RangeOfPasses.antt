-- What each pass can refuse with: resolving 5 to 13, levels 14 to 16, the symbols off the pile 11 to 19. Assumes nothing.
use mathlib.Core.Bool.{Bool, true, false, cond, not}
use mathlib.Core.List.{List, [], ◌∷◌}
use mathlib.Core.Option.{Option, none, some}
use Prim.Native.Nat.{ℕ, zero, suc, ◌≤◌}
use native.Mathlib.Omega.{arith}
use lib.Dec.{eqb}
use Rattle.octets.specs.Plain.Runs.{same_as}
use Rattle.parse_tree.specs.Plain.Tree.{Text, Leaf, Over, Sym, Syms, ambiguous, bare, quoted, regex, nonterminal, lookahead, lookbehind, error, macro, group, leaf, around, over, nil, cons, count, Condition, Alternative, Nonterminal, Item, item}
use Rattle.parse_tree.specs.Plain.Texts.{distinct}
use Rattle.parse_tree.specs.declared.syntax.Span.{Span}
use Rattle.passes.specs.Outcome.{Tree, Outcome, yes, no, after}
use Rattle.passes.specs.Range.{Between}
use Rattle.passes.specs.Grades.{Graded, is_given, annotated, graded, level_in, side_in, precedence, assoc, value_of}
use Rattle.passes.specs.Resolve.{Def, terminal_def, nonterminal_def, argument_def, Global, globals, def_in, kind, met_again, check_globals, lookup, check_condition, validate_nonterminal, rewrite_ambiguous_id, validate_macro, validate_leaf, validate_over, validate_symbol, validate_symbols, validate_alternatives, validate_macro_args, validate_items, resolve}
use Rattle.passes.specs.Levels.{Group, grouped, is_readable, check_attributes, is_all, all_all, check_lowest, check_nonterminal, check_levels, levels}
use Rattle.passes.specs.Macros.{Pending, looking, repeating, listing, quoted_in, argument_of, evaluate_cond, expand_alternatives, macro_in, expand_macro_symbol, has_name, expand_symbol, drain}

-- ---- one behind another, one of two, and a range in a wider one
pub after-between : (l h : ℕ) {A B : Type 0} (r : Outcome A) (f : A → Outcome B) → Between l h r → ((a : A) → Between l h (f a)) → Between l h (after r f)
after-between l h (yes a) f b k = k a
after-between l h (no n s) f b k = b

pub cond_between : (l h : ℕ) {A : Type 0} (b : Bool) (x y : Outcome A) → Between l h x → Between l h y → Between l h (cond b x y)
cond_between l h true x y p q = p
cond_between l h false x y p q = q

pub wider : (l h l' h' : ℕ) {A : Type 0} (r : Outcome A) → l' ≤ l → h ≤ h' → Between l h r → Between l' h' r
wider l h l' h' (yes a) below above b = tt
wider l h l' h' (no n s) below above b = omega arith

-- ---- resolving: 5 to 13
met_between : (g : Global) (o : Option Def) (k : Outcome (Unit {0})) → Between 5 13 k → Between 5 13 (met_again g o k)
met_between g none k b = b
met_between g (some d) k b = cond_between 5 13 (eqb (kind g.def) (kind d)) (no 5 g.span) (no 6 g.span) (omega arith) (omega arith)

globals-between : (before gs : List Global) → Between 5 13 (check_globals before gs)
unfolding check_globals
globals-between before [] = tt
globals-between before (g ∷ gs) = met_between g (def_in g.name before) (check_globals (g ∷ before) gs) (globals-between (g ∷ before) gs)

module _ (G : Tree) (ps : List Text) where
  condition_between : (o : Option Condition) → Between 5 13 (check_condition G ps o)
  condition_between none = tt
  condition_between (some c) = go (lookup G ps c.lhs)
    where
      go : (o : Option Def) → Between 5 13 {A = Unit {0}} (elim o [ none ↦ no 8 c.span | some d ↦ cond (eqb (kind d) 3) (yes tt) (no 9 c.span) ])
      go none = omega arith
      go (some d) = cond_between 5 13 (eqb (kind d) 3) (yes tt) (no 9 c.span) tt (omega arith)

  nonterminal_between : (s : Span) (n : Text) (o : Option Def) → Between 5 13 (validate_nonterminal G ps s n o)
  nonterminal_between s n none = omega arith
  nonterminal_between s n (some terminal_def) = omega arith
  nonterminal_between s n (some (nonterminal_def zero)) = tt
  nonterminal_between s n (some (nonterminal_def (suc k))) = omega arith
  nonterminal_between s n (some argument_def) = tt

  ambiguous_between : (s : Span) (n : Text) (o : Option Def) → Between 5 13 (rewrite_ambiguous_id G ps s n o)
  ambiguous_between s n none = omega arith
  ambiguous_between s n (some terminal_def) = tt
  ambiguous_between s n (some (nonterminal_def zero)) = tt
  ambiguous_between s n (some (nonterminal_def (suc k))) = omega arith
  ambiguous_between s n (some argument_def) = tt

  macro_between : (s : Span) (k : ℕ) (o : Option Def) → Between 5 13 (validate_macro G ps s k o)
  macro_between s k none = omega arith
  macro_between s k (some terminal_def) = omega arith
  macro_between s k (some (nonterminal_def zero)) = omega arith
  macro_between s k (some (nonterminal_def (suc j))) = cond_between 5 13 (eqb (suc j) k) (yes tt) (no 12 s) tt (omega arith)
  macro_between s k (some argument_def) = omega arith

  leaf_between : (s : Span) (l : Leaf) → Between 5 13 (validate_leaf G ps s l)
  leaf_between s (ambiguous n) = ambiguous_between s n (lookup G ps n)
  leaf_between s (bare n) = tt
  leaf_between s (quoted t) = tt
  leaf_between s (regex t) = tt
  leaf_between s (nonterminal n) = nonterminal_between s n (lookup G ps n)
  leaf_between s lookahead = tt
  leaf_between s lookbehind = tt
  leaf_between s error = tt

  over_between : (s : Span) (o : Over) (k : ℕ) → Between 5 13 (validate_over G ps s o k)
  over_between s (macro n) k = macro_between s k (lookup G ps n)
  over_between s group k = tt

  mutual
    unfolding validate_symbol

    symbol_between : (x : Sym) → Between 5 13 (validate_symbol G ps x)
    symbol_between (leaf s l) = leaf_between s l
    symbol_between (around s a x) = after-between 5 13 (validate_symbol G ps x) _ (symbol_between x) (λ y. tt)
    symbol_between (over s o xs) =
        let b = symbols_between xs in
        after-between 5 13 (validate_over G ps s o (count xs)) _ (over_between s o (count xs)) (λ u. after-between 5 13 (validate_symbols G ps xs) _ b (λ ys. tt))

    symbols_between : (xs : Syms) → Between 5 13 (validate_symbols G ps xs)
    symbols_between nil = tt
    symbols_between (cons x xs) =
        let b = symbols_between xs in after-between 5 13 (validate_symbol G ps x) _ (symbol_between x) (λ y. after-between 5 13 (validate_symbols G ps xs) _ b (λ ys. tt))

  alternatives_between : (as' : List Alternative) → Between 5 13 (validate_alternatives G ps as')
  unfolding validate_alternatives
  alternatives_between [] = tt
  alternatives_between (a ∷ rest) =
      let b = alternatives_between rest in
      after-between 5 13 (check_condition G ps a.condition) _ (condition_between a.condition) (λ u.
      after-between 5 13 (validate_symbols G ps a.symbols) _ (symbols_between a.symbols) (λ ys.
      after-between 5 13 (validate_alternatives G ps rest) _ b (λ bs. tt)))

items_between : (G : Tree) (is : List Item) → Between 5 13 (validate_items G is)
unfolding validate_items
items_between G [] = tt
items_between G (item d ∷ rest) =
    let b = items_between G rest in
    after-between 5 13 (validate_macro_args d) _ (cond_between 5 13 {A = Unit {0}} (distinct d.args) (yes tt) (no 7 d.span) tt (omega arith)) (λ u.
    after-between 5 13 (validate_alternatives G d.args d.alternatives) _ (alternatives_between G d.args d.alternatives) (λ as'.
    after-between 5 13 (validate_items G rest) _ b (λ is. tt)))
items_between G (Item.terminal s o t ∷ rest) = after-between 5 13 (validate_items G rest) _ (items_between G rest) (λ is. tt)

pub resolve-between : (G : Tree) → Between 5 13 (resolve G)
unfolding resolve
resolve-between G = after-between 5 13 (check_globals [] (globals G)) _ (globals-between [] (globals G)) (λ u. items_between G G)

-- ---- levels: 14 to 16
attributes_between : (as' : List Alternative) → Between 14 16 (check_attributes as')
attributes_between [] = tt
attributes_between (a ∷ rest) =
    let b = attributes_between rest in
    cond_between 14 16 (is_readable (value_of precedence a.attributes) (λ t. is_given (level_in t))) _ (no 14 a.span)
    (cond_between 14 16 (is_readable (value_of assoc a.attributes) (λ t. is_given (side_in t))) (check_attributes rest) (no 15 a.span) b (omega arith)) (omega arith)

all_between : (gs : List Graded) → Between 14 16 (all_all gs)
all_between [] = tt
all_between (g ∷ rest) = cond_between 14 16 (is_all g.side) (all_all rest) (no 16 g.alternative.span) (all_between rest) (omega arith)

lowest_between : (gs : List (Group Graded)) → Between 14 16 (check_lowest gs)
lowest_between [] = tt
lowest_between (lowest ∷ rest) = all_between lowest.alternatives

check_between : (G : Tree) → Between 14 16 (check_levels G)
unfolding check_levels
check_between [] = tt
check_between (item d ∷ rest) =
    let b = check_between rest in
    after-between 14 16 (check_nonterminal d) _
    (cond_between 14 16 (annotated d) _ (yes tt)
    (after-between 14 16 (check_attributes d.alternatives) _ (attributes_between d.alternatives) (λ u. lowest_between (grouped d.name (graded d)))) tt) (λ u. b)
check_between (Item.terminal s o t ∷ rest) = check_between rest

pub levels-between : (G : Tree) → Between 14 16 (levels G)
unfolding levels
levels-between G = after-between 14 16 (check_levels G) _ (check_between G) (λ u. tt)

-- ---- the symbols taken off the pile: 17 and 19, and 11 where there is no such macro, which a resolved tree rules out
evaluate_between : (ps : List Text) (xs : Syms) (o : Option Condition) → Between 11 19 (evaluate_cond ps xs o)
evaluate_between ps xs none = tt
evaluate_between ps xs (some c) = go (quoted_in (argument_of ps xs c.lhs))
  where
    go : (o : Option Text) → Between 11 19 {A = Bool} (elim o [ none ↦ no 17 c.span | some t ↦ yes (cond c.equal (same_as t c.rhs) (not (same_as t c.rhs))) ])
    go none = omega arith
    go (some t) = tt

expand_between : (s : Span) (ps : List Text) (xs : Syms) (as' : List Alternative) → Between 11 19 (expand_alternatives s ps xs as')
unfolding expand_alternatives
expand_between s ps xs [] = tt
expand_between s ps xs (a ∷ rest) =
    let b = expand_between s ps xs rest in
    after-between 11 19 (evaluate_cond ps xs a.condition) _ (evaluate_between ps xs a.condition) (λ k. after-between 11 19 (expand_alternatives s ps xs rest) _ b (λ bs. tt))

call_between : (s : Span) (key : Text) (xs : Syms) (o : Option Nonterminal) → Between 11 19 (expand_macro_symbol s key xs o)
call_between s key xs none = omega arith
call_between s key xs (some d) = after-between 11 19 (expand_alternatives s d.args xs d.alternatives) _ (expand_between s d.args xs d.alternatives) (λ as'. tt)

pending_between : (G : Tree) (p : Pending) → Between 11 19 (expand_symbol G p)
unfolding expand_symbol
pending_between G (looking s k) = tt
pending_between G (repeating s o x) = tt
pending_between G (listing s (macro n) xs) = call_between s _ xs (macro_in G n)
pending_between G (listing s group xs) = cond_between 11 19 (has_name xs) (no 19 s) (yes _) (omega arith) tt

pub drain-between : (G : Tree) (ps : List Pending) → Between 11 19 (drain G ps)
unfolding drain
drain-between G [] = tt
drain-between G (p ∷ ps) = let b = drain-between G ps in after-between 11 19 (expand_symbol G p) _ (pending_between G p) (λ d. after-between 11 19 (drain G ps) _ b (λ ds. tt))
