-- Every macro call of a tree that resolving gave names a macro of it, with as many arguments. Assumes nothing.
use mathlib.Core.Path.{◌≡◌, refl, sym, ap, ◌∙◌}
use mathlib.Core.Bool.{Bool, true, false, cond, ◌&&◌}
use mathlib.Core.List.{List, [], ◌∷◌, ◌++◌}
use mathlib.Core.Option.{Option, none, some}
use Prim.Native.Nat.{ℕ, zero, suc}
use native.Mathlib.Omega.{arith}
use borrow.Author.Tests.{eqb-true}
use lib.Dec.{eqb}
use lib.ListN.{length}
use Rattle.octets.specs.Plain.Runs.{same_as}
use Rattle.octets.proofs.SameLaws.{same_as-sym}
use Rattle.parse_tree.specs.Plain.Tree.{Text, Leaf, Over, Sym, Syms, ambiguous, bare, quoted, regex, nonterminal, lookahead, lookbehind, error, macro, group, leaf, around, over, nil, cons, count, Alternative, Nonterminal, Item, item, extern, match}
use Rattle.parse_tree.specs.Plain.Texts.{has}
use Rattle.parse_tree.specs.Working.Within.{Each}
use Rattle.parse_tree.specs.declared.syntax.Span.{Span}
use Rattle.passes.specs.Outcome.{Tree, Outcome, yes, no}
use Rattle.passes.specs.Resolve.{Def, terminal_def, nonterminal_def, argument_def, Global, nonterminals, externs, matches, globals, def_in, lookup, validate_macro, validate_nonterminal, rewrite_ambiguous_id, validate_leaf, validate_over, validate_symbol, validate_symbols, check_condition, validate_alternatives, validate_macro_args, validate_items, check_globals, resolve}
use Rattle.passes.specs.Macros.{macro_in}
use Rattle.passes.proofs.Outcomes.{after-yes}
use Rattle.passes.proofs.ResolveKeeps.{yes_as, no_yes, count_kept}
use Rattle.macro_expand.specs.Drain.{OverCalls}
use Rattle.rounds.specs.Calls.{SymCalls, SymsCall, AlternativeCalls, ItemCalls}

-- ---- a name that is a macro's among the globals
-- what a definition is: 0 no macro, else how many arguments
abbrev arity : Option Def → ℕ
arity none = 0
arity (some terminal_def) = 0
arity (some (nonterminal_def k)) = k
arity (some argument_def) = 0

-- terminals are no macros
terminals_none : (n : Text) (G H : Tree) → arity (def_in n (externs G ++ matches H)) ≡ 0
terminals_none n [] [] = refl
terminals_none n [] (item d ∷ rest) = terminals_none n [] rest
terminals_none n [] (Item.terminal s extern t ∷ rest) = terminals_none n [] rest
terminals_none n [] (Item.terminal s match t ∷ rest) = go (same_as n t) (terminals_none n [] rest)
  where
    go : (b : Bool) → arity (def_in n (matches rest)) ≡ 0 → arity (cond b (some terminal_def) (def_in n (matches rest))) ≡ 0
    go true e = refl
    go false e = e
terminals_none n (item d ∷ rest) H = terminals_none n rest H
terminals_none n (Item.terminal s extern t ∷ rest) H = go (same_as n t) (terminals_none n rest H)
  where
    go : (b : Bool) → arity (def_in n (externs rest ++ matches H)) ≡ 0 → arity (cond b (some terminal_def) (def_in n (externs rest ++ matches H))) ≡ 0
    go true e = refl
    go false e = e
terminals_none n (Item.terminal s match t ∷ rest) H = terminals_none n rest H

-- a macro is found with as many arguments
pub record MacroOf (G : Tree) (n : Text) (k : ℕ) : Type 0 where
  pub definition : Nonterminal
  pub found : macro_in G n ≡ some definition
  pub many : length definition.args ≡ k

abbrev some_args : List Text → Bool
some_args ps = elim ps [ [] ↦ false | p ∷ qs ↦ true ]

some_args_lem : (ps : List Text) (j : ℕ) → length ps ≡ suc j → some_args ps ≡ true
some_args_lem [] j e = absurd (omega (arith, e))
some_args_lem (p ∷ ps) j e = refl

-- R is G with other alternatives
abbrev Alike : Tree → Tree → Type 0
Alike [] [] = Unit {0}
Alike [] (y ∷ ys) = ⊥
Alike (x ∷ xs) [] = ⊥
Alike (item d ∷ xs) (item e ∷ ys) = (d.name ≡ e.name) × (d.args ≡ e.args) × Alike xs ys
Alike (item d ∷ xs) (Item.terminal s o t ∷ ys) = ⊥
Alike (Item.terminal s o t ∷ xs) (item e ∷ ys) = ⊥
Alike (Item.terminal s o t ∷ xs) (Item.terminal s' o' t' ∷ ys) = Alike xs ys

macro_global : (n : Text) (G R : Tree) (T : List Global) → arity (def_in n T) ≡ 0 → Alike G R → (j : ℕ) → arity (def_in n (nonterminals G ++ T)) ≡ suc j → MacroOf R n (suc j)
macro_global n [] R T z a j e = absurd (omega (arith, z, e))
macro_global n (item d ∷ rest) (item x ∷ ys) T z (p, q, a) j e = go (same_as n d.name) refl e (macro_global n rest ys T z a j)
  where
    turned : same_as x.name n ≡ same_as n d.name
    turned = ap (λ (t : Text). same_as t n) (sym p) ∙ same_as-sym d.name n

    go : (b : Bool) → same_as n d.name ≡ b → arity (cond b (some (nonterminal_def (length d.args))) (def_in n (nonterminals rest ++ T))) ≡ suc j → (arity (def_in n (nonterminals rest ++ T)) ≡ suc j → MacroOf ys n (suc j)) → MacroOf (item x ∷ ys) n (suc j)
    go true y e f =
        let l : length x.args ≡ suc j = ap length (sym q) ∙ e in
        record { definition = x; found = ap (λ (b : Bool). cond (b && some_args x.args) (some x) (macro_in ys n)) (turned ∙ y) ∙ ap (λ (b : Bool). cond b (some x) (macro_in ys n)) (some_args_lem x.args j l); many = l }
    go false y e f = let m = f e in record { definition = m.definition; found = ap (λ (b : Bool). cond (b && some_args x.args) (some x) (macro_in ys n)) (turned ∙ y) ∙ m.found; many = m.many }
macro_global n (Item.terminal s o t ∷ rest) (Item.terminal s' o' t' ∷ ys) T z a j e = let m = macro_global n rest ys T z a j e in record { definition = m.definition; found = m.found; many = m.many }
macro_global n (item d ∷ rest) [] T z a j e = elim a [ ]
macro_global n (item d ∷ rest) (Item.terminal s' o' t' ∷ ys) T z a j e = elim a [ ]
macro_global n (Item.terminal s o t ∷ rest) [] T z a j e = elim a [ ]
macro_global n (Item.terminal s o t ∷ rest) (item x ∷ ys) T z a j e = elim a [ ]

-- ---- symbols
module _ (G R : Tree) (alike : Alike G R) (ps : List Text) where
  asked : (s : Span) (n : Text) (k : ℕ) (o : Option Def) → validate_macro G ps s k o ≡ yes tt → (j : ℕ) × (arity o ≡ suc j) × (k ≡ suc j)
  asked s n k none e = absurd (no_yes e)
  asked s n k (some terminal_def) e = absurd (no_yes e)
  asked s n k (some (nonterminal_def zero)) e = absurd (no_yes e)
  asked s n k (some (nonterminal_def (suc j))) e = go (eqb (suc j) k) refl e
    where
      go : (b : Bool) → eqb (suc j) k ≡ b → ◌≡◌ {A = Outcome (Unit {0})} (cond b (yes tt) (no 12 s)) (yes tt) → (i : ℕ) × (suc j ≡ suc i) × (k ≡ suc i)
      go true y f = (j, refl, sym (eqb-true (suc j) k y))
      go false y f = absurd (no_yes f)
  asked s n k (some argument_def) e = absurd (no_yes e)

  global : (n : Text) (j : ℕ) → arity (lookup G ps n) ≡ suc j → MacroOf R n (suc j)
  global n j e = go (has n ps) e
    where
      go : (b : Bool) → arity (cond b (some argument_def) (def_in n (globals G))) ≡ suc j → MacroOf R n (suc j)
      go true f = absurd (omega (arith, f))
      go false f = macro_global n G R (externs G ++ matches G) (terminals_none n G G) alike j f

  over_resolved : (s : Span) (o : Over) (xs ys : Syms) → validate_over G ps s o (count xs) ≡ yes tt → count ys ≡ count xs → OverCalls R o ys
  over_resolved s (macro n) xs ys e c =
      let (j, a, b) = asked s n (count xs) (lookup G ps n) e in
      let m = global n j a in
      (m.definition, m.found, m.many ∙ sym (c ∙ b))
  over_resolved s group xs ys e c = tt

  name_resolved : (s : Span) (n : Text) (o : Option Def) (y : Sym) → validate_nonterminal G ps s n o ≡ yes y → SymCalls R y
  name_resolved s n none y e = absurd (no_yes e)
  name_resolved s n (some terminal_def) y e = absurd (no_yes e)
  name_resolved s n (some (nonterminal_def zero)) y e = yes_as (SymCalls R) e tt
  name_resolved s n (some (nonterminal_def (suc k))) y e = absurd (no_yes e)
  name_resolved s n (some argument_def) y e = yes_as (SymCalls R) e tt

  id_resolved : (s : Span) (n : Text) (o : Option Def) (y : Sym) → rewrite_ambiguous_id G ps s n o ≡ yes y → SymCalls R y
  id_resolved s n none y e = absurd (no_yes e)
  id_resolved s n (some terminal_def) y e = yes_as (SymCalls R) e tt
  id_resolved s n (some (nonterminal_def zero)) y e = yes_as (SymCalls R) e tt
  id_resolved s n (some (nonterminal_def (suc k))) y e = absurd (no_yes e)
  id_resolved s n (some argument_def) y e = yes_as (SymCalls R) e tt

  leaf_resolved : (s : Span) (l : Leaf) (y : Sym) → validate_leaf G ps s l ≡ yes y → SymCalls R y
  leaf_resolved s (ambiguous n) y e = id_resolved s n (lookup G ps n) y e
  leaf_resolved s (bare n) y e = yes_as (SymCalls R) e tt
  leaf_resolved s (quoted t) y e = yes_as (SymCalls R) e tt
  leaf_resolved s (regex t) y e = yes_as (SymCalls R) e tt
  leaf_resolved s (nonterminal n) y e = name_resolved s n (lookup G ps n) y e
  leaf_resolved s lookahead y e = yes_as (SymCalls R) e tt
  leaf_resolved s lookbehind y e = yes_as (SymCalls R) e tt
  leaf_resolved s error y e = yes_as (SymCalls R) e tt

  mutual
    unfolding validate_symbol

    symbol_resolved : (x y : Sym) → validate_symbol G ps x ≡ yes y → SymCalls R y
    symbol_resolved (leaf s l) y e = leaf_resolved s l y e
    symbol_resolved (around s a x) y e = let (z, p, q) = after-yes (validate_symbol G ps x) _ y e in yes_as (SymCalls R) q (symbol_resolved x z p)
    symbol_resolved (over s o xs) y e =
        let (u, p, q) = after-yes (validate_over G ps s o (count xs)) _ y e in
        let (ys, r, t) = after-yes (validate_symbols G ps xs) _ y q in
        yes_as (SymCalls R) t (over_resolved s o xs ys p (count_kept G ps xs ys r), symbols_resolved xs ys r)

    symbols_resolved : (xs ys : Syms) → validate_symbols G ps xs ≡ yes ys → SymsCall R ys
    symbols_resolved nil ys e = yes_as (SymsCall R) e tt
    symbols_resolved (cons x xs) ys e =
        let (y, p, q) = after-yes (validate_symbol G ps x) _ ys e in
        let (zs, r, t) = after-yes (validate_symbols G ps xs) _ ys q in
        yes_as (SymsCall R) t (symbol_resolved x y p, symbols_resolved xs zs r)

  alternatives_resolved : (as' bs : List Alternative) → validate_alternatives G ps as' ≡ yes bs → Each (AlternativeCalls R) bs
  unfolding validate_alternatives
  alternatives_resolved [] bs e = yes_as (Each (AlternativeCalls R)) e tt
  alternatives_resolved (a ∷ rest) bs e =
      let (u, p, q) = after-yes (check_condition G ps a.condition) _ bs e in
      let (ys, r, t) = after-yes (validate_symbols G ps a.symbols) _ bs q in
      let (cs, v, w) = after-yes (validate_alternatives G ps rest) _ bs t in
      yes_as (Each (AlternativeCalls R)) w (symbols_resolved a.symbols ys r, alternatives_resolved rest cs v)

-- ---- items
items_alike : (G : Tree) (is R : List Item) → validate_items G is ≡ yes R → Alike is R
unfolding validate_items
items_alike G [] R e = yes_as (Alike []) e tt
items_alike G (item d ∷ rest) R e =
    let (u, p, q) = after-yes (validate_macro_args d) _ R e in
    let (as', r, t) = after-yes (validate_alternatives G d.args d.alternatives) _ R q in
    let (is, v, w) = after-yes (validate_items G rest) _ R t in
    yes_as (Alike (item d ∷ rest)) w (refl, refl, items_alike G rest is v)
items_alike G (Item.terminal s o t ∷ rest) R e = let (is, v, w) = after-yes (validate_items G rest) _ R e in yes_as (Alike (Item.terminal s o t ∷ rest)) w (items_alike G rest is v)

items_resolved : (G H : Tree) → Alike G H → (is R : List Item) → validate_items G is ≡ yes R → Each (ItemCalls H) R
unfolding validate_items
items_resolved G H a [] R e = yes_as (Each (ItemCalls H)) e tt
items_resolved G H a (item d ∷ rest) R e =
    let (u, p, q) = after-yes (validate_macro_args d) _ R e in
    let (as', r, t) = after-yes (validate_alternatives G d.args d.alternatives) _ R q in
    let (is, v, w) = after-yes (validate_items G rest) _ R t in
    yes_as (Each (ItemCalls H)) w (alternatives_resolved G H a d.args d.alternatives as' r, items_resolved G H a rest is v)
items_resolved G H a (Item.terminal s o t ∷ rest) R e = let (is, v, w) = after-yes (validate_items G rest) _ R e in yes_as (Each (ItemCalls H)) w (tt, items_resolved G H a rest is v)

-- theorem: what resolving gives calls its macros as they are
pub resolved-calls : (G R : Tree) → resolve G ≡ yes R → Each (ItemCalls R) R
unfolding resolve
resolved-calls G R e = let (u, p, q) = after-yes (check_globals [] (globals G)) _ R e in items_resolved G R (items_alike G G R q) G R q
