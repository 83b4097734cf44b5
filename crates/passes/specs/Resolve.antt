-- Name resolution: questions 5 to 13, and the tree with each name looked up. Assumes nothing: these are definitions.
use Rattle.std.specs.Prelude.{ℕ, zero, suc, cond, List, [], ◌∷◌, ◌++◌, eqb, length}
use Rattle.std.proofs.Math.Option.{Option, none, some}
use Rattle.octets.specs.Plain.Runs.{same_as}
use Rattle.parse_tree.specs.Plain.Tree.{Text, Leaf, Over, Sym, Syms, ambiguous, bare, quoted, regex, nonterminal, lookahead, lookbehind, error, macro, group, leaf, around, over, nil, cons, count, Condition, Alternative, Nonterminal, Item, item, extern, match}
use Rattle.parse_tree.specs.Plain.Texts.{has, distinct}
use Rattle.parse_tree.specs.declared.syntax.Span.{Span}
use Rattle.passes.specs.Outcome.{Tree, Outcome, yes, no, after, with_symbols, with_alternatives}

-- what a name is: a terminal, a nonterminal with so many arguments (a macro if it has any), or an argument
pub data Def : Type 0 where
  terminal_def : Def
  nonterminal_def : ℕ → Def
  argument_def : Def

pub record Global : Type 0 where
  pub name : Text
  pub def : Def
  pub span : Span

-- ---- "Globals (nonterminals, then 30, then 31)"
abbrev pub nonterminals : Tree → List Global
nonterminals [] = []
nonterminals (item d ∷ rest) = record { name = d.name; def = nonterminal_def (length d.args); span = d.span } ∷ nonterminals rest
nonterminals (Item.terminal s o t ∷ rest) = nonterminals rest

abbrev pub externs : Tree → List Global
externs [] = []
externs (item d ∷ rest) = externs rest
externs (Item.terminal s extern t ∷ rest) = record { name = t; def = terminal_def; span = s } ∷ externs rest
externs (Item.terminal s match t ∷ rest) = externs rest

abbrev pub matches : Tree → List Global
matches [] = []
matches (item d ∷ rest) = matches rest
matches (Item.terminal s extern t ∷ rest) = matches rest
matches (Item.terminal s match t ∷ rest) = record { name = t; def = terminal_def; span = s } ∷ matches rest

abbrev pub globals : Tree → List Global
globals G = nonterminals G ++ (externs G ++ matches G)

-- the definition of a name among the globals
abbrev pub def_in : Text → List Global → Option Def
def_in n [] = none
def_in n (g ∷ gs) = cond (same_as n g.name) (some g.def) (def_in n gs)

-- the kinds: terminal, nonterminal, macro (and argument)
abbrev pub kind : Def → ℕ
kind terminal_def = 0
kind (nonterminal_def zero) = 1
kind (nonterminal_def (suc k)) = 2
kind argument_def = 3

-- "no name met again? At the first that is, 5 if both are of one kind .., else 6; later span"
abbrev pub met_again : Global → Option Def → Outcome (Unit {0}) → Outcome (Unit {0})
met_again g none k = k
met_again g (some d) k = cond (eqb (kind g.def) (kind d)) (no 5 g.span) (no 6 g.span)

unfoldable pub check_globals : List Global → List Global → Outcome (Unit {0})
check_globals before [] = yes tt
check_globals before (g ∷ gs) = let k = check_globals (g ∷ before) gs in met_again g (def_in g.name before) k

-- ---- one item: ps are its arguments
module _ (G : Tree) (ps : List Text) where
  -- an argument hides globals
  abbrev pub lookup : Text → Option Def
  lookup n = cond (has n ps) (some argument_def) (def_in n (globals G))

  -- "condition's name defined? 8. An argument? 9"
  abbrev pub check_condition : Option Condition → Outcome (Unit {0})
  check_condition none = yes tt
  check_condition (some c) = elim (lookup c.lhs) [ none ↦ no 8 c.span | some d ↦ cond (eqb (kind d) 3) (yes tt) (no 9 c.span) ]

  -- "Does 24 name a plain nonterminal or argument? 10"
  abbrev pub validate_nonterminal : Span → Text → Option Def → Outcome Sym
  validate_nonterminal s n none = no 8 s
  validate_nonterminal s n (some terminal_def) = no 10 s
  validate_nonterminal s n (some (nonterminal_def zero)) = yes (leaf s (nonterminal n))
  validate_nonterminal s n (some (nonterminal_def (suc k))) = no 10 s
  validate_nonterminal s n (some argument_def) = yes (leaf s (nonterminal n))

  -- "Is 20 no macro? 13": it becomes a 21 or a 24
  abbrev pub rewrite_ambiguous_id : Span → Text → Option Def → Outcome Sym
  rewrite_ambiguous_id s n none = no 8 s
  rewrite_ambiguous_id s n (some terminal_def) = yes (leaf s (bare n))
  rewrite_ambiguous_id s n (some (nonterminal_def zero)) = yes (leaf s (nonterminal n))
  rewrite_ambiguous_id s n (some (nonterminal_def (suc k))) = no 13 s
  rewrite_ambiguous_id s n (some argument_def) = yes (leaf s (nonterminal n))

  -- "Does 25 name a macro? 11, with its count? 12"
  abbrev pub validate_macro : Span → ℕ → Option Def → Outcome (Unit {0})
  validate_macro s k none = no 8 s
  validate_macro s k (some terminal_def) = no 11 s
  validate_macro s k (some (nonterminal_def zero)) = no 11 s
  validate_macro s k (some (nonterminal_def (suc j))) = cond (eqb (suc j) k) (yes tt) (no 12 s)
  validate_macro s k (some argument_def) = no 11 s

  abbrev pub validate_leaf : Span → Leaf → Outcome Sym
  validate_leaf s (ambiguous n) = rewrite_ambiguous_id s n (lookup n)
  validate_leaf s (bare n) = yes (leaf s (bare n))
  validate_leaf s (quoted t) = yes (leaf s (quoted t))
  validate_leaf s (regex t) = yes (leaf s (regex t))
  validate_leaf s (nonterminal n) = validate_nonterminal s n (lookup n)
  validate_leaf s lookahead = yes (leaf s lookahead)
  validate_leaf s lookbehind = yes (leaf s lookbehind)
  validate_leaf s error = yes (leaf s error)

  abbrev pub validate_over : Span → Over → ℕ → Outcome (Unit {0})
  validate_over s (macro n) k = validate_macro s k (lookup n)
  validate_over s group k = yes tt

  -- "Then per symbol, outermost first"
  unfoldable mutual
    pub validate_symbol : Sym → Outcome Sym
    validate_symbol (leaf s l) = validate_leaf s l
    validate_symbol (around s a x) = after (validate_symbol x) (λ y. yes (around s a y))
    validate_symbol (over s o xs) = let r = validate_symbols xs in after (validate_over s o (count xs)) (λ u. after r (λ ys. yes (over s o ys)))

    pub validate_symbols : Syms → Outcome Syms
    validate_symbols nil = yes nil
    validate_symbols (cons x xs) = let r = validate_symbols xs in after (validate_symbol x) (λ y. after r (λ ys. yes (cons y ys)))

  -- "Per alternative"
  unfoldable pub validate_alternatives : List Alternative → Outcome (List Alternative)
  validate_alternatives [] = yes []
  validate_alternatives (a ∷ rest) =
      let r = validate_alternatives rest in
      after (check_condition a.condition) (λ u. after (validate_symbols a.symbols) (λ ys. after r (λ bs. yes (with_symbols a ys ∷ bs))))

-- "arguments distinct? 7"
abbrev pub validate_macro_args : Nonterminal → Outcome (Unit {0})
validate_macro_args d = cond (distinct d.args) (yes tt) (no 7 d.span)

-- "Then per item"
unfoldable pub validate_items : Tree → List Item → Outcome (List Item)
validate_items G [] = yes []
validate_items G (item d ∷ rest) =
    let r = validate_items G rest in
    after (validate_macro_args d) (λ u. after (validate_alternatives G d.args d.alternatives) (λ as'. after r (λ is. yes (item (with_alternatives d as') ∷ is))))
validate_items G (Item.terminal s o t ∷ rest) = let r = validate_items G rest in after r (λ is. yes (Item.terminal s o t ∷ is))

-- questions 5 to 13
unfoldable pub resolve : Tree → Outcome Tree
resolve G = after (check_globals [] (globals G)) (λ u. validate_items G G)
