-- Resolving a resolved tree again changes nothing. Assumes nothing.
use mathlib.Core.Path.{◌≡◌, refl, ap, ap₂, ◌∙◌}
use Prim.Native.Nat.{zero, suc}
use mathlib.Core.List.{List, [], ◌∷◌, Memᴰ}
use mathlib.Core.Option.{Option, none, some}
use Rattle.parse_tree.specs.Plain.Tree.{Text, Leaf, Sym, Syms, ambiguous, bare, quoted, regex, nonterminal, lookahead, lookbehind, error, leaf, around, over, nil, cons, count, Alternative, Nonterminal, Item, item}
use Rattle.parse_tree.specs.declared.syntax.Span.{Span}
use Rattle.passes.specs.Outcome.{Tree, yes, with_symbols, with_alternatives}
use Rattle.passes.specs.Resolve.{Def, terminal_def, nonterminal_def, argument_def, globals, check_globals, lookup, check_condition, validate_nonterminal, validate_leaf, validate_over, validate_symbol, validate_symbols, validate_alternatives, validate_macro_args, validate_items, resolve}
use Rattle.passes.proofs.Outcomes.{no≢yes, yes_inj, after-yes}
use Rattle.meaning.proofs.Predicates.{OkayLeaf, Okay, Okays, Resolved}
use Rattle.meaning.proofs.Resolving.Globals.{Distinct, check_distinct}

module _ (G : Tree) where
  module _ (ps : List Text) where
    fixed_nonterminal : (s : Span) (n : Text) (o : Option Def) (y : Sym) → validate_nonterminal G ps s n o ≡ yes y → leaf s (nonterminal n) ≡ y
    fixed_nonterminal s n none y e = absurd (no≢yes _ _ _ e)
    fixed_nonterminal s n (some terminal_def) y e = absurd (no≢yes _ _ _ e)
    fixed_nonterminal s n (some (nonterminal_def zero)) y e = yes_inj _ y e
    fixed_nonterminal s n (some (nonterminal_def (suc k))) y e = absurd (no≢yes _ _ _ e)
    fixed_nonterminal s n (some argument_def) y e = yes_inj _ y e

    fixed_leaf : (s : Span) (l : Leaf) (y : Sym) → OkayLeaf G ps l → validate_leaf G ps s l ≡ yes y → leaf s l ≡ y
    fixed_leaf s (ambiguous n) y o e = absurd o
    fixed_leaf s (bare n) y o e = yes_inj _ y e
    fixed_leaf s (quoted t) y o e = yes_inj _ y e
    fixed_leaf s (regex t) y o e = yes_inj _ y e
    fixed_leaf s (nonterminal n) y o e = fixed_nonterminal s n (lookup G ps n) y e
    fixed_leaf s lookahead y o e = yes_inj _ y e
    fixed_leaf s lookbehind y o e = yes_inj _ y e
    fixed_leaf s error y o e = yes_inj _ y e

    mutual
      unfolding validate_symbol

      fixed_symbol : (x y : Sym) → Okay G ps x → validate_symbol G ps x ≡ yes y → x ≡ y
      fixed_symbol (leaf s l) y o e = fixed_leaf s l y o e
      fixed_symbol (around s a x) z o e = let (y, ey, e1) = after-yes (validate_symbol G ps x) _ z e in ap (around s a) (fixed_symbol x y o.1 ey) ∙ yes_inj _ z e1
      fixed_symbol (over s k xs) z o e =
          let (u, eu, e1) = after-yes (validate_over G ps s k (count xs)) _ z e in
          let (ys, ey, e2) = after-yes (validate_symbols G ps xs) _ z e1 in
          ap (over s k) (fixed_symbols xs ys o.1 ey) ∙ yes_inj _ z e2

      fixed_symbols : (xs ys : Syms) → Okays G ps xs → validate_symbols G ps xs ≡ yes ys → xs ≡ ys
      fixed_symbols nil ys o e = yes_inj _ ys e
      fixed_symbols (cons x xs) zs o e =
          let (y, ey, e1) = after-yes (validate_symbol G ps x) _ zs e in
          let (ys, eys, e2) = after-yes (validate_symbols G ps xs) _ zs e1 in
          ap₂ cons (fixed_symbol x y o.0 ey) (fixed_symbols xs ys o.1 eys) ∙ yes_inj _ zs e2

    fixed_alternatives : (xs ys : List Alternative) → ((a : Alternative) → Memᴰ a xs → Okays G ps a.symbols) → validate_alternatives G ps xs ≡ yes ys → xs ≡ ys
    unfolding validate_alternatives
    fixed_alternatives [] ys o e = yes_inj _ ys e
    fixed_alternatives (a ∷ rest) zs o e =
        let (u, eu, e1) = after-yes (check_condition G ps a.condition) _ zs e in
        let (ys, ey, e2) = after-yes (validate_symbols G ps a.symbols) _ zs e1 in
        let (bs, eb, e3) = after-yes (validate_alternatives G ps rest) _ zs e2 in
        ap₂ {C = List Alternative} (λ xs r. with_symbols a xs ∷ r) (fixed_symbols a.symbols ys (o a (Memᴰ.head refl)) ey) (fixed_alternatives rest bs (λ b i. o b (Memᴰ.tail i)) eb)
        ∙ yes_inj _ zs e3

  abbrev AllOkay : List Item → Type 0
  AllOkay xs = (d : Nonterminal) → Memᴰ (item d) xs → (a : Alternative) → Memᴰ a d.alternatives → Okays G d.args a.symbols

  fixed_items : (xs ys : List Item) → AllOkay xs → validate_items G xs ≡ yes ys → xs ≡ ys
  unfolding validate_items
  fixed_items [] ys o e = yes_inj _ ys e
  fixed_items (item d ∷ rest) ys o e =
      let (u, eu, e1) = after-yes (validate_macro_args d) _ ys e in
      let (bs, eb, e2) = after-yes (validate_alternatives G d.args d.alternatives) _ ys e1 in
      let (rs, er, e3) = after-yes (validate_items G rest) _ ys e2 in
      ap₂ {C = List Item} (λ z r. item (with_alternatives d z) ∷ r) (fixed_alternatives d.args d.alternatives bs (o d (Memᴰ.head refl)) eb) (fixed_items rest rs (λ x i. o x (Memᴰ.tail i)) er)
      ∙ yes_inj _ ys e3
  fixed_items (Item.terminal s t n ∷ rest) ys o e =
      let (rs, er, e1) = after-yes (validate_items G rest) _ ys e in
      ap {B = List Item} (λ r. Item.terminal s t n ∷ r) (fixed_items rest rs (λ x i. o x (Memᴰ.tail i)) er) ∙ yes_inj _ ys e1

  pub fixed_tree : (X : Tree) → resolve G ≡ yes X → Resolved G → G ≡ X
  unfolding resolve
  fixed_tree X e r = let (u, eu, e1) = after-yes (check_globals [] (globals G)) _ X e in fixed_items G X r.symbols e1

  -- a tree that resolves has distinct globals
  pub distinct-tree : (X : Tree) → resolve G ≡ yes X → Distinct [] (globals G)
  unfolding resolve
  distinct-tree X e = let (u, eu, e1) = after-yes (check_globals [] (globals G)) _ X e in check_distinct [] (globals G) eu
