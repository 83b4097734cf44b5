-- Resolving keeps items sound, their texts, and how many bytes their commands have. Assumes nothing.
use mathlib.Core.Path.{◌≡◌, refl}
use mathlib.Core.List.{List, [], ◌∷◌}
use mathlib.Core.Option.{Option, none, some}
use Prim.Native.Nat.{zero, suc}
use native.Mathlib.Omega.{arith}
use lib.ListN.{length}
use Rattle.parse_tree.specs.Plain.Tree.{Text, Leaf, Sym, Syms, ambiguous, bare, quoted, regex, nonterminal, lookahead, lookbehind, error, leaf, around, over, nil, cons, count, Alternative, Item, item}
use Rattle.parse_tree.specs.Plain.References.{texts_of_each, item_texts}
use Rattle.parse_tree.specs.Working.Within.{Each}
use Rattle.parse_tree.specs.declared.syntax.Span.{Span}
use Rattle.passes.specs.Outcome.{Tree, yes, with_alternatives}
use Rattle.passes.specs.Resolve.{Def, terminal_def, nonterminal_def, argument_def, lookup, globals, check_globals, check_condition, validate_nonterminal, rewrite_ambiguous_id, validate_leaf, validate_over, validate_symbol, validate_symbols, validate_alternatives, validate_macro_args, validate_items, resolve}
use Rattle.passes.specs.Macros.{without_macros}
use Rattle.passes.proofs.Outcomes.{no≢yes, after-yes}
use Rattle.passes.proofs.ResolveKeeps.{yes_as, alternatives_kept, resolve-keeps}
use Rattle.laws.specs.Counts.{heads}
use Rattle.laws.specs.Keys.{LeafSound, SymSound, SymsSound, AlternativeSound, ItemSound}
use Rattle.begins.proofs.LevelsHeads.{heads-in}

-- ---- names: G is the tree, ps an item's arguments
module _ (G : Tree) (ps : List Text) where
  ambiguous_sound : (s : Span) (n : Text) (o : Option Def) (y : Sym) → LeafSound (ambiguous n) → rewrite_ambiguous_id G ps s n o ≡ yes y → SymSound y
  ambiguous_sound s n none y h e = absurd (no≢yes 8 s y e)
  ambiguous_sound s n (some terminal_def) y h e = yes_as SymSound e h
  ambiguous_sound s n (some (nonterminal_def zero)) y h e = yes_as SymSound e h
  ambiguous_sound s n (some (nonterminal_def (suc k))) y h e = absurd (no≢yes 13 s y e)
  ambiguous_sound s n (some argument_def) y h e = yes_as SymSound e h

  nonterminal_sound : (s : Span) (n : Text) (o : Option Def) (y : Sym) → LeafSound (nonterminal n) → validate_nonterminal G ps s n o ≡ yes y → SymSound y
  nonterminal_sound s n none y h e = absurd (no≢yes 8 s y e)
  nonterminal_sound s n (some terminal_def) y h e = absurd (no≢yes 10 s y e)
  nonterminal_sound s n (some (nonterminal_def zero)) y h e = yes_as SymSound e h
  nonterminal_sound s n (some (nonterminal_def (suc k))) y h e = absurd (no≢yes 10 s y e)
  nonterminal_sound s n (some argument_def) y h e = yes_as SymSound e h

  leaf_sound : (s : Span) (l : Leaf) (y : Sym) → LeafSound l → validate_leaf G ps s l ≡ yes y → SymSound y
  leaf_sound s (ambiguous n) y h e = ambiguous_sound s n (lookup G ps n) y h e
  leaf_sound s (bare n) y h e = yes_as SymSound e h
  leaf_sound s (quoted t) y h e = yes_as SymSound e h
  leaf_sound s (regex t) y h e = yes_as SymSound e h
  leaf_sound s (nonterminal n) y h e = nonterminal_sound s n (lookup G ps n) y h e
  leaf_sound s lookahead y h e = yes_as SymSound e h
  leaf_sound s lookbehind y h e = yes_as SymSound e h
  leaf_sound s error y h e = yes_as SymSound e h

  mutual
    unfolding validate_symbol validate_symbols

    symbol_sound : (x y : Sym) → SymSound x → validate_symbol G ps x ≡ yes y → SymSound y
    symbol_sound (leaf s l) y h e = leaf_sound s l y h e
    symbol_sound (around s a x) y h e = let (z, ez, e1) = after-yes (validate_symbol G ps x) _ y e in yes_as SymSound e1 (h.0, symbol_sound x z h.1 ez)
    symbol_sound (over s o xs) y h e =
        let (u, eu, e1) = after-yes (validate_over G ps s o (count xs)) _ y e in
        let (zs, ez, e2) = after-yes (validate_symbols G ps xs) _ y e1 in
        yes_as SymSound e2 (h.0, symbols_sound xs zs h.1 ez)

    symbols_sound : (xs ys : Syms) → SymsSound xs → validate_symbols G ps xs ≡ yes ys → SymsSound ys
    symbols_sound nil ys h e = yes_as SymsSound e tt
    symbols_sound (cons x xs) ys h e =
        let (z, ez, e1) = after-yes (validate_symbol G ps x) _ ys e in
        let (zs, es, e2) = after-yes (validate_symbols G ps xs) _ ys e1 in
        yes_as SymsSound e2 (symbol_sound x z h.0 ez, symbols_sound xs zs h.1 es)

  alternatives_sound : (as' bs : List Alternative) → Each AlternativeSound as' → validate_alternatives G ps as' ≡ yes bs → Each AlternativeSound bs
  unfolding validate_alternatives
  alternatives_sound [] bs h e = yes_as (Each AlternativeSound) e tt
  alternatives_sound (a ∷ rest) bs h e =
      let (u, eu, e1) = after-yes (check_condition G ps a.condition) _ bs e in
      let (ys, ey, e2) = after-yes (validate_symbols G ps a.symbols) _ bs e1 in
      let (cs, ec, e3) = after-yes (validate_alternatives G ps rest) _ bs e2 in
      yes_as (Each AlternativeSound) e3 (symbols_sound a.symbols ys h.0 ey, alternatives_sound rest cs h.1 ec)

-- ---- items
items_sound : (G : Tree) (is js : List Item) → Each ItemSound is → validate_items G is ≡ yes js → Each ItemSound js
unfolding validate_items
items_sound G [] js h e = yes_as (Each ItemSound) e tt
items_sound G (item d ∷ rest) js h e =
    let (u, eu, e1) = after-yes (validate_macro_args d) _ js e in
    let (bs, eb, e2) = after-yes (validate_alternatives G d.args d.alternatives) _ js e1 in
    let (ks, ek, e3) = after-yes (validate_items G rest) _ js e2 in
    yes_as (Each ItemSound) e3 (alternatives_sound G d.args d.alternatives bs h.0 eb, items_sound G rest ks h.1 ek)
items_sound G (Item.terminal s o t ∷ rest) js h e = let (ks, ek, e1) = after-yes (validate_items G rest) _ js e in yes_as (Each ItemSound) e1 (tt, items_sound G rest ks h.1 ek)

items_heads : (G : Tree) (is js : List Item) → validate_items G is ≡ yes js → heads (without_macros js) ≡ heads (without_macros is)
unfolding validate_items heads
items_heads G [] js e = yes_as (λ (ks : List Item). heads (without_macros ks) ≡ 0) e refl
items_heads G (item d ∷ rest) js e =
    let (u, eu, e1) = after-yes (validate_macro_args d) _ js e in
    let (bs, eb, e2) = after-yes (validate_alternatives G d.args d.alternatives) _ js e1 in
    let (ks, ek, e3) = after-yes (validate_items G rest) _ js e2 in
    yes_as (λ (ls : List Item). heads (without_macros ls) ≡ heads (without_macros (item d ∷ rest))) e3 (go d.args bs ks (alternatives_kept G d.args d.alternatives bs eb) (items_heads G rest ks ek))
  where
    go : (ps : List Text) (bs : List Alternative) (ks : List Item) → length bs ≡ length d.alternatives → heads (without_macros ks) ≡ heads (without_macros rest)
        → heads (elim ps [ [] ↦ item (with_alternatives d bs) ∷ without_macros ks | q ∷ qs ↦ without_macros ks ]) ≡ heads (elim ps [ [] ↦ item d ∷ without_macros rest | q ∷ qs ↦ without_macros rest ])
    go [] bs ks n i = omega (arith, n, i, heads-in bs, heads-in d.alternatives)
    go (q ∷ qs) bs ks n i = i
items_heads G (Item.terminal s o t ∷ rest) js e =
    let (ks, ek, e1) = after-yes (validate_items G rest) _ js e in
    yes_as (λ (ls : List Item). heads (without_macros ls) ≡ heads (without_macros rest)) e1 (items_heads G rest ks ek)

-- theorem: what resolving gives is sound
pub resolve-sound : (G R : Tree) → Each ItemSound G → resolve G ≡ yes R → Each ItemSound R
unfolding resolve
resolve-sound G R h e = let (u, eu, e1) = after-yes (check_globals [] (globals G)) _ R e in items_sound G G R h e1

-- theorem: has the same texts
pub resolve-texts : (G R : Tree) → resolve G ≡ yes R → texts_of_each item_texts R ≡ texts_of_each item_texts G
unfolding resolve
resolve-texts G R e = let (u, eu, e1) = after-yes (check_globals [] (globals G)) _ R e in resolve-keeps G G R e1

-- theorem: and commands as long
pub resolve-heads : (G R : Tree) → resolve G ≡ yes R → heads (without_macros R) ≡ heads (without_macros G)
unfolding resolve
resolve-heads G R e = let (u, eu, e1) = after-yes (check_globals [] (globals G)) _ R e in items_heads G G R e1
