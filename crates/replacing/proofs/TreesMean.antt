-- Replacing is renaming and entering: prints stay, and the state changes by the symbols that are expanded, inner ones first. Assumes nothing.
use mathlib.Core.Path.{◌≡◌, refl, sym, ap, ◌∙◌}
use mathlib.Core.Bool.{Bool, true, false, cond, false≢true}
use mathlib.Core.List.{List, [], ◌∷◌, ◌++◌, map, append-nil}
use Rattle.parse_tree.specs.Plain.Tree.{Text, Leaf, Around, Sym, Syms, ambiguous, bare, quoted, regex, nonterminal, lookahead, lookbehind, error, repeat, choose, name, leaf, around, over, nil, cons, Alternative, Item, item}
use Rattle.parse_tree.specs.Plain.Texts.{has}
use Rattle.parse_tree.specs.Plain.Display.{shown_leaf, shown_before, shown_behind, opening, separator, closing, shown, shown_all, shown_more, print}
use Rattle.parse_tree.specs.declared.syntax.Span.{Span}
use Rattle.passes.specs.Outcome.{with_symbols, with_alternatives}
use Rattle.passes.specs.Macros.{listing, symbol_of, span_of, MacroExpander, push, replace_around, replace_symbol, replace_symbols, replace_alternatives, replace_items}
use Rattle.parse_tree.specs.Working.Within.{Each}
use Rattle.parse_tree.proofs.ReadingLaws.{each_append}
use Rattle.parse_tree.proofs.DisplayLaws.{print-then}
use Rattle.replacing.specs.Trees.{keyed, renamed_leaf, renamed_around, renamed, renamed_all, inner, is_key, own_leaf, own_around, expanded, expanded_all, enter, enter_all, renamed_alternatives, expanded_alternatives, renamed_item, expanded_item, renamed_items, expanded_items}

-- ---- printing is unchanged by replacing

-- the name of a print, shown, is the print
keyed-shown : (s : Span) (x : Sym) (r : Text) → shown (keyed s x) r ≡ shown x r
unfolding shown shown_leaf
keyed-shown s x r = print-then x r

leaf_shown : (s : Span) (l : Leaf) (r : Text) → shown (renamed_leaf s l) r ≡ shown (leaf s l) r
leaf_shown s (ambiguous n) r = refl
leaf_shown s (bare n) r = refl
leaf_shown s (quoted t) r = refl
leaf_shown s (regex t) r = refl
leaf_shown s (nonterminal n) r = refl
leaf_shown s lookahead r = keyed-shown s (leaf s lookahead) r
leaf_shown s lookbehind r = keyed-shown s (leaf s lookbehind) r
leaf_shown s error r = refl

around_shown : (s : Span) (a : Around) (x y : Sym) → ((r : Text) → shown y r ≡ shown x r) → (r : Text) → shown (renamed_around s a x y) r ≡ shown (around s a x) r
unfolding shown
around_shown s (repeat o) x y h r = keyed-shown s (around s (repeat o) x) r
around_shown s choose x y h r = ap (shown_before choose) (h (shown_behind choose r))
around_shown s (name m n) x y h r = ap (shown_before (name m n)) (h (shown_behind (name m n) r))

mutual
  unfolding renamed shown

  pub renamed_shown : (x : Sym) (r : Text) → shown (renamed x) r ≡ shown x r
  renamed_shown (leaf s l) r = leaf_shown s l r
  renamed_shown (around s a x) r = around_shown s a x (renamed x) (renamed_shown x) r
  renamed_shown (over s o xs) r = keyed-shown s (over s o xs) r

  pub renamed_shown_all : (xs : Syms) (sep r : Text) → shown_all (renamed_all xs) sep r ≡ shown_all xs sep r
  renamed_shown_all nil sep r = refl
  renamed_shown_all (cons x xs) sep r = renamed_shown x (shown_more (renamed_all xs) sep r) ∙ ap (shown x) (renamed_shown_more xs sep r)

  pub renamed_shown_more : (xs : Syms) (sep r : Text) → shown_more (renamed_all xs) sep r ≡ shown_more xs sep r
  renamed_shown_more nil sep r = refl
  renamed_shown_more (cons x xs) sep r = ap (sep ++◌) (renamed_shown x (shown_more (renamed_all xs) sep r) ∙ ap (shown x) (renamed_shown_more xs sep r))

pub print-inner : (x : Sym) → is_key x ≡ true → print (symbol_of (inner x)) ≡ print x
unfolding print inner shown
print-inner (leaf s (ambiguous n)) k = absurd (false≢true k)
print-inner (leaf s (bare n)) k = absurd (false≢true k)
print-inner (leaf s (quoted t)) k = absurd (false≢true k)
print-inner (leaf s (regex t)) k = absurd (false≢true k)
print-inner (leaf s (nonterminal n)) k = absurd (false≢true k)
print-inner (leaf s lookahead) k = refl
print-inner (leaf s lookbehind) k = refl
print-inner (leaf s error) k = absurd (false≢true k)
print-inner (around s (repeat o) x) k = ap (shown_before (repeat o)) (renamed_shown x (shown_behind (repeat o) []))
print-inner (around s choose x) k = absurd (false≢true k)
print-inner (around s (name m n) x) k = absurd (false≢true k)
print-inner (over s o xs) k = ap (opening o) (renamed_shown_all xs (separator o) (closing o ∷ []))

-- ---- entering
pub enter-append : (xs ys : List Sym) (σ : MacroExpander) → enter_all (xs ++ ys) σ ≡ enter_all ys (enter_all xs σ)
unfolding enter_all
enter-append [] ys σ = refl
enter-append (x ∷ xs) ys σ = enter-append xs ys (enter x σ)

push-inner : (x : Sym) (σ : MacroExpander) → is_key x ≡ true → push (inner x) σ ≡ (keyed (span_of (inner x)) x, enter x σ)
unfolding push enter
push-inner x σ k = rw (print-inner x k) refl

-- a symbol that is expanded, behind what was entered before
later : (x : Sym) (xs : List Sym) (σ : MacroExpander) → is_key x ≡ true → push (inner x) (enter_all xs σ) ≡ (keyed (span_of (inner x)) x, enter_all (xs ++ (x ∷ [])) σ)
unfolding enter_all
later x xs σ k = push-inner x (enter_all xs σ) k ∙ ap (λ (τ : MacroExpander). (keyed (span_of (inner x)) x, τ)) (sym (enter-append xs (x ∷ []) σ))

leaf_is : (s : Span) (l : Leaf) (σ : MacroExpander) → replace_symbol (leaf s l) σ ≡ (renamed_leaf s l, enter_all (own_leaf s l) σ)
unfolding replace_symbol enter_all inner
leaf_is s (ambiguous n) σ = refl
leaf_is s (bare n) σ = refl
leaf_is s (quoted t) σ = refl
leaf_is s (regex t) σ = refl
leaf_is s (nonterminal n) σ = refl
leaf_is s lookahead σ = push-inner (leaf s lookahead) σ refl
leaf_is s lookbehind σ = push-inner (leaf s lookbehind) σ refl
leaf_is s error σ = refl

around_is : (s : Span) (a : Around) (x : Sym) (xs : List Sym) (σ : MacroExpander)
    → replace_around s a (renamed x, enter_all xs σ) ≡ (renamed_around s a x (renamed x), enter_all (xs ++ own_around s a x) σ)
unfolding inner
around_is s (repeat o) x xs σ = later (around s (repeat o) x) xs σ refl
around_is s choose x xs σ = rw (append-nil xs) refl
around_is s (name m n) x xs σ = rw (append-nil xs) refl

mutual
  unfolding replace_symbol replace_symbols renamed renamed_all expanded expanded_all enter_all inner

  pub replace_is : (x : Sym) (σ : MacroExpander) → replace_symbol x σ ≡ (renamed x, enter_all (expanded x) σ)
  replace_is (leaf s l) σ = leaf_is s l σ
  replace_is (around s a x) σ = ap (replace_around s a) (replace_is x σ) ∙ around_is s a x (expanded x) σ
  replace_is (over s o xs) σ = ap (λ (q : Syms × MacroExpander). push (listing s o q.0) q.1) (replace_all_is xs σ) ∙ later (over s o xs) (expanded_all xs) σ refl

  pub replace_all_is : (xs : Syms) (σ : MacroExpander) → replace_symbols xs σ ≡ (renamed_all xs, enter_all (expanded_all xs) σ)
  replace_all_is nil σ = refl
  replace_all_is (cons x xs) σ =
      let τ = enter_all (expanded x) σ in
      ap (λ (q : Sym × MacroExpander). let r = replace_symbols xs q.1 in (cons q.0 r.0, r.1)) (replace_is x σ)
      ∙ ap (λ (r : Syms × MacroExpander). (cons (renamed x) r.0, r.1)) (replace_all_is xs τ)
      ∙ ap (λ (u : MacroExpander). (cons (renamed x) (renamed_all xs), u)) (sym (enter-append (expanded x) (expanded_all xs) σ))

pub replace_alternatives_is : (as' : List Alternative) (σ : MacroExpander) → replace_alternatives as' σ ≡ (renamed_alternatives as', enter_all (expanded_alternatives as') σ)
unfolding replace_alternatives renamed_alternatives expanded_alternatives enter_all
replace_alternatives_is [] σ = refl
replace_alternatives_is (a ∷ rest) σ =
    let τ = enter_all (expanded_all a.symbols) σ in
    ap (λ (q : Syms × MacroExpander). let r = replace_alternatives rest q.1 in (with_symbols a q.0 ∷ r.0, r.1)) (replace_all_is a.symbols σ)
    ∙ ap (λ (r : List Alternative × MacroExpander). (with_symbols a (renamed_all a.symbols) ∷ r.0, r.1)) (replace_alternatives_is rest τ)
    ∙ ap (λ (u : MacroExpander). (with_symbols a (renamed_all a.symbols) ∷ renamed_alternatives rest, u)) (sym (enter-append (expanded_all a.symbols) (expanded_alternatives rest) σ))

-- on trees: the items are the items renamed, and the state is changed by their symbols that are expanded, in this order
pub replace_items_is : (is : List Item) (σ : MacroExpander) → replace_items is σ ≡ (renamed_items is, enter_all (expanded_items is) σ)
unfolding replace_items renamed_items expanded_items renamed_item expanded_item enter_all
replace_items_is [] σ = refl
replace_items_is (item d ∷ rest) σ =
    let τ = enter_all (expanded_alternatives d.alternatives) σ in
    ap (λ (q : List Alternative × MacroExpander). let r = replace_items rest q.1 in (item (with_alternatives d q.0) ∷ r.0, r.1)) (replace_alternatives_is d.alternatives σ)
    ∙ ap (λ (r : List Item × MacroExpander). (item (with_alternatives d (renamed_alternatives d.alternatives)) ∷ r.0, r.1)) (replace_items_is rest τ)
    ∙ ap (λ (u : MacroExpander). (item (with_alternatives d (renamed_alternatives d.alternatives)) ∷ renamed_items rest, u)) (sym (enter-append (expanded_alternatives d.alternatives) (expanded_items rest) σ))
replace_items_is (Item.terminal s o t ∷ rest) σ =
    ap (λ (r : List Item × MacroExpander). (Item.terminal s o t ∷ r.0, r.1)) (replace_items_is rest σ)

-- ---- the symbols that are expanded are keys
abbrev pub Keys : List Sym → Type 0
Keys xs = Each (λ x. is_key x ≡ true) xs

leaf_keys_lem : (s : Span) (l : Leaf) → Keys (own_leaf s l)
leaf_keys_lem s (ambiguous n) = tt
leaf_keys_lem s (bare n) = tt
leaf_keys_lem s (quoted t) = tt
leaf_keys_lem s (regex t) = tt
leaf_keys_lem s (nonterminal n) = tt
leaf_keys_lem s lookahead = (refl, tt)
leaf_keys_lem s lookbehind = (refl, tt)
leaf_keys_lem s error = tt

around_keys_lem : (s : Span) (a : Around) (x : Sym) → Keys (own_around s a x)
around_keys_lem s (repeat o) x = (refl, tt)
around_keys_lem s choose x = tt
around_keys_lem s (name m n) x = tt

mutual
  unfolding expanded

  sym_keys : (x : Sym) → Keys (expanded x)
  sym_keys (leaf s l) = leaf_keys_lem s l
  sym_keys (around s a x) = each_append (λ y. is_key y ≡ true) (expanded x) (own_around s a x) (sym_keys x) (around_keys_lem s a x)
  sym_keys (over s o xs) = each_append (λ y. is_key y ≡ true) (expanded_all xs) (over s o xs ∷ []) (syms_keys xs) (refl, tt)

  syms_keys : (xs : Syms) → Keys (expanded_all xs)
  syms_keys nil = tt
  syms_keys (cons x xs) = each_append (λ y. is_key y ≡ true) (expanded x) (expanded_all xs) (sym_keys x) (syms_keys xs)

alternatives_keys : (as' : List Alternative) → Keys (expanded_alternatives as')
unfolding expanded_alternatives
alternatives_keys [] = tt
alternatives_keys (a ∷ rest) = each_append (λ y. is_key y ≡ true) (expanded_all a.symbols) (expanded_alternatives rest) (syms_keys a.symbols) (alternatives_keys rest)

pub items_keys : (is : List Item) → Keys (expanded_items is)
unfolding expanded_items expanded_item
items_keys [] = tt
items_keys (item d ∷ rest) = each_append (λ y. is_key y ≡ true) (expanded_alternatives d.alternatives) (expanded_items rest) (alternatives_keys d.alternatives) (items_keys rest)
items_keys (Item.terminal s o t ∷ rest) = items_keys rest

-- ---- the keys are the prints of the pile before those of the round's start
pub enter-keys : (K : List Text) (xs : List Sym) (σ : MacroExpander) → Keys xs → σ.keys ≡ map (λ p. print (symbol_of p)) σ.pile ++ K
    → (enter_all xs σ).keys ≡ map (λ p. print (symbol_of p)) (enter_all xs σ).pile ++ K
unfolding enter_all enter
enter-keys K [] σ k h = h
enter-keys K (x ∷ xs) σ k h = enter-keys K xs (enter x σ) k.1 (go (has (print x) σ.keys))
  where
    pushed : MacroExpander
    pushed = record { keys = print x ∷ σ.keys; pile = inner x ∷ σ.pile }

    go : (b : Bool) → (cond b σ pushed).keys ≡ map (λ p. print (symbol_of p)) (cond b σ pushed).pile ++ K
    go true = h
    go false = rw (print-inner x k.0, h) refl
