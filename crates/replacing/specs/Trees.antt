-- Replacing without a state: what stands for a symbol, a symbol with its inner symbols replaced, and the symbols to push, inner ones first.
-- Assumes nothing: these are definitions.
use Rattle.std.specs.Prelude.{Bool, true, false, cond, List, [], ◌∷◌, ◌++◌}
use Rattle.std.proofs.Math.Option.{none, some}
use Rattle.parse_tree.specs.Plain.Tree.{Leaf, Around, Sym, Syms, ambiguous, bare, quoted, regex, nonterminal, lookahead, lookbehind, error, repeat, choose, name, leaf, around, over, nil, cons, Alternative, Item, item}
use Rattle.parse_tree.specs.Plain.Texts.{has}
use Rattle.parse_tree.specs.Plain.Display.{print}
use Rattle.parse_tree.specs.declared.syntax.Span.{Span}
use Rattle.passes.specs.Outcome.{with_symbols, with_alternatives}
use Rattle.passes.specs.Views.{ahead, as_look}
use Rattle.passes.specs.Macros.{Pending, looking, repeating, listing, MacroExpander}

-- the nonterminal of a symbol's printed form, at its span
abbrev pub keyed : Span → Sym → Sym
keyed s x = leaf s (nonterminal (print x))

abbrev pub renamed_leaf : Span → Leaf → Sym
renamed_leaf s (ambiguous n) = leaf s (ambiguous n)
renamed_leaf s (bare n) = leaf s (bare n)
renamed_leaf s (quoted t) = leaf s (quoted t)
renamed_leaf s (regex t) = leaf s (regex t)
renamed_leaf s (nonterminal n) = leaf s (nonterminal n)
renamed_leaf s lookahead = keyed s (leaf s lookahead)
renamed_leaf s lookbehind = keyed s (leaf s lookbehind)
renamed_leaf s error = leaf s error

-- x stands inside, y in its place
abbrev pub renamed_around : Span → Around → Sym → Sym → Sym
renamed_around s (repeat o) x y = keyed s (around s (repeat o) x)
renamed_around s choose x y = around s choose y
renamed_around s (name m n) x y = around s (name m n) y

-- what is written for a symbol: the outermost that are expanded give way to the names of their prints, as they stand
unfoldable mutual
  pub renamed : Sym → Sym
  renamed (leaf s l) = renamed_leaf s l
  renamed (around s a x) = renamed_around s a x (renamed x)
  renamed (over s o xs) = keyed s (over s o xs)

  pub renamed_all : Syms → Syms
  renamed_all nil = nil
  renamed_all (cons x xs) = cons (renamed x) (renamed_all xs)

-- a symbol that is expanded, as it is pushed: with its inner symbols replaced. Of another kind none is pushed
abbrev pub inner_around : Span → Around → Sym → Pending
inner_around s (repeat o) x = repeating s o x
inner_around s choose x = looking s ahead
inner_around s (name m n) x = looking s ahead

unfoldable pub inner : Sym → Pending
inner (leaf s l) = looking s (elim (as_look l) [ none ↦ ahead | some k ↦ k ])
inner (around s a x) = inner_around s a (renamed x)
inner (over s o xs) = listing s o (renamed_all xs)

-- whether a symbol is expanded
abbrev pub is_key : Sym → Bool
is_key (leaf s (ambiguous n)) = false
is_key (leaf s (bare n)) = false
is_key (leaf s (quoted t)) = false
is_key (leaf s (regex t)) = false
is_key (leaf s (nonterminal n)) = false
is_key (leaf s lookahead) = true
is_key (leaf s lookbehind) = true
is_key (leaf s error) = false
is_key (around s (repeat o) x) = true
is_key (around s choose x) = false
is_key (around s (name m n) x) = false
is_key (over s o xs) = true

-- ---- the symbols that are expanded, as they stand, inner ones first
abbrev pub own_leaf : Span → Leaf → List Sym
own_leaf s (ambiguous n) = []
own_leaf s (bare n) = []
own_leaf s (quoted t) = []
own_leaf s (regex t) = []
own_leaf s (nonterminal n) = []
own_leaf s lookahead = leaf s lookahead ∷ []
own_leaf s lookbehind = leaf s lookbehind ∷ []
own_leaf s error = []

abbrev pub own_around : Span → Around → Sym → List Sym
own_around s (repeat o) x = around s (repeat o) x ∷ []
own_around s choose x = []
own_around s (name m n) x = []

unfoldable mutual
  pub expanded : Sym → List Sym
  expanded (leaf s l) = own_leaf s l
  expanded (around s a x) = expanded x ++ own_around s a x
  expanded (over s o xs) = expanded_all xs ++ (over s o xs ∷ [])

  pub expanded_all : Syms → List Sym
  expanded_all nil = []
  expanded_all (cons x xs) = expanded x ++ expanded_all xs

-- one of them met: pushed when its print is new
unfoldable pub enter : Sym → MacroExpander → MacroExpander
enter x σ = cond (has (print x) σ.keys) σ (record { keys = print x ∷ σ.keys; pile = inner x ∷ σ.pile })

unfoldable pub enter_all : List Sym → MacroExpander → MacroExpander
enter_all [] σ = σ
enter_all (x ∷ xs) σ = enter_all xs (enter x σ)

-- ---- alternatives and items
unfoldable pub renamed_alternatives : List Alternative → List Alternative
renamed_alternatives [] = []
renamed_alternatives (a ∷ rest) = with_symbols a (renamed_all a.symbols) ∷ renamed_alternatives rest

unfoldable pub expanded_alternatives : List Alternative → List Sym
expanded_alternatives [] = []
expanded_alternatives (a ∷ rest) = expanded_all a.symbols ++ expanded_alternatives rest

unfoldable pub renamed_item : Item → Item
renamed_item (item d) = item (with_alternatives d (renamed_alternatives d.alternatives))
renamed_item (Item.terminal s o t) = Item.terminal s o t

unfoldable pub expanded_item : Item → List Sym
expanded_item (item d) = expanded_alternatives d.alternatives
expanded_item (Item.terminal s o t) = []

unfoldable pub renamed_items : List Item → List Item
renamed_items [] = []
renamed_items (i ∷ rest) = renamed_item i ∷ renamed_items rest

unfoldable pub expanded_items : List Item → List Sym
expanded_items [] = []
expanded_items (i ∷ rest) = expanded_item i ++ expanded_items rest

-- an item that is no definition of a macro
unfoldable pub kept : Item → List Item
kept (item d) = elim d.args [ [] ↦ item d ∷ [] | p ∷ ps ↦ [] ]
kept (Item.terminal s o t) = Item.terminal s o t ∷ []
