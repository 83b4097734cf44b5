-- The premises of demand 3, and what no expanded tree has. Assumes nothing: these are definitions.
use Rattle.std.specs.Prelude.{◌≡◌, Bool, true, false}
use mathlib.Core.List.{[], Memᴰ}
use Rattle.parse_tree.specs.Plain.Tree.{Text, Leaf, Around, Sym, Syms, ambiguous, bare, quoted, regex, nonterminal, lookahead, lookbehind, error, repeat, choose, name, leaf, around, over, nil, cons, Alternative, Nonterminal, item}
use Rattle.passes.specs.Outcome.{Tree}
use Rattle.passes.specs.Grades.{annotated}

-- ---- "identifiers are unresolved where no 21 or 24 stands"
abbrev pub UnmarkedLeaf : Leaf → Type 0
UnmarkedLeaf (ambiguous n) = Unit {0}
UnmarkedLeaf (bare n) = ⊥
UnmarkedLeaf (quoted t) = Unit {0}
UnmarkedLeaf (regex t) = Unit {0}
UnmarkedLeaf (nonterminal n) = ⊥
UnmarkedLeaf lookahead = Unit {0}
UnmarkedLeaf lookbehind = Unit {0}
UnmarkedLeaf error = Unit {0}

abbrev mutual
  pub UnmarkedSym : Sym → Type 0
  UnmarkedSym (leaf s l) = UnmarkedLeaf l
  UnmarkedSym (around s a x) = UnmarkedSym x
  UnmarkedSym (over s o xs) = UnmarkedSyms xs

  pub UnmarkedSyms : Syms → Type 0
  UnmarkedSyms nil = Unit {0}
  UnmarkedSyms (cons x xs) = UnmarkedSym x × UnmarkedSyms xs

-- "with every identifier still unresolved and no annotated nonterminal taking arguments": what demand 3 asks of a tape's tree
pub record Unmarked (U : Tree) : Type 0 where
  pub symbols : (d : Nonterminal) → Memᴰ (item d) U → (a : Alternative) → Memᴰ a d.alternatives → UnmarkedSyms a.symbols
  pub no_macro : (d : Nonterminal) → Memᴰ (item d) U → annotated d ≡ true → d.args ≡ []

-- demand 3: "every nonterminal N of G without arguments"
abbrev pub HasItem : Tree → Text → Type 0
HasItem X n = (d : Nonterminal) × Memᴰ (item d) X × (d.name ≡ n) × (d.args ≡ [])

-- ---- no macro call, group, repeat or lookaround is left, and no identifier unresolved
abbrev pub is_flat_leaf : Leaf → Bool
is_flat_leaf (ambiguous n) = false
is_flat_leaf (bare n) = true
is_flat_leaf (quoted t) = true
is_flat_leaf (regex t) = true
is_flat_leaf (nonterminal n) = true
is_flat_leaf lookahead = false
is_flat_leaf lookbehind = false
is_flat_leaf error = true

abbrev pub is_flat_around : Around → Bool → Bool
is_flat_around (repeat o) b = false
is_flat_around choose b = b
is_flat_around (name m n) b = b

abbrev pub is_flat : Sym → Bool
is_flat (leaf s l) = is_flat_leaf l
is_flat (around s a x) = is_flat_around a (is_flat x)
is_flat (over s o xs) = false

abbrev pub FlatSyms : Syms → Type 0
FlatSyms nil = Unit {0}
FlatSyms (cons x xs) = (is_flat x ≡ true) × FlatSyms xs

-- no arguments, and nothing left to expand
pub record Flat (X : Tree) : Type 0 where
  pub plain : (d : Nonterminal) → Memᴰ (item d) X → d.args ≡ []
  pub symbols : (d : Nonterminal) → Memᴰ (item d) X → (a : Alternative) → Memᴰ a d.alternatives → FlatSyms a.symbols
