-- A symbol or leaf as one of its kinds, if it is one: so that a definition which asks for one kind need not name the others. Assumes nothing: these are definitions.
use Rattle.std.proofs.Math.Option.{Option, none, some}
use Rattle.parse_tree.specs.Plain.Tree.{Text, Leaf, Sym, ambiguous, bare, quoted, regex, nonterminal, lookahead, lookbehind, error, leaf, around, over}

-- 24
abbrev pub as_nonterminal : Leaf → Option Text
as_nonterminal (ambiguous n) = none
as_nonterminal (bare n) = none
as_nonterminal (quoted t) = none
as_nonterminal (regex t) = none
as_nonterminal (nonterminal n) = some n
as_nonterminal lookahead = none
as_nonterminal lookbehind = none
as_nonterminal error = none

-- 22
abbrev pub as_quoted : Leaf → Option Text
as_quoted (ambiguous n) = none
as_quoted (bare n) = none
as_quoted (quoted t) = some t
as_quoted (regex t) = none
as_quoted (nonterminal n) = none
as_quoted lookahead = none
as_quoted lookbehind = none
as_quoted error = none

-- 2a and 2b
pub data Look : Type 0 where
  ahead behind : Look

abbrev pub as_look : Leaf → Option Look
as_look (ambiguous n) = none
as_look (bare n) = none
as_look (quoted t) = none
as_look (regex t) = none
as_look (nonterminal n) = none
as_look lookahead = some ahead
as_look lookbehind = some behind
as_look error = none

abbrev pub as_leaf : Sym → Option Leaf
as_leaf (leaf s l) = some l
as_leaf (around s a x) = none
as_leaf (over s o xs) = none
