-- Questions 3 and 4 of one command. Assumes nothing: these are definitions.
use Rattle.std.specs.Prelude.{ℕ, Bool, true, false, ◌&&◌, List, [], get_or, leb, ltb, eqb, Option, Some, None}
use Rattle.octets.specs.Working.Choice.{pick}
use Rattle.parse_tree.specs.Plain.Tree.{Text}
use Rattle.parse_tree.specs.Plain.Texts.{is_name, is_literal, is_ascii}
use Rattle.parse_tree.specs.declared.syntax.Leaf.{Leaf}
use Rattle.parse_tree.specs.declared.syntax.Around.{Around}
use Rattle.parse_tree.specs.declared.syntax.Over.{Over}
use Rattle.parse_tree.specs.declared.syntax.SymbolKind.{SymbolKind}
use Rattle.parse_tree.specs.declared.syntax.Alternative.{Alternative}
use Rattle.parse_tree.specs.declared.syntax.Attribute.{Attribute}
use Rattle.parse_tree.specs.declared.syntax.Node.{Node}

-- ---- "Is each operand defined, in its values": n atoms are defined

-- act8: User and Fallible have a text
abbrev pub has_text : ℕ → Bool
has_text act = pick (eqb act 1) true (eqb act 2)

unfoldable pub leaf_defined : ℕ → Leaf → Bool
leaf_defined n (Leaf.AmbiguousId a) = ltb a.0 n
leaf_defined n (Leaf.Bare a) = ltb a.0 n
leaf_defined n (Leaf.Quoted a) = ltb a.0 n
leaf_defined n (Leaf.Regex a) = ltb a.0 n
leaf_defined n (Leaf.Nonterminal a) = ltb a.0 n
leaf_defined n Leaf.Lookahead = true
leaf_defined n Leaf.Lookbehind = true
leaf_defined n Leaf.Error = true

unfoldable pub symbol_defined : ℕ → SymbolKind → Bool
symbol_defined n (SymbolKind.Leaf l) = leaf_defined n l
symbol_defined n (SymbolKind.Around (Around.Repeat op)) = leb op 2
symbol_defined n (SymbolKind.Around Around.Choose) = true
symbol_defined n (SymbolKind.Around (Around.Name m a)) = leb m 1 && ltb a.0 n
symbol_defined n (SymbolKind.Over (Over.Macro a k)) = ltb a.0 n && leb 1 k
symbol_defined n (SymbolKind.Over (Over.Group k)) = true

-- "text16 is 0 for 0, 3, 4 and names no atom then"
unfoldable pub alternative_defined : ℕ → Alternative → Bool
alternative_defined n a = leb a.conditions 1 && (leb a.action 4 && pick (has_text a.action) (ltb a.text.0 n) (eqb a.text.0 0))

-- "kind 0 (key and value 0, no atoms)"
unfoldable pub attribute_defined : ℕ → Attribute → Bool
attribute_defined n a =
    ltb a.id.0 n && (leb a.kind 1 && pick (eqb a.kind 1) (ltb a.key.0 n && ltb a.value.0 n) (eqb a.key.0 0 && eqb a.value.0 0))

unfoldable pub defined : ℕ → Node → Bool
defined n (Node.Text k) = true
defined n (Node.Nonterminal d) = ltb d.name.0 n && leb d.flags 3
defined n (Node.Terminal t) = ltb t.name.0 n
defined n (Node.Argument a) = ltb a.0 n
defined n (Node.Alternative a) = alternative_defined n a
defined n (Node.Attribute a) = attribute_defined n a
defined n (Node.Condition c) = ltb c.lhs.0 n && (leb c.op 1 && ltb c.rhs.0 n)
defined n (Node.Symbol s k) = symbol_defined n k

-- of what was read: not where there is no command
abbrev pub defined_read : ℕ → Option Node → Bool
defined_read n (Some x) = defined n x
defined_read n None = false

-- ---- "Does each text suit its use?"

-- the text of atom k, of a class
abbrev pub of_class : (Text → Bool) → List Text → ℕ → Bool
of_class class ts k = class (get_or ts k [])

unfoldable pub leaf_suits : List Text → Leaf → Bool
leaf_suits ts (Leaf.AmbiguousId a) = of_class is_name ts a.0
leaf_suits ts (Leaf.Bare a) = of_class is_name ts a.0
leaf_suits ts (Leaf.Quoted a) = of_class is_literal ts a.0
leaf_suits ts (Leaf.Regex a) = of_class is_literal ts a.0
leaf_suits ts (Leaf.Nonterminal a) = of_class is_name ts a.0
leaf_suits ts Leaf.Lookahead = true
leaf_suits ts Leaf.Lookbehind = true
leaf_suits ts Leaf.Error = true

unfoldable pub symbol_suits : List Text → SymbolKind → Bool
symbol_suits ts (SymbolKind.Leaf l) = leaf_suits ts l
symbol_suits ts (SymbolKind.Around (Around.Repeat op)) = true
symbol_suits ts (SymbolKind.Around Around.Choose) = true
symbol_suits ts (SymbolKind.Around (Around.Name m a)) = of_class is_name ts a.0
symbol_suits ts (SymbolKind.Over (Over.Macro a k)) = of_class is_name ts a.0
symbol_suits ts (SymbolKind.Over (Over.Group k)) = true

unfoldable pub suits : List Text → Node → Bool
suits ts (Node.Text k) = true
suits ts (Node.Nonterminal d) = of_class is_name ts d.name.0
suits ts (Node.Terminal t) = of_class is_name ts t.name.0
suits ts (Node.Argument a) = of_class is_name ts a.0
suits ts (Node.Alternative a) = pick (has_text a.action) (of_class is_ascii ts a.text.0) true
suits ts (Node.Attribute a) = of_class is_name ts a.id.0 && pick (eqb a.kind 1) (of_class is_ascii ts a.key.0 && of_class is_ascii ts a.value.0) true
suits ts (Node.Condition c) = of_class is_name ts c.lhs.0 && of_class is_literal ts c.rhs.0
suits ts (Node.Symbol s k) = symbol_suits ts k

-- of what was read: where there is no command, no text is used
abbrev pub suits_read : List Text → Option Node → Bool
suits_read ts (Some x) = suits ts x
suits_read ts None = true
