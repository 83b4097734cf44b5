-- One command of a tape, read and written. w is the width of an atom's number in bytes. Assumes nothing: these are definitions.
use Rattle.std.specs.Prelude.{ℕ, ◌+◌, ◌-◌, List, [], ◌∷◌, ◌++◌, length, get_or, leb, ltb, eqb, Option, Some, None}
use Rattle.octets.specs.Working.Choice.{pick}
use Rattle.octets.specs.Plain.Numbers.{le_at, le}
use Rattle.parse_tree.specs.declared.syntax.Span.{Span}
use Rattle.parse_tree.specs.declared.syntax.Leaf.{Leaf}
use Rattle.parse_tree.specs.declared.syntax.Around.{Around}
use Rattle.parse_tree.specs.declared.syntax.Over.{Over}
use Rattle.parse_tree.specs.declared.syntax.SymbolKind.{SymbolKind}
use Rattle.parse_tree.specs.declared.syntax.Node.{Node}
use Rattle.parse_tree.specs.declared.syntax.NonterminalData.{NonterminalData}
use Rattle.parse_tree.specs.declared.syntax.Alternative.{Alternative}
use Rattle.parse_tree.specs.declared.syntax.Attribute.{Attribute}

-- ---- to bytes

-- `s e` is a span, two 32-bit numbers
unfoldable pub span_bytes : Span → List ℕ
span_bytes s = le 4 s.0 ++ le 4 s.1

-- 20 to 24 and 2a to 2c: the code, and what stands behind the span
unfoldable pub leaf_code : Leaf → ℕ
leaf_code (Leaf.AmbiguousId a) = 32
leaf_code (Leaf.Bare n) = 33
leaf_code (Leaf.Quoted a) = 34
leaf_code (Leaf.Regex a) = 35
leaf_code (Leaf.Nonterminal n) = 36
leaf_code Leaf.Lookahead = 42
leaf_code Leaf.Lookbehind = 43
leaf_code Leaf.Error = 44

unfoldable pub leaf_operand : ℕ → Leaf → List ℕ
leaf_operand w (Leaf.AmbiguousId a) = le w a.0
leaf_operand w (Leaf.Bare n) = le w n.0
leaf_operand w (Leaf.Quoted a) = le w a.0
leaf_operand w (Leaf.Regex a) = le w a.0
leaf_operand w (Leaf.Nonterminal n) = le w n.0
leaf_operand w Leaf.Lookahead = []
leaf_operand w Leaf.Lookbehind = []
leaf_operand w Leaf.Error = []

-- 26 op8, 27, 28 mut8 name16; 25 name16 n8, 29 n16
unfoldable pub symbol_bytes : ℕ → Span → SymbolKind → List ℕ
symbol_bytes w s (SymbolKind.Leaf l) = leaf_code l ∷ (span_bytes s ++ leaf_operand w l)
symbol_bytes w s (SymbolKind.Around (Around.Repeat op)) = 38 ∷ (span_bytes s ++ (op ∷ []))
symbol_bytes w s (SymbolKind.Around Around.Choose) = 39 ∷ span_bytes s
symbol_bytes w s (SymbolKind.Around (Around.Name m n)) = 40 ∷ (span_bytes s ++ (m ∷ le w n.0))
symbol_bytes w s (SymbolKind.Over (Over.Macro n k)) = 37 ∷ (span_bytes s ++ (le w n.0 ++ (k ∷ [])))
symbol_bytes w s (SymbolKind.Over (Over.Group k)) = 41 ∷ (span_bytes s ++ le 2 k)

-- a whole command; the bytes of an atom's text stand behind its own
unfoldable pub node_bytes : ℕ → Node → List ℕ
node_bytes w (Node.Text n) = 1 ∷ le 2 n
node_bytes w (Node.Nonterminal d) = 16 ∷ (span_bytes d.span ++ (le w d.name.0 ++ (d.flags ∷ d.args ∷ le 2 d.alternatives)))
node_bytes w (Node.Terminal t) = t.source ∷ (span_bytes t.span ++ le w t.name.0)
node_bytes w (Node.Argument n) = 17 ∷ le w n.0
node_bytes w (Node.Alternative a) = 18 ∷ (span_bytes a.span ++ (a.attributes ∷ a.conditions ∷ a.action ∷ (le w a.text.0 ++ le 2 a.symbols)))
node_bytes w (Node.Attribute a) = 19 ∷ (le w a.id.0 ++ (a.kind ∷ (le w a.key.0 ++ le w a.value.0)))
node_bytes w (Node.Condition c) = 20 ∷ (span_bytes c.span ++ (le w c.lhs.0 ++ (c.op ∷ le w c.rhs.0)))
node_bytes w (Node.Symbol s k) = symbol_bytes w s k

-- how many bytes a command has
unfoldable pub size_of : ℕ → Node → ℕ
size_of w n = length (node_bytes w n)

-- the same by its code, for the commands of an alternative; 9 for a code that none of them has
unfoldable pub long_of : ℕ → ℕ → ℕ
long_of w c =
    pick (eqb c 18) (14 + w)
    (pick (eqb c 19) (2 + w + w + w)
    (pick (eqb c 20) (10 + w + w)
    (pick (eqb c 32) (9 + w)
    (pick (eqb c 33) (9 + w)
    (pick (eqb c 34) (9 + w)
    (pick (eqb c 35) (9 + w)
    (pick (eqb c 36) (9 + w)
    (pick (eqb c 37) (10 + w)
    (pick (eqb c 38) 10
    (pick (eqb c 40) (10 + w)
    (pick (eqb c 41) 11 9)))))))))))

-- the same for all commands, an atom aside; 9 for a code that no command has
unfoldable pub code_size : ℕ → ℕ → ℕ
code_size w c =
    pick (eqb c 16) (13 + w)
    (pick (eqb c 17) (1 + w)
    (pick (eqb c 48) (9 + w)
    (pick (eqb c 49) (9 + w)
    (long_of w c))))

-- ---- from bytes

-- a command of n bytes, if it is whole
unfoldable pub if_whole : List ℕ → ℕ → ℕ → Node → Option Node
if_whole s at n x = pick (ltb (length s - at) n) None (Some x)

unfoldable pub span_in : List ℕ → ℕ → Span
span_in s at = record { 0 = le_at 4 s at; 1 = le_at 4 s (at + 4) }

-- 20 to 24, by the code
unfoldable pub named_leaf : ℕ → ℕ → Leaf
named_leaf c a =
    pick (eqb c 32) (Leaf.AmbiguousId (record { 0 = a }))
    (pick (eqb c 33) (Leaf.Bare (record { 0 = a }))
    (pick (eqb c 34) (Leaf.Quoted (record { 0 = a }))
    (pick (eqb c 35) (Leaf.Regex (record { 0 = a }))
    (Leaf.Nonterminal (record { 0 = a })))))

-- 2a, 2b, 2c
unfoldable pub word_leaf : ℕ → Leaf
word_leaf c = pick (eqb c 42) Leaf.Lookahead (pick (eqb c 43) Leaf.Lookbehind Leaf.Error)

-- a symbol whose code is c, from 20 to 2c
unfoldable pub symbol_node_at : ℕ → ℕ → List ℕ → ℕ → Option Node
symbol_node_at w c s at =
    pick (ltb c 37) (if_whole s at (9 + w) (Node.Symbol (span_in s (at + 1)) (SymbolKind.Leaf (named_leaf c (le_at w s (at + 9))))))
    (pick (eqb c 37) (if_whole s at (10 + w) (Node.Symbol (span_in s (at + 1)) (SymbolKind.Over (Over.Macro (record { 0 = le_at w s (at + 9) }) (get_or s (at + 9 + w) 0)))))
    (pick (eqb c 38) (if_whole s at 10 (Node.Symbol (span_in s (at + 1)) (SymbolKind.Around (Around.Repeat (get_or s (at + 9) 0)))))
    (pick (eqb c 39) (if_whole s at 9 (Node.Symbol (span_in s (at + 1)) (SymbolKind.Around Around.Choose)))
    (pick (eqb c 40) (if_whole s at (10 + w) (Node.Symbol (span_in s (at + 1)) (SymbolKind.Around (Around.Name (get_or s (at + 9) 0) (record { 0 = le_at w s (at + 10) })))))
    (pick (eqb c 41) (if_whole s at 11 (Node.Symbol (span_in s (at + 1)) (SymbolKind.Over (Over.Group (le_at 2 s (at + 9))))))
    (if_whole s at 9 (Node.Symbol (span_in s (at + 1)) (SymbolKind.Leaf (word_leaf c)))))))))

-- 01 n16, whole with its n bytes
unfoldable pub text_node : List ℕ → ℕ → Option Node
text_node s at = pick (ltb (length s - at) 3) None (if_whole s at (3 + le_at 2 s (at + 1)) (Node.Text (le_at 2 s (at + 1))))

-- the nonterminal that the bytes at a place say
abbrev pub nonterminal_here : ℕ → List ℕ → ℕ → NonterminalData
nonterminal_here w s at = record {
  span = span_in s (at + 1);
  name = record { 0 = le_at w s (at + 9) };
  flags = get_or s (at + 9 + w) 0;
  args = get_or s (at + 10 + w) 0;
  alternatives = le_at 2 s (at + 11 + w);
}

-- 10
unfoldable pub nonterminal_node_at : ℕ → List ℕ → ℕ → Option Node
nonterminal_node_at w s at = if_whole s at (13 + w) (Node.Nonterminal (nonterminal_here w s at))

-- 30, 31
unfoldable pub terminal_node_at : ℕ → ℕ → List ℕ → ℕ → Option Node
terminal_node_at w c s at = if_whole s at (9 + w) (Node.Terminal (record { span = span_in s (at + 1); name = record { 0 = le_at w s (at + 9) }; source = c }))

-- 11
unfoldable pub argument_node_at : ℕ → List ℕ → ℕ → Option Node
argument_node_at w s at = if_whole s at (1 + w) (Node.Argument (record { 0 = le_at w s (at + 1) }))

-- the alternative that the bytes at a place say
abbrev pub alternative_here : ℕ → List ℕ → ℕ → Alternative
alternative_here w s at = record {
  span = span_in s (at + 1);
  attributes = get_or s (at + 9) 0;
  conditions = get_or s (at + 10) 0;
  action = get_or s (at + 11) 0;
  text = record { 0 = le_at w s (at + 12) };
  symbols = le_at 2 s (at + 12 + w);
}

-- 12
unfoldable pub alternative_node_at : ℕ → List ℕ → ℕ → Option Node
alternative_node_at w s at = if_whole s at (14 + w) (Node.Alternative (alternative_here w s at))

-- the attribute that the bytes at a place say
abbrev pub attribute_here : ℕ → List ℕ → ℕ → Attribute
attribute_here w s at = record {
  id = record { 0 = le_at w s (at + 1) };
  kind = get_or s (at + 1 + w) 0;
  key = record { 0 = le_at w s (at + 2 + w) };
  value = record { 0 = le_at w s (at + 2 + w + w) };
}

-- 13
unfoldable pub attribute_node_at : ℕ → List ℕ → ℕ → Option Node
attribute_node_at w s at = if_whole s at (2 + w + w + w) (Node.Attribute (attribute_here w s at))

-- 14
unfoldable pub condition_node_at : ℕ → List ℕ → ℕ → Option Node
condition_node_at w s at = if_whole s at (10 + w + w) (Node.Condition (record {
  span = span_in s (at + 1);
  lhs = record { 0 = le_at w s (at + 9) };
  op = get_or s (at + 9 + w) 0;
  rhs = record { 0 = le_at w s (at + 10 + w) };
}))

-- the command whose code is c
unfoldable pub node_by : ℕ → ℕ → List ℕ → ℕ → Option Node
node_by w c s at =
    pick (ltb c 32)
    (pick (eqb c 1) (text_node s at)
    (pick (eqb c 16) (nonterminal_node_at w s at)
    (pick (eqb c 17) (argument_node_at w s at)
    (pick (eqb c 18) (alternative_node_at w s at)
    (pick (eqb c 19) (attribute_node_at w s at)
    (pick (eqb c 20) (condition_node_at w s at) None))))))
    (pick (ltb c 45) (symbol_node_at w c s at)
    (pick (eqb c 48) (terminal_node_at w c s at)
    (pick (eqb c 49) (terminal_node_at w c s at) None)))

-- the command at a place: None where there is none that is known and whole
unfoldable pub node_at : ℕ → List ℕ → ℕ → Option Node
node_at w s at = pick (leb (length s) at) None (node_by w (get_or s at 0) s at)

-- how many bytes what was read has: 0 where there is no command
abbrev pub size_read : ℕ → Option Node → ℕ
size_read w None = 0
size_read w (Some n) = size_of w n
