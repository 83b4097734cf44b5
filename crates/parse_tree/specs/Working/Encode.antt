-- From a tree to its tape. w is the width of an atom's number in bytes. Assumes nothing: these are definitions.
use Rattle.std.specs.Prelude.{ℕ, ◌+◌, List, [], ◌++◌, length}
use Rattle.std.proofs.Math.Option.{none, some}
use Rattle.octets.specs.Working.Choice.{pick}
use Rattle.parse_tree.specs.Plain.Tree.{Text, Leaf, Around, Over, Sym, Syms, Action, Attribute, Condition, Alternative, Nonterminal, Source, Item, Stage, ambiguous, bare, quoted, regex, nonterminal, lookahead, lookbehind, error, repeat, choose, name, macro, group, leaf, around, over, nil, cons, no_action, user, fallible, lookahead_action, lookbehind_action, extern, match, item, terminal, count, conditions}
use Rattle.parse_tree.specs.Plain.Texts.{number}
use Rattle.parse_tree.specs.Plain.References.{stage_of}
use Rattle.parse_tree.specs.Plain.WriteTape.{bytes_of_each, bit, op_code}
use Rattle.parse_tree.specs.Working.Nodes.{node_bytes}
use Rattle.parse_tree.specs.declared.syntax.Leaf.{Leaf as LeafNode}
use Rattle.parse_tree.specs.declared.syntax.Around.{Around as AroundNode}
use Rattle.parse_tree.specs.declared.syntax.Over.{Over as OverNode}
use Rattle.parse_tree.specs.declared.syntax.SymbolKind.{SymbolKind}
use Rattle.parse_tree.specs.declared.syntax.Node.{Node}

-- 01 n16, n bytes
unfoldable pub atom_bytes : ℕ → Text → List ℕ
atom_bytes w t = node_bytes w (Node.Text (length t)) ++ t

abbrev pub action_code : Action → ℕ
action_code no_action = 0
action_code (user t) = 1
action_code (fallible t) = 2
action_code lookahead_action = 3
action_code lookbehind_action = 4

abbrev pub source_code : Source → ℕ
source_code extern = 48
source_code match = 49

-- ---- commands: ts are the atoms
module _ (ts : List Text) where
  unfoldable pub leaf_node : Leaf → LeafNode
  leaf_node (ambiguous x) = LeafNode.AmbiguousId (record { 0 = number ts x })
  leaf_node (bare x) = LeafNode.Bare (record { 0 = number ts x })
  leaf_node (quoted x) = LeafNode.Quoted (record { 0 = number ts x })
  leaf_node (regex x) = LeafNode.Regex (record { 0 = number ts x })
  leaf_node (nonterminal x) = LeafNode.Nonterminal (record { 0 = number ts x })
  leaf_node lookahead = LeafNode.Lookahead
  leaf_node lookbehind = LeafNode.Lookbehind
  leaf_node error = LeafNode.Error

  unfoldable pub around_node : Around → AroundNode
  around_node (repeat o) = AroundNode.Repeat (op_code o)
  around_node choose = AroundNode.Choose
  around_node (name m x) = AroundNode.Name (bit m) (record { 0 = number ts x })

  -- n symbols stand inside
  unfoldable pub over_node : Over → ℕ → OverNode
  over_node (macro x) n = OverNode.Macro (record { 0 = number ts x }) n
  over_node group n = OverNode.Group n

  unfoldable pub action_text : Action → ℕ
  action_text no_action = 0
  action_text (user t) = number ts t
  action_text (fallible t) = number ts t
  action_text lookahead_action = 0
  action_text lookbehind_action = 0

  unfoldable pub alternative_node : Alternative → Node
  alternative_node a = Node.Alternative (record {
    span = a.span;
    attributes = length a.attributes;
    conditions = length (conditions a.condition);
    action = action_code a.action;
    text = record { 0 = action_text a.action };
    symbols = count a.symbols;
  })

  unfoldable pub attribute_node : Attribute → Node
  attribute_node a = elim a.argument [
    | none ↦ Node.Attribute (record { id = record { 0 = number ts a.id }; kind = 0; key = record { 0 = 0 }; value = record { 0 = 0 } })
    | some kv ↦ Node.Attribute (record { id = record { 0 = number ts a.id }; kind = 1; key = record { 0 = number ts kv.0 }; value = record { 0 = number ts kv.1 } })
  ]

  unfoldable pub condition_node : Condition → Node
  condition_node c = Node.Condition (record { span = c.span; lhs = record { 0 = number ts c.lhs }; op = pick c.equal 0 1; rhs = record { 0 = number ts c.rhs } })

  unfoldable pub nonterminal_node : Nonterminal → Node
  nonterminal_node d = Node.Nonterminal (record {
    span = d.span;
    name = record { 0 = number ts d.name };
    flags = bit d.inline + (bit d.public + bit d.public);
    args = length d.args;
    alternatives = length d.alternatives;
  })

-- ---- bytes
module _ (w : ℕ) (ts : List Text) where
  unfoldable mutual
    pub sym_bytes : Sym → List ℕ
    sym_bytes (leaf s l) = node_bytes w (Node.Symbol s (SymbolKind.Leaf (leaf_node ts l)))
    sym_bytes (around s a x) = node_bytes w (Node.Symbol s (SymbolKind.Around (around_node ts a))) ++ sym_bytes x
    sym_bytes (over s o xs) = node_bytes w (Node.Symbol s (SymbolKind.Over (over_node ts o (count xs)))) ++ syms_bytes xs

    pub syms_bytes : Syms → List ℕ
    syms_bytes nil = []
    syms_bytes (cons x xs) = sym_bytes x ++ syms_bytes xs

  unfoldable pub argument_bytes : Text → List ℕ
  argument_bytes x = node_bytes w (Node.Argument (record { 0 = number ts x }))

  unfoldable pub attribute_bytes : Attribute → List ℕ
  attribute_bytes a = node_bytes w (attribute_node ts a)

  unfoldable pub condition_bytes : Condition → List ℕ
  condition_bytes c = node_bytes w (condition_node ts c)

  unfoldable pub alternative_bytes : Alternative → List ℕ
  alternative_bytes a =
      node_bytes w (alternative_node ts a)
      ++ (bytes_of_each attribute_bytes a.attributes ++ (bytes_of_each condition_bytes (conditions a.condition) ++ syms_bytes a.symbols))

  unfoldable pub item_bytes : Item → List ℕ
  item_bytes (item d) = node_bytes w (nonterminal_node ts d) ++ (bytes_of_each argument_bytes d.args ++ bytes_of_each alternative_bytes d.alternatives)
  item_bytes (terminal s o x) = node_bytes w (Node.Terminal (record { span = s; name = record { 0 = number ts x }; source = source_code o }))

-- the tape of a stage whose atoms hold all its texts
unfoldable pub stage_bytes : ℕ → Stage → List ℕ
stage_bytes w g = bytes_of_each (atom_bytes w) g.atoms ++ bytes_of_each (item_bytes w g.atoms) g.items

-- the tape of a tree: atoms and items
unfoldable pub encode : ℕ → List Text → List Item → List ℕ
encode w ts items = stage_bytes w (stage_of ts items)
