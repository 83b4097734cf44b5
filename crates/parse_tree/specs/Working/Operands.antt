-- A command's operands in the tree: texts stand where the tape has the numbers of atoms. Assumes nothing: these are definitions.
use Rattle.std.specs.Prelude.{ℕ, true, List, [], get_or, leb, eqb}
use Rattle.std.proofs.Math.Option.{Option, none, some}
use Rattle.octets.specs.Working.Choice.{pick}
use Rattle.parse_tree.specs.Plain.Tree.{Text, Op, Leaf, Around, Over, Syms, Action, Attribute, Condition, Alternative, Nonterminal, Source, Item, star, plus, question}
use Rattle.parse_tree.specs.declared.syntax.Leaf.{Leaf as LeafNode}
use Rattle.parse_tree.specs.declared.syntax.Around.{Around as AroundNode}
use Rattle.parse_tree.specs.declared.syntax.Over.{Over as OverNode}
use Rattle.parse_tree.specs.declared.syntax.NonterminalData.{NonterminalData}
use Rattle.parse_tree.specs.declared.syntax.TerminalData.{TerminalData}
use Rattle.parse_tree.specs.declared.syntax.Alternative.{Alternative as AlternativeNode}
use Rattle.parse_tree.specs.declared.syntax.Attribute.{Attribute as AttributeNode}
use Rattle.parse_tree.specs.declared.syntax.Condition.{Condition as ConditionNode}
use Rattle.parse_tree.specs.declared.syntax.SymbolKind.{SymbolKind}
use Rattle.parse_tree.specs.declared.syntax.Node.{Node}

-- "0 `*`, 1 `+`, 2 `?`"
unfoldable pub op_from : ℕ → Op
op_from k = pick (eqb k 0) star (pick (eqb k 1) plus question)

-- how many symbols stand inside
unfoldable pub inside_of : OverNode → ℕ
inside_of (OverNode.Macro a k) = k
inside_of (OverNode.Group k) = k

-- and inside any symbol, and any command
abbrev pub inside_kind : SymbolKind → ℕ
inside_kind (SymbolKind.Leaf l) = 0
inside_kind (SymbolKind.Around a) = 1
inside_kind (SymbolKind.Over o) = inside_of o

unfoldable pub inside : Node → ℕ
inside (Node.Text n) = 0
inside (Node.Nonterminal d) = 0
inside (Node.Terminal t) = 0
inside (Node.Argument n) = 0
inside (Node.Alternative a) = 0
inside (Node.Attribute a) = 0
inside (Node.Condition c) = 0
inside (Node.Symbol s k) = inside_kind k

-- ts are the atoms
module _ (ts : List Text) where
  abbrev pub text_of : ℕ → Text
  text_of k = get_or ts k []

  unfoldable pub leaf_of : LeafNode → Leaf
  leaf_of (LeafNode.AmbiguousId a) = Leaf.ambiguous (text_of a.0)
  leaf_of (LeafNode.Bare a) = Leaf.bare (text_of a.0)
  leaf_of (LeafNode.Quoted a) = Leaf.quoted (text_of a.0)
  leaf_of (LeafNode.Regex a) = Leaf.regex (text_of a.0)
  leaf_of (LeafNode.Nonterminal a) = Leaf.nonterminal (text_of a.0)
  leaf_of LeafNode.Lookahead = Leaf.lookahead
  leaf_of LeafNode.Lookbehind = Leaf.lookbehind
  leaf_of LeafNode.Error = Leaf.error

  unfoldable pub around_of : AroundNode → Around
  around_of (AroundNode.Repeat op) = Around.repeat (op_from op)
  around_of AroundNode.Choose = Around.choose
  around_of (AroundNode.Name m a) = Around.name (eqb m 1) (text_of a.0)

  unfoldable pub over_of : OverNode → Over
  over_of (OverNode.Macro a k) = Over.macro (text_of a.0)
  over_of (OverNode.Group k) = Over.group

  -- "0 none, 1 User, 2 Fallible, 3 Lookahead, 4 Lookbehind"
  unfoldable pub action_from : ℕ → ℕ → Action
  action_from act k =
      pick (eqb act 0) Action.no_action
      (pick (eqb act 1) (Action.user (text_of k))
      (pick (eqb act 2) (Action.fallible (text_of k))
      (pick (eqb act 3) Action.lookahead_action Action.lookbehind_action)))

  -- "kind 1 is an argument that `get_arg_equal` answers, kind 0 one where it answers nothing"
  unfoldable pub attribute_of : AttributeNode → Attribute
  attribute_of a = record { id = text_of a.id.0; argument = pick (eqb a.kind 1) (some (text_of a.key.0, text_of a.value.0)) none }

  -- "0 equals, 1 not equals"
  unfoldable pub condition_of : ConditionNode → Condition
  condition_of c = record { span = c.span; lhs = text_of c.lhs.0; equal = eqb c.op 0; rhs = text_of c.rhs.0 }

  unfoldable pub alternative_of : AlternativeNode → List Attribute → Option Condition → Syms → Alternative
  alternative_of a attrs cond syms = record { span = a.span; attributes = attrs; condition = cond; action = action_from a.action a.text.0; symbols = syms }

  -- "flags 1 inline, 2 pub, added together"
  unfoldable pub nonterminal_of : NonterminalData → List Text → List Alternative → Nonterminal
  nonterminal_of d args alts = record {
    span = d.span;
    name = text_of d.name.0;
    inline = pick (eqb d.flags 1) true (eqb d.flags 3);
    public = leb 2 d.flags;
    args = args;
    alternatives = alts;
  }

  -- 30 extern, 31 match
  unfoldable pub terminal_of : TerminalData → Item
  terminal_of t = Item.terminal t.span (pick (eqb t.source 48) Source.extern Source.match) (text_of t.name.0)
