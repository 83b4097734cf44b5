-- What is known of a command that was read, and what a command must be to be read back. Assumes nothing: these are definitions.
use mathlib.Core.Path.{◌≡◌}
use mathlib.Core.Logic.{◌⊎◌}
use Prim.Native.Nat.{ℕ, ◌+◌, ◌^◌, ◌<◌, ◌≤◌}
use mathlib.Core.List.{List}
use lib.ListN.{length}
use Rattle.std.specs.Prelude.{Option, Some, None}
use Rattle.octets.specs.Plain.Runs.{Lies}
use Rattle.parse_tree.specs.Working.Nodes.{node_bytes, size_of}
use Rattle.parse_tree.specs.Working.Within.{SpanWithin}
use Rattle.parse_tree.specs.declared.syntax.Leaf.{Leaf}
use Rattle.parse_tree.specs.declared.syntax.Around.{Around}
use Rattle.parse_tree.specs.declared.syntax.Over.{Over}
use Rattle.parse_tree.specs.declared.syntax.SymbolKind.{SymbolKind}
use Rattle.parse_tree.specs.declared.syntax.Node.{Node}

abbrev pub LeafFits : ℕ → Leaf → Type 0
LeafFits w (Leaf.AmbiguousId a) = a.0 < 256 ^ w
LeafFits w (Leaf.Bare a) = a.0 < 256 ^ w
LeafFits w (Leaf.Quoted a) = a.0 < 256 ^ w
LeafFits w (Leaf.Regex a) = a.0 < 256 ^ w
LeafFits w (Leaf.Nonterminal a) = a.0 < 256 ^ w
LeafFits w Leaf.Lookahead = Unit {0}
LeafFits w Leaf.Lookbehind = Unit {0}
LeafFits w Leaf.Error = Unit {0}

abbrev pub KindFits : ℕ → SymbolKind → Type 0
KindFits w (SymbolKind.Leaf l) = LeafFits w l
KindFits w (SymbolKind.Around (Around.Repeat op)) = op < 256
KindFits w (SymbolKind.Around Around.Choose) = Unit {0}
KindFits w (SymbolKind.Around (Around.Name m a)) = (m < 256) × (a.0 < 256 ^ w)
KindFits w (SymbolKind.Over (Over.Macro a k)) = (a.0 < 256 ^ w) × (k < 256)
KindFits w (SymbolKind.Over (Over.Group k)) = k < 65536

-- every operand fits its width
abbrev pub NodeFits : ℕ → Node → Type 0
NodeFits w (Node.Text k) = k < 65536
NodeFits w (Node.Nonterminal d) = SpanWithin d.span × (d.name.0 < 256 ^ w) × (d.flags < 256) × (d.args < 256) × (d.alternatives < 65536)
NodeFits w (Node.Terminal t) = SpanWithin t.span × (t.name.0 < 256 ^ w) × ((t.source ≡ 48) ⊎ (t.source ≡ 49))
NodeFits w (Node.Argument a) = a.0 < 256 ^ w
NodeFits w (Node.Alternative a) = SpanWithin a.span × (a.attributes < 256) × (a.conditions < 256) × (a.action < 256) × (a.text.0 < 256 ^ w) × (a.symbols < 65536)
NodeFits w (Node.Attribute a) = (a.id.0 < 256 ^ w) × (a.kind < 256) × (a.key.0 < 256 ^ w) × (a.value.0 < 256 ^ w)
NodeFits w (Node.Condition c) = SpanWithin c.span × (c.lhs.0 < 256 ^ w) × (c.op < 256) × (c.rhs.0 < 256 ^ w)
NodeFits w (Node.Symbol s k) = SpanWithin s × KindFits w k

-- an atom's text stands behind its command
abbrev pub TextFits : List ℕ → ℕ → Node → Type 0
TextFits s a (Node.Text k) = a + 3 + k ≤ length s
TextFits s a (Node.Nonterminal d) = Unit {0}
TextFits s a (Node.Terminal t) = Unit {0}
TextFits s a (Node.Argument n) = Unit {0}
TextFits s a (Node.Alternative n) = Unit {0}
TextFits s a (Node.Attribute n) = Unit {0}
TextFits s a (Node.Condition c) = Unit {0}
TextFits s a (Node.Symbol sp k) = Unit {0}

-- a command n that lies at a
pub record Stands (w : ℕ) (s : List ℕ) (a : ℕ) (n : Node) : Type 0 where
  pub lies : Lies s a (node_bytes w n) (a + size_of w n)
  pub fits : NodeFits w n
  pub text : TextFits s a n

-- what reading at a says: nothing where no command is known
abbrev pub NodeSays : ℕ → List ℕ → ℕ → Option Node → Type 0
NodeSays w s a None = Unit {0}
NodeSays w s a (Some n) = Stands w s a n
