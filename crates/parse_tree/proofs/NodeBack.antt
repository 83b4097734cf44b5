-- What stands in a tape is read back: where a command's bytes lie, `node_at` gives that command. Assumes nothing.
use mathlib.Core.Path.{◌≡◌, refl, ◌∙◌}
use mathlib.Core.Logic.{◌⊎◌, inl, inr}
use mathlib.Core.List.{List, ◌∷◌, ◌++◌, append-nil}
use Prim.Native.Nat.{ℕ, ◌+◌, ◌-◌, ◌^◌, ◌<◌, ◌≤◌}
use native.Mathlib.Omega.{arith}
use lib.ListN.{length}
use Rattle.std.specs.Prelude.{Some}
use borrow.Author.Tests.{le-ltb, lt-leb}
use Rattle.octets.specs.Working.Choice.{pick}
use Rattle.octets.specs.Plain.Numbers.{le_at, le}
use Rattle.octets.specs.Plain.Runs.{Lies}
use Rattle.octets.proofs.LiesLaws.{lies_first, lies_inside}
use Rattle.parse_tree.specs.Working.Nodes.{leaf_code, leaf_operand, symbol_bytes, node_bytes, if_whole, span_bytes, span_in, named_leaf, word_leaf, symbol_node_at, text_node, nonterminal_node_at, terminal_node_at, argument_node_at, alternative_node_at, attribute_node_at, condition_node_at, node_by, node_at}
use Rattle.parse_tree.specs.Working.Within.{SpanWithin}
use Rattle.parse_tree.specs.declared.syntax.Span.{Span}
use Rattle.parse_tree.specs.declared.syntax.NonterminalString.{NonterminalString}
use Rattle.parse_tree.specs.declared.syntax.NonterminalData.{NonterminalData}
use Rattle.parse_tree.specs.declared.syntax.TerminalData.{TerminalData}
use Rattle.parse_tree.specs.declared.syntax.Alternative.{Alternative}
use Rattle.parse_tree.specs.declared.syntax.Attribute.{Attribute}
use Rattle.parse_tree.specs.declared.syntax.Condition.{Condition}
use Rattle.parse_tree.specs.declared.syntax.Leaf.{Leaf}
use Rattle.parse_tree.specs.declared.syntax.Around.{Around}
use Rattle.parse_tree.specs.declared.syntax.Over.{Over}
use Rattle.parse_tree.specs.declared.syntax.SymbolKind.{SymbolKind}
use Rattle.parse_tree.specs.declared.syntax.Node.{Node}
use Rattle.parse_tree.proofs.NodeFits.{LeafFits, KindFits, NodeFits, TextFits}
use Rattle.parse_tree.proofs.SpanLaws.{length_span, span_back}
use Rattle.parse_tree.proofs.FieldLaws.{byte_read, le-read_then, span_read, le-read_last}

module _ (w : ℕ) (s : List ℕ) (a e : ℕ) where
  -- the code says which command is read, and all of it is inside
  front : (c : ℕ) (ys : List ℕ) → Lies s a (c ∷ ys) e → (node_at w s a ≡ node_by w c s a) × (e ≤ length s) × Lies s (a + 1) ys e
  unfolding node_at pick
  front c ys l =
      let f = lies_first s a c ys e l in
      (simp (lt-leb (length s) a f.0, f.1), lies_inside s a e (c ∷ ys) (omega arith) l, f.2)

  is_whole : (n : ℕ) (x : Node) → a + n ≤ length s → if_whole s a n x ≡ Some x
  unfolding if_whole pick
  is_whole n x h = simp (le-ltb (length s - a) n (omega arith))

  -- a code and a span, or a code, a span and a number: `g` makes the command of them
  spanned : (c : ℕ) (sp : Span) (g : Span → Node) → node_by w c s a ≡ if_whole s a 9 (g (span_in s (a + 1))) → SpanWithin sp → Lies s a (c ∷ span_bytes sp) e
      → node_at w s a ≡ Some (g sp)
  spanned c sp g q f l =
      let x0 = front c _ l in
      let x1 = span_back s (a + 1) e sp f x0.2 in
      x0.0 ∙ q ∙ is_whole 9 _ (omega (arith, length_span sp, x0.2.end)) ∙ simp x1

  numbered : (c : ℕ) (sp : Span) (v : ℕ) (g : Span → ℕ → Node) → node_by w c s a ≡ if_whole s a (9 + w) (g (span_in s (a + 1)) (le_at w s (a + 9))) → SpanWithin sp → v < 256 ^ w
      → Lies s a (c ∷ (span_bytes sp ++ le w v)) e → node_at w s a ≡ Some (g sp v)
  numbered c sp v g q f h l =
      let x0 = front c _ l in
      let x1 = span_read s e (a + 1) (a + 9) (omega arith) f x0.2 in
      let x2 = le-read_last s e (a + 9) w h x1.1 in
      x0.0 ∙ q ∙ is_whole (9 + w) _ (omega arith) ∙ simp (x1.0, x2.0)

  text_back : (k : ℕ) → k < 65536 → a + 3 + k ≤ length s → Lies s a (node_bytes w (Node.Text k)) e → node_at w s a ≡ Some (Node.Text k)
  unfolding node_bytes node_by pick text_node
  text_back k f t l =
      let x0 = front 1 _ l in
      let x1 = le-read_last s e (a + 1) 2 f x0.2 in
      x0.0 ∙ simp (le-ltb (length s - a) 3 (omega arith), x1.0) (is_whole (3 + k) _ (omega arith))

  nonterminal_back : (d : NonterminalData) → NodeFits w (Node.Nonterminal d) → Lies s a (node_bytes w (Node.Nonterminal d)) e → node_at w s a ≡ Some (Node.Nonterminal d)
  unfolding node_bytes node_by pick nonterminal_node_at
  nonterminal_back d f l =
      let x0 = front 16 _ l in
      let x1 = span_read s e (a + 1) (a + 9) (omega arith) f.0 x0.2 in
      let x2 = le-read_then s e (a + 9) (a + 9 + w) w refl f.1 x1.1 in
      let x3 = byte_read s e (a + 9 + w) (a + 10 + w) (omega arith) x2.1 in
      let x4 = byte_read s e (a + 10 + w) (a + 11 + w) (omega arith) x3.1 in
      let x5 = le-read_last s e (a + 11 + w) 2 f.4 x4.1 in
      x0.0 ∙ is_whole (13 + w) _ (omega arith) ∙ simp (x1.0, x2.0, x3.0, x4.0, x5.0)

  terminal_by : (c : ℕ) → (c ≡ 48) ⊎ (c ≡ 49) → node_by w c s a ≡ terminal_node_at w c s a
  unfolding node_by pick
  terminal_by c (inl q) = rw q
  terminal_by c (inr q) = rw q

  terminal_back : (t : TerminalData) → NodeFits w (Node.Terminal t) → Lies s a (node_bytes w (Node.Terminal t)) e → node_at w s a ≡ Some (Node.Terminal t)
  unfolding node_bytes terminal_node_at
  terminal_back t f l =
      numbered t.source t.span t.name.0 (λ sp v. Node.Terminal (record { span = sp; name = record { 0 = v }; source = t.source })) (terminal_by t.source f.2) f.0 f.1 l

  argument-back : (n : NonterminalString) → NodeFits w (Node.Argument n) → Lies s a (node_bytes w (Node.Argument n)) e → node_at w s a ≡ Some (Node.Argument n)
  unfolding node_bytes node_by pick argument_node_at
  argument-back n f l =
      let x0 = front 17 _ l in
      let x1 = le-read_last s e (a + 1) w f x0.2 in
      x0.0 ∙ is_whole (1 + w) _ (omega arith) ∙ simp x1.0

  alternative_back : (d : Alternative) → NodeFits w (Node.Alternative d) → Lies s a (node_bytes w (Node.Alternative d)) e → node_at w s a ≡ Some (Node.Alternative d)
  unfolding node_bytes node_by pick alternative_node_at
  alternative_back d f l =
      let x0 = front 18 _ l in
      let x1 = span_read s e (a + 1) (a + 9) (omega arith) f.0 x0.2 in
      let x2 = byte_read s e (a + 9) (a + 10) (omega arith) x1.1 in
      let x3 = byte_read s e (a + 10) (a + 11) (omega arith) x2.1 in
      let x4 = byte_read s e (a + 11) (a + 12) (omega arith) x3.1 in
      let x5 = le-read_then s e (a + 12) (a + 12 + w) w refl f.4 x4.1 in
      let x6 = le-read_last s e (a + 12 + w) 2 f.5 x5.1 in
      x0.0 ∙ is_whole (14 + w) _ (omega arith) ∙ simp (x1.0, x2.0, x3.0, x4.0, x5.0, x6.0)

  attribute_back : (d : Attribute) → NodeFits w (Node.Attribute d) → Lies s a (node_bytes w (Node.Attribute d)) e → node_at w s a ≡ Some (Node.Attribute d)
  unfolding node_bytes node_by pick attribute_node_at
  attribute_back d f l =
      let x0 = front 19 _ l in
      let x1 = le-read_then s e (a + 1) (a + 1 + w) w refl f.0 x0.2 in
      let x2 = byte_read s e (a + 1 + w) (a + 2 + w) (omega arith) x1.1 in
      let x3 = le-read_then s e (a + 2 + w) (a + 2 + w + w) w refl f.2 x2.1 in
      let x4 = le-read_last s e (a + 2 + w + w) w f.3 x3.1 in
      x0.0 ∙ is_whole (2 + w + w + w) _ (omega arith) ∙ simp (x1.0, x2.0, x3.0, x4.0)

  condition_back : (d : Condition) → NodeFits w (Node.Condition d) → Lies s a (node_bytes w (Node.Condition d)) e → node_at w s a ≡ Some (Node.Condition d)
  unfolding node_bytes node_by pick condition_node_at
  condition_back d f l =
      let x0 = front 20 _ l in
      let x1 = span_read s e (a + 1) (a + 9) (omega arith) f.0 x0.2 in
      let x2 = le-read_then s e (a + 9) (a + 9 + w) w refl f.1 x1.1 in
      let x3 = byte_read s e (a + 9 + w) (a + 10 + w) (omega arith) x2.1 in
      let x4 = le-read_last s e (a + 10 + w) w f.3 x3.1 in
      x0.0 ∙ is_whole (10 + w + w) _ (omega arith) ∙ simp (x1.0, x2.0, x3.0, x4.0)

  leaf_back : (sp : Span) (x : Leaf) → SpanWithin sp → LeafFits w x → Lies s a (symbol_bytes w sp (SymbolKind.Leaf x)) e → node_at w s a ≡ Some (Node.Symbol sp (SymbolKind.Leaf x))
  unfolding symbol_bytes leaf_code leaf_operand node_by pick symbol_node_at named_leaf word_leaf
  leaf_back sp (Leaf.AmbiguousId n) f h l = numbered 32 sp n.0 (λ sp v. Node.Symbol sp (SymbolKind.Leaf (Leaf.AmbiguousId (record { 0 = v })))) refl f h l
  leaf_back sp (Leaf.Bare n) f h l = numbered 33 sp n.0 (λ sp v. Node.Symbol sp (SymbolKind.Leaf (Leaf.Bare (record { 0 = v })))) refl f h l
  leaf_back sp (Leaf.Quoted n) f h l = numbered 34 sp n.0 (λ sp v. Node.Symbol sp (SymbolKind.Leaf (Leaf.Quoted (record { 0 = v })))) refl f h l
  leaf_back sp (Leaf.Regex n) f h l = numbered 35 sp n.0 (λ sp v. Node.Symbol sp (SymbolKind.Leaf (Leaf.Regex (record { 0 = v })))) refl f h l
  leaf_back sp (Leaf.Nonterminal n) f h l = numbered 36 sp n.0 (λ sp v. Node.Symbol sp (SymbolKind.Leaf (Leaf.Nonterminal (record { 0 = v })))) refl f h l
  leaf_back sp Leaf.Lookahead f h l = spanned 42 sp (λ sp. Node.Symbol sp (SymbolKind.Leaf Leaf.Lookahead)) refl f (rw append-nil at l)
  leaf_back sp Leaf.Lookbehind f h l = spanned 43 sp (λ sp. Node.Symbol sp (SymbolKind.Leaf Leaf.Lookbehind)) refl f (rw append-nil at l)
  leaf_back sp Leaf.Error f h l = spanned 44 sp (λ sp. Node.Symbol sp (SymbolKind.Leaf Leaf.Error)) refl f (rw append-nil at l)

  symbol_back : (sp : Span) (k : SymbolKind) → SpanWithin sp → KindFits w k → Lies s a (symbol_bytes w sp k) e → node_at w s a ≡ Some (Node.Symbol sp k)
  unfolding symbol_bytes node_by pick symbol_node_at
  symbol_back sp (SymbolKind.Leaf x) f h l = leaf_back sp x f h l
  symbol_back sp (SymbolKind.Around (Around.Repeat op)) f h l =
      let x0 = front 38 _ l in
      let x1 = span_read s e (a + 1) (a + 9) (omega arith) f x0.2 in
      let x2 = byte_read s e (a + 9) (a + 10) (omega arith) x1.1 in
      x0.0 ∙ is_whole 10 _ (omega (arith, x2.1.end)) ∙ simp (x1.0, x2.0)
  symbol_back sp (SymbolKind.Around Around.Choose) f h l = spanned 39 sp (λ sp. Node.Symbol sp (SymbolKind.Around Around.Choose)) refl f l
  symbol_back sp (SymbolKind.Around (Around.Name m n)) f h l =
      let x0 = front 40 _ l in
      let x1 = span_read s e (a + 1) (a + 9) (omega arith) f x0.2 in
      let x2 = byte_read s e (a + 9) (a + 10) (omega arith) x1.1 in
      let x3 = le-read_last s e (a + 10) w h.1 x2.1 in
      x0.0 ∙ is_whole (10 + w) _ (omega arith) ∙ simp (x1.0, x2.0, x3.0)
  symbol_back sp (SymbolKind.Over (Over.Macro n k)) f h l =
      let x0 = front 37 _ l in
      let x1 = span_read s e (a + 1) (a + 9) (omega arith) f x0.2 in
      let x2 = le-read_then s e (a + 9) (a + 9 + w) w refl h.0 x1.1 in
      let x3 = byte_read s e (a + 9 + w) (a + 10 + w) (omega arith) x2.1 in
      x0.0 ∙ is_whole (10 + w) _ (omega (arith, x3.1.end)) ∙ simp (x1.0, x2.0, x3.0)
  symbol_back sp (SymbolKind.Over (Over.Group k)) f h l =
      let x0 = front 41 _ l in
      let x1 = span_read s e (a + 1) (a + 9) (omega arith) f x0.2 in
      let x2 = le-read_last s e (a + 9) 2 h x1.1 in
      x0.0 ∙ is_whole 11 _ (omega arith) ∙ simp (x1.0, x2.0)

pub node_back : (w : ℕ) (s : List ℕ) (a e : ℕ) (n : Node) → NodeFits w n → TextFits s a n → Lies s a (node_bytes w n) e → node_at w s a ≡ Some n
unfolding node_bytes
node_back w s a e (Node.Text k) f t l = text_back w s a e k f t l
node_back w s a e (Node.Nonterminal d) f t l = nonterminal_back w s a e d f l
node_back w s a e (Node.Terminal d) f t l = terminal_back w s a e d f l
node_back w s a e (Node.Argument n) f t l = argument-back w s a e n f l
node_back w s a e (Node.Alternative d) f t l = alternative_back w s a e d f l
node_back w s a e (Node.Attribute d) f t l = attribute_back w s a e d f l
node_back w s a e (Node.Condition d) f t l = condition_back w s a e d f l
node_back w s a e (Node.Symbol sp k) f t l = symbol_back w s a e sp k f.0 f.1 l
