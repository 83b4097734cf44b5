-- Question 3: one law for each way out. Assumes nothing.
use mathlib.Core.Path.{◌≡◌}
use mathlib.Core.Bool.{Bool, true, false}
use Prim.Native.Nat.{ℕ, ◌<◌, ◌≤◌}
use borrow.Author.Rules.{rules}
use borrow.Author.Tests.{lt-ltb, le-ltb, le-leb, lt-leb, ne_eqb}
use lib.Dec.{leb, ltb, eqb}
use Rattle.std.specs.Prelude.{Option, Some, None}
use Rattle.octets.specs.Working.Choice.{pick}
use Rattle.parse_tree.specs.Working.Questions.{leaf_defined, symbol_defined, alternative_defined, attribute_defined, defined, defined_read}
use Rattle.parse_tree.specs.declared.syntax.Atom.{Atom}
use Rattle.parse_tree.specs.declared.syntax.Span.{Span}
use Rattle.parse_tree.specs.declared.syntax.NonterminalString.{NonterminalString}
use Rattle.parse_tree.specs.declared.syntax.TerminalString.{TerminalString}
use Rattle.parse_tree.specs.declared.syntax.Leaf.{Leaf}
use Rattle.parse_tree.specs.declared.syntax.Around.{Around}
use Rattle.parse_tree.specs.declared.syntax.Over.{Over}
use Rattle.parse_tree.specs.declared.syntax.SymbolKind.{SymbolKind}
use Rattle.parse_tree.specs.declared.syntax.NonterminalData.{NonterminalData}
use Rattle.parse_tree.specs.declared.syntax.TerminalData.{TerminalData}
use Rattle.parse_tree.specs.declared.syntax.Alternative.{Alternative}
use Rattle.parse_tree.specs.declared.syntax.Attribute.{Attribute}
use Rattle.parse_tree.specs.declared.syntax.Condition.{Condition}
use Rattle.parse_tree.specs.declared.syntax.Node.{Node}

-- ---- leaves
module _ (n : ℕ) (l : Leaf) (r : ℕ) where
  pub leaf_ambiguous : (a : Atom) → l ≡ Leaf.AmbiguousId a → r ≡ a.0 → ltb r n ≡ leaf_defined n l
  unfolding leaf_defined
  leaf_ambiguous a e p = cc

  pub leaf_bare : (a : TerminalString) → l ≡ Leaf.Bare a → r ≡ a.0 → ltb r n ≡ leaf_defined n l
  unfolding leaf_defined
  leaf_bare a e p = cc

  pub leaf_quoted : (a : Atom) → l ≡ Leaf.Quoted a → r ≡ a.0 → ltb r n ≡ leaf_defined n l
  unfolding leaf_defined
  leaf_quoted a e p = cc

  pub leaf_regex : (a : Atom) → l ≡ Leaf.Regex a → r ≡ a.0 → ltb r n ≡ leaf_defined n l
  unfolding leaf_defined
  leaf_regex a e p = cc

  pub leaf_nonterminal : (a : NonterminalString) → l ≡ Leaf.Nonterminal a → r ≡ a.0 → ltb r n ≡ leaf_defined n l
  unfolding leaf_defined
  leaf_nonterminal a e p = cc

module _ (n : ℕ) (l : Leaf) where
  pub leaf_lookahead : l ≡ Leaf.Lookahead → true ≡ leaf_defined n l
  unfolding leaf_defined
  leaf_lookahead e = cc

  pub leaf_lookbehind : l ≡ Leaf.Lookbehind → true ≡ leaf_defined n l
  unfolding leaf_defined
  leaf_lookbehind e = cc

  pub leaf_error : l ≡ Leaf.Error → true ≡ leaf_defined n l
  unfolding leaf_defined
  leaf_error e = cc

pub ruleset leaves = (rules, leaf_ambiguous, leaf_bare, leaf_quoted, leaf_regex, leaf_nonterminal, leaf_lookahead, leaf_lookbehind, leaf_error)

-- ---- symbols
module _ (n : ℕ) (a : Around) where
  pub around_repeat : (op : ℕ) → a ≡ Around.Repeat op → leb op 2 ≡ symbol_defined n (SymbolKind.Around a)
  unfolding symbol_defined
  around_repeat op e = rw e

  pub around_choose : a ≡ Around.Choose → true ≡ symbol_defined n (SymbolKind.Around a)
  unfolding symbol_defined
  around_choose e = rw e

  pub around_mut : (m : ℕ) (x : Atom) → a ≡ Around.Name m x → 1 < m → false ≡ symbol_defined n (SymbolKind.Around a)
  unfolding symbol_defined
  around_mut m x e h = rw (e, lt-leb m 1 h)

  pub around_name : (m r : ℕ) (x : Atom) → a ≡ Around.Name m x → m ≤ 1 → r ≡ x.0 → ltb r n ≡ symbol_defined n (SymbolKind.Around a)
  unfolding symbol_defined
  around_name m r x e h p = rw (e, le-leb m 1 h, p)

module _ (n : ℕ) (o : Over) where
  pub over_unknown : (r k : ℕ) (x : NonterminalString) → o ≡ Over.Macro x k → r ≡ x.0 → n ≤ r → false ≡ symbol_defined n (SymbolKind.Over o)
  unfolding symbol_defined
  over_unknown r k x e p h = rw (e, ← p, le-ltb r n h)

  pub over_macro : (r k : ℕ) (x : NonterminalString) → o ≡ Over.Macro x k → r ≡ x.0 → r < n → leb 1 k ≡ symbol_defined n (SymbolKind.Over o)
  unfolding symbol_defined
  over_macro r k x e p h = rw (e, ← p, lt-ltb r n h)

  pub over_group : (k : ℕ) → o ≡ Over.Group k → true ≡ symbol_defined n (SymbolKind.Over o)
  unfolding symbol_defined
  over_group k e = rw e

module _ (n : ℕ) (k : SymbolKind) (r : Bool) where
  pub symbol_leaf : (l : Leaf) → k ≡ SymbolKind.Leaf l → r ≡ leaf_defined n l → r ≡ symbol_defined n k
  unfolding symbol_defined
  symbol_leaf l e p = rw e p

  pub symbol_around : (a : Around) → k ≡ SymbolKind.Around a → r ≡ symbol_defined n (SymbolKind.Around a) → r ≡ symbol_defined n k
  symbol_around a e p = rw e p

  pub symbol_over : (o : Over) → k ≡ SymbolKind.Over o → r ≡ symbol_defined n (SymbolKind.Over o) → r ≡ symbol_defined n k
  symbol_over o e p = rw e p

pub ruleset symbols = (rules, around_repeat, around_choose, around_mut, around_name, over_unknown, over_macro, over_group, symbol_leaf, symbol_around, symbol_over)

-- ---- alternatives
module _ (n : ℕ) (a : Alternative) where
  pub many_conditions : 1 < a.conditions → false ≡ alternative_defined n a
  unfolding alternative_defined
  many_conditions h = rw (lt-leb a.conditions 1 h)

  pub no_action_lem : a.conditions ≤ 1 → 4 < a.action → false ≡ alternative_defined n a
  unfolding alternative_defined
  no_action_lem h k = simp (le-leb a.conditions 1 h, lt-leb a.action 4 k)

  module _ (h : a.conditions ≤ 1) (k : a.action ≤ 4) where
    pub user_text : (r : ℕ) → a.action ≡ 1 → r ≡ a.text.0 → ltb r n ≡ alternative_defined n a
    unfolding alternative_defined pick
    user_text r e p = simp (le-leb a.conditions 1 h, e, ← p)

    pub fallible_text : (r : ℕ) → (a.action ≡ 1 → ⊥) → a.action ≡ 2 → r ≡ a.text.0 → ltb r n ≡ alternative_defined n a
    unfolding alternative_defined pick
    fallible_text r d e p = simp (le-leb a.conditions 1 h, e, ← p)

    pub no_text : (a.action ≡ 1 → ⊥) → (a.action ≡ 2 → ⊥) → eqb a.text.0 0 ≡ alternative_defined n a
    unfolding alternative_defined pick
    no_text d e = simp (le-leb a.conditions 1 h, le-leb a.action 4 k, ne_eqb a.action 1 d, ne_eqb a.action 2 e)

pub ruleset alternatives = (rules, many_conditions, no_action_lem, user_text, fallible_text, no_text)

-- ---- attributes
module _ (n : ℕ) (a : Attribute) (i : ℕ) (p : i ≡ a.id.0) where
  pub no_id : n ≤ i → false ≡ attribute_defined n a
  unfolding attribute_defined
  no_id h = rw (← p, le-ltb i n h)

  module _ (h : i < n) where
    pub no_kind : 1 < a.kind → false ≡ attribute_defined n a
    unfolding attribute_defined
    no_kind k = simp (← p, lt-ltb i n h, lt-leb a.kind 1 k)

    pub no_key : (r : ℕ) → a.kind ≡ 1 → r ≡ a.key.0 → n ≤ r → false ≡ attribute_defined n a
    unfolding attribute_defined pick
    no_key r k q g = simp (← p, lt-ltb i n h, k, ← q, le-ltb r n g)

    pub key_value : (r v : ℕ) → a.kind ≡ 1 → r ≡ a.key.0 → r < n → v ≡ a.value.0 → ltb v n ≡ attribute_defined n a
    unfolding attribute_defined pick
    key_value r v k q g o = simp (← p, lt-ltb i n h, k, ← q, lt-ltb r n g, ← o)

    pub key_set : a.kind ≤ 1 → (a.kind ≡ 1 → ⊥) → (a.key.0 ≡ 0 → ⊥) → false ≡ attribute_defined n a
    unfolding attribute_defined pick
    key_set g k q = simp (← p, lt-ltb i n h, le-leb a.kind 1 g, ne_eqb a.kind 1 k, ne_eqb a.key.0 0 q)

    pub no_value : a.kind ≤ 1 → (a.kind ≡ 1 → ⊥) → a.key.0 ≡ 0 → eqb a.value.0 0 ≡ attribute_defined n a
    unfolding attribute_defined pick
    no_value g k q = simp (← p, lt-ltb i n h, le-leb a.kind 1 g, ne_eqb a.kind 1 k, q)

pub ruleset attributes = (rules, no_id, no_kind, no_key, key_value, key_set, no_value)

-- ---- conditions
module _ (n : ℕ) (c : Condition) (l : ℕ) (p : l ≡ c.lhs.0) where
  pub no_lhs : n ≤ l → false ≡ defined n (Node.Condition c)
  unfolding defined
  no_lhs h = rw (← p, le-ltb l n h)

  pub no_op : l < n → 1 < c.op → false ≡ defined n (Node.Condition c)
  unfolding defined
  no_op h k = simp (← p, lt-ltb l n h, lt-leb c.op 1 k)

  pub lhs_rhs : (r : ℕ) → l < n → c.op ≤ 1 → r ≡ c.rhs.0 → ltb r n ≡ defined n (Node.Condition c)
  unfolding defined
  lhs_rhs r h k q = simp (← p, lt-ltb l n h, le-leb c.op 1 k, ← q)

pub ruleset conditions = (rules, no_lhs, no_op, lhs_rhs)

-- ---- commands
module _ (n : ℕ) (x : Node) where
  pub node_text : (k : ℕ) → x ≡ Node.Text k → true ≡ defined n x
  unfolding defined
  node_text k e = rw e

  pub no_name : (d : NonterminalData) (r : ℕ) → x ≡ Node.Nonterminal d → r ≡ d.name.0 → n ≤ r → false ≡ defined n x
  unfolding defined
  no_name d r e p h = rw (e, ← p, le-ltb r n h)

  pub node_nonterminal : (d : NonterminalData) (r : ℕ) → x ≡ Node.Nonterminal d → r ≡ d.name.0 → r < n → leb d.flags 3 ≡ defined n x
  unfolding defined
  node_nonterminal d r e p h = rw (e, ← p, lt-ltb r n h)

  pub node_terminal : (t : TerminalData) (r : ℕ) → x ≡ Node.Terminal t → r ≡ t.name.0 → ltb r n ≡ defined n x
  unfolding defined
  node_terminal t r e p = rw (e, p)

  pub node_argument : (a : NonterminalString) (r : ℕ) → x ≡ Node.Argument a → r ≡ a.0 → ltb r n ≡ defined n x
  unfolding defined
  node_argument a r e p = rw (e, p)

  module _ (r : Bool) where
    pub node_alternative : (a : Alternative) → x ≡ Node.Alternative a → r ≡ alternative_defined n a → r ≡ defined n x
    unfolding defined
    node_alternative a e p = rw e p

    pub node_attribute : (a : Attribute) → x ≡ Node.Attribute a → r ≡ attribute_defined n a → r ≡ defined n x
    unfolding defined
    node_attribute a e p = rw e p

    pub node_condition : (c : Condition) → x ≡ Node.Condition c → r ≡ defined n (Node.Condition c) → r ≡ defined n x
    node_condition c e p = rw e p

    pub node_symbol : (s : Span) (k : SymbolKind) → x ≡ Node.Symbol s k → r ≡ symbol_defined n k → r ≡ defined n x
    unfolding defined
    node_symbol s k e p = rw e p

module _ (n : ℕ) (y : Option Node) where
  pub no_node : y ≡ None → false ≡ defined_read n y
  no_node e = rw e

  pub some_node : (x : Node) → y ≡ Some x → (r : Bool) → r ≡ defined n x → r ≡ defined_read n y
  some_node x e r p = rw e p

pub ruleset nodes = (rules, no_node, some_node, node_text, no_name, node_nonterminal, node_terminal, node_argument, node_alternative, node_attribute, node_condition, node_symbol)
