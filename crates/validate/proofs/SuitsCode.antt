-- Question 4: one law for each way out. Assumes nothing.
use mathlib.Core.Path.{◌≡◌, refl, sym, ap, ◌∙◌}
use mathlib.Core.Bool.{Bool, true, false, not}
use mathlib.Core.List.{List, []}
use Prim.Native.Nat.{ℕ, ◌+◌, ◌*◌, ◌<◌, ◌≤◌}
use native.Mathlib.Omega.{arith}
use borrow.Author.Rules.{rules}
use borrow.Author.Tests.{ne_eqb, eqb-true, eqb-false, le-leb, lt-leb, not-true, not-false}
use Rattle.std.proofs.Common.{is_le}
use Rattle.std.specs.Ordering.{is_some_and}
use lib.Dec.{leb, eqb}
use lib.ListN.{length, get_or}
use Rattle.std.specs.Prelude.{Option, Some, None}
use Rattle.octets.specs.Working.Choice.{pick}
use Rattle.octets.proofs.ChoiceLaws.{pick_same}
use Rattle.parse_tree.specs.Plain.Tree.{Text}
use Rattle.parse_tree.specs.Plain.Texts.{is_name, is_literal, is_ascii}
use Rattle.parse_tree.specs.Working.Questions.{leaf_suits, symbol_suits, suits, suits_read}
use Rattle.parse_tree.specs.declared.syntax.Atom.{Atom}
use Rattle.parse_tree.specs.declared.syntax.Span.{Span}
use Rattle.parse_tree.specs.declared.syntax.NonterminalString.{NonterminalString}
use Rattle.parse_tree.specs.declared.syntax.TerminalString.{TerminalString}
use Rattle.parse_tree.specs.declared.syntax.Leaf.{Leaf}
use Rattle.parse_tree.specs.declared.syntax.Around.{Around}
use Rattle.parse_tree.specs.declared.syntax.Over.{Over}
use Rattle.parse_tree.specs.declared.syntax.SymbolKind.{SymbolKind}
use Rattle.parse_tree.specs.declared.syntax.NonterminalData.{NonterminalData}
use Rattle.parse_tree.specs.declared.syntax.TerminalData.{TerminalData}
use Rattle.parse_tree.specs.declared.syntax.Alternative.{Alternative}
use Rattle.parse_tree.specs.declared.syntax.Attribute.{Attribute}
use Rattle.parse_tree.specs.declared.syntax.Condition.{Condition}
use Rattle.parse_tree.specs.declared.syntax.Node.{Node}
use Rattle.texts.specs.Atoms.{atoms_of}
use Rattle.texts.specs.Classes.{text_class, class_number}
use Rattle.texts.specs.contracts.class.TextClassPartialOrd.TheImpl.{partial_cmp-value}
use Rattle.texts.specs.declared.class.TextClass.{TextClass}
use Rattle.texts.specs.Fields.{class_at}
use Rattle.texts.proofs.AtomsLaws.{atoms_at_lem, class_beyond, class_small}
use Rattle.texts.proofs.TextClassLaws.{upto_number}
use Rattle.texts.proofs.ClassByCode.{class_is_name, class_is_literal, class_is_ascii}
use Rattle.validate.specs.Steps.{Ready}
use Rattle.validate.specs.declared.Atoms.{Atoms}
use Rattle.validate.specs.Uses.{fits}

-- ---- the class that a record holds
module _ (s w : List ℕ) (m : Atoms) (k : ℕ) (g : Ready s w m) (h : k < m.texts.count) where
  pub class_room : m.texts.base + 24 * k + 24 ≤ length w
  class_room = omega (arith, g.table.room)

  pub class_held : (r : TextClass) → class_number r ≡ class_at w m.texts.base k → class_number r ≡ text_class (get_or (atoms_of s m.texts.count) k [])
  class_held r e = e ∙ g.classes k h ∙ ap text_class (sym (atoms_at_lem s m.texts.count k h))

pub ruleset holding = (rules, class_room, class_held, class_beyond)

-- ---- one text, by its class r
at-three : (n : ℕ) → n < 4 → leb 3 n ≡ eqb n 3
at-three n h = go (eqb n 3) refl
  where
    go : (b : Bool) → eqb n 3 ≡ b → leb 3 n ≡ eqb n 3
    go true e = le-leb 3 n (omega (arith, eqb-true n 3 e)) ∙ sym e
    go false e = let d = eqb-false n 3 e in lt-leb 3 n (omega arith) ∙ sym e

text_fits : (u : TextClass) (t : Text) → leb (class_number u) (text_class t) ≡ fits u t
unfolding class_number
text_fits TextClass.Other t = le-leb 0 (text_class t) (omega arith)
text_fits TextClass.Ascii t = class_is_ascii t
text_fits TextClass.Literal t = class_is_literal t
text_fits TextClass.Name t = at-three (text_class t) (class_small t) ∙ class_is_name t

pub fit_done : (ts : List Text) (k : ℕ) (u c : TextClass) (r : Bool) → class_number c ≡ text_class (get_or ts k []) → r ≡ is_some_and is_le ((partial_cmp-value).it u c) → r ≡ fits u (get_or ts k [])
fit_done ts k u c r q e = e ∙ upto_number u c ∙ ap (leb (class_number u)) q ∙ text_fits u (get_or ts k [])

pub ruleset texts = (rules, fit_done)

-- ---- leaves
module _ (ts : List Text) (l : Leaf) (r : Bool) where
  pub leaf_ambiguous : (a : Atom) → l ≡ Leaf.AmbiguousId a → r ≡ is_name (get_or ts a.0 []) → r ≡ leaf_suits ts l
  unfolding leaf_suits
  leaf_ambiguous a e p = rw e p

  pub leaf_bare : (a : TerminalString) → l ≡ Leaf.Bare a → r ≡ is_name (get_or ts a.0 []) → r ≡ leaf_suits ts l
  unfolding leaf_suits
  leaf_bare a e p = rw e p

  pub leaf_quoted : (a : Atom) → l ≡ Leaf.Quoted a → r ≡ is_literal (get_or ts a.0 []) → r ≡ leaf_suits ts l
  unfolding leaf_suits
  leaf_quoted a e p = rw e p

  pub leaf_regex : (a : Atom) → l ≡ Leaf.Regex a → r ≡ is_literal (get_or ts a.0 []) → r ≡ leaf_suits ts l
  unfolding leaf_suits
  leaf_regex a e p = rw e p

  pub leaf_nonterminal : (a : NonterminalString) → l ≡ Leaf.Nonterminal a → r ≡ is_name (get_or ts a.0 []) → r ≡ leaf_suits ts l
  unfolding leaf_suits
  leaf_nonterminal a e p = rw e p

module _ (ts : List Text) (l : Leaf) where
  pub leaf_lookahead : l ≡ Leaf.Lookahead → true ≡ leaf_suits ts l
  unfolding leaf_suits
  leaf_lookahead e = rw e

  pub leaf_lookbehind : l ≡ Leaf.Lookbehind → true ≡ leaf_suits ts l
  unfolding leaf_suits
  leaf_lookbehind e = rw e

  pub leaf_error : l ≡ Leaf.Error → true ≡ leaf_suits ts l
  unfolding leaf_suits
  leaf_error e = rw e

pub ruleset leaves = (rules, leaf_ambiguous, leaf_bare, leaf_quoted, leaf_regex, leaf_nonterminal, leaf_lookahead, leaf_lookbehind, leaf_error)

-- ---- symbols
module _ (ts : List Text) (k : SymbolKind) where
  pub symbol_leaf : (l : Leaf) (r : Bool) → k ≡ SymbolKind.Leaf l → r ≡ leaf_suits ts l → r ≡ symbol_suits ts k
  unfolding symbol_suits
  symbol_leaf l r e p = rw e p

  module _ (a : Around) (e : k ≡ SymbolKind.Around a) where
    pub around_repeat : (op : ℕ) → a ≡ Around.Repeat op → true ≡ symbol_suits ts k
    unfolding symbol_suits
    around_repeat op f = rw (e, f)

    pub around_choose : a ≡ Around.Choose → true ≡ symbol_suits ts k
    unfolding symbol_suits
    around_choose f = rw (e, f)

    pub around_name : (m : ℕ) (x : Atom) (r : Bool) → a ≡ Around.Name m x → r ≡ is_name (get_or ts x.0 []) → r ≡ symbol_suits ts k
    unfolding symbol_suits
    around_name m x r f p = rw (e, f) p

  module _ (o : Over) (e : k ≡ SymbolKind.Over o) where
    pub over_macro : (x : NonterminalString) (n : ℕ) (r : Bool) → o ≡ Over.Macro x n → r ≡ is_name (get_or ts x.0 []) → r ≡ symbol_suits ts k
    unfolding symbol_suits
    over_macro x n r f p = rw (e, f) p

    pub over_group : (n : ℕ) → o ≡ Over.Group n → true ≡ symbol_suits ts k
    unfolding symbol_suits
    over_group n f = rw (e, f)

pub ruleset symbols = (rules, symbol_leaf, around_repeat, around_choose, around_name, over_macro, over_group)

-- ---- alternatives, attributes, conditions
module _ (ts : List Text) (a : Alternative) where
  pub user_text : (r : Bool) → a.action ≡ 1 → r ≡ is_ascii (get_or ts a.text.0 []) → r ≡ suits ts (Node.Alternative a)
  unfolding suits pick
  user_text r e p = simp e p

  pub fallible_text : (r : Bool) → (a.action ≡ 1 → ⊥) → a.action ≡ 2 → r ≡ is_ascii (get_or ts a.text.0 []) → r ≡ suits ts (Node.Alternative a)
  unfolding suits pick
  fallible_text r d e p = simp e p

  pub no_text : (a.action ≡ 1 → ⊥) → (a.action ≡ 2 → ⊥) → true ≡ suits ts (Node.Alternative a)
  unfolding suits pick
  no_text d e = simp (ne_eqb a.action 1 d, ne_eqb a.action 2 e)

module _ (ts : List Text) (a : Attribute) (i : Bool) (p : i ≡ is_name (get_or ts a.id.0 [])) where
  pub no_id : not i ≡ true → false ≡ suits ts (Node.Attribute a)
  unfolding suits
  no_id h = rw (← p, not-true i h)

  module _ (h : not i ≡ false) where
    pub no_argument : (a.kind ≡ 1 → ⊥) → true ≡ suits ts (Node.Attribute a)
    unfolding suits pick
    no_argument k = simp (← p, not-false i h, ne_eqb a.kind 1 k)

    module _ (y : Bool) (q : y ≡ is_ascii (get_or ts a.key.0 [])) (k : a.kind ≡ 1) where
      pub no_key : not y ≡ true → false ≡ suits ts (Node.Attribute a)
      unfolding suits pick
      no_key g = simp (← p, not-false i h, k, ← q, not-true y g)

      pub key_value : (r : Bool) → not y ≡ false → r ≡ is_ascii (get_or ts a.value.0 []) → r ≡ suits ts (Node.Attribute a)
      unfolding suits pick
      key_value r g o = simp (← p, not-false i h, k, ← q, not-false y g) o

module _ (ts : List Text) (c : Condition) (l : Bool) (p : l ≡ is_name (get_or ts c.lhs.0 [])) where
  pub no_lhs : not l ≡ true → false ≡ suits ts (Node.Condition c)
  unfolding suits
  no_lhs h = rw (← p, not-true l h)

  pub lhs_rhs : (r : Bool) → not l ≡ false → r ≡ is_literal (get_or ts c.rhs.0 []) → r ≡ suits ts (Node.Condition c)
  unfolding suits
  lhs_rhs r h q = rw (← p, not-false l h) q

pub ruleset parts = (rules, user_text, fallible_text, no_text, no_id, no_argument, no_key, key_value, no_lhs, lhs_rhs)

-- ---- commands
module _ (ts : List Text) (x : Node) where
  pub node_text : (k : ℕ) → x ≡ Node.Text k → true ≡ suits ts x
  unfolding suits
  node_text k e = rw e

  module _ (r : Bool) where
    pub node_nonterminal : (d : NonterminalData) → x ≡ Node.Nonterminal d → r ≡ is_name (get_or ts d.name.0 []) → r ≡ suits ts x
    unfolding suits
    node_nonterminal d e p = rw e p

    pub node_terminal : (t : TerminalData) → x ≡ Node.Terminal t → r ≡ is_name (get_or ts t.name.0 []) → r ≡ suits ts x
    unfolding suits
    node_terminal t e p = rw e p

    pub node_argument : (a : NonterminalString) → x ≡ Node.Argument a → r ≡ is_name (get_or ts a.0 []) → r ≡ suits ts x
    unfolding suits
    node_argument a e p = rw e p

    pub node_alternative : (a : Alternative) → x ≡ Node.Alternative a → r ≡ suits ts (Node.Alternative a) → r ≡ suits ts x
    node_alternative a e p = rw e p

    pub node_attribute : (a : Attribute) → x ≡ Node.Attribute a → r ≡ suits ts (Node.Attribute a) → r ≡ suits ts x
    node_attribute a e p = rw e p

    pub node_condition : (c : Condition) → x ≡ Node.Condition c → r ≡ suits ts (Node.Condition c) → r ≡ suits ts x
    node_condition c e p = rw e p

    pub node_symbol : (s : Span) (k : SymbolKind) → x ≡ Node.Symbol s k → r ≡ symbol_suits ts k → r ≡ suits ts x
    unfolding suits
    node_symbol s k e p = rw e p

pub ruleset nodes = (rules, node_text, node_nonterminal, node_terminal, node_argument, node_alternative, node_attribute, node_condition, node_symbol)

-- ---- `is_apt`: four says whether question 4 is asked, y is what was read
module _ (four : Bool) (ts : List Text) (y : Option Node) where
  pub apt_none : y ≡ None → true ≡ pick four (suits_read ts y) true
  apt_none e = rw e (sym (pick_same four true))

  module _ (x : Node) (e : y ≡ Some x) where
    pub apt_unasked : not four ≡ true → true ≡ pick four (suits_read ts y) true
    unfolding pick
    apt_unasked h = rw (not-true four h)

    pub apt_asked : (r : Bool) → not four ≡ false → r ≡ suits ts x → r ≡ pick four (suits_read ts y) true
    unfolding pick
    apt_asked r h p = rw (not-false four h, e) p

pub ruleset apt = (rules, apt_none, apt_unasked, apt_asked)
