-- From commands to the tree: what passes the questions is within its limits, and its command is the one that was read. Assumes nothing.
use mathlib.Core.Path.{◌≡◌, refl, sym, ap}
use mathlib.Core.Bool.{Bool, true, false, ◌&&◌, and-eq-true_iff}
use mathlib.Core.List.{List, []}
use mathlib.Core.Logic.{◌⊎◌, inl, inr}
use mathlib.Core.Option.{Option}
use Prim.Native.Nat.{ℕ, zero, suc, ◌+◌, ◌^◌, ◌<◌, ◌≤◌}
use native.Mathlib.Omega.{arith}
use borrow.Author.Tests.{ltb-true, leb-true, eqb-true}
use lib.Dec.{leb, ltb, eqb}
use lib.ListN.{length, get_or}
use Rattle.octets.specs.Working.Choice.{pick}
use Rattle.parse_tree.specs.Plain.Tree.{Text, Syms, Attribute, Condition, Alternative, Source, count, conditions}
use Rattle.parse_tree.specs.Plain.Texts.{is_name, is_literal, is_ascii, number, distinct}
use Rattle.parse_tree.specs.Working.Nodes.{node_bytes}
use Rattle.parse_tree.specs.Working.Questions.{has_text, of_class, leaf_defined, symbol_defined, alternative_defined, attribute_defined, defined, leaf_suits, symbol_suits, suits}
use Rattle.parse_tree.specs.Working.Operands.{op_from, inside_of, leaf_of, around_of, over_of, action_from, attribute_of, condition_of, alternative_of, nonterminal_of, terminal_of}
use Rattle.parse_tree.specs.Working.Encode.{action_code, source_code, leaf_node, around_node, over_node, action_text, alternative_node, attribute_node, condition_node, nonterminal_node, item_bytes}
use Rattle.parse_tree.specs.Plain.WriteTape.{bit, op_code}
use Rattle.parse_tree.specs.Working.Within.{Uses, LeafWithin, AroundWithin, OverWithin, ActionWithin, AttributeWithin, ConditionWithin, AlternativeWithin, NonterminalWithin, ItemWithin, SymsWithin, Each}
use Rattle.parse_tree.specs.declared.syntax.Span.{Span}
use Rattle.parse_tree.specs.declared.syntax.Leaf.{Leaf as LeafNode}
use Rattle.parse_tree.specs.declared.syntax.Around.{Around as AroundNode}
use Rattle.parse_tree.specs.declared.syntax.Over.{Over as OverNode}
use Rattle.parse_tree.specs.declared.syntax.NonterminalString.{NonterminalString}
use Rattle.parse_tree.specs.declared.syntax.Attribute.{Attribute as AttributeNode}
use Rattle.parse_tree.specs.declared.syntax.Condition.{Condition as ConditionNode}
use Rattle.parse_tree.specs.declared.syntax.Alternative.{Alternative as AlternativeNode}
use Rattle.parse_tree.specs.declared.syntax.NonterminalData.{NonterminalData}
use Rattle.parse_tree.specs.declared.syntax.TerminalData.{TerminalData}
use Rattle.parse_tree.specs.declared.syntax.SymbolKind.{SymbolKind}
use Rattle.parse_tree.specs.declared.syntax.Node.{Node}
use Rattle.parse_tree.proofs.TextLaws.{has-text, number-text}
use Rattle.parse_tree.proofs.Asking.{Passes}

-- ---- question 4, if it is asked
apt_each : (four a b : Bool) → pick four (a && b) true ≡ true → (pick four a true ≡ true) × (pick four b true ≡ true)
unfolding pick
apt_each true a b p = (and-eq-true_iff a b).0 p
apt_each false a b p = (refl, refl)

-- ---- codes
op_code_lem : (k : ℕ) → leb k 2 ≡ true → op_code (op_from k) ≡ k
unfolding op_from pick
op_code_lem zero p = refl
op_code_lem (suc zero) p = refl
op_code_lem (suc (suc zero)) p = refl
op_code_lem (suc (suc (suc k))) p = absurd (omega (arith, leb-true (suc (suc (suc k))) 2 p))

bit-code : (m : ℕ) → leb m 1 ≡ true → bit (eqb m 1) ≡ m
bit-code zero p = refl
bit-code (suc zero) p = refl
bit-code (suc (suc m)) p = absurd (omega (arith, leb-true (suc (suc m)) 1 p))

equal_code : (k : ℕ) → leb k 1 ≡ true → pick (eqb k 0) 0 1 ≡ k
unfolding pick
equal_code zero p = refl
equal_code (suc zero) p = refl
equal_code (suc (suc k)) p = absurd (omega (arith, leb-true (suc (suc k)) 1 p))

pub flags_code : (k : ℕ) → leb k 3 ≡ true → bit (pick (eqb k 1) true (eqb k 3)) + (bit (leb 2 k) + bit (leb 2 k)) ≡ k
unfolding pick
flags_code zero p = refl
flags_code (suc zero) p = refl
flags_code (suc (suc zero)) p = refl
flags_code (suc (suc (suc zero))) p = refl
flags_code (suc (suc (suc (suc k)))) p = absurd (omega (arith, leb-true (suc (suc (suc (suc k)))) 3 p))

source_code_lem : (k : ℕ) → (k ≡ 48) ⊎ (k ≡ 49) → source_code (pick (eqb k 48) Source.extern Source.match) ≡ k
unfolding pick
source_code_lem k (inl e) = cc
source_code_lem k (inr e) = cc

abbrev attribute_by : ℕ → ℕ → ℕ → ℕ → AttributeNode
attribute_by i k m n = record { id = record { 0 = i }; kind = k; key = record { 0 = m }; value = record { 0 = n } }

module _ (four : Bool) (w : ℕ) (ts : List Text) (d : distinct ts ≡ true) where
  -- a number that is defined
  text_uses : (class : Text → Bool) (k : ℕ) → k < 256 ^ w → ltb k (length ts) ≡ true → pick four (class (get_or ts k [])) true ≡ true
      → Uses four w ts class (get_or ts k []) × (number ts (get_or ts k []) ≡ k)
  text_uses class k f l p =
      let h = ltb-true k (length ts) l in
      let n = number-text ts k d h in
      ((has-text ts k h, rw n f, p), n)

  -- ---- symbols
  pub leaf_within : (s : Span) (l : LeafNode) → Passes four w ts (Node.Symbol s (SymbolKind.Leaf l)) → LeafWithin four w ts (leaf_of ts l) × (leaf_node ts (leaf_of ts l) ≡ l)
  unfolding leaf_of leaf_node defined symbol_defined leaf_defined suits symbol_suits leaf_suits
  leaf_within s (LeafNode.AmbiguousId a) p = let u = text_uses is_name a.0 p.fits.1 p.known p.apt in (u.0, rw u.1)
  leaf_within s (LeafNode.Bare a) p = let u = text_uses is_name a.0 p.fits.1 p.known p.apt in (u.0, rw u.1)
  leaf_within s (LeafNode.Quoted a) p = let u = text_uses is_literal a.0 p.fits.1 p.known p.apt in (u.0, rw u.1)
  leaf_within s (LeafNode.Regex a) p = let u = text_uses is_literal a.0 p.fits.1 p.known p.apt in (u.0, rw u.1)
  leaf_within s (LeafNode.Nonterminal a) p = let u = text_uses is_name a.0 p.fits.1 p.known p.apt in (u.0, rw u.1)
  leaf_within s LeafNode.Lookahead p = (tt, refl)
  leaf_within s LeafNode.Lookbehind p = (tt, refl)
  leaf_within s LeafNode.Error p = (tt, refl)

  pub around_within : (s : Span) (o : AroundNode) → Passes four w ts (Node.Symbol s (SymbolKind.Around o)) → AroundWithin four w ts (around_of ts o) × (around_node ts (around_of ts o) ≡ o)
  unfolding around_of around_node defined symbol_defined suits symbol_suits
  around_within s (AroundNode.Repeat k) p = (tt, ap AroundNode.Repeat (op_code_lem k p.known))
  around_within s AroundNode.Choose p = (tt, refl)
  around_within s (AroundNode.Name m a) p =
      let k = (and-eq-true_iff (leb m 1) (ltb a.0 (length ts))).0 p.known in
      let u = text_uses is_name a.0 p.fits.1.1 k.1 p.apt in
      (u.0, rw (u.1, bit-code m k.0))

  pub over_within : (s : Span) (o : OverNode) → Passes four w ts (Node.Symbol s (SymbolKind.Over o)) → OverWithin four w ts (over_of ts o) (inside_of o) × (over_node ts (over_of ts o) (inside_of o) ≡ o)
  unfolding over_of over_node inside_of defined symbol_defined suits symbol_suits
  over_within s (OverNode.Macro a n) p =
      let k = (and-eq-true_iff (ltb a.0 (length ts)) (leb 1 n)).0 p.known in
      let u = text_uses is_name a.0 p.fits.1.0 k.0 p.apt in
      ((u.0, leb-true 1 n k.1, p.fits.1.1), rw u.1)
  over_within s (OverNode.Group n) p = (p.fits.1, refl)

  -- ---- what stands in an item
  pub argument-within : (a : NonterminalString) → Passes four w ts (Node.Argument a) → Uses four w ts is_name (get_or ts a.0 []) × (Node.Argument (record { 0 = number ts (get_or ts a.0 []) }) ≡ Node.Argument a)
  unfolding defined suits
  argument-within a p = let u = text_uses is_name a.0 p.fits p.known p.apt in (u.0, rw u.1)

  attribute_with : (i k m n : ℕ) → Passes four w ts (Node.Attribute (attribute_by i k m n)) → AttributeWithin four w ts (attribute_of ts (attribute_by i k m n)) × (attribute_node ts (attribute_of ts (attribute_by i k m n)) ≡ Node.Attribute (attribute_by i k m n))
  unfolding attribute_of attribute_node defined attribute_defined suits pick
  attribute_with i zero m n p =
      let (h, l) = (and-eq-true_iff (ltb i (length ts)) (eqb m 0 && eqb n 0)).0 p.known in
      let (x, y) = (and-eq-true_iff (eqb m 0) (eqb n 0)).0 l in
      let u = text_uses is_name i p.fits.0 h (apt_each four (is_name (get_or ts i [])) true p.apt).0 in
      ((u.0, tt), cc (u.1, eqb-true m 0 x, eqb-true n 0 y))
  attribute_with i (suc zero) m n p =
      let (h, l) = (and-eq-true_iff (ltb i (length ts)) (ltb m (length ts) && ltb n (length ts))).0 p.known in
      let (x, y) = (and-eq-true_iff (ltb m (length ts)) (ltb n (length ts))).0 l in
      let (q, r) = apt_each four (is_name (get_or ts i [])) (is_ascii (get_or ts m []) && is_ascii (get_or ts n [])) p.apt in
      let (a, b) = apt_each four (is_ascii (get_or ts m [])) (is_ascii (get_or ts n [])) r in
      let u = text_uses is_name i p.fits.0 h q in
      let v = text_uses is_ascii m p.fits.2 x a in
      let z = text_uses is_ascii n p.fits.3 y b in
      ((u.0, (v.0, z.0)), cc (u.1, v.1, z.1))
  attribute_with i (suc (suc k)) m n p =
      let (h, l) = (and-eq-true_iff (ltb i (length ts)) _).0 p.known in
      absurd (omega (arith, leb-true (suc (suc k)) 1 ((and-eq-true_iff (leb (suc (suc k)) 1) _).0 l).0))

  pub attribute_within : (a : AttributeNode) → Passes four w ts (Node.Attribute a) → AttributeWithin four w ts (attribute_of ts a) × (attribute_node ts (attribute_of ts a) ≡ Node.Attribute a)
  attribute_within a p = attribute_with a.id.0 a.kind a.key.0 a.value.0 p

  pub condition_within : (c : ConditionNode) → Passes four w ts (Node.Condition c) → ConditionWithin four w ts (condition_of ts c) × (condition_node ts (condition_of ts c) ≡ Node.Condition c)
  unfolding condition_of condition_node defined suits
  condition_within c p =
      let (h, l) = (and-eq-true_iff (ltb c.lhs.0 (length ts)) _).0 p.known in
      let (x, y) = (and-eq-true_iff (leb c.op 1) _).0 l in
      let (q, r) = apt_each four (is_name (get_or ts c.lhs.0 [])) _ p.apt in
      let u = text_uses is_name c.lhs.0 p.fits.1 h q in
      let v = text_uses is_literal c.rhs.0 p.fits.3 y r in
      (record { span = p.fits.0; lhs = u.0; rhs = v.0 }, rw (u.1, v.1, equal_code c.op x))

  -- the code and the text's number of an action
  pub action_within : (c k : ℕ) → k < 256 ^ w
      → (leb c 4 && pick (has_text c) (ltb k (length ts)) (eqb k 0)) ≡ true
      → pick four (pick (has_text c) (of_class is_ascii ts k) true) true ≡ true
      → ActionWithin four w ts (action_from ts c k) × (action_code (action_from ts c k) ≡ c) × (action_text ts (action_from ts c k) ≡ k)
  unfolding action_from action_text pick
  action_within zero k f p q = (tt, refl, sym (eqb-true k 0 p))
  action_within (suc zero) k f p q = let u = text_uses is_ascii k f p q in (u.0, refl, u.1)
  action_within (suc (suc zero)) k f p q = let u = text_uses is_ascii k f p q in (u.0, refl, u.1)
  action_within (suc (suc (suc zero))) k f p q = (tt, refl, sym (eqb-true k 0 p))
  action_within (suc (suc (suc (suc zero)))) k f p q = (tt, refl, sym (eqb-true k 0 p))
  action_within (suc (suc (suc (suc (suc c))))) k f p q =
      absurd (omega (arith, leb-true (suc (suc (suc (suc (suc c))))) 4 ((and-eq-true_iff (leb (suc (suc (suc (suc (suc c))))) 4) _).0 p).0))

  -- ---- alternatives and items: what stands inside is as many as the command says
  pub one_condition : (n : AlternativeNode) → Passes four w ts (Node.Alternative n) → n.conditions ≤ 1
  unfolding defined alternative_defined
  one_condition n p = leb-true n.conditions 1 ((and-eq-true_iff (leb n.conditions 1) _).0 p.known).0

  pub alternative_within : (n : AlternativeNode) (as' : List Attribute) (o : Option Condition) (xs : Syms) → Passes four w ts (Node.Alternative n)
      → Each (AttributeWithin four w ts) as' → length as' ≡ n.attributes → Each (ConditionWithin four w ts) (conditions o) → length (conditions o) ≡ n.conditions
      → SymsWithin four w ts xs 64 → count xs ≡ n.symbols
      → AlternativeWithin four w ts (alternative_of ts n as' o xs) × (alternative_node ts (alternative_of ts n as' o xs) ≡ Node.Alternative n)
  unfolding alternative_of alternative_node defined alternative_defined suits
  alternative_within n as' o xs p a i c j h k =
      let (u, v, x) = action_within n.action n.text.0 p.fits.4 ((and-eq-true_iff (leb n.conditions 1) _).0 p.known).1 p.apt in (
        record { span = p.fits.0; few = rw i p.fits.1; attributes = a; condition = c; action = u; fewer = rw k p.fits.5; symbols = h },
        rw (i, j, k, v, x),
      )

  pub nonterminal_within : (n : NonterminalData) (args : List Text) (alts : List Alternative) → Passes four w ts (Node.Nonterminal n)
      → Each (Uses four w ts is_name) args → length args ≡ n.args → Each (AlternativeWithin four w ts) alts → length alts ≡ n.alternatives
      → NonterminalWithin four w ts (nonterminal_of ts n args alts) × (nonterminal_node ts (nonterminal_of ts n args alts) ≡ Node.Nonterminal n)
  unfolding nonterminal_of nonterminal_node defined suits
  nonterminal_within n args alts p a i b j =
      let (k, f) = (and-eq-true_iff (ltb n.name.0 (length ts)) (leb n.flags 3)).0 p.known in
      let u = text_uses is_name n.name.0 p.fits.1 k p.apt in (
        record { span = p.fits.0; name = u.0; few = rw i p.fits.3; args = a; fewer = rw j p.fits.4; alternatives = b },
        rw (i, j, u.1, flags_code n.flags f),
      )

  pub terminal_within : (t : TerminalData) → Passes four w ts (Node.Terminal t) → ItemWithin four w ts (terminal_of ts t) × (item_bytes w ts (terminal_of ts t) ≡ node_bytes w (Node.Terminal t))
  unfolding terminal_of item_bytes defined suits
  terminal_within t p =
      let u = text_uses is_name t.name.0 p.fits.1 p.known p.apt in
      ((p.fits.0, u.0), rw (u.1, source_code_lem t.source p.fits.2))
