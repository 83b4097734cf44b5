-- From the tree to its commands: what is within its limits passes the questions, and its operands give it back. Assumes nothing.
use mathlib.Core.Path.{◌≡◌, refl, ap}
use mathlib.Core.Bool.{Bool, true, false, ◌&&◌}
use mathlib.Mathlib.Data.Bool.Basic.{and_intro}
use mathlib.Core.List.{List, []}
use mathlib.Core.Logic.{inl, inr}
use mathlib.Core.Option.{Option, none, some}
use Prim.Native.Nat.{ℕ, ◌+◌, ◌^◌, ◌<◌, ◌≤◌}
use native.Mathlib.Nat.{one-le-pow}
use native.Mathlib.Omega.{arith}
use borrow.Author.Tests.{le-leb}
use lib.Dec.{leb, ltb, eqb}
use lib.ListN.{length, get_or}
use Rattle.octets.specs.Working.Choice.{pick}
use Rattle.octets.proofs.ChoiceLaws.{pick_same}
use Rattle.parse_tree.specs.Plain.Tree.{Text, Leaf, Around, Over, Action, Condition, Alternative, Nonterminal, Source, star, plus, question, ambiguous, bare, quoted, regex, nonterminal, lookahead, lookbehind, error, repeat, choose, name, macro, group, no_action, user, fallible, lookahead_action, lookbehind_action, extern, match, terminal, conditions}
use Rattle.parse_tree.specs.Plain.Texts.{is_name, is_literal, is_ascii, number}
use Rattle.parse_tree.specs.Working.Questions.{has_text, of_class, leaf_defined, symbol_defined, alternative_defined, attribute_defined, defined, leaf_suits, symbol_suits, suits}
use Rattle.parse_tree.specs.Plain.Reading.{got}
use Rattle.parse_tree.specs.Working.Expect.{expect_condition}
use Rattle.parse_tree.specs.Working.Operands.{op_from, inside_of, leaf_of, around_of, over_of, action_from, attribute_of, condition_of, alternative_of, nonterminal_of, terminal_of}
use Rattle.parse_tree.specs.Working.Encode.{action_code, source_code, leaf_node, around_node, over_node, action_text, alternative_node, attribute_node, condition_node, nonterminal_node}
use Rattle.parse_tree.specs.Plain.WriteTape.{bit}
use Rattle.parse_tree.specs.Working.Within.{SpanWithin, Uses, LeafWithin, AroundWithin, OverWithin, ActionWithin, ArgumentWithin, ConditionWithin, AlternativeWithin, NonterminalWithin}
use Rattle.parse_tree.specs.declared.syntax.Span.{Span}
use Rattle.parse_tree.specs.declared.syntax.Attribute.{Attribute as AttributeNode}
use Rattle.parse_tree.specs.declared.syntax.SymbolKind.{SymbolKind}
use Rattle.parse_tree.specs.declared.syntax.Node.{Node}
use Rattle.parse_tree.proofs.TextLaws.{number-ltb, text_number}
use Rattle.parse_tree.proofs.Asking.{Passes}

-- ---- question 4, if it is asked
apt_both : (four a b : Bool) → pick four a true ≡ true → pick four b true ≡ true → pick four (a && b) true ≡ true
unfolding pick
apt_both true a b p q = and_intro p q
apt_both false a b p q = refl

-- ---- operands that are no texts
equal_code : (b : Bool) → (pick b 0 1 ≤ 1) × (eqb (pick b 0 1) 0 ≡ b)
unfolding pick
equal_code true = (omega arith, refl)
equal_code false = (omega arith, refl)

flags : (i p : Bool) → (bit i + (bit p + bit p) ≤ 3) × (pick (eqb (bit i + (bit p + bit p)) 1) true (eqb (bit i + (bit p + bit p)) 3) ≡ i) × (leb 2 (bit i + (bit p + bit p)) ≡ p)
unfolding pick
flags true true = (omega arith, refl, refl)
flags true false = (omega arith, refl, refl)
flags false true = (omega arith, refl, refl)
flags false false = (omega arith, refl, refl)

one_condition : (o : Option Condition) → length (conditions o) ≤ 1
one_condition none = omega arith
one_condition (some c) = omega arith

module _ (four : Bool) (w : ℕ) (ts : List Text) where
  -- a text's class, asked by its number
  apt_text : (class : Text → Bool) (x : Text) → Uses four w ts class x → pick four (class (get_or ts (number ts x) [])) true ≡ true
  apt_text class x u = rw (text_number ts x u.0) u.2

  -- ---- symbols
  pub leaf_passes : (s : Span) (l : Leaf) → SpanWithin s → LeafWithin four w ts l → Passes four w ts (Node.Symbol s (SymbolKind.Leaf (leaf_node ts l)))
  unfolding leaf_node defined symbol_defined leaf_defined suits symbol_suits leaf_suits
  leaf_passes s (ambiguous x) h u = record { fits = (h, u.1); known = number-ltb ts x u.0; apt = apt_text is_name x u }
  leaf_passes s (bare x) h u = record { fits = (h, u.1); known = number-ltb ts x u.0; apt = apt_text is_name x u }
  leaf_passes s (quoted x) h u = record { fits = (h, u.1); known = number-ltb ts x u.0; apt = apt_text is_literal x u }
  leaf_passes s (regex x) h u = record { fits = (h, u.1); known = number-ltb ts x u.0; apt = apt_text is_literal x u }
  leaf_passes s (nonterminal x) h u = record { fits = (h, u.1); known = number-ltb ts x u.0; apt = apt_text is_name x u }
  leaf_passes s lookahead h u = record { fits = (h, tt); known = refl; apt = pick_same four true }
  leaf_passes s lookbehind h u = record { fits = (h, tt); known = refl; apt = pick_same four true }
  leaf_passes s error h u = record { fits = (h, tt); known = refl; apt = pick_same four true }

  pub leaf_back : (l : Leaf) → LeafWithin four w ts l → leaf_of ts (leaf_node ts l) ≡ l
  unfolding leaf_node leaf_of
  leaf_back (ambiguous x) u = ap ambiguous (text_number ts x u.0)
  leaf_back (bare x) u = ap bare (text_number ts x u.0)
  leaf_back (quoted x) u = ap quoted (text_number ts x u.0)
  leaf_back (regex x) u = ap regex (text_number ts x u.0)
  leaf_back (nonterminal x) u = ap nonterminal (text_number ts x u.0)
  leaf_back lookahead u = refl
  leaf_back lookbehind u = refl
  leaf_back error u = refl

  pub around_passes : (s : Span) (a : Around) → SpanWithin s → AroundWithin four w ts a → Passes four w ts (Node.Symbol s (SymbolKind.Around (around_node ts a)))
  unfolding around_node defined symbol_defined suits symbol_suits
  around_passes s (repeat star) h u = record { fits = (h, omega arith); known = refl; apt = pick_same four true }
  around_passes s (repeat plus) h u = record { fits = (h, omega arith); known = refl; apt = pick_same four true }
  around_passes s (repeat question) h u = record { fits = (h, omega arith); known = refl; apt = pick_same four true }
  around_passes s choose h u = record { fits = (h, tt); known = refl; apt = pick_same four true }
  around_passes s (name true x) h u = record { fits = (h, (omega arith, u.1)); known = number-ltb ts x u.0; apt = apt_text is_name x u }
  around_passes s (name false x) h u = record { fits = (h, (omega arith, u.1)); known = number-ltb ts x u.0; apt = apt_text is_name x u }

  pub around_back : (a : Around) → AroundWithin four w ts a → around_of ts (around_node ts a) ≡ a
  unfolding around_node around_of op_from pick
  around_back (repeat star) u = refl
  around_back (repeat plus) u = refl
  around_back (repeat question) u = refl
  around_back choose u = refl
  around_back (name true x) u = ap (name true) (text_number ts x u.0)
  around_back (name false x) u = ap (name false) (text_number ts x u.0)

  pub over_passes : (s : Span) (o : Over) (n : ℕ) → SpanWithin s → OverWithin four w ts o n → Passes four w ts (Node.Symbol s (SymbolKind.Over (over_node ts o n)))
  unfolding over_node defined symbol_defined suits symbol_suits
  over_passes s (macro x) n h u = record {
    fits = (h, (u.0.1, u.2));
    known = and_intro (number-ltb ts x u.0.0) (le-leb 1 n u.1);
    apt = apt_text is_name x u.0;
  }
  over_passes s group n h u = record { fits = (h, u); known = refl; apt = pick_same four true }

  pub over_back : (o : Over) (n : ℕ) → OverWithin four w ts o n → over_of ts (over_node ts o n) ≡ o
  unfolding over_node over_of
  over_back (macro x) n u = ap macro (text_number ts x u.0.0)
  over_back group n u = refl

  pub over_inside : (o : Over) (n : ℕ) → inside_of (over_node ts o n) ≡ n
  unfolding over_node inside_of
  over_inside (macro x) n = refl
  over_inside group n = refl

  -- ---- what stands in an item
  pub argument_passes : (x : Text) → Uses four w ts is_name x → Passes four w ts (Node.Argument (record { 0 = number ts x }))
  unfolding defined suits
  argument_passes x u = record { fits = u.1; known = number-ltb ts x u.0; apt = apt_text is_name x u }

  -- kind 1 with an argument, kind 0 without
  pub attribute_passes : (i : Text) (o : Option (Text × Text)) → Uses four w ts is_name i → ArgumentWithin four w ts o
      → (n : AttributeNode) × (attribute_node ts (record { id = i; argument = o }) ≡ Node.Attribute n) × Passes four w ts (Node.Attribute n) × (attribute_of ts n ≡ record { id = i; argument = o })
  unfolding attribute_node attribute_of defined attribute_defined suits pick
  attribute_passes i none u v = (
    record { id = record { 0 = number ts i }; kind = 0; key = record { 0 = 0 }; value = record { 0 = 0 } },
    refl,
    record {
      fits = (u.1, omega arith, one-le-pow w 256 (omega arith), one-le-pow w 256 (omega arith));
      known = and_intro (number-ltb ts i u.0) refl;
      apt = apt_both four _ _ (apt_text is_name i u) (pick_same four true);
    },
    rw (text_number ts i u.0),
  )
  attribute_passes i (some kv) u v = (
    record { id = record { 0 = number ts i }; kind = 1; key = record { 0 = number ts kv.0 }; value = record { 0 = number ts kv.1 } },
    refl,
    record {
      fits = (u.1, omega arith, v.0.1, v.1.1);
      known = and_intro (number-ltb ts i u.0) (and_intro (number-ltb ts kv.0 v.0.0) (number-ltb ts kv.1 v.1.0));
      apt = apt_both four _ _ (apt_text is_name i u) (apt_both four _ _ (apt_text is_ascii kv.0 v.0) (apt_text is_ascii kv.1 v.1));
    },
    rw (text_number ts i u.0, text_number ts kv.0 v.0.0, text_number ts kv.1 v.1.0),
  )

  pub condition_passes : (c : Condition) → ConditionWithin four w ts c → Passes four w ts (condition_node ts c)
  unfolding condition_node defined suits
  condition_passes c h =
      let o = (equal_code c.equal).0 in
      record {
        fits = (h.span, h.lhs.1, omega arith, h.rhs.1);
        known = and_intro (number-ltb ts c.lhs h.lhs.0) (and_intro (le-leb _ 1 o) (number-ltb ts c.rhs h.rhs.0));
        apt = apt_both four _ _ (apt_text is_name c.lhs h.lhs) (apt_text is_literal c.rhs h.rhs);
      }

  pub condition_back : (c : Condition) (at d : ℕ) → ConditionWithin four w ts c → expect_condition at (λ n e. got (condition_of ts n) e) (condition_node ts c) d ≡ got c d
  unfolding condition_node condition_of expect_condition
  condition_back c at d h = rw (text_number ts c.lhs h.lhs.0, text_number ts c.rhs h.rhs.0, (equal_code c.equal).1)

  -- ---- an alternative
  action_passes : (x : Action) → ActionWithin four w ts x
      → (action_code x < 256) × (action_text ts x < 256 ^ w)
      × ((leb (action_code x) 4 && pick (has_text (action_code x)) (ltb (action_text ts x) (length ts)) (eqb (action_text ts x) 0)) ≡ true)
      × (pick four (pick (has_text (action_code x)) (of_class is_ascii ts (action_text ts x)) true) true ≡ true)
  unfolding action_text pick
  action_passes no_action u = (omega arith, one-le-pow w 256 (omega arith), refl, pick_same four true)
  action_passes (user t) u = (omega arith, u.1, number-ltb ts t u.0, apt_text is_ascii t u)
  action_passes (fallible t) u = (omega arith, u.1, number-ltb ts t u.0, apt_text is_ascii t u)
  action_passes lookahead_action u = (omega arith, one-le-pow w 256 (omega arith), refl, pick_same four true)
  action_passes lookbehind_action u = (omega arith, one-le-pow w 256 (omega arith), refl, pick_same four true)

  action_back : (x : Action) → ActionWithin four w ts x → action_from ts (action_code x) (action_text ts x) ≡ x
  unfolding action_text action_from pick
  action_back no_action u = refl
  action_back (user t) u = ap user (text_number ts t u.0)
  action_back (fallible t) u = ap fallible (text_number ts t u.0)
  action_back lookahead_action u = refl
  action_back lookbehind_action u = refl

  pub alternative_passes : (a : Alternative) → AlternativeWithin four w ts a → Passes four w ts (alternative_node ts a)
  unfolding alternative_node defined alternative_defined suits
  alternative_passes a h =
      let (c, t, k, z) = action_passes a.action h.action in
      let o = one_condition a.condition in
      record { fits = (h.span, h.few, omega arith, c, t, h.fewer); known = and_intro (le-leb (length (conditions a.condition)) 1 o) k; apt = z }

  -- the numbers k of attributes, n of conditions and m of symbols are not asked here
  pub alternative_back : (a : Alternative) (k n m : ℕ) → AlternativeWithin four w ts a
      → alternative_of ts (record { span = a.span; attributes = k; conditions = n; action = action_code a.action; text = record { 0 = action_text ts a.action }; symbols = m }) a.attributes a.condition a.symbols ≡ a
  unfolding alternative_of
  alternative_back a k n m h = rw (action_back a.action h.action)

  -- ---- items
  pub nonterminal_passes : (d : Nonterminal) → NonterminalWithin four w ts d → Passes four w ts (nonterminal_node ts d)
  unfolding nonterminal_node defined suits
  nonterminal_passes d h =
      let f = (flags d.inline d.public).0 in
      record {
        fits = (h.span, h.name.1, omega arith, h.few, h.fewer);
        known = and_intro (number-ltb ts d.name h.name.0) (le-leb _ 3 f);
        apt = apt_text is_name d.name h.name;
      }

  -- the numbers n of arguments and m of alternatives are not asked here
  pub nonterminal_back : (d : Nonterminal) (n m : ℕ) → NonterminalWithin four w ts d
      → nonterminal_of ts (record { span = d.span; name = record { 0 = number ts d.name }; flags = bit d.inline + (bit d.public + bit d.public); args = n; alternatives = m }) d.args d.alternatives ≡ d
  unfolding nonterminal_of
  nonterminal_back d n m h = rw (text_number ts d.name h.name.0, (flags d.inline d.public).1, (flags d.inline d.public).2)

  pub terminal_passes : (s : Span) (o : Source) (x : Text) → SpanWithin s → Uses four w ts is_name x → Passes four w ts (Node.Terminal (record { span = s; name = record { 0 = number ts x }; source = source_code o }))
  unfolding defined suits
  terminal_passes s extern x h u = record { fits = (h, u.1, inl refl); known = number-ltb ts x u.0; apt = apt_text is_name x u }
  terminal_passes s match x h u = record { fits = (h, u.1, inr refl); known = number-ltb ts x u.0; apt = apt_text is_name x u }

  pub terminal_back : (s : Span) (o : Source) (x : Text) → Uses four w ts is_name x → terminal_of ts (record { span = s; name = record { 0 = number ts x }; source = source_code o }) ≡ terminal s o x
  unfolding terminal_of pick
  terminal_back s extern x u = ap (terminal s extern) (text_number ts x u.0)
  terminal_back s match x u = ap (terminal s match) (text_number ts x u.0)
