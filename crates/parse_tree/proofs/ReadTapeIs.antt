-- What the plain definitions read is what parse_tree reads: commands, symbols, items, tapes. Assumes nothing.
use mathlib.Core.Path.{◌≡◌, refl, sym, ap, ◌∙◌, fun_ext}
use mathlib.Core.Logic.{inl, inr}
use mathlib.Core.Bool.{Bool, true, false, cond, ◌&&◌, ◌||◌, not, true≢false}
use mathlib.Core.List.{List, [], ◌∷◌, ◌++◌}
use mathlib.Core.Option.{Option, some, none}
use Prim.Native.Nat.{ℕ, zero, suc, ◌+◌, ◌-◌}
use native.Mathlib.Omega.{arith}
use borrow.Author.Tests.{eqb-true, eqb-false, ltb-true, lt-ltb}
use lib.Dec.{eqb, ltb, leb}
use lib.ListN.{length, get_or}
use Rattle.std.specs.Prelude.{Option as Optional, Some, None}
use Rattle.octets.specs.Working.Choice.{pick}
use Rattle.octets.specs.Plain.Numbers.{le_at}
use Rattle.octets.specs.Plain.Runs.{part}
use Rattle.parse_tree.specs.Plain.Tree.{Text, Sym, Action, Attribute, Condition, Alternative, Item, syms_of, no_action, user, fallible, lookahead_action, lookbehind_action, item}
use Rattle.parse_tree.specs.Plain.Texts.{is_name, is_ascii, has}
use Rattle.parse_tree.specs.Working.Nodes.{if_whole, text_node, span_in, nonterminal_node_at, terminal_node_at, argument_node_at, alternative_node_at, attribute_node_at, condition_node_at, node_by, node_at}
use Rattle.parse_tree.specs.Working.Places.{class_of, allowed_at, table, items_place, arguments_place, alternatives_place, attributes_place, conditions_place}
use Rattle.parse_tree.specs.Working.Questions.{defined, attribute_defined, alternative_defined, suits}
use Rattle.parse_tree.specs.Plain.Reading.{Reading, got, refused, then, times}
use Rattle.parse_tree.specs.Working.Expect.{expect_argument, expect_attribute, expect_condition, expect_alternative, expect_item}
use Rattle.parse_tree.specs.Working.Operands.{attribute_of, condition_of, action_from, alternative_of, nonterminal_of, terminal_of}
use Rattle.parse_tree.specs.Working.Decode.{read_sym, read_argument, read_attribute, read_condition, alternative_parts, read_alternative, nonterminal_parts, read_item, read_items, read_atoms, decode_by}
use Rattle.parse_tree.specs.Plain.ReadTape.{first_of}
use Rattle.parse_tree.specs.declared.syntax.Node.{Node}
use Rattle.parse_tree.proofs.SizeLaws.{argument-size, attribute_size, condition_size, alternative_size, nonterminal_size, terminal_size}
use Rattle.parse_tree.specs.Plain.ReadTape as Plain
use Rattle.parse_tree.proofs.ReadSymbolIs.{symbol_is}
use Rattle.parse_tree.proofs.ReadCommandIs.{and-true, pick-if, pick-or, by_code, node_by_lem, CodeOf, Coded, node_code, asks_other, asks_is}

module _ (four : Bool) (w : ℕ) (s : List ℕ) (ts : List Text) (at : ℕ) where
  abbrev code : ℕ
  code = get_or s at 0

  -- a command of another code may not stand at a place that wants this one
  no_argument : (n : Node) → CodeOf n code → eqb code 17 ≡ false → allowed_at arguments_place (class_of n) ≡ false
  unfolding allowed_at table class_of
  no_argument (Node.Text k) c e = refl
  no_argument (Node.Nonterminal d) c e = refl
  no_argument (Node.Terminal t) c e = refl
  no_argument (Node.Argument a) c e = absurd (eqb-false code 17 e c)
  no_argument (Node.Alternative a) c e = refl
  no_argument (Node.Attribute a) c e = refl
  no_argument (Node.Condition x) c e = refl
  no_argument (Node.Symbol sp k) c e = refl

  no_attribute : (n : Node) → CodeOf n code → eqb code 19 ≡ false → allowed_at attributes_place (class_of n) ≡ false
  unfolding allowed_at table class_of
  no_attribute (Node.Text k) c e = refl
  no_attribute (Node.Nonterminal d) c e = refl
  no_attribute (Node.Terminal t) c e = refl
  no_attribute (Node.Argument a) c e = refl
  no_attribute (Node.Alternative a) c e = refl
  no_attribute (Node.Attribute a) c e = absurd (eqb-false code 19 e c)
  no_attribute (Node.Condition x) c e = refl
  no_attribute (Node.Symbol sp k) c e = refl

  no_condition : (n : Node) → CodeOf n code → eqb code 20 ≡ false → allowed_at conditions_place (class_of n) ≡ false
  unfolding allowed_at table class_of
  no_condition (Node.Text k) c e = refl
  no_condition (Node.Nonterminal d) c e = refl
  no_condition (Node.Terminal t) c e = refl
  no_condition (Node.Argument a) c e = refl
  no_condition (Node.Alternative a) c e = refl
  no_condition (Node.Attribute a) c e = refl
  no_condition (Node.Condition x) c e = absurd (eqb-false code 20 e c)
  no_condition (Node.Symbol sp k) c e = refl

  no_alternative : (n : Node) → CodeOf n code → eqb code 18 ≡ false → allowed_at alternatives_place (class_of n) ≡ false
  unfolding allowed_at table class_of
  no_alternative (Node.Text k) c e = refl
  no_alternative (Node.Nonterminal d) c e = refl
  no_alternative (Node.Terminal t) c e = refl
  no_alternative (Node.Argument a) c e = refl
  no_alternative (Node.Alternative a) c e = absurd (eqb-false code 18 e c)
  no_alternative (Node.Attribute a) c e = refl
  no_alternative (Node.Condition x) c e = refl
  no_alternative (Node.Symbol sp k) c e = refl

  pub argument_is : Plain.argument_at four w s ts at ≡ read_argument four w s ts at
  unfolding Plain.argument_at read_argument expect_argument node_by pick argument_node_at allowed_at table class_of defined suits
  argument_is =
      by_code (λ r. r) code 17 _ _ _ (λ e. sym (asks_is four w s ts arguments_place 1 at _ (Node.Argument (record { 0 = le_at w s (at + 1) })) (1 + w) _ _ _
      (node_by_lem w s at 16 e) refl (and-true _) refl (sym (argument-size w _ _ refl)) refl)) (λ e.
      sym (asks_other four w s ts arguments_place 1 at _ (λ n h. no_argument n h e)))

  pub attribute_is : Plain.attribute_at four w s ts at ≡ read_attribute four w s ts at
  unfolding Plain.attribute_at read_attribute expect_attribute node_by pick attribute_node_at allowed_at table class_of defined attribute_defined suits attribute_of
  attribute_is =
      by_code (λ r. r) code 19 _ _ _ (λ e. sym (asks_is four w s ts attributes_place 1 at _ (Node.Attribute (record {
        id = record { 0 = le_at w s (at + 1) };
        kind = get_or s (at + 1 + w) 0;
        key = record { 0 = le_at w s (at + 2 + w) };
        value = record { 0 = le_at w s (at + 2 + w + w) };
      })) (2 + w + w + w) _ _ _
      (node_by_lem w s at 18 e) refl (and-true _ ∙ ap (λ (b : Bool). ltb (le_at w s (at + 1)) (length ts) && (leb (get_or s (at + 1 + w) 0) 1 && b)) (pick-if (eqb (get_or s (at + 1 + w) 0) 1) (ltb (le_at w s (at + 2 + w)) (length ts) && ltb (le_at w s (at + 2 + w + w)) (length ts)) (eqb (le_at w s (at + 2 + w)) 0 && eqb (le_at w s (at + 2 + w + w)) 0)))
      (ap (λ (b : Bool). is_name (get_or ts (le_at w s (at + 1)) []) && b) (pick-if (eqb (get_or s (at + 1 + w) 0) 1) (is_ascii (get_or ts (le_at w s (at + 2 + w)) []) && is_ascii (get_or ts (le_at w s (at + 2 + w + w)) [])) true)) (sym (attribute_size w _ _ refl))
      (ap (λ (o : Option (Text × Text)). got (record { id = get_or ts (le_at w s (at + 1)) []; argument = o }) (at + (2 + w + w + w))) (pick-if (eqb (get_or s (at + 1 + w) 0) 1) (some (get_or ts (le_at w s (at + 2 + w)) [], get_or ts (le_at w s (at + 2 + w + w)) [])) none)))) (λ e.
      sym (asks_other four w s ts attributes_place 1 at _ (λ n h. no_attribute n h e)))

  pub condition_is : Plain.condition_at four w s ts at ≡ read_condition four w s ts at
  unfolding Plain.condition_at read_condition expect_condition node_by pick condition_node_at allowed_at table class_of defined suits condition_of span_in
  condition_is =
      by_code (λ r. r) code 20 _ _ _ (λ e. sym (asks_is four w s ts conditions_place 1 at _ (Node.Condition (record {
        span = span_in s (at + 1);
        lhs = record { 0 = le_at w s (at + 9) };
        op = get_or s (at + 9 + w) 0;
        rhs = record { 0 = le_at w s (at + 10 + w) };
      })) (10 + w + w) _ _ _ (node_by_lem w s at 19 e) refl (and-true _) refl (sym (condition_size w _ _ refl)) refl)) (λ e.
      sym (asks_other four w s ts conditions_place 1 at _ (λ n h. no_condition n h e)))

-- ---- alternatives
first-is : (cs : List Condition) → first_of cs ≡ Plain.first_of cs
first-is [] = refl
first-is (c ∷ cs) = refl

action_is : (ts : List Text) (act k : ℕ) → action_from ts act k ≡ Plain.action_of act (get_or ts k [])
unfolding action_from pick
action_is ts act k = go (eqb act 0) (eqb act 1) (eqb act 2) (eqb act 3)
  where
    go : (a b c d : Bool)
        → pick a no_action (pick b (user (get_or ts k [])) (pick c (fallible (get_or ts k [])) (pick d lookahead_action lookbehind_action)))
        ≡ cond a no_action (cond b (user (get_or ts k [])) (cond c (fallible (get_or ts k [])) (cond d lookahead_action lookbehind_action)))
    go true b c d = refl
    go false true c d = refl
    go false false true d = refl
    go false false false true = refl
    go false false false false = refl

module _ (four : Bool) (w : ℕ) (s : List ℕ) (ts : List Text) (at : ℕ) where
  -- what stands inside an alternative, by what reads it
  abbrev in_alternative : (ℕ → Reading Attribute) → (ℕ → Reading Condition) → (ℕ → Reading Sym) → (List Condition → Option Condition) → Action → Reading Alternative
  in_alternative attribute_of condition_of symbol_of first act =
      then (times attribute_of (get_or s (at + 9) 0) (at + (14 + w))) (λ attributes e.
      then (times condition_of (get_or s (at + 10) 0) e) (λ conditions f.
      then (times symbol_of (le_at 2 s (at + 12 + w)) f) (λ symbols g.
      got (record { span = span_in s (at + 1); attributes = attributes; condition = first conditions; action = act; symbols = syms_of symbols }) g)))

  in_alternative_lem : in_alternative (read_attribute four w s ts) (read_condition four w s ts) (read_sym four w s ts 64) first_of (action_from ts (get_or s (at + 11) 0) (le_at w s (at + 12)))
      ≡ in_alternative (Plain.attribute_at four w s ts) (Plain.condition_at four w s ts) (Plain.symbol_at four w s ts 64) Plain.first_of (Plain.action_of (get_or s (at + 11) 0) (get_or ts (le_at w s (at + 12)) []))
  in_alternative_lem =
      ap (λ (f : ℕ → Reading Attribute). in_alternative f (read_condition four w s ts) (read_sym four w s ts 64) first_of (action_from ts (get_or s (at + 11) 0) (le_at w s (at + 12)))) (fun_ext (λ p. sym (attribute_is four w s ts p)))
      ∙ ap (λ (f : ℕ → Reading Condition). in_alternative (Plain.attribute_at four w s ts) f (read_sym four w s ts 64) first_of (action_from ts (get_or s (at + 11) 0) (le_at w s (at + 12)))) (fun_ext (λ p. sym (condition_is four w s ts p)))
      ∙ ap (λ (f : ℕ → Reading Sym). in_alternative (Plain.attribute_at four w s ts) (Plain.condition_at four w s ts) f first_of (action_from ts (get_or s (at + 11) 0) (le_at w s (at + 12)))) (fun_ext (λ p. sym (symbol_is four w s ts 64 p)))
      ∙ ap (λ (f : List Condition → Option Condition). in_alternative (Plain.attribute_at four w s ts) (Plain.condition_at four w s ts) (Plain.symbol_at four w s ts 64) f (action_from ts (get_or s (at + 11) 0) (le_at w s (at + 12)))) (fun_ext first-is)
      ∙ ap (λ (a : Action). in_alternative (Plain.attribute_at four w s ts) (Plain.condition_at four w s ts) (Plain.symbol_at four w s ts 64) Plain.first_of a) (action_is ts (get_or s (at + 11) 0) (le_at w s (at + 12)))

  pub alternative_is : Plain.alternative_at four w s ts at ≡ read_alternative four w s ts at
  unfolding Plain.alternative_at read_alternative expect_alternative alternative_parts alternative_of node_by pick alternative_node_at allowed_at table class_of defined alternative_defined suits span_in
  alternative_is =
      by_code (λ r. r) (get_or s at 0) 18 _ _ _ (λ e. sym (asks_is four w s ts alternatives_place 1 at _ (Node.Alternative (record {
        span = span_in s (at + 1);
        attributes = get_or s (at + 9) 0;
        conditions = get_or s (at + 10) 0;
        action = get_or s (at + 11) 0;
        text = record { 0 = le_at w s (at + 12) };
        symbols = le_at 2 s (at + 12 + w);
      })) (14 + w) _ _ _ (node_by_lem w s at 17 e) refl
      (and-true _ ∙ ap (λ (b : Bool). leb (get_or s (at + 10) 0) 1 && (leb (get_or s (at + 11) 0) 4 && b)) (text_if (ltb (le_at w s (at + 12)) (length ts)) (eqb (le_at w s (at + 12)) 0)))
      (text_if (is_ascii (get_or ts (le_at w s (at + 12)) [])) true) (sym (alternative_size w _ _ refl)) in_alternative_lem)) (λ e.
      sym (asks_other four w s ts alternatives_place 1 at _ (λ n h. no_alternative four w s ts at n h e)))
    where
      text_if : (x y : Bool) → pick (pick (eqb (get_or s (at + 11) 0) 1) true (eqb (get_or s (at + 11) 0) 2)) x y ≡ cond (eqb (get_or s (at + 11) 0) 1 || eqb (get_or s (at + 11) 0) 2) x y
      text_if x y = pick-if (pick (eqb (get_or s (at + 11) 0) 1) true (eqb (get_or s (at + 11) 0) 2)) x y ∙ ap (λ (b : Bool). cond b x y) (pick-or (eqb (get_or s (at + 11) 0) 1) (eqb (get_or s (at + 11) 0) 2))

-- ---- items
module _ (four : Bool) (w : ℕ) (s : List ℕ) (ts : List Text) (at : ℕ) where
  no_item : (n : Node) → CodeOf n (get_or s at 0) → eqb (get_or s at 0) 16 ≡ false → eqb (get_or s at 0) 48 ≡ false → eqb (get_or s at 0) 49 ≡ false → allowed_at items_place (class_of n) ≡ false
  unfolding allowed_at table class_of
  no_item (Node.Text k) c e f g = refl
  no_item (Node.Nonterminal d) c e f g = absurd (eqb-false (get_or s at 0) 16 e c)
  no_item (Node.Terminal t) (inl c) e f g = absurd (eqb-false (get_or s at 0) 48 f c)
  no_item (Node.Terminal t) (inr c) e f g = absurd (eqb-false (get_or s at 0) 49 g c)
  no_item (Node.Argument a) c e f g = refl
  no_item (Node.Alternative a) c e f g = refl
  no_item (Node.Attribute a) c e f g = refl
  no_item (Node.Condition x) c e f g = refl
  no_item (Node.Symbol sp k) c e f g = refl

  -- what stands inside a nonterminal, by what reads it
  abbrev in_nonterminal : (ℕ → Reading Text) → (ℕ → Reading Alternative) → Bool → Reading Item
  in_nonterminal argument_of alternative_of inline =
      then (times argument_of (get_or s (at + 10 + w) 0) (at + (13 + w))) (λ args e.
      then (times alternative_of (le_at 2 s (at + 11 + w)) e) (λ alternatives f.
      got (item (record { span = span_in s (at + 1); name = get_or ts (le_at w s (at + 9)) []; inline = inline; public = leb 2 (get_or s (at + 9 + w) 0); args = args; alternatives = alternatives })) f))

  in_nonterminal_lem : in_nonterminal (read_argument four w s ts) (read_alternative four w s ts) (pick (eqb (get_or s (at + 9 + w) 0) 1) true (eqb (get_or s (at + 9 + w) 0) 3))
      ≡ in_nonterminal (Plain.argument_at four w s ts) (Plain.alternative_at four w s ts) (eqb (get_or s (at + 9 + w) 0) 1 || eqb (get_or s (at + 9 + w) 0) 3)
  in_nonterminal_lem =
      ap (λ (f : ℕ → Reading Text). in_nonterminal f (read_alternative four w s ts) (pick (eqb (get_or s (at + 9 + w) 0) 1) true (eqb (get_or s (at + 9 + w) 0) 3))) (fun_ext (λ p. sym (argument_is four w s ts p)))
      ∙ ap (λ (f : ℕ → Reading Alternative). in_nonterminal (Plain.argument_at four w s ts) f (pick (eqb (get_or s (at + 9 + w) 0) 1) true (eqb (get_or s (at + 9 + w) 0) 3))) (fun_ext (λ p. sym (alternative_is four w s ts p)))
      ∙ ap (λ (b : Bool). in_nonterminal (Plain.argument_at four w s ts) (Plain.alternative_at four w s ts) b) (pick-or (eqb (get_or s (at + 9 + w) 0) 1) (eqb (get_or s (at + 9 + w) 0) 3))

  pub item_is : Plain.item_at four w s ts at ≡ read_item four w s ts at
  unfolding Plain.item_at read_item expect_item nonterminal_parts nonterminal_of terminal_of node_by pick nonterminal_node_at terminal_node_at allowed_at table class_of defined suits span_in
  item_is =
      by_code (λ r. r) (get_or s at 0) 16 _ _ _ (λ e. sym (asks_is four w s ts items_place 1 at _ (Node.Nonterminal (record {
        span = span_in s (at + 1);
        name = record { 0 = le_at w s (at + 9) };
        flags = get_or s (at + 9 + w) 0;
        args = get_or s (at + 10 + w) 0;
        alternatives = le_at 2 s (at + 11 + w);
      })) (13 + w) _ _ _ (node_by_lem w s at 15 e) refl (and-true _) refl (sym (nonterminal_size w _ _ refl)) in_nonterminal_lem)) (λ n16.
      by_code (λ r. r) (get_or s at 0) 48 _ _ _ (λ e. sym (asks_is four w s ts items_place 1 at _ (Node.Terminal (record { span = span_in s (at + 1); name = record { 0 = le_at w s (at + 9) }; source = 48 }))
      (9 + w) _ _ _ (node_by_lem w s at 47 e) refl (and-true _) refl (sym (terminal_size w _ _ refl)) refl)) (λ n48.
      by_code (λ r. r) (get_or s at 0) 49 _ _ _ (λ e. sym (asks_is four w s ts items_place 1 at _ (Node.Terminal (record { span = span_in s (at + 1); name = record { 0 = le_at w s (at + 9) }; source = 49 }))
      (9 + w) _ _ _ (node_by_lem w s at 48 e) refl (and-true _) refl (sym (terminal_size w _ _ refl)) refl)) (λ n49.
      sym (asks_other four w s ts items_place 1 at _ (λ n h. no_item n h n16 n48 n49)))))

-- ---- tapes
module _ (four : Bool) (w : ℕ) (s : List ℕ) where
  items_are : (ts : List Text) (n at : ℕ) → Plain.items_at four w s ts n at ≡ read_items four w s ts n at
  unfolding Plain.items_at read_items
  items_are ts zero at = refl
  items_are ts (suc n) at = go (leb (length s) at) (fun_ext (λ p. items_are ts n p))
    where
      all : (ℕ → Reading (List Item)) → Reading Item → Bool → Reading (List Item)
      all more one b = elim b [ true ↦ got [] at | false ↦ then one (λ i e. then (more e) (λ is f. got (i ∷ is) f)) ]

      go : (b : Bool) → Plain.items_at four w s ts n ≡ read_items four w s ts n → all (Plain.items_at four w s ts n) (Plain.item_at four w s ts at) b ≡ all (read_items four w s ts n) (read_item four w s ts at) b
      go true ih = refl
      go false ih =
          ap (λ (r : Reading Item). then r (λ i e. then (Plain.items_at four w s ts n e) (λ is f. got (i ∷ is) f))) (item_is four w s ts at)
          ∙ ap (λ (k : ℕ → Reading (List Item)). then (read_item four w s ts at) (λ i e. then (k e) (λ is f. got (i ∷ is) f))) ih

  -- what is read behind a command among the atoms: the next atom, or no more of them
  abbrev next_atom : (List Text → ℕ → Reading (List Text)) → List Text → ℕ → Optional Node → Reading (List Text)
  next_atom more ts at n = elim n [
    | None ↦ got ts at
    | Some (Node.Text k) ↦ elim (has (part (at + 3) (at + 3 + k) s) ts) [ true ↦ refused 3 at | false ↦ more (ts ++ (part (at + 3) (at + 3 + k) s ∷ [])) (at + 3 + k) ]
    | Some (Node.Nonterminal d) ↦ got ts at
    | Some (Node.Terminal t) ↦ got ts at
    | Some (Node.Argument a) ↦ got ts at
    | Some (Node.Alternative a) ↦ got ts at
    | Some (Node.Attribute a) ↦ got ts at
    | Some (Node.Condition c) ↦ got ts at
    | Some (Node.Symbol sp k) ↦ got ts at
  ]

  no_atom : (more : List Text → ℕ → Reading (List Text)) (ts : List Text) (at : ℕ) (n : Optional Node) → Coded w s at n → eqb (get_or s at 0) 1 ≡ false → next_atom more ts at n ≡ got ts at
  no_atom more ts at None c e = refl
  no_atom more ts at (Some (Node.Text k)) c e = absurd (eqb-false (get_or s at 0) 1 e c)
  no_atom more ts at (Some (Node.Nonterminal d)) c e = refl
  no_atom more ts at (Some (Node.Terminal t)) c e = refl
  no_atom more ts at (Some (Node.Argument a)) c e = refl
  no_atom more ts at (Some (Node.Alternative a)) c e = refl
  no_atom more ts at (Some (Node.Attribute a)) c e = refl
  no_atom more ts at (Some (Node.Condition x)) c e = refl
  no_atom more ts at (Some (Node.Symbol sp k)) c e = refl

  -- an atom that is whole with its bytes is whole with its command
  whole_atom : (at : ℕ) → ltb (length s - at) 3 ≡ true → ltb (length s - at) (3 + le_at 2 s (at + 1)) ≡ true
  whole_atom at e = let z = ltb-true (length s - at) 3 e in lt-ltb (length s - at) (3 + le_at 2 s (at + 1)) (omega arith)

  abbrev of_atom : (List Text → ℕ → Reading (List Text)) → List Text → ℕ → Bool → Reading (List Text)
  of_atom more ts at b = elim b [
    | true ↦ elim (has (part (at + 3) (at + 3 + le_at 2 s (at + 1)) s) ts) [ true ↦ refused 3 at | false ↦ more (ts ++ (part (at + 3) (at + 3 + le_at 2 s (at + 1)) s ∷ [])) (at + 3 + le_at 2 s (at + 1)) ]
    | false ↦ got ts at
  ]

  atom_is : (more : List Text → ℕ → Reading (List Text)) (ts : List Text) (at : ℕ) → of_atom more ts at (eqb (get_or s at 0) 1 && not (ltb (length s - at) (3 + le_at 2 s (at + 1)))) ≡ next_atom more ts at (node_at w s at)
  unfolding node_by text_node if_whole pick
  atom_is more ts at = go (eqb (get_or s at 0) 1) refl
    where
      text : (a b : Bool) → ltb (length s - at) 3 ≡ a → ltb (length s - at) (3 + le_at 2 s (at + 1)) ≡ b
          → of_atom more ts at (not b) ≡ next_atom more ts at (pick a None (pick b None (Some (Node.Text (le_at 2 s (at + 1))))))
      text true true e f = refl
      text true false e f = absurd (true≢false (sym (whole_atom at e) ∙ f))
      text false true e f = refl
      text false false e f = refl

      go : (b : Bool) → eqb (get_or s at 0) 1 ≡ b → of_atom more ts at (b && not (ltb (length s - at) (3 + le_at 2 s (at + 1)))) ≡ next_atom more ts at (node_at w s at)
      go true e = text (ltb (length s - at) 3) (ltb (length s - at) (3 + le_at 2 s (at + 1))) refl refl ∙ sym (ap (next_atom more ts at) (node_by_lem w s at 0 (eqb-true (get_or s at 0) 1 e)))
      go false e = sym (no_atom more ts at (node_at w s at) (node_code w s at) e)

  atoms_are : (n : ℕ) (ts : List Text) (at : ℕ) → Plain.atoms_at four w s n ts at ≡ read_atoms four w s n ts at
  unfolding Plain.atoms_at read_atoms
  atoms_are zero ts at = refl
  atoms_are (suc n) ts at =
      ap (λ (f : List Text → ℕ → Reading (List Text)). of_atom f ts at (eqb (get_or s at 0) 1 && not (ltb (length s - at) (3 + le_at 2 s (at + 1))))) (fun_ext (λ us. fun_ext (λ p. atoms_are n us p)))
      ∙ atom_is (read_atoms four w s n) ts at

  -- the tree of a tape
  pub read_is : Plain.read_tape four w s ≡ decode_by four w s
  unfolding Plain.read_tape decode_by
  read_is =
      ap (λ (r : Reading (List Text)). then r (λ ts at. then (Plain.items_at four w s ts (length s) at) (λ is e. got (record { atoms = ts; items = is }) e))) (atoms_are (length s) [] 0)
      ∙ ap (λ (k : List Text → ℕ → Reading (List Item)). then (read_atoms four w s (length s) [] 0) (λ ts at. then (k ts at) (λ is e. got (record { atoms = ts; items = is }) e))) (fun_ext (λ ts. fun_ext (λ p. items_are ts (length s) p)))
