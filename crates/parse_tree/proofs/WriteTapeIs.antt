-- What the plain definitions write is what the commands' bytes are. Assumes nothing.
use mathlib.Core.Path.{◌≡◌, refl, ap, ◌∙◌}
use mathlib.Core.Bool.{Bool, true, false, cond}
use mathlib.Core.List.{List, [], ◌∷◌, ◌++◌}
use mathlib.Core.Option.{Option, none, some}
use Prim.Native.Nat.{ℕ}
use lib.ListN.{length}
use Rattle.octets.specs.Working.Choice.{pick}
use Rattle.octets.specs.Plain.Numbers.{le}
use Rattle.parse_tree.specs.Plain.Texts.{number}
use Rattle.parse_tree.specs.Plain.Tree.{star, plus, question, Text, Leaf, Around, Over, Sym, Syms, Action, Attribute, Condition, Alternative, Item, Stage, ambiguous, bare, quoted, regex, nonterminal, lookahead, lookbehind, error, repeat, choose, name, macro, group, leaf, around, over, nil, cons, no_action, user, fallible, lookahead_action, lookbehind_action, extern, match, item, terminal, count, conditions}
use Rattle.parse_tree.specs.Working.Nodes.{span_bytes, leaf_code, leaf_operand, symbol_bytes, node_bytes}
use Rattle.parse_tree.specs.Working.Encode.{action_code, atom_bytes, leaf_node, around_node, over_node, action_text, alternative_node, attribute_node, condition_node, nonterminal_node, sym_bytes, syms_bytes, argument_bytes, attribute_bytes, condition_bytes, alternative_bytes, item_bytes, stage_bytes}
use Rattle.parse_tree.specs.Plain.WriteTape.{coded, atom_tape, leaf_tape, around_tape, over_tape, sym_tape, syms_tape, action_tape, attribute_tape, condition_tape, alternative_tape, item_tape, tape_of, bytes_of_each}
use Rattle.parse_tree.specs.declared.syntax.Span.{Span}
use Rattle.parse_tree.specs.declared.syntax.SymbolKind.{SymbolKind}
use Rattle.parse_tree.specs.declared.syntax.Node.{Node}

-- the two lists of bytes are one
each-is : {A : Type 0} (f g : A → List ℕ) → ((x : A) → f x ≡ g x) → (xs : List A) → bytes_of_each f xs ≡ bytes_of_each g xs
unfolding bytes_of_each
each-is f g h [] = refl
each-is f g h (x ∷ xs) = ap (λ (l : List ℕ). l ++ bytes_of_each f xs) (h x) ∙ ap (λ (l : List ℕ). g x ++ l) (each-is f g h xs)

module _ (w : ℕ) (ts : List Text) where
  leaf_is : (s : Span) (l : Leaf) → leaf_tape w ts s l ≡ node_bytes w (Node.Symbol s (SymbolKind.Leaf (leaf_node ts l)))
  unfolding leaf_tape coded atom_tape node_bytes symbol_bytes span_bytes leaf_code leaf_operand leaf_node le
  leaf_is s (ambiguous x) = refl
  leaf_is s (bare x) = refl
  leaf_is s (quoted x) = refl
  leaf_is s (regex x) = refl
  leaf_is s (nonterminal x) = refl
  leaf_is s lookahead = refl
  leaf_is s lookbehind = refl
  leaf_is s error = refl

  around_is : (s : Span) (a : Around) → around_tape w ts s a ≡ node_bytes w (Node.Symbol s (SymbolKind.Around (around_node ts a)))
  unfolding around_tape coded atom_tape node_bytes symbol_bytes span_bytes around_node
  around_is s (repeat star) = refl
  around_is s (repeat plus) = refl
  around_is s (repeat question) = refl
  around_is s choose = refl
  around_is s (name true x) = refl
  around_is s (name false x) = refl

  over_is : (s : Span) (o : Over) (n : ℕ) → over_tape w ts s o n ≡ node_bytes w (Node.Symbol s (SymbolKind.Over (over_node ts o n)))
  unfolding over_tape coded atom_tape node_bytes symbol_bytes span_bytes over_node
  over_is s (macro x) n = refl
  over_is s group n = refl

  mutual
    unfolding sym_tape sym_bytes

    sym_is : (x : Sym) → sym_tape w ts x ≡ sym_bytes w ts x
    sym_is (leaf s l) = leaf_is s l
    sym_is (around s a x) = ap (λ (l : List ℕ). l ++ sym_tape w ts x) (around_is s a) ∙ ap (λ (l : List ℕ). node_bytes w (Node.Symbol s (SymbolKind.Around (around_node ts a))) ++ l) (sym_is x)
    sym_is (over s o xs) =
        ap (λ (l : List ℕ). l ++ syms_tape w ts xs) (over_is s o (count xs)) ∙ ap (λ (l : List ℕ). node_bytes w (Node.Symbol s (SymbolKind.Over (over_node ts o (count xs)))) ++ l) (syms_are xs)

    syms_are : (xs : Syms) → syms_tape w ts xs ≡ syms_bytes w ts xs
    syms_are nil = refl
    syms_are (cons x xs) = ap (λ (l : List ℕ). l ++ syms_tape w ts xs) (sym_is x) ∙ ap (λ (l : List ℕ). sym_bytes w ts x ++ l) (syms_are xs)

  attribute_is : (a : Attribute) → attribute_tape w ts a ≡ attribute_bytes w ts a
  unfolding attribute_tape atom_tape attribute_bytes attribute_node node_bytes
  attribute_is a = go a.argument
    where
      go : (o : Option (Text × Text))
          → 0x13 ∷ (le w (number ts a.id) ++ (elim o [ none ↦ 0 ∷ (le w 0 ++ le w 0) | some kv ↦ 1 ∷ (le w (number ts kv.0) ++ le w (number ts kv.1)) ]))
          ≡ node_bytes w (elim o [
            | none ↦ Node.Attribute (record { id = record { 0 = number ts a.id }; kind = 0; key = record { 0 = 0 }; value = record { 0 = 0 } })
            | some kv ↦ Node.Attribute (record { id = record { 0 = number ts a.id }; kind = 1; key = record { 0 = number ts kv.0 }; value = record { 0 = number ts kv.1 } })
          ])
      go none = refl
      go (some kv) = refl

  condition_is : (c : Condition) → condition_tape w ts c ≡ condition_bytes w ts c
  unfolding condition_tape coded atom_tape condition_bytes condition_node node_bytes span_bytes pick
  condition_is c = go c.equal
    where
      go : (b : Bool) → coded 0x14 c.span ++ (le w (number ts c.lhs) ++ (cond b 0 1 ∷ le w (number ts c.rhs)))
          ≡ 20 ∷ (span_bytes c.span ++ (le w (number ts c.lhs) ++ (pick b 0 1 ∷ le w (number ts c.rhs))))
      go true = refl
      go false = refl

  head_is : (s : Span) (m k n : ℕ) (a : Action)
      → coded 0x12 s ++ (m ∷ k ∷ (action_tape w ts a ++ le 2 n))
      ≡ 18 ∷ (span_bytes s ++ (m ∷ k ∷ action_code a ∷ (le w (action_text ts a) ++ le 2 n)))
  unfolding coded span_bytes action_tape atom_tape action_text
  head_is s m k n no_action = refl
  head_is s m k n (user t) = refl
  head_is s m k n (fallible t) = refl
  head_is s m k n lookahead_action = refl
  head_is s m k n lookbehind_action = refl

  alternative_is : (a : Alternative) → alternative_tape w ts a ≡ alternative_bytes w ts a
  unfolding alternative_tape alternative_bytes alternative_node node_bytes
  alternative_is a = rw (head_is a.span (length a.attributes) (length (conditions a.condition)) (count a.symbols) a.action, each-is (attribute_tape w ts) (attribute_bytes w ts) attribute_is a.attributes, each-is (condition_tape w ts) (condition_bytes w ts) condition_is (conditions a.condition), syms_are a.symbols) refl

  item_is : (i : Item) → item_tape w ts i ≡ item_bytes w ts i
  unfolding item_tape coded atom_tape item_bytes nonterminal_node argument_bytes node_bytes span_bytes
  item_is (item d) = rw (each-is (λ x. 0x11 ∷ le w (number ts x)) (argument_bytes w ts) (λ x. refl) d.args, each-is (alternative_tape w ts) (alternative_bytes w ts) alternative_is d.alternatives) refl
  item_is (terminal s extern x) = refl
  item_is (terminal s match x) = refl

-- the tape of a stage
pub tape_is : (w : ℕ) (g : Stage) → tape_of w g ≡ stage_bytes w g
unfolding tape_of stage_bytes atom_bytes node_bytes
tape_is w g = rw (each-is (λ (t : Text). 0x01 ∷ (le 2 (length t) ++ t)) (atom_bytes w) (λ t. refl) g.atoms, each-is (item_tape w g.atoms) (item_bytes w g.atoms) (item_is w g.atoms) g.items) refl
