-- What lies in a tape and is within its limits is read: symbols, alternatives, items. Assumes nothing.
use mathlib.Core.Path.{◌≡◌, refl}
use mathlib.Core.Bool.{Bool}
use mathlib.Core.List.{List, ◌++◌}
use mathlib.Core.Option.{Option, none, some}
use Prim.Native.Nat.{ℕ, zero, suc, ◌+◌}
use native.Mathlib.Omega.{arith}
use lib.ListN.{length}
use Rattle.octets.specs.Plain.Runs.{Lies}
use Rattle.octets.proofs.LiesLaws.{lies_split}
use Rattle.parse_tree.specs.Plain.Tree.{Text, Sym, Syms, Condition, leaf, around, over, nil, cons, item, terminal, count, conditions}
use Rattle.parse_tree.specs.Plain.Texts.{is_name}
use Rattle.parse_tree.specs.Working.Nodes.{node_bytes}
use Rattle.parse_tree.specs.Working.Places.{class_of, table, allowed_at, items_place, arguments_place, alternatives_place, attributes_place, conditions_place, symbols_place}
use Rattle.parse_tree.specs.Plain.Reading.{got, then, times}
use Rattle.parse_tree.specs.Working.Expect.{expect_item, expect_argument, expect_alternative, expect_attribute, expect_symbol}
use Rattle.parse_tree.specs.Working.Decode.{read_sym, read_argument, read_attribute, read_condition, read_alternative, read_item, alternative_parts, nonterminal_parts}
use Rattle.parse_tree.specs.Plain.ReadTape.{first_of}
use Rattle.parse_tree.specs.Working.Encode.{around_node, over_node, alternative_node, condition_node, nonterminal_node, sym_bytes, syms_bytes, argument_bytes, attribute_bytes, condition_bytes, alternative_bytes, item_bytes}
use Rattle.parse_tree.specs.Plain.WriteTape.{bytes_of_each}
use Rattle.parse_tree.specs.Working.Within.{Uses, SymWithin, SymsWithin, AttributeWithin, ConditionWithin, AlternativeWithin, ItemWithin}
use Rattle.parse_tree.specs.declared.syntax.SymbolKind.{SymbolKind}
use Rattle.parse_tree.specs.declared.syntax.Node.{Node}
use Rattle.parse_tree.proofs.TextLaws.{text_number}
use Rattle.parse_tree.proofs.ReadingLaws.{Reads, times-reads}
use Rattle.parse_tree.proofs.Asking.{ask_reads}
use Rattle.parse_tree.proofs.SymLists.{list_of, syms_list}
use Rattle.parse_tree.proofs.ToCommands.{leaf_passes, leaf_back, around_passes, around_back, over_passes, over_back, over_inside, argument_passes, attribute_passes, condition_passes, condition_back, alternative_passes, alternative_back, nonterminal_passes, nonterminal_back, terminal_passes, terminal_back}

first_condition : (o : Option Condition) → first_of (conditions o) ≡ o
first_condition none = refl
first_condition (some c) = refl

module _ (four : Bool) (w : ℕ) (s : List ℕ) (ts : List Text) where
  mutual
    unfolding read_sym then times expect_symbol sym_bytes syms_bytes count list_of allowed_at table class_of

    pub sym_reads : (x : Sym) (left : ℕ) → SymWithin four w ts x left → (a e : ℕ) → Lies s a (sym_bytes w ts x) e → read_sym four w s ts left a ≡ got x e
    sym_reads (leaf sp l) zero h a e k = absurd h
    sym_reads (leaf sp l) (suc left) h a e k =
        cc (ask_reads four w s ts symbols_place (suc left) _ (leaf_passes four w ts sp l h.0 h.1) refl (omega arith) a e tt k, leaf_back four w ts l h.1)
    sym_reads (around sp o x) zero h a e k = absurd h
    sym_reads (around sp o x) (suc left) h a e k =
        let n = node_bytes w (Node.Symbol sp (SymbolKind.Around (around_node ts o))) in
        let m = lies_split s a e n (sym_bytes w ts x) k in
        cc (
          ask_reads four w s ts symbols_place (suc left) _ (around_passes four w ts sp o h.0 h.1) refl (omega arith) a (a + length n) tt m.0,
          around_back four w ts o h.1,
          sym_reads x left h.2 (a + length n) e m.1,
        )
    sym_reads (over sp o xs) zero h a e k = absurd h
    sym_reads (over sp o xs) (suc left) h a e k =
        let n = node_bytes w (Node.Symbol sp (SymbolKind.Over (over_node ts o (count xs)))) in
        let m = lies_split s a e n (syms_bytes w ts xs) k in
        cc (
          ask_reads four w s ts symbols_place (suc left) _ (over_passes four w ts sp o (count xs) h.0 h.1) refl (omega arith) a (a + length n) tt m.0,
          over_back four w ts o (count xs) h.1,
          over_inside four w ts o (count xs),
          syms_reads xs left h.2 (a + length n) e m.1,
          syms_list xs,
        )

    pub syms_reads : (xs : Syms) (left : ℕ) → SymsWithin four w ts xs left → (a e : ℕ) → Lies s a (syms_bytes w ts xs) e → times (λ p. read_sym four w s ts left p) (count xs) a ≡ got (list_of xs) e
    syms_reads nil left h a e k = let z : e ≡ a = omega (arith, k.end) in cc
    syms_reads (cons x xs) left h a e k =
        let m = lies_split s a e (sym_bytes w ts x) (syms_bytes w ts xs) k in
        cc (sym_reads x left h.0 a (a + length (sym_bytes w ts x)) m.0, syms_reads xs left h.1 (a + length (sym_bytes w ts x)) e m.1)

  argument-reads : Reads s (read_argument four w s ts) (argument_bytes w ts) (Uses four w ts is_name)
  unfolding read_argument then expect_argument argument_bytes allowed_at table class_of
  argument-reads x h a e k =
      cc (ask_reads four w s ts arguments_place 1 _ (argument_passes four w ts x h) refl (omega arith) a e tt k, text_number ts x h.0)

  attribute_reads : Reads s (read_attribute four w s ts) (attribute_bytes w ts) (AttributeWithin four w ts)
  unfolding read_attribute then expect_attribute attribute_bytes allowed_at table class_of
  attribute_reads x h a e k =
      let (n, i, p, o) = attribute_passes four w ts x.id x.argument h.0 h.1 in
      cc (ask_reads four w s ts attributes_place 1 (Node.Attribute n) p refl (omega arith) a e tt (rw i at k), o)

  condition_reads : Reads s (read_condition four w s ts) (condition_bytes w ts) (ConditionWithin four w ts)
  unfolding read_condition then condition_bytes condition_node allowed_at table class_of
  condition_reads x h a e k =
      cc (ask_reads four w s ts conditions_place 1 _ (condition_passes four w ts x h) refl (omega arith) a e tt k, condition_back four w ts x a e h)

  alternative_reads : Reads s (read_alternative four w s ts) (alternative_bytes w ts) (AlternativeWithin four w ts)
  unfolding read_alternative alternative_parts then expect_alternative alternative_bytes alternative_node allowed_at table class_of
  alternative_reads x h a e k =
      let n = node_bytes w (alternative_node ts x) in
      let as' = bytes_of_each (attribute_bytes w ts) x.attributes in
      let cs = bytes_of_each (condition_bytes w ts) (conditions x.condition) in
      let m = lies_split s a e n (as' ++ (cs ++ syms_bytes w ts x.symbols)) k in
      let m₁ = lies_split s (a + length n) e as' (cs ++ syms_bytes w ts x.symbols) m.1 in
      let m₂ = lies_split s (a + length n + length as') e cs (syms_bytes w ts x.symbols) m₁.1 in
      cc (
        ask_reads four w s ts alternatives_place 1 _ (alternative_passes four w ts x h) refl (omega arith) a (a + length n) tt m.0,
        times-reads s (read_attribute four w s ts) (attribute_bytes w ts) (AttributeWithin four w ts) attribute_reads x.attributes h.attributes _ _ m₁.0,
        times-reads s (read_condition four w s ts) (condition_bytes w ts) (ConditionWithin four w ts) condition_reads (conditions x.condition) h.condition _ _ m₂.0,
        syms_reads x.symbols 64 h.symbols _ _ m₂.1,
        first_condition x.condition,
        syms_list x.symbols,
        alternative_back four w ts x (length x.attributes) (length (conditions x.condition)) (count x.symbols) h,
      )

  pub item_reads : Reads s (read_item four w s ts) (item_bytes w ts) (ItemWithin four w ts)
  unfolding read_item nonterminal_parts then expect_item item_bytes nonterminal_node allowed_at table class_of
  item_reads (item d) h a e k =
      let n = node_bytes w (nonterminal_node ts d) in
      let xs = bytes_of_each (argument_bytes w ts) d.args in
      let m = lies_split s a e n (xs ++ bytes_of_each (alternative_bytes w ts) d.alternatives) k in
      let m₁ = lies_split s (a + length n) e xs (bytes_of_each (alternative_bytes w ts) d.alternatives) m.1 in
      cc (
        ask_reads four w s ts items_place 1 _ (nonterminal_passes four w ts d h) refl (omega arith) a (a + length n) tt m.0,
        times-reads s (read_argument four w s ts) (argument_bytes w ts) (Uses four w ts is_name) argument-reads d.args h.args _ _ m₁.0,
        times-reads s (read_alternative four w s ts) (alternative_bytes w ts) (AlternativeWithin four w ts) alternative_reads d.alternatives h.alternatives _ _ m₁.1,
        nonterminal_back four w ts d (length d.args) (length d.alternatives) h,
      )
  item_reads (terminal sp o x) h a e k =
      cc (ask_reads four w s ts items_place 1 _ (terminal_passes four w ts sp o x h.0 h.1) refl (omega arith) a e tt k, terminal_back four w ts sp o x h.1)
