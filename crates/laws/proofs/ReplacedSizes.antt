-- Replacing keeps how many items, alternatives and symbols there are, and what it writes is no longer, but for two bytes of each lookaround. Assumes nothing.
use mathlib.Core.Path.{◌≡◌, refl, sym, ap, ◌∙◌}
use mathlib.Core.List.{List, [], ◌∷◌, ◌++◌}
use mathlib.Core.Option.{Option, none, some}
use Prim.Native.Nat.{ℕ, suc, ◌+◌, ◌*◌, ◌≤◌}
use native.Mathlib.Omega.{arith}
use lib.ListN.{length, length-append}
use Rattle.octets.proofs.NumbersLaws.{length-le}
use Rattle.parse_tree.specs.Plain.Tree.{Text, Leaf, Around, Over, Sym, Syms, ambiguous, bare, quoted, regex, nonterminal, lookahead, lookbehind, error, repeat, choose, name, macro, group, leaf, around, over, nil, cons, count, Attribute, Condition, Alternative, Source, Item, item, conditions}
use Rattle.parse_tree.specs.Plain.Texts.{number}
use Rattle.parse_tree.specs.Plain.Display.{print}
use Rattle.parse_tree.specs.Working.Nodes.{leaf_code, leaf_operand, symbol_bytes, node_bytes}
use Rattle.parse_tree.specs.Working.Encode.{leaf_node, around_node, over_node, alternative_node, attribute_node, condition_node, nonterminal_node, sym_bytes, syms_bytes, alternative_bytes, item_bytes, attribute_bytes, condition_bytes, argument_bytes, source_code}
use Rattle.parse_tree.specs.Plain.WriteTape.{bytes_of_each}
use Rattle.parse_tree.specs.declared.syntax.Span.{Span}
use Rattle.parse_tree.specs.declared.syntax.SymbolKind.{SymbolKind}
use Rattle.parse_tree.specs.declared.syntax.Node.{Node}
use Rattle.parse_tree.proofs.SizeLaws.{length_span}
use Rattle.passes.specs.Outcome.{with_symbols, with_alternatives}
use Rattle.passes.specs.Macros.{Pending, looking, repeating, listing, symbol_of, span_of, MacroExpander, push, replace_around, replace_symbol, replace_symbols, replace_alternatives, replace_items}
use Rattle.passes.specs.Views.{ahead, behind}
use Rattle.laws.specs.Counts.{looks_leaf, looks, looks_all, heads_in, heads, over_alternatives, over_items}
use Rattle.laws.proofs.Flat.{nodes_few}
use Rattle.laws.proofs.Counts.{around_size, head_size, item_head_lem, nodes_some}

-- ---- replacing keeps how many items and alternatives there are, and how many symbols stand straight in these
replaced_count : (xs : Syms) (σ : MacroExpander) → count (replace_symbols xs σ).0 ≡ count xs
unfolding replace_symbols count
replaced_count nil σ = refl
replaced_count (cons x xs) σ = ap suc (replaced_count xs (replace_symbol x σ).1)

replaced_alternatives : (as' : List Alternative) (σ : MacroExpander) → (heads_in (replace_alternatives as' σ).0 ≡ heads_in as') × (over_alternatives count (replace_alternatives as' σ).0 ≡ over_alternatives count as')
unfolding replace_alternatives heads_in over_alternatives
replaced_alternatives [] σ = (refl, refl)
replaced_alternatives (a ∷ as') σ =
    let i = replaced_alternatives as' (replace_symbols a.symbols σ).1 in
    let j = replaced_count a.symbols σ in
    (omega (arith, i.0), omega (arith, i.1, j))

pub replaced_items : (is : List Item) (σ : MacroExpander) → (heads (replace_items is σ).0 ≡ heads is) × (over_items count (replace_items is σ).0 ≡ over_items count is)
unfolding replace_items heads over_items
replaced_items [] σ = (refl, refl)
replaced_items (item d ∷ is) σ =
    let i = replaced_items is (replace_alternatives d.alternatives σ).1 in
    let j = replaced_alternatives d.alternatives σ in
    (omega (arith, i.0, j.0), omega (arith, i.1, j.1))
replaced_items (Item.terminal s o x ∷ is) σ = replaced_items is σ

-- ---- a replaced symbol is no longer than it was, but `@L` and `@R` by 2; ts are the atoms before, us those after
module _ (ts us : List Text) where
  key_size : (s : Span) (n : Text) → length (sym_bytes 2 us (leaf s (nonterminal n))) ≡ 11
  unfolding sym_bytes node_bytes symbol_bytes leaf_node leaf_code leaf_operand
  key_size s n = simp (length-append, length-le, length_span) (omega arith)

  push-size : (x : Pending) (σ : MacroExpander) → length (sym_bytes 2 us (push x σ).0) ≡ 11
  unfolding push
  push-size x σ = key_size (span_of x) (print (symbol_of x))

  leaf_size : (s : Span) (l : Leaf) (σ : MacroExpander) → length (sym_bytes 2 us (replace_symbol (leaf s l) σ).0) ≤ length (sym_bytes 2 ts (leaf s l)) + 2 * looks_leaf l
  unfolding replace_symbol sym_bytes node_bytes symbol_bytes leaf_node leaf_code leaf_operand
  leaf_size s (ambiguous n) σ = simp (length-append, length-le, length_span) (omega arith)
  leaf_size s (bare n) σ = simp (length-append, length-le, length_span) (omega arith)
  leaf_size s (quoted t) σ = simp (length-append, length-le, length_span) (omega arith)
  leaf_size s (regex t) σ = simp (length-append, length-le, length_span) (omega arith)
  leaf_size s (nonterminal n) σ = simp (length-append, length-le, length_span) (omega arith)
  leaf_size s lookahead σ = let k = push-size (looking s ahead) σ in simp (length-append, length_span) (omega arith)
  leaf_size s lookbehind σ = let k = push-size (looking s behind) σ in simp (length-append, length_span) (omega arith)
  leaf_size s error σ = simp (length-append, length_span) (omega arith)

  around_head : (s : Span) (a : Around) (vs : List Text) → length (node_bytes 2 (Node.Symbol s (SymbolKind.Around (around_node vs a)))) ≡ around_size a
  unfolding node_bytes symbol_bytes around_node
  around_head s (repeat o) vs = simp (length-append, length_span) (omega arith)
  around_head s choose vs = simp length_span (omega arith)
  around_head s (name m n) vs = simp (length-append, length-le, length_span) (omega arith)

  over_head : (s : Span) (o : Over) (k : ℕ) → 11 ≤ length (node_bytes 2 (Node.Symbol s (SymbolKind.Over (over_node ts o k))))
  unfolding node_bytes symbol_bytes over_node
  over_head s (macro n) k = simp (length-append, length-le, length_span) (omega arith)
  over_head s group k = simp (length-append, length-le, length_span) (omega arith)

  around_size_lem : (s : Span) (a : Around) (x : Sym) (q : Sym × MacroExpander) → length (sym_bytes 2 us q.0) ≤ length (sym_bytes 2 ts x) + 2 * looks x → length (sym_bytes 2 us (replace_around s a q).0) ≤ length (sym_bytes 2 ts (around s a x)) + 2 * looks x
  unfolding sym_bytes
  around_size_lem s (repeat o) x q h =
      omega (arith, push-size (repeating s o q.0) q.1, around_head s (repeat o) ts, nodes_some x, nodes_few 2 ts x, length-append (node_bytes 2 (Node.Symbol s (SymbolKind.Around (around_node ts (repeat o))))) (sym_bytes 2 ts x))
  around_size_lem s choose x q h =
      omega (arith, around_head s choose ts, around_head s choose us, length-append (node_bytes 2 (Node.Symbol s (SymbolKind.Around (around_node ts choose)))) (sym_bytes 2 ts x), length-append (node_bytes 2 (Node.Symbol s (SymbolKind.Around (around_node us choose)))) (sym_bytes 2 us q.0))
  around_size_lem s (name m n) x q h =
      omega (arith, around_head s (name m n) ts, around_head s (name m n) us, length-append (node_bytes 2 (Node.Symbol s (SymbolKind.Around (around_node ts (name m n))))) (sym_bytes 2 ts x), length-append (node_bytes 2 (Node.Symbol s (SymbolKind.Around (around_node us (name m n))))) (sym_bytes 2 us q.0))

  mutual
    unfolding replace_symbol looks sym_bytes syms_bytes

    pub replaced_size_lem : (x : Sym) (σ : MacroExpander) → length (sym_bytes 2 us (replace_symbol x σ).0) ≤ length (sym_bytes 2 ts x) + 2 * looks x
    replaced_size_lem (leaf s l) σ = leaf_size s l σ
    replaced_size_lem (around s a x) σ = around_size_lem s a x (replace_symbol x σ) (replaced_size_lem x σ)
    replaced_size_lem (over s o xs) σ =
        omega (arith, push-size (listing s o (replace_symbols xs σ).0) (replace_symbols xs σ).1, over_head s o (count xs), length-append (node_bytes 2 (Node.Symbol s (SymbolKind.Over (over_node ts o (count xs))))) (syms_bytes 2 ts xs))

    pub replaced_all_size : (xs : Syms) (σ : MacroExpander) → length (syms_bytes 2 us (replace_symbols xs σ).0) ≤ length (syms_bytes 2 ts xs) + 2 * looks_all xs
    replaced_all_size nil σ = omega arith
    replaced_all_size (cons x xs) σ =
        omega (arith, replaced_size_lem x σ, replaced_all_size xs (replace_symbol x σ).1, length-append (sym_bytes 2 ts x) (syms_bytes 2 ts xs), length-append (sym_bytes 2 us (replace_symbol x σ).0) (syms_bytes 2 us (replace_symbols xs (replace_symbol x σ).1).0))

  -- ---- so are the items
  each-alike : {A : Type 0} (f g : A → List ℕ) → ((x : A) → length (f x) ≡ length (g x)) → (xs : List A) → length (bytes_of_each f xs) ≡ length (bytes_of_each g xs)
  unfolding bytes_of_each
  each-alike f g h [] = refl
  each-alike f g h (x ∷ xs) = omega (arith, h x, each-alike f g h xs, length-append (f x) (bytes_of_each f xs), length-append (g x) (bytes_of_each g xs))

  attribute_size : (vs : List Text) (a : Attribute) → length (attribute_bytes 2 vs a) ≡ 8
  unfolding attribute_bytes attribute_node node_bytes
  attribute_size vs a = go a.argument
    where
      go : (o : Option (Text × Text)) → length (node_bytes 2 (elim o [
        | none ↦ Node.Attribute (record { id = record { 0 = number vs a.id }; kind = 0; key = record { 0 = 0 }; value = record { 0 = 0 } })
        | some kv ↦ Node.Attribute (record { id = record { 0 = number vs a.id }; kind = 1; key = record { 0 = number vs kv.0 }; value = record { 0 = number vs kv.1 } })
      ])) ≡ 8
      go none = simp (length-append, length-le) (omega arith)
      go (some kv) = simp (length-append, length-le) (omega arith)

  condition_size : (vs : List Text) (c : Condition) → length (condition_bytes 2 vs c) ≡ 14
  unfolding condition_bytes condition_node node_bytes
  condition_size vs c = simp (length-append, length-le, length_span) (omega arith)

  argument-size : (vs : List Text) (x : Text) → length (argument_bytes 2 vs x) ≡ 3
  unfolding argument_bytes node_bytes
  argument-size vs x = simp length-le (omega arith)

  alternative_size : (a : Alternative) (σ : MacroExpander) → length (alternative_bytes 2 us (with_symbols a (replace_symbols a.symbols σ).0)) ≤ length (alternative_bytes 2 ts a) + 2 * looks_all a.symbols
  unfolding alternative_bytes
  alternative_size a σ =
      let b = with_symbols a (replace_symbols a.symbols σ).0 in
      let n = node_bytes 2 (alternative_node ts a) in
      let as' = bytes_of_each (attribute_bytes 2 ts) a.attributes in
      let cs = bytes_of_each (condition_bytes 2 ts) (conditions a.condition) in
      let xs = syms_bytes 2 ts a.symbols in
      let m = node_bytes 2 (alternative_node us b) in
      let bs' = bytes_of_each (attribute_bytes 2 us) a.attributes in
      let ds = bytes_of_each (condition_bytes 2 us) (conditions a.condition) in
      let ys = syms_bytes 2 us (replace_symbols a.symbols σ).0 in
      omega (
        arith,
        head_size ts a,
        head_size us b,
        replaced_all_size a.symbols σ,
        each-alike (attribute_bytes 2 us) (attribute_bytes 2 ts) (λ z. attribute_size us z ∙ sym (attribute_size ts z)) a.attributes,
        each-alike (condition_bytes 2 us) (condition_bytes 2 ts) (λ z. condition_size us z ∙ sym (condition_size ts z)) (conditions a.condition),
        length-append n (as' ++ (cs ++ xs)),
        length-append as' (cs ++ xs),
        length-append cs xs,
        length-append m (bs' ++ (ds ++ ys)),
        length-append bs' (ds ++ ys),
        length-append ds ys,
      )

  alternatives_size : (as' : List Alternative) (σ : MacroExpander) → length (bytes_of_each (alternative_bytes 2 us) (replace_alternatives as' σ).0) ≤ length (bytes_of_each (alternative_bytes 2 ts) as') + 2 * over_alternatives looks_all as'
  unfolding replace_alternatives over_alternatives bytes_of_each
  alternatives_size [] σ = omega arith
  alternatives_size (a ∷ as') σ =
      let τ = (replace_symbols a.symbols σ).1 in
      omega (
        arith,
        alternative_size a σ,
        alternatives_size as' τ,
        length-append (alternative_bytes 2 ts a) (bytes_of_each (alternative_bytes 2 ts) as'),
        length-append (alternative_bytes 2 us (with_symbols a (replace_symbols a.symbols σ).0)) (bytes_of_each (alternative_bytes 2 us) (replace_alternatives as' τ).0),
      )

  terminal_size : (s : Span) (o : Source) (x : Text) (vs : List Text) → length (node_bytes 2 (Node.Terminal (record { span = s; name = record { 0 = number vs x }; source = source_code o }))) ≡ 11
  unfolding node_bytes
  terminal_size s o x vs = simp (length-append, length-le, length_span) (omega arith)

  -- what replacing writes, of items that are no macros
  pub items_size_lem : (is : List Item) (σ : MacroExpander) → length (bytes_of_each (item_bytes 2 us) (replace_items is σ).0) ≤ length (bytes_of_each (item_bytes 2 ts) is) + 2 * over_items looks_all is
  unfolding replace_items over_items bytes_of_each item_bytes
  items_size_lem [] σ = omega arith
  items_size_lem (item d ∷ is) σ =
      let τ = (replace_alternatives d.alternatives σ).1 in
      let c = with_alternatives d (replace_alternatives d.alternatives σ).0 in
      let n = node_bytes 2 (nonterminal_node ts d) in
      let ps = bytes_of_each (argument_bytes 2 ts) d.args in
      let bs = bytes_of_each (alternative_bytes 2 ts) d.alternatives in
      let m = node_bytes 2 (nonterminal_node us c) in
      let qs = bytes_of_each (argument_bytes 2 us) d.args in
      let cs = bytes_of_each (alternative_bytes 2 us) (replace_alternatives d.alternatives σ).0 in
      omega (
        arith,
        item_head_lem ts d,
        item_head_lem us c,
        alternatives_size d.alternatives σ,
        items_size_lem is τ,
        each-alike (argument_bytes 2 us) (argument_bytes 2 ts) (λ z. argument-size us z ∙ sym (argument-size ts z)) d.args,
        length-append n (ps ++ bs),
        length-append ps bs,
        length-append (n ++ (ps ++ bs)) (bytes_of_each (item_bytes 2 ts) is),
        length-append m (qs ++ cs),
        length-append qs cs,
        length-append (m ++ (qs ++ cs)) (bytes_of_each (item_bytes 2 us) (replace_items is τ).0),
      )
  items_size_lem (Item.terminal s o x ∷ is) σ =
      let n = node_bytes 2 (Node.Terminal (record { span = s; name = record { 0 = number ts x }; source = source_code o })) in
      let m = node_bytes 2 (Node.Terminal (record { span = s; name = record { 0 = number us x }; source = source_code o })) in
      omega (arith, items_size_lem is σ, terminal_size s o x ts, terminal_size s o x us, length-append n (bytes_of_each (item_bytes 2 ts) is), length-append m (bytes_of_each (item_bytes 2 us) (replace_items is σ).0))
