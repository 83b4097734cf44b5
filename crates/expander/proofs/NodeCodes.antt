-- What the code at a place of a stage says of the command there, whichever it is: how long it is, whether an item, the definition of a macro, or a symbol that is expanded. Assumes nothing.
use mathlib.Core.Path.{◌≡◌, refl, sym, ap, subst}
use mathlib.Core.Bool.{false, not, false≢true}
use mathlib.Core.List.{List}
use Prim.Native.Nat.{ℕ, ◌+◌, ◌<◌, ◌≤◌}
use native.Mathlib.Omega.{arith}
use borrow.Author.Tests.{ltb-true, ltb-false, eqb-true, eqb-false}
use lib.Dec.{ltb, eqb}
use lib.ListN.{length, get_or}
use Rattle.std.specs.Prelude.{Option as Optional, Some, None}
use Rattle.octets.specs.Working.Choice.{pick}
use Rattle.octets.proofs.ChoiceLaws.{by_pick}
use Rattle.parse_tree.specs.Working.Nodes.{code_size, leaf_operand, if_whole, span_in, named_leaf, word_leaf, symbol_node_at, text_node, nonterminal_node_at, terminal_node_at, argument_node_at, alternative_node_at, attribute_node_at, condition_node_at, node_by, node_at, size_read, long_of}
use Rattle.parse_tree.specs.declared.syntax.Span.{Span}
use Rattle.parse_tree.specs.declared.syntax.Atom.{Atom}
use Rattle.parse_tree.specs.declared.syntax.NonterminalString.{NonterminalString}
use Rattle.parse_tree.specs.declared.syntax.TerminalString.{TerminalString}
use Rattle.parse_tree.specs.declared.syntax.NonterminalData.{NonterminalData}
use Rattle.parse_tree.specs.declared.syntax.TerminalData.{TerminalData}
use Rattle.parse_tree.specs.declared.syntax.Alternative.{Alternative}
use Rattle.parse_tree.specs.declared.syntax.Attribute.{Attribute}
use Rattle.parse_tree.specs.declared.syntax.Condition.{Condition}
use Rattle.parse_tree.specs.declared.syntax.Leaf.{Leaf}
use Rattle.parse_tree.specs.declared.syntax.Around.{Around}
use Rattle.parse_tree.specs.declared.syntax.Over.{Over}
use Rattle.parse_tree.specs.declared.syntax.SymbolKind.{SymbolKind}
use Rattle.parse_tree.specs.declared.syntax.Node.{Node}
use Rattle.parse_tree.proofs.SizeLaws.{ambiguous_size, bare_size, quoted_size, regex_size, nonterminal_leaf_size, lookahead_size, lookbehind_size, error_size, nonterminal_size, terminal_size, argument-size, alternative_size, attribute_size, condition_size, leaf_size, repeat_size, choose_size, name_size, macro_size, group_size}
use Rattle.replacing.specs.Runs.{plain_leaf, plain_around, plain_kind, plain, is_item, is_macro}
use Rattle.replacing.specs.Round.{node_span}
use Rattle.expander.specs.Replace.{expanded_code}
use Rattle.expander.specs.Stage.{item_code, macro_at}

module _ (wd : ℕ) (t : List ℕ) (p : ℕ) where
  -- what the code c says of the command n; the text behind an atom's command is no part of it
  pub record ByCode (c : ℕ) (n : Optional Node) : Type 0 where
    pub long : (c ≡ 1 → ⊥) → size_read wd n ≡ code_size wd c
    pub item : is_item n ≡ item_code c
    pub macro : is_macro n ≡ macro_at wd t p c
    pub copied : plain n ≡ not (expanded_code c)
    pub span : plain n ≡ false → node_span n ≡ span_in t (p + 1)

  -- ---- each command
  text_code : (k : ℕ) → ByCode 1 (Some (Node.Text k))
  unfolding item_code macro_at expanded_code pick is_item is_macro plain
  text_code k = record { long = λ z. absurd (z refl); item = refl; macro = refl; copied = refl; span = λ z. absurd (false≢true (sym z)) }

  nonterminal_code_lem : (d : NonterminalData) → d.args ≡ get_or t (p + 10 + wd) 0 → ByCode 16 (Some (Node.Nonterminal d))
  unfolding code_size item_code macro_at expanded_code pick is_item is_macro plain
  nonterminal_code_lem d q = record { long = λ z. sym (nonterminal_size wd (Node.Nonterminal d) d refl); item = refl; macro = ap (ltb 0) q; copied = refl; span = λ z. absurd (false≢true (sym z)) }

  extern_code : (d : TerminalData) → ByCode 48 (Some (Node.Terminal d))
  unfolding code_size item_code macro_at expanded_code pick is_item is_macro plain
  extern_code d = record { long = λ z. sym (terminal_size wd (Node.Terminal d) d refl); item = refl; macro = refl; copied = refl; span = λ z. absurd (false≢true (sym z)) }

  match_code : (d : TerminalData) → ByCode 49 (Some (Node.Terminal d))
  unfolding code_size item_code macro_at expanded_code pick is_item is_macro plain
  match_code d = record { long = λ z. sym (terminal_size wd (Node.Terminal d) d refl); item = refl; macro = refl; copied = refl; span = λ z. absurd (false≢true (sym z)) }

  argument-code : (d : NonterminalString) → ByCode 17 (Some (Node.Argument d))
  unfolding code_size item_code macro_at expanded_code pick is_item is_macro plain
  argument-code d = record { long = λ z. sym (argument-size wd (Node.Argument d) d refl); item = refl; macro = refl; copied = refl; span = λ z. absurd (false≢true (sym z)) }

  alternative_code : (d : Alternative) → ByCode 18 (Some (Node.Alternative d))
  unfolding code_size long_of item_code macro_at expanded_code pick is_item is_macro plain
  alternative_code d = record { long = λ z. sym (alternative_size wd (Node.Alternative d) d refl); item = refl; macro = refl; copied = refl; span = λ z. absurd (false≢true (sym z)) }

  attribute_code : (d : Attribute) → ByCode 19 (Some (Node.Attribute d))
  unfolding code_size long_of item_code macro_at expanded_code pick is_item is_macro plain
  attribute_code d = record { long = λ z. sym (attribute_size wd (Node.Attribute d) d refl); item = refl; macro = refl; copied = refl; span = λ z. absurd (false≢true (sym z)) }

  condition_code_lem : (d : Condition) → ByCode 20 (Some (Node.Condition d))
  unfolding code_size long_of item_code macro_at expanded_code pick is_item is_macro plain
  condition_code_lem d = record { long = λ z. sym (condition_size wd (Node.Condition d) d refl); item = refl; macro = refl; copied = refl; span = λ z. absurd (false≢true (sym z)) }

  abbrev here : Span
  here = span_in t (p + 1)

  abbrev leafy : Leaf → Optional Node
  leafy l = Some (Node.Symbol here (SymbolKind.Leaf l))

  leafy_long : (l : Leaf) (m : ℕ) → m ≡ length (leaf_operand wd l) → size_read wd (leafy l) ≡ 9 + m
  leafy_long l m e = sym (leaf_size wd (Node.Symbol here (SymbolKind.Leaf l)) here (SymbolKind.Leaf l) refl l m refl e)

  ambiguous_code_lem : (a : Atom) → ByCode 32 (leafy (Leaf.AmbiguousId a))
  unfolding code_size long_of item_code macro_at expanded_code pick is_item is_macro plain plain_kind plain_leaf
  ambiguous_code_lem a = record { long = λ z. leafy_long (Leaf.AmbiguousId a) wd (ambiguous_size wd (Leaf.AmbiguousId a) a refl); item = refl; macro = refl; copied = refl; span = λ z. absurd (false≢true (sym z)) }

  bare_code : (a : TerminalString) → ByCode 33 (leafy (Leaf.Bare a))
  unfolding code_size long_of item_code macro_at expanded_code pick is_item is_macro plain plain_kind plain_leaf
  bare_code a = record { long = λ z. leafy_long (Leaf.Bare a) wd (bare_size wd (Leaf.Bare a) a refl); item = refl; macro = refl; copied = refl; span = λ z. absurd (false≢true (sym z)) }

  quoted_code : (a : Atom) → ByCode 34 (leafy (Leaf.Quoted a))
  unfolding code_size long_of item_code macro_at expanded_code pick is_item is_macro plain plain_kind plain_leaf
  quoted_code a = record { long = λ z. leafy_long (Leaf.Quoted a) wd (quoted_size wd (Leaf.Quoted a) a refl); item = refl; macro = refl; copied = refl; span = λ z. absurd (false≢true (sym z)) }

  regex_code : (a : Atom) → ByCode 35 (leafy (Leaf.Regex a))
  unfolding code_size long_of item_code macro_at expanded_code pick is_item is_macro plain plain_kind plain_leaf
  regex_code a = record { long = λ z. leafy_long (Leaf.Regex a) wd (regex_size wd (Leaf.Regex a) a refl); item = refl; macro = refl; copied = refl; span = λ z. absurd (false≢true (sym z)) }

  name_leaf_code : (a : NonterminalString) → ByCode 36 (leafy (Leaf.Nonterminal a))
  unfolding code_size long_of item_code macro_at expanded_code pick is_item is_macro plain plain_kind plain_leaf
  name_leaf_code a = record { long = λ z. leafy_long (Leaf.Nonterminal a) wd (nonterminal_leaf_size wd (Leaf.Nonterminal a) a refl); item = refl; macro = refl; copied = refl; span = λ z. absurd (false≢true (sym z)) }

  lookahead_code : ByCode 42 (leafy Leaf.Lookahead)
  unfolding code_size long_of item_code macro_at expanded_code pick is_item is_macro plain plain_kind plain_leaf node_span
  lookahead_code = record { long = λ z. leafy_long Leaf.Lookahead 0 (lookahead_size wd Leaf.Lookahead refl); item = refl; macro = refl; copied = refl; span = λ z. refl }

  lookbehind_code : ByCode 43 (leafy Leaf.Lookbehind)
  unfolding code_size long_of item_code macro_at expanded_code pick is_item is_macro plain plain_kind plain_leaf node_span
  lookbehind_code = record { long = λ z. leafy_long Leaf.Lookbehind 0 (lookbehind_size wd Leaf.Lookbehind refl); item = refl; macro = refl; copied = refl; span = λ z. refl }

  error_code : ByCode 44 (leafy Leaf.Error)
  unfolding code_size long_of item_code macro_at expanded_code pick is_item is_macro plain plain_kind plain_leaf node_span
  error_code = record { long = λ z. leafy_long Leaf.Error 0 (error_size wd Leaf.Error refl); item = refl; macro = refl; copied = refl; span = λ z. refl }

  macro_code_lem : (a : NonterminalString) (k : ℕ) → ByCode 37 (Some (Node.Symbol here (SymbolKind.Over (Over.Macro a k))))
  unfolding code_size long_of item_code macro_at expanded_code pick is_item is_macro plain plain_kind node_span
  macro_code_lem a k = record { long = λ z. sym (macro_size wd _ here (SymbolKind.Over (Over.Macro a k)) refl (Over.Macro a k) a k refl refl); item = refl; macro = refl; copied = refl; span = λ z. refl }

  repeat_code : (op : ℕ) → ByCode 38 (Some (Node.Symbol here (SymbolKind.Around (Around.Repeat op))))
  unfolding code_size long_of item_code macro_at expanded_code pick is_item is_macro plain plain_kind plain_around node_span
  repeat_code op = record { long = λ z. sym (repeat_size wd _ here (SymbolKind.Around (Around.Repeat op)) refl (Around.Repeat op) op refl refl); item = refl; macro = refl; copied = refl; span = λ z. refl }

  choose_code : ByCode 39 (Some (Node.Symbol here (SymbolKind.Around Around.Choose)))
  unfolding code_size long_of item_code macro_at expanded_code pick is_item is_macro plain plain_kind plain_around node_span
  choose_code = record { long = λ z. sym (choose_size wd _ here (SymbolKind.Around Around.Choose) refl Around.Choose refl refl); item = refl; macro = refl; copied = refl; span = λ z. refl }

  name_code_lem : (m : ℕ) (a : Atom) → ByCode 40 (Some (Node.Symbol here (SymbolKind.Around (Around.Name m a))))
  unfolding code_size long_of item_code macro_at expanded_code pick is_item is_macro plain plain_kind plain_around node_span
  name_code_lem m a = record { long = λ z. sym (name_size wd _ here (SymbolKind.Around (Around.Name m a)) refl (Around.Name m a) m a refl refl); item = refl; macro = refl; copied = refl; span = λ z. refl }

  group_code : (k : ℕ) → ByCode 41 (Some (Node.Symbol here (SymbolKind.Over (Over.Group k))))
  unfolding code_size long_of item_code macro_at expanded_code pick is_item is_macro plain plain_kind node_span
  group_code k = record { long = λ z. sym (group_size wd _ here (SymbolKind.Over (Over.Group k)) refl (Over.Group k) k refl refl); item = refl; macro = refl; copied = refl; span = λ z. refl }

  -- ---- the command that is read there
  abbrev Told : Optional Node → Type 0
  Told n = (n ≡ None → ⊥) → ByCode (get_or t p 0) n

  told : (k : ℕ) (n : Optional Node) → ByCode k n → get_or t p 0 ≡ k → Told n
  told k n h e z = subst (λ c. ByCode c n) (sym e) h

  whole : (m : ℕ) (n : Node) → Told (Some n) → Told (if_whole t p m n)
  unfolding if_whole
  whole m n f = by_pick Told _ (λ _ z. absurd (z refl)) (λ _. f)

  is_code : (k : ℕ) (x y : Optional Node) → (get_or t p 0 ≡ k → Told x) → ((get_or t p 0 ≡ k → ⊥) → Told y) → Told (pick (eqb (get_or t p 0) k) x y)
  is_code k x y f g = by_pick Told _ (λ e. f (eqb-true (get_or t p 0) k e)) (λ e. g (eqb-false (get_or t p 0) k e))

  under : (k : ℕ) (x y : Optional Node) → (get_or t p 0 < k → Told x) → (k ≤ get_or t p 0 → Told y) → Told (pick (ltb (get_or t p 0) k) x y)
  under k x y f g = by_pick Told _ (λ e. f (ltb-true (get_or t p 0) k e)) (λ e. g (ltb-false (get_or t p 0) k e))

  abbrev LeafTold : Leaf → Type 0
  LeafTold l = Told (leafy l)

  is_leaf : (k : ℕ) (x y : Leaf) → (get_or t p 0 ≡ k → LeafTold x) → ((get_or t p 0 ≡ k → ⊥) → LeafTold y) → LeafTold (pick (eqb (get_or t p 0) k) x y)
  is_leaf k x y f g = by_pick LeafTold _ (λ e. f (eqb-true (get_or t p 0) k e)) (λ e. g (eqb-false (get_or t p 0) k e))

  named-told : (v : ℕ) → 32 ≤ get_or t p 0 → get_or t p 0 < 37 → LeafTold (named_leaf (get_or t p 0) v)
  unfolding named_leaf
  named-told v l h =
      is_leaf 32 _ _ (told 32 _ (ambiguous_code_lem _)) (λ n2.
      is_leaf 33 _ _ (told 33 _ (bare_code _)) (λ n3.
      is_leaf 34 _ _ (told 34 _ (quoted_code _)) (λ n4.
      is_leaf 35 _ _ (told 35 _ (regex_code _)) (λ n5.
      told 36 _ (name_leaf_code _) (omega arith)))))

  bare_told : 42 ≤ get_or t p 0 → get_or t p 0 < 45 → LeafTold (word_leaf (get_or t p 0))
  unfolding word_leaf
  bare_told l h =
      is_leaf 42 _ _ (told 42 _ lookahead_code) (λ n2.
      is_leaf 43 _ _ (told 43 _ lookbehind_code) (λ n3.
      told 44 _ error_code (omega arith)))

  symbol_told : 32 ≤ get_or t p 0 → get_or t p 0 < 45 → Told (symbol_node_at wd (get_or t p 0) t p)
  unfolding symbol_node_at
  symbol_told l g =
      under 37 _ _ (λ c. whole (9 + wd) _ (named-told _ l c)) (λ n0.
      is_code 37 _ _ (λ c. whole (10 + wd) _ (told 37 _ (macro_code_lem _ _) c)) (λ n1.
      is_code 38 _ _ (λ c. whole 10 _ (told 38 _ (repeat_code _) c)) (λ n2.
      is_code 39 _ _ (λ c. whole 9 _ (told 39 _ choose_code c)) (λ n3.
      is_code 40 _ _ (λ c. whole (10 + wd) _ (told 40 _ (name_code_lem _ _) c)) (λ n4.
      is_code 41 _ _ (λ c. whole 11 _ (told 41 _ (group_code _) c)) (λ n5.
      whole 9 _ (bare_told (omega arith) g)))))))

  by_told : Told (node_by wd (get_or t p 0) t p)
  unfolding node_by text_node nonterminal_node_at terminal_node_at argument_node_at alternative_node_at attribute_node_at condition_node_at
  by_told =
      under 32 _ _
      (λ _.
      is_code 1 _ _ (λ c. by_pick Told _ (λ _ z. absurd (z refl)) (λ _. whole _ _ (told 1 _ (text_code _) c))) (λ _.
      is_code 16 _ _ (λ c. whole (13 + wd) _ (told 16 _ (nonterminal_code_lem _ refl) c)) (λ _.
      is_code 17 _ _ (λ c. whole (1 + wd) _ (told 17 _ (argument-code _) c)) (λ _.
      is_code 18 _ _ (λ c. whole (14 + wd) _ (told 18 _ (alternative_code _) c)) (λ _.
      is_code 19 _ _ (λ c. whole (2 + wd + wd + wd) _ (told 19 _ (attribute_code _) c)) (λ _.
      is_code 20 _ _ (λ c. whole (10 + wd + wd) _ (told 20 _ (condition_code_lem _) c)) (λ _ z. absurd (z refl))))))))
      (λ l.
      under 45 _ _ (symbol_told l) (λ _.
      is_code 48 _ _ (λ c. whole (9 + wd) _ (told 48 _ (extern_code _) c)) (λ _.
      is_code 49 _ _ (λ c. whole (9 + wd) _ (told 49 _ (match_code _) c)) (λ _ z. absurd (z refl)))))

  -- a command that is known is what its code says
  pub by_code : (node_at wd t p ≡ None → ⊥) → ByCode (get_or t p 0) (node_at wd t p)
  unfolding node_at
  by_code = by_pick Told _ (λ _ z. absurd (z refl)) (λ _. by_told)
