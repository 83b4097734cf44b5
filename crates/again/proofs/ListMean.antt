-- What the run over commands notes of items that lie there: where each begins. Assumes nothing.
use mathlib.Core.Path.{◌≡◌, refl, ap, ◌∙◌}
use mathlib.Core.Bool.{true, false}
use mathlib.Core.List.{List, [], ◌∷◌, ◌++◌, append-nil}
use mathlib.Core.Option.{Option, none, some}
use Prim.Native.Nat.{ℕ, zero, suc, ◌+◌, ◌<◌, ◌≤◌}
use native.Mathlib.Omega.{arith}
use lib.ListN.{length, take, get_or, length-append}
use Rattle.octets.specs.Working.Choice.{pick}
use Rattle.octets.specs.Plain.Numbers.{le}
use Rattle.octets.specs.Plain.Runs.{Lies}
use Rattle.octets.proofs.NumbersLaws.{length-le}
use Rattle.octets.proofs.LiesLaws.{lies_first, lies_split}
use Rattle.parse_tree.specs.Plain.Tree.{Text, Sym, Syms, Attribute, Condition, Alternative, Source, Item, leaf, around, over, nil, cons, extern, match, item, terminal, conditions}
use Rattle.parse_tree.specs.Plain.Texts.{number}
use Rattle.parse_tree.specs.Plain.WriteTape.{bytes_of_each, bit}
use Rattle.parse_tree.specs.Working.Nodes.{code_size, span_bytes, leaf_code, leaf_operand, symbol_bytes, node_bytes, long_of}
use Rattle.parse_tree.specs.Working.Encode.{alternative_node, attribute_node, condition_node, nonterminal_node, sym_bytes, syms_bytes, argument_bytes, attribute_bytes, condition_bytes, alternative_bytes, item_bytes}
use Rattle.parse_tree.specs.declared.syntax.Span.{Span}
use Rattle.parse_tree.specs.declared.syntax.Leaf.{Leaf}
use Rattle.parse_tree.specs.declared.syntax.Around.{Around}
use Rattle.parse_tree.specs.declared.syntax.Over.{Over}
use Rattle.parse_tree.specs.declared.syntax.SymbolKind.{SymbolKind}
use Rattle.parse_tree.specs.declared.syntax.Alternative.{Alternative as AlternativeNode}
use Rattle.parse_tree.specs.declared.syntax.Attribute.{Attribute as AttributeNode}
use Rattle.parse_tree.specs.declared.syntax.Node.{Node}
use Rattle.parse_tree.proofs.SizeLaws.{length_span}
use Rattle.expander.specs.Stage.{item_code}
use Rattle.again.proofs.ListRun.{items_from, from_end, from_item, from_other}

module _ (wd : ℕ) (w : List ℕ) (e : ℕ) where
  -- bytes whose commands begin no item
  abbrev Silent : List ℕ → Type 0
  Silent xs = (p d : ℕ) → d ≤ e → Lies w p xs d → items_from wd w e p ≡ items_from wd w e d

  silent_none : Silent []
  silent_none p d h l = ap (items_from wd w e) (omega (arith, l.end))

  silent_append : (xs ys : List ℕ) → Silent xs → Silent ys → Silent (xs ++ ys)
  silent_append xs ys f g p d h l =
      let s = lies_split w p d xs ys l in
      f p (p + length xs) (omega (arith, s.1.end)) s.0 ∙ g (p + length xs) d h s.1

  silent_each : {A : Type 0} (f : A → List ℕ) → ((x : A) → Silent (f x)) → (xs : List A) → Silent (bytes_of_each f xs)
  unfolding bytes_of_each
  silent_each f g [] = silent_none
  silent_each f g (x ∷ xs) = silent_append (f x) (bytes_of_each f xs) (g x) (silent_each f g xs)

  -- one command
  silent : (c : ℕ) (ys : List ℕ) → item_code c ≡ false → code_size wd c ≡ 1 + length ys → Silent (c ∷ ys)
  silent c ys i j p d h l =
      from_other wd w e p c (omega (arith, l.end)) (lies_first w p c ys d l).1 i ∙ ap (items_from wd w e) (omega (arith, l.end))

  leaf_silent : (s : Span) (l : Leaf) → Silent (symbol_bytes wd s (SymbolKind.Leaf l))
  unfolding symbol_bytes leaf_code leaf_operand item_code code_size long_of pick
  leaf_silent s (Leaf.AmbiguousId a) = silent 32 _ refl (simp (length-append, length_span, length-le) (omega arith))
  leaf_silent s (Leaf.Bare a) = silent 33 _ refl (simp (length-append, length_span, length-le) (omega arith))
  leaf_silent s (Leaf.Quoted a) = silent 34 _ refl (simp (length-append, length_span, length-le) (omega arith))
  leaf_silent s (Leaf.Regex a) = silent 35 _ refl (simp (length-append, length_span, length-le) (omega arith))
  leaf_silent s (Leaf.Nonterminal a) = silent 36 _ refl (simp (length-append, length_span, length-le) (omega arith))
  leaf_silent s Leaf.Lookahead = silent 42 _ refl (simp (length-append, length_span) (omega arith))
  leaf_silent s Leaf.Lookbehind = silent 43 _ refl (simp (length-append, length_span) (omega arith))
  leaf_silent s Leaf.Error = silent 44 _ refl (simp (length-append, length_span) (omega arith))

  symbol_silent : (s : Span) (k : SymbolKind) → Silent (node_bytes wd (Node.Symbol s k))
  unfolding node_bytes symbol_bytes item_code code_size long_of pick
  symbol_silent s (SymbolKind.Leaf l) = leaf_silent s l
  symbol_silent s (SymbolKind.Around (Around.Repeat op)) = silent 38 _ refl (simp (length-append, length_span) (omega arith))
  symbol_silent s (SymbolKind.Around Around.Choose) = silent 39 _ refl (simp length_span (omega arith))
  symbol_silent s (SymbolKind.Around (Around.Name n a)) = silent 40 _ refl (simp (length-append, length_span, length-le) (omega arith))
  symbol_silent s (SymbolKind.Over (Over.Macro a n)) = silent 37 _ refl (simp (length-append, length_span, length-le) (omega arith))
  symbol_silent s (SymbolKind.Over (Over.Group n)) = silent 41 _ refl (simp (length-append, length_span, length-le) (omega arith))

  attribute_node_silent : (x : AttributeNode) → Silent (node_bytes wd (Node.Attribute x))
  unfolding node_bytes item_code code_size long_of pick
  attribute_node_silent x = silent 19 _ refl (simp (length-append, length-le) (omega arith))

  alternative_node_silent : (x : AlternativeNode) → Silent (node_bytes wd (Node.Alternative x))
  unfolding node_bytes item_code code_size long_of pick
  alternative_node_silent x = silent 18 _ refl (simp (length-append, length_span, length-le) (omega arith))

  -- ---- what stands inside an item; ts are the atoms
  module _ (ts : List Text) where
    mutual
      unfolding sym_bytes syms_bytes

      sym_silent : (x : Sym) → Silent (sym_bytes wd ts x)
      sym_silent (leaf s l) = symbol_silent s _
      sym_silent (around s a x) = silent_append _ (sym_bytes wd ts x) (symbol_silent s _) (sym_silent x)
      sym_silent (over s o xs) = silent_append _ (syms_bytes wd ts xs) (symbol_silent s _) (syms_silent xs)

      syms_silent : (xs : Syms) → Silent (syms_bytes wd ts xs)
      syms_silent nil = silent_none
      syms_silent (cons x xs) = silent_append (sym_bytes wd ts x) (syms_bytes wd ts xs) (sym_silent x) (syms_silent xs)

    argument-silent : (x : Text) → Silent (argument_bytes wd ts x)
    unfolding argument_bytes node_bytes item_code code_size pick
    argument-silent x = silent 17 _ refl (simp length-le (omega arith))

    attribute_of_lem : (i : Text) (o : Option (Text × Text)) → Silent (attribute_bytes wd ts (record { id = i; argument = o }))
    unfolding attribute_bytes attribute_node
    attribute_of_lem i none = attribute_node_silent _
    attribute_of_lem i (some kv) = attribute_node_silent _

    attribute_silent : (a : Attribute) → Silent (attribute_bytes wd ts a)
    attribute_silent a = attribute_of_lem a.id a.argument

    condition_silent : (c : Condition) → Silent (condition_bytes wd ts c)
    unfolding condition_bytes condition_node node_bytes item_code code_size long_of pick
    condition_silent c = silent 20 _ refl (simp (length-append, length_span, length-le) (omega arith))

    alternative_silent : (a : Alternative) → Silent (alternative_bytes wd ts a)
    unfolding alternative_bytes alternative_node
    alternative_silent a =
        let b = bytes_of_each (attribute_bytes wd ts) a.attributes in
        let c = bytes_of_each (condition_bytes wd ts) (conditions a.condition) in
        let y = syms_bytes wd ts a.symbols in
        silent_append _ (b ++ (c ++ y)) (alternative_node_silent _)
        (silent_append b (c ++ y) (silent_each (attribute_bytes wd ts) attribute_silent a.attributes)
        (silent_append c y (silent_each (condition_bytes wd ts) condition_silent (conditions a.condition)) (syms_silent a.symbols)))

    -- ---- an item: its first command begins it, and no other does
    begun : (c : ℕ) (ys zs : List ℕ) (p d : ℕ) → d ≤ e → Lies w p ((c ∷ ys) ++ zs) d → item_code c ≡ true → code_size wd c ≡ 1 + length ys → Silent zs → items_from wd w e p ≡ p ∷ items_from wd w e d
    begun c ys zs p d h l i j f =
        let s = lies_split w p d (c ∷ ys) zs l in
        let z : p + code_size wd c ≡ p + length (c ∷ ys) = omega (arith, j) in
        from_item wd w e p c (omega (arith, s.1.end)) (lies_first w p c ys _ s.0).1 i
        ∙ ap (λ (q : ℕ). p ∷ items_from wd w e q) z ∙ ap (λ (r : List ℕ). p ∷ r) (f (p + length (c ∷ ys)) d h s.1)

    source_begins : (s : Span) (o : Source) (x : Text) (p d : ℕ) → d ≤ e → Lies w p (item_bytes wd ts (terminal s o x)) d → items_from wd w e p ≡ p ∷ items_from wd w e d
    unfolding item_bytes node_bytes item_code code_size pick
    source_begins s extern x p d h l =
        let y = span_bytes s ++ le wd (number ts x) in
        begun 48 y [] p d h (rw (append-nil y) l) refl (simp (length-append, length_span, length-le) (omega arith)) silent_none
    source_begins s match x p d h l =
        let y = span_bytes s ++ le wd (number ts x) in
        begun 49 y [] p d h (rw (append-nil y) l) refl (simp (length-append, length_span, length-le) (omega arith)) silent_none

    item_begins : (x : Item) (p d : ℕ) → d ≤ e → Lies w p (item_bytes wd ts x) d → items_from wd w e p ≡ p ∷ items_from wd w e d
    unfolding item_bytes nonterminal_node node_bytes item_code code_size pick
    item_begins (item n) p d h l =
        let a = bytes_of_each (argument_bytes wd ts) n.args in
        let b = bytes_of_each (alternative_bytes wd ts) n.alternatives in
        let f = bit n.inline + (bit n.public + bit n.public) in
        let y : List ℕ = span_bytes n.span ++ (le wd (number ts n.name) ++ (f ∷ length n.args ∷ le 2 (length n.alternatives))) in
        begun 16 y (a ++ b) p d h l refl (simp (length-append, length_span, length-le) (omega arith))
        (silent_append a b (silent_each (argument_bytes wd ts) argument-silent n.args) (silent_each (alternative_bytes wd ts) alternative_silent n.alternatives))
    item_begins (terminal s o x) p d h l = source_begins s o x p d h l

    -- the places of items one behind another, the first at p
    unfoldable pub places_of : ℕ → List Item → List ℕ
    places_of p [] = []
    places_of p (x ∷ xs) = p ∷ places_of (p + length (item_bytes wd ts x)) xs

    -- theorem: the run notes these
    pub run_means : (is : List Item) (p : ℕ) → Lies w p (bytes_of_each (item_bytes wd ts) is) e → items_from wd w e p ≡ places_of p is
    unfolding bytes_of_each places_of
    run_means [] p l = from_end wd w e p (omega (arith, l.end))
    run_means (x ∷ xs) p l =
        let s = lies_split w p e (item_bytes wd ts x) (bytes_of_each (item_bytes wd ts) xs) l in
        let q = p + length (item_bytes wd ts x) in
        item_begins x p (p + length (item_bytes wd ts x)) (omega (arith, s.1.end)) s.0 ∙ ap (λ (r : List ℕ). p ∷ r) (run_means xs (p + length (item_bytes wd ts x)) s.1)

    pub places-many : (is : List Item) (p : ℕ) → length (places_of p is) ≡ length is
    unfolding places_of
    places-many [] p = refl
    places-many (x ∷ xs) p = ap suc (places-many xs (p + length (item_bytes wd ts x)))

    pub place_is : (is : List Item) (p i : ℕ) → i < length is → get_or (places_of p is) i 0 ≡ p + length (bytes_of_each (item_bytes wd ts) (take i is))
    unfolding places_of bytes_of_each
    place_is [] p i h = absurd (omega arith)
    place_is (x ∷ xs) p zero h = omega arith
    place_is (x ∷ xs) p (suc i) h =
        omega (arith, place_is xs (p + length (item_bytes wd ts x)) i (omega arith), length-append (item_bytes wd ts x) (bytes_of_each (item_bytes wd ts) (take i xs)))
