-- The item of `X+` over trees: its texts, its bytes, and that it is within bounds. Assumes nothing.
use mathlib.Core.Path.{◌≡◌, refl, sym, ap, ◌∙◌}
use mathlib.Core.Bool.{Bool, true, false, ◌&&◌}
use mathlib.Core.List.{List, [], ◌∷◌, ◌++◌, append_assoc}
use Prim.Native.Nat.{ℕ}
use Rattle.octets.specs.Plain.Numbers.{le}
use Rattle.parse_tree.specs.Plain.Tree.{Text, Sym, Syms, plus, nonterminal, name, leaf, around, nil, cons, count, user, item}
use Rattle.parse_tree.specs.Plain.Texts.{has, number, with_new}
use Rattle.parse_tree.specs.Plain.References.{leaf_texts, around_texts, sym_texts, syms_texts, action_texts}
use Rattle.parse_tree.specs.Working.Nodes.{span_bytes, symbol_bytes, node_bytes, leaf_code, leaf_operand}
use Rattle.parse_tree.specs.Working.Encode.{leaf_node, around_node, action_text, sym_bytes, syms_bytes, item_bytes}
use Rattle.parse_tree.specs.declared.syntax.Span.{Span}
use Rattle.parse_tree.specs.declared.syntax.Leaf.{Leaf as LeafNode}
use Rattle.parse_tree.specs.declared.syntax.Around.{Around as AroundNode}
use Rattle.parse_tree.specs.declared.syntax.SymbolKind.{SymbolKind}
use Rattle.parse_tree.specs.declared.syntax.Node.{Node}
use Rattle.passes.specs.Macros.{expand_repeat_symbol, vec_one, pushed, v_name, e_name}
use Rattle.passes.specs.Sizes.{sym_fits}
use Rattle.replacing.proofs.Growing.{extends_has, new_append, new_extends}
use Rattle.replacing.specs.Trees.{renamed, renamed_all}
use Rattle.appending.specs.Built.{built_text}
use Rattle.precedence.specs.Write.{alternative_head}
use Rattle.appending.specs.Commands.{name_head}
use Rattle.appending.specs.Pieces.{item_piece, Steady}
use Rattle.macro_expand.specs.Expand.{head_bytes}
use Rattle.macro_expand.specs.Repeat.{push_head, push_piece}
use Rattle.macro_expand.proofs.ItemPieces.{known_number, alternative_head_lem}
use Rattle.macro_expand.proofs.ItemTrees.{simple_node, two_bytes, two_texts, two_fits}
use Rattle.macro_expand.proofs.RepeatTrees.{text_v, text_one, text_push, text_e}

-- ---- commands by the span and the numbers that they mean
module _ (wd span : ℕ) (sp : Span) (z : le 8 span ≡ span_bytes sp) where
  pub name_head_lem : (k m : ℕ) → le wd m ≡ le wd k → name_head wd span m ≡ node_bytes wd (Node.Symbol sp (SymbolKind.Around (AroundNode.Name 0 (record { 0 = k }))))
  unfolding name_head node_bytes symbol_bytes
  name_head_lem k m e = rw (z, e) refl

  pub leaf_head : (k m : ℕ) → le wd m ≡ le wd k → 36 ∷ (le 8 span ++ le wd m) ≡ node_bytes wd (Node.Symbol sp (SymbolKind.Leaf (LeafNode.Nonterminal (record { 0 = k }))))
  unfolding node_bytes symbol_bytes leaf_code leaf_operand
  leaf_head k m e = rw (z, e) refl

-- ---- a text that is known is passed over
pub new_known : (ts : List Text) (t : Text) (us : List Text) → has t ts ≡ true → with_new ts (t ∷ us) ≡ with_new ts us
unfolding with_new
new_known ts t us h = cc h

pub new_later : (ts : List Text) (a b t c : Text) → has t ts ≡ true → with_new ts (a ∷ b ∷ t ∷ c ∷ []) ≡ with_new ts (a ∷ b ∷ c ∷ [])
new_later ts a b t c h =
    new_append ts (a ∷ b ∷ []) (t ∷ c ∷ [])
    ∙ new_known (with_new ts (a ∷ b ∷ [])) t (c ∷ []) (extends_has ts (with_new ts (a ∷ b ∷ [])) t (new_extends ts (a ∷ b ∷ [])) h)
    ∙ sym (new_append ts (a ∷ b ∷ []) (c ∷ []))

-- ---- the commands of the second alternative
pub steady_push : (wd span : ℕ) (key : Text) → Steady (push_piece wd span key)
steady_push wd span key = record {
  same = λ ts us h. rw (known_number ts us (built_text 3) h.0, known_number ts us (built_text 1) h.1.0, known_number ts us key h.1.1.0, known_number ts us (built_text 4) h.1.1.1.0) refl;
}

-- by numbers that have the same bytes
pub push-same : (wd span a b k d a' b' k' d' : ℕ) → le wd a ≡ le wd a' → le wd b ≡ le wd b' → le wd k ≡ le wd k' → le wd d ≡ le wd d' → push_head wd span a b k d ≡ push_head wd span a' b' k' d'
unfolding push_head alternative_head name_head
push-same wd span a b k d a' b' k' d' p q r s = rw (p, q, r, s) refl

regroup : (a b c d x : List ℕ) → a ++ ((b ++ c) ++ ((d ++ x) ++ [])) ≡ (a ++ (b ++ (c ++ d))) ++ (x ++ [])
regroup a b c d x =
    ap (λ (r : List ℕ). a ++ ((b ++ c) ++ r)) (append_assoc d x [])
    ∙ ap (λ (r : List ℕ). a ++ r) (append_assoc b c (d ++ (x ++ [])))
    ∙ ap (λ (r : List ℕ). a ++ (b ++ r)) (sym (append_assoc c d (x ++ [])))
    ∙ ap (λ (r : List ℕ). a ++ r) (sym (append_assoc b (c ++ d) (x ++ [])))
    ∙ sym (append_assoc a (b ++ (c ++ d)) (x ++ []))

-- ---- the item
module _ (wd : ℕ) (sp : Span) (key : Text) (x : Sym) where
  abbrev second : Syms
  second = cons (around sp (name false v_name) (leaf sp (nonterminal key))) (cons (around sp (name false e_name) (renamed x)) nil)

  -- the second alternative
  second_bytes : (ts : List Text) (span : ℕ) → le 8 span ≡ span_bytes sp
      → node_bytes wd (simple_node sp 1 (number ts pushed) 2) ++ syms_bytes wd ts second
      ≡ push_head wd span (number ts pushed) (number ts v_name) (number ts key) (number ts e_name) ++ syms_bytes wd ts (cons (renamed x) nil)
  unfolding syms_bytes sym_bytes around_node leaf_node push_head
  second_bytes ts span z =
      let A = node_bytes wd (simple_node sp 1 (number ts pushed) 2) in
      let B = node_bytes wd (Node.Symbol sp (SymbolKind.Around (AroundNode.Name 0 (record { 0 = number ts v_name })))) in
      let C = node_bytes wd (Node.Symbol sp (SymbolKind.Leaf (LeafNode.Nonterminal (record { 0 = number ts key })))) in
      let D = node_bytes wd (Node.Symbol sp (SymbolKind.Around (AroundNode.Name 0 (record { 0 = number ts e_name })))) in
      let X = sym_bytes wd ts (renamed x) ++ [] in
      let A' = alternative_head wd span 1 (number ts pushed) 2 in
      let B' = name_head wd span (number ts v_name) in
      let C' : List ℕ = 36 ∷ (le 8 span ++ le wd (number ts key)) in
      regroup A B C D (sym_bytes wd ts (renamed x))
      ∙ ap (λ (r : List ℕ). (r ++ (B ++ (C ++ D))) ++ X) (sym (alternative_head_lem wd span sp z (number ts pushed) (number ts pushed) 1 2 refl))
      ∙ ap (λ (r : List ℕ). (A' ++ (r ++ (C ++ D))) ++ X) (sym (name_head_lem wd span sp z (number ts v_name) (number ts v_name) refl))
      ∙ ap (λ (r : List ℕ). (A' ++ (B' ++ (r ++ D))) ++ X) (sym (leaf_head wd span sp z (number ts key) (number ts key) refl))
      ∙ ap (λ (r : List ℕ). (A' ++ (B' ++ (C' ++ r))) ++ X) (sym (name_head_lem wd span sp z (number ts e_name) (number ts e_name) refl))

  pub plus_bytes : (ts : List Text) (span : ℕ) → le 8 span ≡ span_bytes sp
      → item_bytes wd ts (item (expand_repeat_symbol sp key plus (renamed x)))
      ≡ (head_bytes wd sp (number ts key) 0 2 1 (number ts (built_text 2)) 1 ++ syms_bytes wd ts (renamed_all (cons x nil)))
      ++ ((push_piece wd span key).bytes ts ++ syms_bytes wd ts (renamed_all (cons x nil)))
  unfolding action_text renamed_all count
  plus_bytes ts span z =
      let H = head_bytes wd sp (number ts key) 0 2 1 (number ts vec_one) 1 in
      let X = syms_bytes wd ts (cons (renamed x) nil) in
      two_bytes wd ts sp key false (user vec_one) (cons (renamed x) nil) (user pushed) second
      ∙ ap (λ (r : List ℕ). H ++ (X ++ r)) (second_bytes ts span z)
      ∙ sym (append_assoc H X (push_head wd span (number ts pushed) (number ts v_name) (number ts key) (number ts e_name) ++ X))
      ∙ sym (rw (text_one, text_push, text_v, text_e) refl)

  pub plus_texts : (item_piece wd (item (expand_repeat_symbol sp key plus (renamed x)))).texts
      ≡ ((key ∷ built_text 2 ∷ []) ++ syms_texts (renamed_all (cons x nil))) ++ ((built_text 3 ∷ built_text 1 ∷ key ∷ built_text 4 ∷ []) ++ syms_texts (renamed_all (cons x nil)))
  unfolding action_texts syms_texts sym_texts around_texts leaf_texts renamed_all
  plus_texts = two_texts sp key false (user vec_one) (cons (renamed x) nil) (user pushed) second ∙ sym (rw (text_one, text_push, text_v, text_e) refl)

  pub plus_fits : sym_fits (renamed x) 64 ≡ true → sym_fits (renamed x) 63 ≡ true → (item_piece wd (item (expand_repeat_symbol sp key plus (renamed x)))).fits ≡ true
  unfolding count
  plus_fits h k = two_fits sp key false (user vec_one) (cons (renamed x) nil) (user pushed) second refl refl ∙ ap (λ (b : Bool). (b && true) && (sym_fits (renamed x) 63 && true)) h ∙ ap (λ (b : Bool). b && true) k
