-- The item of `X*` over trees: its texts, its bytes, and whether it is within bounds. Assumes nothing.
use mathlib.Core.Path.{◌≡◌, refl, sym, ap, ◌∙◌}
use mathlib.Core.Bool.{Bool, true, false, not}
use mathlib.Core.List.{List, [], ◌∷◌, ◌++◌, append-nil, append_assoc}
use Prim.Native.Nat.{ℕ}
use Rattle.octets.specs.Plain.Numbers.{le}
use Rattle.parse_tree.specs.Plain.Tree.{Text, Sym, Syms, star, plus, repeat, name, around, nil, cons, count, user, item}
use Rattle.parse_tree.specs.Plain.Texts.{number, with_new}
use Rattle.parse_tree.specs.Plain.References.{around_texts, sym_texts, syms_texts, action_texts}
use Rattle.parse_tree.specs.Working.Nodes.{span_bytes, symbol_bytes, node_bytes}
use Rattle.parse_tree.specs.Working.Encode.{around_node, action_text, sym_bytes, syms_bytes, item_bytes}
use Rattle.parse_tree.specs.declared.syntax.Span.{Span}
use Rattle.parse_tree.specs.declared.syntax.Around.{Around as AroundNode}
use Rattle.parse_tree.specs.declared.syntax.SymbolKind.{SymbolKind}
use Rattle.parse_tree.specs.declared.syntax.Node.{Node}
use Rattle.passes.specs.Macros.{expand_repeat_symbol, vec_none, v_name}
use Rattle.passes.specs.Sizes.{sym_fits}
use Rattle.replacing.proofs.Growing.{new_append}
use Rattle.replacing.proofs.ThereBytes.{new_all}
use Rattle.replacing.specs.Trees.{renamed, renamed_all}
use Rattle.appending.specs.Built.{built_text}
use Rattle.precedence.specs.Write.{alternative_head}
use Rattle.appending.specs.Commands.{name_head, plus_head}
use Rattle.appending.specs.Pieces.{item_piece, Steady}
use Rattle.macro_expand.specs.Expand.{head_bytes}
use Rattle.macro_expand.specs.Repeat.{by_number, star_head, star_piece}
use Rattle.macro_expand.proofs.ItemPieces.{known_number, alternative_head_lem}
use Rattle.macro_expand.proofs.ItemTrees.{simple_node, right_true, two_bytes, two_texts, two_fits}
use Rattle.macro_expand.proofs.RepeatTrees.{text_none, text_v}
use Rattle.macro_expand.proofs.PushTrees.{name_head_lem, new_known}

pub steady_number : (t : Text) (f : ℕ → List ℕ) → Steady (by_number t f)
steady_number t f = record { same = λ ts us h. ap f (known_number ts us t h.0) }

pub plus_head_lem : (wd span : ℕ) (sp : Span) → le 8 span ≡ span_bytes sp → plus_head span ≡ node_bytes wd (Node.Symbol sp (SymbolKind.Around (AroundNode.Repeat 1)))
unfolding plus_head node_bytes symbol_bytes
plus_head_lem wd span sp z = rw z refl

regroup : (a b c x : List ℕ) → a ++ ((b ++ (c ++ x)) ++ []) ≡ (a ++ (b ++ c)) ++ (x ++ [])
regroup a b c x =
    ap (λ (r : List ℕ). a ++ (r ++ [])) (sym (append_assoc b c x))
    ∙ ap (λ (r : List ℕ). a ++ r) (append_assoc (b ++ c) x [])
    ∙ sym (append_assoc a (b ++ c) (x ++ []))

-- ---- the item
module _ (wd : ℕ) (sp : Span) (key : Text) (x : Sym) where
  abbrev second : Syms
  second = cons (around sp (name false v_name) (around sp (repeat plus) (renamed x))) nil

  second_bytes : (ts : List Text) (span : ℕ) → le 8 span ≡ span_bytes sp
      → node_bytes wd (simple_node sp 1 (number ts v_name) 1) ++ syms_bytes wd ts second ≡ star_head wd span (number ts v_name) ++ syms_bytes wd ts (cons (renamed x) nil)
  unfolding syms_bytes sym_bytes around_node star_head
  second_bytes ts span z =
      let A = node_bytes wd (simple_node sp 1 (number ts v_name) 1) in
      let B = node_bytes wd (Node.Symbol sp (SymbolKind.Around (AroundNode.Name 0 (record { 0 = number ts v_name })))) in
      let C = node_bytes wd (Node.Symbol sp (SymbolKind.Around (AroundNode.Repeat 1))) in
      let X = sym_bytes wd ts (renamed x) ++ [] in
      let A' = alternative_head wd span 1 (number ts v_name) 1 in
      let B' = name_head wd span (number ts v_name) in
      regroup A B C (sym_bytes wd ts (renamed x))
      ∙ ap (λ (r : List ℕ). (r ++ (B ++ C)) ++ X) (sym (alternative_head_lem wd span sp z (number ts v_name) (number ts v_name) 1 1 refl))
      ∙ ap (λ (r : List ℕ). (A' ++ (r ++ C)) ++ X) (sym (name_head_lem wd span sp z (number ts v_name) (number ts v_name) refl))
      ∙ ap (λ (r : List ℕ). (A' ++ (B' ++ r)) ++ X) (sym (plus_head_lem wd span sp z))

  pub star_bytes : (ts : List Text) (span : ℕ) (deep : Bool) → le 8 span ≡ span_bytes sp
      → item_bytes wd ts (item (expand_repeat_symbol sp key star (renamed x))) ≡ head_bytes wd sp (number ts key) 1 2 1 (number ts (built_text 0)) 0 ++ (star_piece wd span x deep).bytes ts
  unfolding action_text renamed_all syms_bytes count
  star_bytes ts span deep z =
      let H = head_bytes wd sp (number ts key) 1 2 1 (number ts vec_none) 0 in
      two_bytes wd ts sp key true (user vec_none) nil (user v_name) second
      ∙ ap (λ (r : List ℕ). H ++ r) (second_bytes ts span z ∙ sym (append-nil (star_head wd span (number ts v_name) ++ syms_bytes wd ts (cons (renamed x) nil))))
      ∙ sym (rw (text_none, text_v) refl)

  pub star_texts : (ts : List Text) (span : ℕ) (deep : Bool)
      → with_new ts (item_piece wd (item (expand_repeat_symbol sp key star (renamed x)))).texts ≡ with_new ts ((key ∷ built_text 0 ∷ []) ++ (star_piece wd span x deep).texts)
  unfolding action_texts syms_texts sym_texts around_texts renamed_all
  star_texts ts span deep =
      let us : List Text = key ∷ vec_none ∷ v_name ∷ [] in
      let X = sym_texts (renamed x) ++ [] in
      ap (with_new ts) (two_texts sp key true (user vec_none) nil (user v_name) second)
      ∙ new_append ts us (v_name ∷ X)
      ∙ new_known (with_new ts us) v_name X (new_all ts us).1.1.0
      ∙ sym (new_append ts us X)
      ∙ ap (λ (r : List Text). with_new ts (key ∷ vec_none ∷ v_name ∷ r)) (sym (append-nil (sym_texts (renamed x) ++ [])))
      ∙ sym (rw (text_none, text_v) refl)

  pub star_fits : (span : ℕ) (deep : Bool) → not deep ≡ sym_fits (renamed x) 62 → (item_piece wd (item (expand_repeat_symbol sp key star (renamed x)))).fits ≡ (star_piece wd span x deep).fits
  unfolding count
  star_fits span deep h = two_fits sp key true (user vec_none) nil (user v_name) second refl refl ∙ right_true sp key (sym_fits (renamed x) 62) ∙ sym h
