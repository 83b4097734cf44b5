-- The bytes and texts of items that are made: their commands, and the symbols of each alternative. Assumes nothing.
use mathlib.Core.Path.{◌≡◌, refl, sym, ap, ◌∙◌}
use mathlib.Core.Bool.{Bool, true, false, ◌&&◌}
use mathlib.Core.List.{List, [], ◌∷◌, ◌++◌, append-nil, append_assoc}
use Prim.Native.Nat.{ℕ}
use lib.Dec.{ltb}
use Rattle.parse_tree.specs.Plain.Tree.{Text, Syms, Action, item, count}
use Rattle.parse_tree.specs.Plain.Texts.{number}
use Rattle.parse_tree.specs.Plain.References.{texts_of_each, syms_texts, action_texts, alternative_texts, item_texts}
use Rattle.parse_tree.specs.Plain.WriteTape.{bytes_of_each, bit}
use Rattle.parse_tree.specs.Working.Nodes.{node_bytes}
use Rattle.parse_tree.specs.Working.Encode.{action_code, action_text, alternative_node, nonterminal_node, syms_bytes, alternative_bytes, item_bytes}
use Rattle.parse_tree.specs.declared.syntax.Span.{Span}
use Rattle.parse_tree.specs.declared.syntax.Node.{Node}
use Rattle.passes.specs.Outcome.{simple}
use Rattle.passes.specs.Macros.{made}
use Rattle.passes.specs.Sizes.{syms_fit, item_fits}
use Rattle.macro_expand.specs.Expand.{head_bytes}

-- the command of an alternative without attributes and condition
abbrev pub simple_node : Span → ℕ → ℕ → ℕ → Node
simple_node sp act t symbols = Node.Alternative (record { span = sp; attributes = 0; conditions = 0; action = act; text = record { 0 = t }; symbols = symbols })

module _ (wd : ℕ) (ts : List Text) (sp : Span) (key : Text) where
  -- an alternative that is made
  simple-bytes : (act : Action) (xs : Syms) → alternative_bytes wd ts (simple sp act xs) ≡ node_bytes wd (simple_node sp (action_code act) (action_text ts act) (count xs)) ++ syms_bytes wd ts xs
  unfolding alternative_bytes alternative_node bytes_of_each
  simple-bytes act xs = refl

  -- theorem: an item of one
  pub one_bytes : (inline : Bool) (act : Action) (xs : Syms)
      → item_bytes wd ts (item (made sp key inline (simple sp act xs ∷ []))) ≡ head_bytes wd sp (number ts key) (bit inline) 1 (action_code act) (action_text ts act) (count xs) ++ syms_bytes wd ts xs
  unfolding item_bytes nonterminal_node bytes_of_each head_bytes
  one_bytes inline act xs =
      let H = node_bytes wd (Node.Nonterminal (record { span = sp; name = record { 0 = number ts key }; flags = bit inline; args = 0; alternatives = 1 })) in
      go inline ∙ ap (λ (r : List ℕ). H ++ r) (append-nil (alternative_bytes wd ts (simple sp act xs)) ∙ simple-bytes act xs) ∙ sym (append_assoc H (node_bytes wd (simple_node sp (action_code act) (action_text ts act) (count xs))) (syms_bytes wd ts xs))
    where
      go : (b : Bool) → item_bytes wd ts (item (made sp key b (simple sp act xs ∷ [])))
          ≡ node_bytes wd (Node.Nonterminal (record { span = sp; name = record { 0 = number ts key }; flags = bit b; args = 0; alternatives = 1 })) ++ (alternative_bytes wd ts (simple sp act xs) ++ [])
      go true = refl
      go false = refl

  -- theorem: an item of two
  pub two_bytes : (inline : Bool) (act : Action) (xs : Syms) (act' : Action) (ys : Syms)
      → item_bytes wd ts (item (made sp key inline (simple sp act xs ∷ simple sp act' ys ∷ [])))
      ≡ head_bytes wd sp (number ts key) (bit inline) 2 (action_code act) (action_text ts act) (count xs)
      ++ (syms_bytes wd ts xs ++ (node_bytes wd (simple_node sp (action_code act') (action_text ts act') (count ys)) ++ syms_bytes wd ts ys))
  unfolding item_bytes nonterminal_node bytes_of_each head_bytes
  two_bytes inline act xs act' ys =
      let H = node_bytes wd (Node.Nonterminal (record { span = sp; name = record { 0 = number ts key }; flags = bit inline; args = 0; alternatives = 2 })) in
      let A = node_bytes wd (simple_node sp (action_code act) (action_text ts act) (count xs)) in
      let B = node_bytes wd (simple_node sp (action_code act') (action_text ts act') (count ys)) ++ syms_bytes wd ts ys in
      go inline
      ∙ ap (λ (r : List ℕ). H ++ (alternative_bytes wd ts (simple sp act xs) ++ r)) (append-nil (alternative_bytes wd ts (simple sp act' ys)) ∙ simple-bytes act' ys)
      ∙ ap (λ (r : List ℕ). H ++ (r ++ B)) (simple-bytes act xs)
      ∙ ap (λ (r : List ℕ). H ++ r) (append_assoc A (syms_bytes wd ts xs) B)
      ∙ sym (append_assoc H A (syms_bytes wd ts xs ++ B))
    where
      go : (b : Bool) → item_bytes wd ts (item (made sp key b (simple sp act xs ∷ simple sp act' ys ∷ [])))
          ≡ node_bytes wd (Node.Nonterminal (record { span = sp; name = record { 0 = number ts key }; flags = bit b; args = 0; alternatives = 2 }))
          ++ (alternative_bytes wd ts (simple sp act xs) ++ (alternative_bytes wd ts (simple sp act' ys) ++ []))
      go true = refl
      go false = refl

-- ---- the texts
module _ (sp : Span) (key : Text) where
  simple-texts : (act : Action) (xs : Syms) → alternative_texts (simple sp act xs) ≡ action_texts act ++ syms_texts xs
  unfolding alternative_texts texts_of_each
  simple-texts act xs = refl

  pub one_texts : (inline : Bool) (act : Action) (xs : Syms) → item_texts (item (made sp key inline (simple sp act xs ∷ []))) ≡ key ∷ (action_texts act ++ syms_texts xs)
  unfolding item_texts texts_of_each
  one_texts inline act xs = ap (λ (r : List Text). key ∷ r) (append-nil (alternative_texts (simple sp act xs)) ∙ simple-texts act xs)

  pub two_texts : (inline : Bool) (act : Action) (xs : Syms) (act' : Action) (ys : Syms)
      → item_texts (item (made sp key inline (simple sp act xs ∷ simple sp act' ys ∷ []))) ≡ key ∷ (action_texts act ++ (syms_texts xs ++ (action_texts act' ++ syms_texts ys)))
  unfolding item_texts texts_of_each
  two_texts inline act xs act' ys =
      ap (λ (r : List Text). key ∷ (alternative_texts (simple sp act xs) ++ r)) (append-nil (alternative_texts (simple sp act' ys)) ∙ simple-texts act' ys)
      ∙ ap (λ (r : List Text). key ∷ (r ++ (action_texts act' ++ syms_texts ys))) (simple-texts act xs)
      ∙ ap (λ (r : List Text). key ∷ r) (append_assoc (action_texts act) (syms_texts xs) (action_texts act' ++ syms_texts ys))

  -- ---- whether they are within bounds
  and-true : (a b : Bool) → a ≡ true → a && b ≡ b
  and-true a b e = cc e

  pub right_true : (a : Bool) → a && true ≡ a
  right_true true = refl
  right_true false = refl

  pub one_fits : (inline : Bool) (act : Action) (xs : Syms) → ltb (count xs) 65536 ≡ true → item_fits (item (made sp key inline (simple sp act xs ∷ []))) ≡ syms_fit xs 64
  one_fits inline act xs c = right_true (ltb (count xs) 65536 && syms_fit xs 64) ∙ and-true (ltb (count xs) 65536) (syms_fit xs 64) c

  pub two_fits : (inline : Bool) (act : Action) (xs : Syms) (act' : Action) (ys : Syms) → ltb (count xs) 65536 ≡ true → ltb (count ys) 65536 ≡ true
      → item_fits (item (made sp key inline (simple sp act xs ∷ simple sp act' ys ∷ []))) ≡ syms_fit xs 64 && syms_fit ys 64
  two_fits inline act xs act' ys c d =
      ap (λ (b : Bool). (ltb (count xs) 65536 && syms_fit xs 64) && b) (right_true (ltb (count ys) 65536 && syms_fit ys 64) ∙ and-true (ltb (count ys) 65536) (syms_fit ys 64) d)
      ∙ ap (λ (b : Bool). b && syms_fit ys 64) (and-true (ltb (count xs) 65536) (syms_fit xs 64) c)
