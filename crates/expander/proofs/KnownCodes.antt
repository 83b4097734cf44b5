-- What the code of a command that is known, or read whole, says: how long it is, that it is an item, the definition of a macro or a symbol that is expanded, and what is written for that. Assumes nothing.
use mathlib.Core.Path.{◌≡◌, refl, sym, ap, ◌∙◌, subst}
use mathlib.Core.Bool.{Bool, true, false, not, false≢true}
use mathlib.Core.List.{List, ◌∷◌, ◌++◌}
use Prim.Native.Nat.{ℕ, ◌+◌, ◌*◌, ◌/◌, ◌%◌, ◌<◌, ◌≤◌}
use native.Mathlib.Omega.{arith}
use lib.ListN.{get_or}
use Rattle.std.specs.Prelude.{Option as Optional, Some, None}
use Rattle.octets.specs.Working.Choice.{pick}
use Rattle.octets.specs.Plain.Numbers.{le_at, le, Bytes}
use Rattle.octets.proofs.ChoiceLaws.{by_pick}
use Rattle.octets.proofs.LiesLaws.{le_at-lt}
use Rattle.octets.proofs.NumbersLaws.{halves_at, le-64}
use Rattle.parse_tree.specs.Working.Nodes.{code_size, span_bytes, leaf_code, leaf_operand, symbol_bytes, node_bytes, if_whole, span_in, text_node, node_by, node_at, size_read}
use Rattle.parse_tree.specs.Working.Places.{class_of}
use Rattle.parse_tree.specs.declared.syntax.Span.{Span}
use Rattle.parse_tree.specs.declared.syntax.Node.{Node}
use Rattle.replacing.specs.Runs.{plain, is_item, is_macro, key_bytes}
use Rattle.replacing.specs.Round.{node_span}
use Rattle.expander.specs.Replace.{expanded_code}
use Rattle.expander.specs.Stage.{item_code, macro_at, WholeAt}
use Rattle.expander.proofs.NodeCodes.{by_code}

module _ (wd : ℕ) (t : List ℕ) (p : ℕ) where
  -- ---- where the code is an atom's, an atom stands, or nothing that is known
  abbrev AtomOrNone : Optional Node → Type 0
  AtomOrNone None = Unit {0}
  AtomOrNone (Some n) = class_of n ≡ 0

  text_class_lem : AtomOrNone (text_node t p)
  unfolding text_node if_whole class_of
  text_class_lem = by_pick AtomOrNone _ (λ _. tt) (λ _. by_pick AtomOrNone _ (λ _. tt) (λ _. refl))

  atom_by : node_by wd 1 t p ≡ text_node t p
  unfolding node_by pick
  atom_by = refl

  atom_class : get_or t p 0 ≡ 1 → AtomOrNone (node_at wd t p)
  unfolding node_at class_of
  atom_class e = by_pick AtomOrNone _ (λ _. tt) (λ _. subst AtomOrNone (sym (ap (λ (c : ℕ). node_by wd c t p) e ∙ atom_by)) text_class_lem)

  pub no_atom : (n : Node) → node_at wd t p ≡ Some n → 1 ≤ class_of n → get_or t p 0 ≡ 1 → ⊥
  no_atom n h l e = let z : class_of n ≡ 0 = subst AtomOrNone h (atom_class e) in omega arith

  -- ---- a whole command
  whole_known : WholeAt wd t p → node_at wd t p ≡ None → ⊥
  whole_known h e = let z : size_read wd (node_at wd t p) ≡ 0 = ap (size_read wd) e in omega (arith, h.some)

  pub whole_long : WholeAt wd t p → size_read wd (node_at wd t p) ≡ code_size wd (get_or t p 0)
  whole_long h = (by_code wd t p (whole_known h)).long h.known

  pub whole_item : WholeAt wd t p → is_item (node_at wd t p) ≡ item_code (get_or t p 0)
  whole_item h = (by_code wd t p (whole_known h)).item

  pub whole_macro : WholeAt wd t p → is_macro (node_at wd t p) ≡ macro_at wd t p (get_or t p 0)
  whole_macro h = (by_code wd t p (whole_known h)).macro

  pub whole_plain : WholeAt wd t p → plain (node_at wd t p) ≡ not (expanded_code (get_or t p 0))
  whole_plain h = (by_code wd t p (whole_known h)).copied

  -- ---- an item
  item_known : is_item (node_at wd t p) ≡ true → node_at wd t p ≡ None → ⊥
  unfolding is_item
  item_known i e = false≢true (sym (ap is_item e) ∙ i)

  pub item_code_lem : is_item (node_at wd t p) ≡ true → item_code (get_or t p 0) ≡ true
  item_code_lem i = sym (by_code wd t p (item_known i)).item ∙ i

  -- ---- a symbol that is expanded
  key_known : plain (node_at wd t p) ≡ false → node_at wd t p ≡ None → ⊥
  unfolding plain
  key_known z e = false≢true (sym z ∙ ap plain e)

  pub key_code_lem : plain (node_at wd t p) ≡ false → expanded_code (get_or t p 0) ≡ true
  key_code_lem z = go (expanded_code (get_or t p 0)) (sym z ∙ (by_code wd t p (key_known z)).copied)
    where
      go : (b : Bool) → false ≡ not b → b ≡ true
      go true e = refl
      go false e = absurd (false≢true e)

  -- its span are the eight bytes behind the code
  span_bytes_lem : Bytes t → (a : ℕ) → span_bytes (span_in t a) ≡ le 8 (le_at 8 t a)
  unfolding span_bytes span_in
  span_bytes_lem b a =
      let l = le_at 4 t a in
      let h = le_at 4 t (a + 4) in
      let q : l + h * 4294967296 ≡ le_at 8 t a = halves_at t a in
      let i : l < 4294967296 = le_at-lt 4 t a b in
      let x : le_at 8 t a % 4294967296 ≡ l = omega arith in
      let y : le_at 8 t a / 4294967296 ≡ h = omega arith in
      sym (rw (← x, ← y) (le-64 (le_at 8 t a)))

  key_spanned : (n : Optional Node) (k : ℕ) → plain n ≡ false → key_bytes wd n k ≡ 36 ∷ (span_bytes (node_span n) ++ le wd k)
  unfolding plain key_bytes node_bytes symbol_bytes leaf_code leaf_operand node_span
  key_spanned (Some (Node.Text m)) k z = absurd (false≢true (sym z))
  key_spanned (Some (Node.Nonterminal d)) k z = absurd (false≢true (sym z))
  key_spanned (Some (Node.Terminal d)) k z = absurd (false≢true (sym z))
  key_spanned (Some (Node.Argument a)) k z = absurd (false≢true (sym z))
  key_spanned (Some (Node.Alternative a)) k z = absurd (false≢true (sym z))
  key_spanned (Some (Node.Attribute a)) k z = absurd (false≢true (sym z))
  key_spanned (Some (Node.Condition c)) k z = absurd (false≢true (sym z))
  key_spanned (Some (Node.Symbol s x)) k z = refl
  key_spanned None k z = absurd (false≢true (sym z))

  pub key_bytes_lem : Bytes t → (k : ℕ) → plain (node_at wd t p) ≡ false → key_bytes wd (node_at wd t p) k ≡ 36 ∷ (le 8 (le_at 8 t (p + 1)) ++ le wd k)
  key_bytes_lem b k z =
      key_spanned (node_at wd t p) k z
      ∙ ap (λ (s : Span). 36 ∷ (span_bytes s ++ le wd k)) ((by_code wd t p (key_known z)).span z)
      ∙ ap (λ (l : List ℕ). 36 ∷ (l ++ le wd k)) (span_bytes_lem b (p + 1))
