-- Occurrences of a nonterminal renamed in place give the bytes of the tree with its occurrences replaced. Assumes nothing.
use mathlib.Core.Path.{◌≡◌, refl, sym, ap, ◌∙◌}
use mathlib.Core.Bool.{Bool, true, false, cond, true≢false}
use mathlib.Core.List.{List, [], ◌∷◌}
use Prim.Native.Nat.{ℕ, suc, ◌+◌, ◌<◌, ◌≤◌}
use native.Mathlib.Omega.{arith}
use borrow.Author.Tests.{eq-eqb, eqb-true}
use lib.Dec.{eqb}
use lib.ListN.{length, drop, get_or, length-append}
use Rattle.octets.specs.Plain.Numbers.{le}
use Rattle.octets.specs.Plain.Runs.{same_as, Lies}
use Rattle.octets.specs.Working.Stores.{store}
use Rattle.octets.proofs.SameLaws.{same_as-eq, eq_same_as}
use Rattle.octets.proofs.NumbersLaws.{length-le}
use Rattle.octets.proofs.LiesLaws.{lies_split}
use Rattle.octets.proofs.StoreLaws.{store-none, store-append, store-drop}
use Rattle.parse_tree.specs.Plain.Tree.{Text, Leaf, Sym, Syms, ambiguous, bare, quoted, regex, nonterminal, lookahead, lookbehind, error, leaf, around, over, nil, cons, count}
use Rattle.parse_tree.specs.Plain.Texts.{has, number}
use Rattle.parse_tree.specs.Working.Nodes.{span_bytes, leaf_code, leaf_operand, symbol_bytes, node_bytes, size_of}
use Rattle.parse_tree.specs.Working.Encode.{leaf_node, around_node, over_node, sym_bytes, syms_bytes}
use Rattle.parse_tree.specs.declared.syntax.Span.{Span}
use Rattle.parse_tree.specs.declared.syntax.Leaf.{Leaf as LeafNode}
use Rattle.parse_tree.specs.declared.syntax.NonterminalString.{NonterminalString}
use Rattle.parse_tree.specs.declared.syntax.SymbolKind.{SymbolKind}
use Rattle.parse_tree.specs.declared.syntax.Node.{Node}
use Rattle.parse_tree.proofs.SizeLaws.{length_span}
use Rattle.parse_tree.proofs.TextLaws.{number-below, text_number}
use Rattle.passes.specs.Levels.{occurs, occurs_in, replace_occurrences, replace_occurrences_in}
use Rattle.laws.specs.Flat.{sym_node, fold_sym, fold_syms}
use Rattle.laws.specs.Rename.{rename_leaf, rename}
use Rattle.laws.proofs.Flat.{lies_kept, Keeps, kept}
use Rattle.laws.proofs.Patch.{store_same, behind_node}

-- ---- a number tells its text, where the other one is an atom
below-has : (ts : List Text) (x : Text) → number ts x < length ts → has x ts ≡ true
unfolding has number
below-has [] x h = absurd (omega arith)
below-has (t ∷ ts) x h = go (same_as t x) (below-has ts x) h
  where
    go : (b : Bool) → (number ts x < length ts → has x ts ≡ true) → elim b [ true ↦ 0 | false ↦ suc (number ts x) ] < suc (length ts) → elim b [ true ↦ true | false ↦ has x ts ] ≡ true
    go true f k = refl
    go false f k = f (omega arith)

pub number-tells : (ts : List Text) (E n : Text) → has E ts ≡ true → eqb (number ts n) (number ts E) ≡ same_as n E
number-tells ts E n h = go (same_as n E) (eqb (number ts n) (number ts E)) refl refl
  where
    go : (a b : Bool) → same_as n E ≡ a → eqb (number ts n) (number ts E) ≡ b → b ≡ a
    go true b p q = sym q ∙ eq-eqb (number ts n) (number ts E) (ap (number ts) (same_as-eq n E p))
    go false false p q = refl
    go false true p q =
        let e = eqb-true (number ts n) (number ts E) q in
        let i = below-has ts n (omega (arith, number-below ts E h)) in
        let z : n ≡ E = sym (text_number ts n i) ∙ ap (λ (k : ℕ). get_or ts k []) e ∙ text_number ts E h in
        absurd (true≢false (sym (eq_same_as n E z) ∙ p))

module _ (w : ℕ) (ts : List Text) (E : Text) (F : ℕ → Text) (known : has E ts ≡ true) where
  abbrev effect : List ℕ × ℕ → ℕ → Node → List ℕ × ℕ
  effect = rename w (number ts E) (λ j. number ts (F j))

  abbrev bytes : List ℕ × ℕ → List ℕ
  bytes σ = σ.0

  name_keeps : (b : Bool) (s : List ℕ) (j at v n : ℕ) → at + (9 + w) ≤ n → drop n (bytes (cond b (store s (at + 9) (le w v), suc j) (s, j))) ≡ drop n s
  name_keeps true s j at v n h = store-drop s (at + 9) n (le w v) (omega (arith, length-le w v))
  name_keeps false s j at v n h = refl

  named-size : (sp : Span) (a : NonterminalString) → size_of w (Node.Symbol sp (SymbolKind.Leaf (LeafNode.Nonterminal a))) ≡ 9 + w
  unfolding size_of node_bytes symbol_bytes leaf_operand
  named-size sp a = simp (length-append, length-le, length_span) (omega arith)

  leaf_keeps : (s : List ℕ) (j at : ℕ) (sp : Span) (l : LeafNode) → drop (at + size_of w (Node.Symbol sp (SymbolKind.Leaf l))) (bytes (rename_leaf w (number ts E) (λ i. number ts (F i)) (s, j) at l)) ≡ drop (at + size_of w (Node.Symbol sp (SymbolKind.Leaf l))) s
  unfolding rename_leaf
  leaf_keeps s j at sp (LeafNode.AmbiguousId a) = refl
  leaf_keeps s j at sp (LeafNode.Bare a) = refl
  leaf_keeps s j at sp (LeafNode.Quoted a) = refl
  leaf_keeps s j at sp (LeafNode.Regex a) = refl
  leaf_keeps s j at sp (LeafNode.Nonterminal a) = name_keeps (eqb a.0 (number ts E)) s j at (number ts (F j)) (at + size_of w (Node.Symbol sp (SymbolKind.Leaf (LeafNode.Nonterminal a)))) (omega (arith, named-size sp a))
  leaf_keeps s j at sp LeafNode.Lookahead = refl
  leaf_keeps s j at sp LeafNode.Lookbehind = refl
  leaf_keeps s j at sp LeafNode.Error = refl

  pub rename_keeps : Keeps w effect ts bytes
  unfolding rename
  rename_keeps σ at sp (SymbolKind.Leaf l) = leaf_keeps σ.0 σ.1 at sp l
  rename_keeps σ at sp (SymbolKind.Around a) = refl
  rename_keeps σ at sp (SymbolKind.Over o) = refl

  -- ---- a leaf
  abbrev Renamed : List ℕ × ℕ → List ℕ → ℕ → List ℕ → ℕ → Type 0
  Renamed σ s at ys j = (σ.0 ≡ store s at ys) × (σ.1 ≡ j)

  name_renamed : (sp : Span) (n : Text) (s : List ℕ) (j at e : ℕ) → Lies s at (sym_bytes w ts (leaf sp (nonterminal n))) e → (b : Bool)
      → Renamed (cond b (store s (at + 9) (le w (number ts (F j))), suc j) (s, j)) s at (sym_bytes w ts (leaf sp (cond b (nonterminal (F j)) (nonterminal n)))) (j + cond b 1 0)
  unfolding sym_bytes node_bytes symbol_bytes leaf_node leaf_code leaf_operand
  name_renamed sp n s j at e l true =
      let p : List ℕ = 36 ∷ span_bytes sp in
      let z : at + length (36 ∷ span_bytes sp) ≡ at + 9 = omega (arith, length_span sp) in
      let m = lies_split s at e (36 ∷ span_bytes sp) (le w (number ts n)) l in
      (ap (λ (d : ℕ). store s d (le w (number ts (F j)))) (sym z) ∙ behind_node s at (at + length (36 ∷ span_bytes sp)) (36 ∷ span_bytes sp) (le w (number ts (F j))) m.0 refl, omega arith)
  name_renamed sp n s j at e l false = (sym (store_same s at e _ l), omega arith)

  leaf_same : (sp : Span) (l : Leaf) (s : List ℕ) (j at e : ℕ) → Lies s at (sym_bytes w ts (leaf sp l)) e → Renamed (s, j) s at (sym_bytes w ts (leaf sp l)) (j + 0)
  leaf_same sp l s j at e k = (sym (store_same s at e _ k), omega arith)

  leaf_renamed : (sp : Span) (l : Leaf) (s : List ℕ) (j at e : ℕ) → Lies s at (sym_bytes w ts (leaf sp l)) e
      → Renamed (rename_leaf w (number ts E) (λ i. number ts (F i)) (s, j) at (leaf_node ts l)) s at (sym_bytes w ts (replace_occurrences E F (leaf sp l) j)) (j + occurs E (leaf sp l))
  unfolding rename_leaf leaf_node replace_occurrences occurs
  leaf_renamed sp (ambiguous n) s j at e k = leaf_same sp (ambiguous n) s j at e k
  leaf_renamed sp (bare n) s j at e k = leaf_same sp (bare n) s j at e k
  leaf_renamed sp (quoted t) s j at e k = leaf_same sp (quoted t) s j at e k
  leaf_renamed sp (regex t) s j at e k = leaf_same sp (regex t) s j at e k
  leaf_renamed sp (nonterminal n) s j at e k = rw (number-tells ts E n known) (name_renamed sp n s j at e k (same_as n E))
  leaf_renamed sp lookahead s j at e k = leaf_same sp lookahead s j at e k
  leaf_renamed sp lookbehind s j at e k = leaf_same sp lookbehind s j at e k
  leaf_renamed sp error s j at e k = leaf_same sp error s j at e k

  -- ---- how many symbols and bytes there are is kept
  name_length : (sp : Span) (n m : Text) (b : Bool) → length (sym_bytes w ts (leaf sp (cond b (nonterminal m) (nonterminal n)))) ≡ length (sym_bytes w ts (leaf sp (nonterminal n)))
  unfolding sym_bytes node_bytes symbol_bytes leaf_node leaf_code leaf_operand
  name_length sp n m true = simp (length-append, length-le) (omega arith)
  name_length sp n m false = refl

  leaf_length : (sp : Span) (l : Leaf) (j : ℕ) → length (sym_bytes w ts (replace_occurrences E F (leaf sp l) j)) ≡ length (sym_bytes w ts (leaf sp l))
  unfolding replace_occurrences
  leaf_length sp (ambiguous n) j = refl
  leaf_length sp (bare n) j = refl
  leaf_length sp (quoted t) j = refl
  leaf_length sp (regex t) j = refl
  leaf_length sp (nonterminal n) j = name_length sp n (F j) (same_as n E)
  leaf_length sp lookahead j = refl
  leaf_length sp lookbehind j = refl
  leaf_length sp error j = refl

  renamed_count : (xs : Syms) (j : ℕ) → count (replace_occurrences_in E F xs j) ≡ count xs
  unfolding replace_occurrences_in count
  renamed_count nil j = refl
  renamed_count (cons x xs) j = ap suc (renamed_count xs (j + occurs E x))

  mutual
    unfolding replace_occurrences sym_bytes syms_bytes

    pub renamed_length : (x : Sym) (j : ℕ) → length (sym_bytes w ts (replace_occurrences E F x j)) ≡ length (sym_bytes w ts x)
    renamed_length (leaf sp l) j = leaf_length sp l j
    renamed_length (around sp a x) j =
        let n = node_bytes w (Node.Symbol sp (SymbolKind.Around (around_node ts a))) in
        omega (arith, renamed_length x j, length-append n (sym_bytes w ts x), length-append n (sym_bytes w ts (replace_occurrences E F x j)))
    renamed_length (over sp o xs) j =
        let n = node_bytes w (Node.Symbol sp (SymbolKind.Over (over_node ts o (count xs)))) in
        rw (renamed_count xs j) (omega (arith, renamed_all_length xs j, length-append n (syms_bytes w ts xs), length-append n (syms_bytes w ts (replace_occurrences_in E F xs j))))

    pub renamed_all_length : (xs : Syms) (j : ℕ) → length (syms_bytes w ts (replace_occurrences_in E F xs j)) ≡ length (syms_bytes w ts xs)
    renamed_all_length nil j = refl
    renamed_all_length (cons x xs) j =
        let k = j + occurs E x in
        omega (arith, renamed_length x j, renamed_all_length xs (j + occurs E x), length-append (sym_bytes w ts x) (syms_bytes w ts xs), length-append (sym_bytes w ts (replace_occurrences E F x j)) (syms_bytes w ts (replace_occurrences_in E F xs (j + occurs E x))))

  -- ---- the effect on a tree
  mutual
    unfolding fold_sym fold_syms sym_node rename sym_bytes syms_bytes replace_occurrences occurs size_of

    pub renamed_sym : (x : Sym) (σ : List ℕ × ℕ) (at e : ℕ) → Lies σ.0 at (sym_bytes w ts x) e → Renamed (fold_sym w effect ts x σ at) σ.0 at (sym_bytes w ts (replace_occurrences E F x σ.1)) (σ.1 + occurs E x)
    renamed_sym (leaf sp l) σ at e k = leaf_renamed sp l σ.0 σ.1 at e k
    renamed_sym (around sp a x) σ at e k =
        let n = node_bytes w (Node.Symbol sp (SymbolKind.Around (around_node ts a))) in
        let m = lies_split σ.0 at e n (sym_bytes w ts x) k in
        let r = renamed_sym x σ (at + length n) e m.1 in
        (r.0 ∙ behind_node σ.0 at (at + length n) n (sym_bytes w ts (replace_occurrences E F x σ.1)) m.0 refl, r.1)
    renamed_sym (over sp o xs) σ at e k =
        let n = node_bytes w (Node.Symbol sp (SymbolKind.Over (over_node ts o (count xs)))) in
        let m = lies_split σ.0 at e n (syms_bytes w ts xs) k in
        let r = renamed_syms xs σ (at + length n) e m.1 in
        rw (renamed_count xs σ.1) (r.0 ∙ behind_node σ.0 at (at + length n) n (syms_bytes w ts (replace_occurrences_in E F xs σ.1)) m.0 refl, r.1)

    pub renamed_syms : (xs : Syms) (σ : List ℕ × ℕ) (at e : ℕ) → Lies σ.0 at (syms_bytes w ts xs) e → Renamed (fold_syms w effect ts xs σ at) σ.0 at (syms_bytes w ts (replace_occurrences_in E F xs σ.1)) (σ.1 + occurs_in E xs)
    renamed_syms nil σ at e k = (sym (store-none σ.0 at), omega arith)
    renamed_syms (cons x xs) σ at e k =
        let m = lies_split σ.0 at e (sym_bytes w ts x) (syms_bytes w ts xs) k in
        let d = at + length (sym_bytes w ts x) in
        let τ = fold_sym w effect ts x σ at in
        let p = renamed_sym x σ at d m.0 in
        let l = lies_kept σ.0 τ.0 d e (syms_bytes w ts xs) (kept w effect ts bytes rename_keeps x σ at d refl) m.1 in
        let q = renamed_syms xs τ d e l in (
          q.0 ∙ ap (λ (r : List ℕ). store r d (syms_bytes w ts (replace_occurrences_in E F xs τ.1))) p.0
              ∙ ap (λ (j : ℕ). store (store σ.0 at (sym_bytes w ts (replace_occurrences E F x σ.1))) d (syms_bytes w ts (replace_occurrences_in E F xs j))) p.1
              ∙ store-append σ.0 at d (sym_bytes w ts (replace_occurrences E F x σ.1)) (syms_bytes w ts (replace_occurrences_in E F xs (σ.1 + occurs E x))) (omega (arith, renamed_length x σ.1)),
          omega (arith, p.1, q.1),
        )
