-- Resolving names in place: one byte patched for each 20 makes of a tree's bytes those of the resolved tree. Assumes nothing.
use mathlib.Core.Path.{◌≡◌, refl, sym, ap, ◌∙◌}
use mathlib.Core.Bool.{Bool, true, false}
use mathlib.Core.List.{List, [], ◌∷◌, ◌++◌}
use Prim.Native.Nat.{ℕ, suc, ◌+◌, ◌<◌, ◌≤◌}
use native.Mathlib.Omega.{arith}
use native.Mathlib.Numerals.{add-one}
use lib.ListN.{length, drop, set, length-append}
use lib.Seq.{sets, set-get_or, drop-set-lt}
use Rattle.octets.specs.Working.Choice.{pick}
use Rattle.octets.specs.Plain.Numbers.{le}
use Rattle.octets.specs.Plain.Runs.{Lies}
use Rattle.octets.specs.Working.Stores.{store}
use Rattle.octets.proofs.LiesLaws.{lies_split, lies_first, lies_from}
use Rattle.octets.proofs.StoreLaws.{store-none, store-append}
use Rattle.parse_tree.specs.Plain.Tree.{Text, Leaf, Sym, Syms, ambiguous, bare, quoted, regex, nonterminal, lookahead, lookbehind, error, leaf, around, over, nil, cons, count}
use Rattle.parse_tree.specs.Plain.Texts.{number}
use Rattle.parse_tree.specs.Working.Nodes.{span_bytes, leaf_code, leaf_operand, symbol_bytes, node_bytes, size_of}
use Rattle.parse_tree.specs.Working.Encode.{leaf_node, around_node, over_node, sym_bytes, syms_bytes}
use Rattle.parse_tree.specs.declared.syntax.Span.{Span}
use Rattle.parse_tree.specs.declared.syntax.Leaf.{Leaf as LeafNode}
use Rattle.parse_tree.specs.declared.syntax.SymbolKind.{SymbolKind}
use Rattle.parse_tree.specs.declared.syntax.Node.{Node}
use Rattle.laws.specs.Flat.{sym_node, nodes_all, fold_sym, fold_syms, run}
use Rattle.laws.specs.Patch.{rewritten_leaf, rewritten, rewritten_all, patch_leaf, patch}
use Rattle.laws.proofs.Flat.{lies_kept, SymsFits, symbol_size, Keeps, kept, run_whole}

-- ---- what lies there already is stored by nothing
sets_same : (vs s : List ℕ) (a e : ℕ) → Lies s a vs e → sets s a vs ≡ s
sets_same [] s a e l = refl
sets_same (v ∷ vs) s a e l =
    let f = lies_first s a v vs e l in
    let z : set s a v ≡ s = rw (← f.1) (set-get_or s a 0) in
    rw z (sets_same vs s (suc a) e (lies_from (add-one a) f.2))

pub store_same : (s : List ℕ) (a e : ℕ) (vs : List ℕ) → Lies s a vs e → store s a vs ≡ s
unfolding store
store_same s a e vs l = sets_same vs s a e l

-- one byte other than what lies there
pub store-first : (s : List ℕ) (a e u v : ℕ) (vs : List ℕ) → Lies s a (u ∷ vs) e → set s a v ≡ store s a (v ∷ vs)
unfolding store
store-first s a e u v vs l =
    let f = lies_first s a u vs e l in
    sym (sets_same vs (set s a v) (suc a) e (lies_kept s (set s a v) (suc a) e vs (drop-set-lt (suc a) s a v (omega arith)) (lies_from (add-one a) f.2)))

-- a store behind a run that lies there
pub behind_node : (s : List ℕ) (at m : ℕ) (n ys : List ℕ) → Lies s at n m → m ≡ at + length n → store s m ys ≡ store s at (n ++ ys)
behind_node s at m n ys l z = ap (λ (r : List ℕ). store r m ys) (sym (store_same s at m n l)) ∙ store-append s at m n ys z

module _ (terminal : ℕ → Bool) (w : ℕ) where
  -- ---- the effect leaves what is behind the command
  leaf_keeps : (s : List ℕ) (at n : ℕ) (l : LeafNode) → at < n → drop n (patch_leaf terminal s at l) ≡ drop n s
  unfolding patch_leaf
  leaf_keeps s at n (LeafNode.AmbiguousId a) h = drop-set-lt n s at _ h
  leaf_keeps s at n (LeafNode.Bare a) h = refl
  leaf_keeps s at n (LeafNode.Quoted a) h = refl
  leaf_keeps s at n (LeafNode.Regex a) h = refl
  leaf_keeps s at n (LeafNode.Nonterminal a) h = refl
  leaf_keeps s at n LeafNode.Lookahead h = refl
  leaf_keeps s at n LeafNode.Lookbehind h = refl
  leaf_keeps s at n LeafNode.Error h = refl

  module _ (ts : List Text) where
    pub patch_keeps : Keeps w (patch terminal) ts (λ s. s)
    unfolding patch
    patch_keeps s at sp (SymbolKind.Leaf l) = leaf_keeps s at (at + size_of w (Node.Symbol sp (SymbolKind.Leaf l))) l (omega (arith, symbol_size w ts sp (SymbolKind.Leaf l)))
    patch_keeps s at sp (SymbolKind.Around a) = refl
    patch_keeps s at sp (SymbolKind.Over o) = refl

    -- ---- settling keeps how many symbols and bytes there are
    pub rewritten_count : (xs : Syms) → count (rewritten_all terminal ts xs) ≡ count xs
    unfolding rewritten_all count
    rewritten_count nil = refl
    rewritten_count (cons x xs) = ap suc (rewritten_count xs)

    -- a leaf's bytes, and those of what it becomes
    patch_name : (sp : Span) (n : Text) (b : Bool) (s : List ℕ) (at e : ℕ) → Lies s at (sym_bytes w ts (leaf sp (ambiguous n))) e → set s at (pick b 33 36) ≡ store s at (sym_bytes w ts (leaf sp (pick b (bare n) (nonterminal n))))
    unfolding sym_bytes node_bytes symbol_bytes leaf_code leaf_operand leaf_node pick
    patch_name sp n true s at e l = store-first s at e 32 33 (span_bytes sp ++ le w (number ts n)) l
    patch_name sp n false s at e l = store-first s at e 32 36 (span_bytes sp ++ le w (number ts n)) l

    patch_leaf_lem : (sp : Span) (l : Leaf) (s : List ℕ) (at e : ℕ) → Lies s at (sym_bytes w ts (leaf sp l)) e → patch_leaf terminal s at (leaf_node ts l) ≡ store s at (sym_bytes w ts (leaf sp (rewritten_leaf terminal ts l)))
    unfolding leaf_node patch_leaf rewritten_leaf
    patch_leaf_lem sp (ambiguous n) s at e l = patch_name sp n (terminal (number ts n)) s at e l
    patch_leaf_lem sp (bare n) s at e l = sym (store_same s at e _ l)
    patch_leaf_lem sp (quoted t) s at e l = sym (store_same s at e _ l)
    patch_leaf_lem sp (regex t) s at e l = sym (store_same s at e _ l)
    patch_leaf_lem sp (nonterminal n) s at e l = sym (store_same s at e _ l)
    patch_leaf_lem sp lookahead s at e l = sym (store_same s at e _ l)
    patch_leaf_lem sp lookbehind s at e l = sym (store_same s at e _ l)
    patch_leaf_lem sp error s at e l = sym (store_same s at e _ l)

    name_length : (sp : Span) (n : Text) (b : Bool) → length (sym_bytes w ts (leaf sp (pick b (bare n) (nonterminal n)))) ≡ length (sym_bytes w ts (leaf sp (ambiguous n)))
    unfolding sym_bytes node_bytes symbol_bytes leaf_code leaf_operand leaf_node pick
    name_length sp n true = refl
    name_length sp n false = refl

    leaf_length : (sp : Span) (l : Leaf) → length (sym_bytes w ts (leaf sp (rewritten_leaf terminal ts l))) ≡ length (sym_bytes w ts (leaf sp l))
    unfolding rewritten_leaf
    leaf_length sp (ambiguous n) = name_length sp n (terminal (number ts n))
    leaf_length sp (bare n) = refl
    leaf_length sp (quoted t) = refl
    leaf_length sp (regex t) = refl
    leaf_length sp (nonterminal n) = refl
    leaf_length sp lookahead = refl
    leaf_length sp lookbehind = refl
    leaf_length sp error = refl

    mutual
      unfolding sym_bytes syms_bytes rewritten rewritten_all

      pub rewritten_length : (x : Sym) → length (sym_bytes w ts (rewritten terminal ts x)) ≡ length (sym_bytes w ts x)
      rewritten_length (leaf s l) = leaf_length s l
      rewritten_length (around s a x) =
          let n = node_bytes w (Node.Symbol s (SymbolKind.Around (around_node ts a))) in
          omega (arith, rewritten_length x, length-append n (sym_bytes w ts x), length-append n (sym_bytes w ts (rewritten terminal ts x)))
      rewritten_length (over s o xs) =
          let n = node_bytes w (Node.Symbol s (SymbolKind.Over (over_node ts o (count xs)))) in
          rw (rewritten_count xs) (omega (arith, rewritten_all_length xs, length-append n (syms_bytes w ts xs), length-append n (syms_bytes w ts (rewritten_all terminal ts xs))))

      pub rewritten_all_length : (xs : Syms) → length (syms_bytes w ts (rewritten_all terminal ts xs)) ≡ length (syms_bytes w ts xs)
      rewritten_all_length nil = refl
      rewritten_all_length (cons x xs) =
          omega (arith, rewritten_length x, rewritten_all_length xs, length-append (sym_bytes w ts x) (syms_bytes w ts xs), length-append (sym_bytes w ts (rewritten terminal ts x)) (syms_bytes w ts (rewritten_all terminal ts xs)))

    -- ---- the effect on a tree is its rewritten bytes, stored
    mutual
      unfolding sym_bytes syms_bytes fold_sym fold_syms rewritten rewritten_all sym_node patch size_of

      pub patch_sym : (x : Sym) (s : List ℕ) (at e : ℕ) → Lies s at (sym_bytes w ts x) e → fold_sym w (patch terminal) ts x s at ≡ store s at (sym_bytes w ts (rewritten terminal ts x))
      patch_sym (leaf sp l) s at e k = patch_leaf_lem sp l s at e k
      patch_sym (around sp a x) s at e k =
          let n = node_bytes w (Node.Symbol sp (SymbolKind.Around (around_node ts a))) in
          let m = lies_split s at e n (sym_bytes w ts x) k in
          patch_sym x s (at + length n) e m.1 ∙ behind_node s at (at + length n) n (sym_bytes w ts (rewritten terminal ts x)) m.0 refl
      patch_sym (over sp o xs) s at e k =
          let n = node_bytes w (Node.Symbol sp (SymbolKind.Over (over_node ts o (count xs)))) in
          let m = lies_split s at e n (syms_bytes w ts xs) k in
          rw (rewritten_count xs) (patch_syms xs s (at + length n) e m.1 ∙ behind_node s at (at + length n) n (syms_bytes w ts (rewritten_all terminal ts xs)) m.0 refl)

      pub patch_syms : (xs : Syms) (s : List ℕ) (at e : ℕ) → Lies s at (syms_bytes w ts xs) e → fold_syms w (patch terminal) ts xs s at ≡ store s at (syms_bytes w ts (rewritten_all terminal ts xs))
      patch_syms nil s at e k = sym (store-none s at)
      patch_syms (cons x xs) s at e k =
          let m = lies_split s at e (sym_bytes w ts x) (syms_bytes w ts xs) k in
          let d = at + length (sym_bytes w ts x) in
          let t = fold_sym w (patch terminal) ts x s at in
          let l = lies_kept s t d e (syms_bytes w ts xs) (kept w (patch terminal) ts (λ r. r) patch_keeps x s at d refl) m.1 in
          patch_syms xs t d e l
          ∙ ap (λ (r : List ℕ). store r d (syms_bytes w ts (rewritten_all terminal ts xs))) (patch_sym x s at d m.0)
          ∙ store-append s at d (sym_bytes w ts (rewritten terminal ts x)) (syms_bytes w ts (rewritten_all terminal ts xs)) (omega (arith, rewritten_length x))

    -- the flat run
    pub patch_run : (xs : Syms) (g : ℕ) (s : List ℕ) (at e : ℕ) → SymsFits w ts xs → nodes_all xs ≤ g → Lies s at (syms_bytes w ts xs) e
        → run w (patch terminal) (λ r. r) g (count xs) s at ≡ (store s at (syms_bytes w ts (rewritten_all terminal ts xs)), e)
    patch_run xs g s at e h k l =
        run_whole w (patch terminal) ts (λ r. r) patch_keeps xs h g s at e k l ∙ ap (λ (r : List ℕ). (r, e)) (patch_syms xs s at e l)
