-- A flat run that asks each symbol's name and patches its code comes to what name resolution says of the symbols. Assumes nothing.
use mathlib.Core.Path.{◌≡◌, refl, sym, ap, ◌∙◌}
use mathlib.Core.Bool.{Bool, true, false, cond}
use mathlib.Core.List.{List, ◌++◌}
use mathlib.Core.Option.{Option, none, some}
use Prim.Native.Nat.{ℕ, zero, suc, ◌+◌, ◌<◌, ◌≤◌}
use native.Mathlib.Omega.{arith}
use lib.Dec.{eqb}
use lib.ListN.{length, drop, length-append}
use lib.Seq.{drop-set-lt}
use Rattle.octets.specs.Plain.Numbers.{le}
use Rattle.octets.specs.Plain.Runs.{Lies}
use Rattle.octets.specs.Working.Stores.{store}
use Rattle.octets.proofs.LiesLaws.{lies_split}
use Rattle.octets.proofs.StoreLaws.{store-none, store-append}
use Rattle.parse_tree.specs.Plain.Tree.{Text, Leaf, Around, Over, Sym, Syms, ambiguous, bare, quoted, regex, nonterminal, lookahead, lookbehind, error, macro, group, leaf, around, over, nil, cons, count}
use Rattle.parse_tree.specs.Plain.Texts.{number}
use Rattle.parse_tree.specs.Working.Nodes.{span_bytes, leaf_code, leaf_operand, symbol_bytes, node_bytes, size_of}
use Rattle.parse_tree.specs.Working.Encode.{leaf_node, around_node, over_node, sym_bytes, syms_bytes}
use Rattle.parse_tree.specs.declared.syntax.Span.{Span}
use Rattle.parse_tree.specs.declared.syntax.Leaf.{Leaf as LeafNode}
use Rattle.parse_tree.specs.declared.syntax.Over.{Over as OverNode}
use Rattle.parse_tree.specs.declared.syntax.SymbolKind.{SymbolKind}
use Rattle.parse_tree.specs.declared.syntax.Node.{Node}
use Rattle.passes.specs.Outcome.{Tree, Outcome, yes, no, after}
use Rattle.passes.specs.Resolve.{Def, terminal_def, nonterminal_def, argument_def, lookup, validate_nonterminal, rewrite_ambiguous_id, validate_macro, validate_leaf, validate_over, validate_symbol, validate_symbols}
use Rattle.passes.proofs.ResolveKeeps.{count_kept}
use Rattle.laws.specs.Flat.{sym_node, nodes_all, fold_sym, fold_syms, run}
use Rattle.laws.specs.Names.{State, fine, refused, bytes_of, ask_ambiguous, ask_nonterminal, ask_macro, ask_leaf, ask_over, ask_name}
use Rattle.laws.proofs.Flat.{lies_kept, SymsFits, symbol_size, Keeps, kept, run_whole}
use Rattle.laws.proofs.Patch.{store_same, store-first, behind_node}

-- a state as an outcome says it: a yes with its bytes stored, as many as n, or the same refusal
abbrev pub Told : {A : Type 0} → (A → List ℕ) → List ℕ → ℕ → ℕ → State → Outcome A → Type 0
Told f s at n σ (yes y) = (σ ≡ fine (store s at (f y))) × (length (f y) ≡ n)
Told f s at n σ (no q sp) = (r : List ℕ) × (σ ≡ refused q sp r)

-- what a question alone says
abbrev Asked : List ℕ → State → Outcome (Unit {0}) → Type 0
Asked s σ (yes u) = σ ≡ fine s
Asked s σ (no q sp) = σ ≡ refused q sp s

module _ (look : ℕ → Option Def) (w : ℕ) where
  -- ---- the effect leaves what is behind the command
  ambiguous_keeps : (s : List ℕ) (at n : ℕ) (sp : Span) (d : Option Def) → at < n → drop n (bytes_of (ask_ambiguous s at sp d)) ≡ drop n s
  unfolding ask_ambiguous
  ambiguous_keeps s at n sp none h = refl
  ambiguous_keeps s at n sp (some terminal_def) h = drop-set-lt n s at 33 h
  ambiguous_keeps s at n sp (some (nonterminal_def zero)) h = drop-set-lt n s at 36 h
  ambiguous_keeps s at n sp (some (nonterminal_def (suc k))) h = refl
  ambiguous_keeps s at n sp (some argument_def) h = drop-set-lt n s at 36 h

  pub nonterminal_bytes : (s : List ℕ) (sp : Span) (d : Option Def) → bytes_of (ask_nonterminal s sp d) ≡ s
  unfolding ask_nonterminal
  nonterminal_bytes s sp none = refl
  nonterminal_bytes s sp (some terminal_def) = refl
  nonterminal_bytes s sp (some (nonterminal_def zero)) = refl
  nonterminal_bytes s sp (some (nonterminal_def (suc k))) = refl
  nonterminal_bytes s sp (some argument_def) = refl

  pub macro_bytes : (s : List ℕ) (sp : Span) (k : ℕ) (d : Option Def) → bytes_of (ask_macro s sp k d) ≡ s
  unfolding ask_macro
  macro_bytes s sp k none = refl
  macro_bytes s sp k (some terminal_def) = refl
  macro_bytes s sp k (some (nonterminal_def zero)) = refl
  macro_bytes s sp k (some (nonterminal_def (suc j))) = go (eqb (suc j) k)
    where
      go : (b : Bool) → bytes_of (cond b (fine s) (refused 12 sp s)) ≡ s
      go true = refl
      go false = refl
  macro_bytes s sp k (some argument_def) = refl

  leaf_keeps : (s : List ℕ) (at n : ℕ) (sp : Span) (l : LeafNode) → at < n → drop n (bytes_of (ask_leaf look s at sp l)) ≡ drop n s
  unfolding ask_leaf
  leaf_keeps s at n sp (LeafNode.AmbiguousId a) h = ambiguous_keeps s at n sp (look a.0) h
  leaf_keeps s at n sp (LeafNode.Bare a) h = refl
  leaf_keeps s at n sp (LeafNode.Quoted a) h = refl
  leaf_keeps s at n sp (LeafNode.Regex a) h = refl
  leaf_keeps s at n sp (LeafNode.Nonterminal a) h = ap (drop n) (nonterminal_bytes s sp (look a.0))
  leaf_keeps s at n sp LeafNode.Lookahead h = refl
  leaf_keeps s at n sp LeafNode.Lookbehind h = refl
  leaf_keeps s at n sp LeafNode.Error h = refl

  module _ (ts : List Text) where
    pub ask_keeps : Keeps w (ask_name look) ts bytes_of
    unfolding ask_name ask_over
    ask_keeps (fine s) at sp (SymbolKind.Leaf l) = leaf_keeps s at (at + size_of w (Node.Symbol sp (SymbolKind.Leaf l))) sp l (omega (arith, symbol_size w ts sp (SymbolKind.Leaf l)))
    ask_keeps (fine s) at sp (SymbolKind.Around a) = refl
    ask_keeps (fine s) at sp (SymbolKind.Over (OverNode.Macro a k)) = ap (drop (at + size_of w (Node.Symbol sp (SymbolKind.Over (OverNode.Macro a k))))) (macro_bytes s sp k (look a.0))
    ask_keeps (fine s) at sp (SymbolKind.Over (OverNode.Group k)) = refl
    ask_keeps (refused q sq s) at sp k = refl

    -- ---- a refusal stays
    mutual
      unfolding fold_sym fold_syms ask_name

      stays : (x : Sym) (q : ℕ) (sp : Span) (s : List ℕ) (at : ℕ) → fold_sym w (ask_name look) ts x (refused q sp s) at ≡ refused q sp s
      stays (leaf sq l) q sp s at = refl
      stays (around sq a x) q sp s at = stays x q sp s _
      stays (over sq o xs) q sp s at = stay xs q sp s _

      pub stay : (xs : Syms) (q : ℕ) (sp : Span) (s : List ℕ) (at : ℕ) → fold_syms w (ask_name look) ts xs (refused q sp s) at ≡ refused q sp s
      stay nil q sp s at = refl
      stay (cons x xs) q sp s at = ap (λ (σ : State). fold_syms w (ask_name look) ts xs σ (at + length (sym_bytes w ts x))) (stays x q sp s at) ∙ stay xs q sp s _

    -- ---- with the definitions of a tree, and of an item's arguments
    module _ (G : Tree) (ps : List Text) (agree : (n : Text) → look (number ts n) ≡ lookup G ps n) where
      abbrev size : Sym → ℕ
      size x = length (sym_bytes w ts x)

      told_ambiguous : (sp : Span) (n : Text) (d : Option Def) (s : List ℕ) (at e : ℕ) → Lies s at (sym_bytes w ts (leaf sp (ambiguous n))) e
          → Told (sym_bytes w ts) s at (size (leaf sp (ambiguous n))) (ask_ambiguous s at sp d) (rewrite_ambiguous_id G ps sp n d)
      unfolding ask_ambiguous sym_bytes node_bytes symbol_bytes leaf_code leaf_operand leaf_node
      told_ambiguous sp n none s at e l = (s, refl)
      told_ambiguous sp n (some terminal_def) s at e l = (ap fine (store-first s at e 32 33 (span_bytes sp ++ le w (number ts n)) l), refl)
      told_ambiguous sp n (some (nonterminal_def zero)) s at e l = (ap fine (store-first s at e 32 36 (span_bytes sp ++ le w (number ts n)) l), refl)
      told_ambiguous sp n (some (nonterminal_def (suc k))) s at e l = (s, refl)
      told_ambiguous sp n (some argument_def) s at e l = (ap fine (store-first s at e 32 36 (span_bytes sp ++ le w (number ts n)) l), refl)

      -- a symbol that stays as it is
      told_same : (x : Sym) (s : List ℕ) (at e : ℕ) → Lies s at (sym_bytes w ts x) e → Told (sym_bytes w ts) s at (size x) (fine s) (yes x)
      told_same x s at e l = (ap fine (sym (store_same s at e (sym_bytes w ts x) l)), refl)

      told_nonterminal : (sp : Span) (n : Text) (d : Option Def) (s : List ℕ) (at e : ℕ) → Lies s at (sym_bytes w ts (leaf sp (nonterminal n))) e
          → Told (sym_bytes w ts) s at (size (leaf sp (nonterminal n))) (ask_nonterminal s sp d) (validate_nonterminal G ps sp n d)
      unfolding ask_nonterminal
      told_nonterminal sp n none s at e l = (s, refl)
      told_nonterminal sp n (some terminal_def) s at e l = (s, refl)
      told_nonterminal sp n (some (nonterminal_def zero)) s at e l = told_same (leaf sp (nonterminal n)) s at e l
      told_nonterminal sp n (some (nonterminal_def (suc k))) s at e l = (s, refl)
      told_nonterminal sp n (some argument_def) s at e l = told_same (leaf sp (nonterminal n)) s at e l

      told_leaf : (sp : Span) (l : Leaf) (s : List ℕ) (at e : ℕ) → Lies s at (sym_bytes w ts (leaf sp l)) e
          → Told (sym_bytes w ts) s at (size (leaf sp l)) (ask_leaf look s at sp (leaf_node ts l)) (validate_leaf G ps sp l)
      unfolding ask_leaf leaf_node
      told_leaf sp (ambiguous n) s at e l = rw (agree n) (told_ambiguous sp n (lookup G ps n) s at e l)
      told_leaf sp (bare n) s at e l = told_same (leaf sp (bare n)) s at e l
      told_leaf sp (quoted t) s at e l = told_same (leaf sp (quoted t)) s at e l
      told_leaf sp (regex t) s at e l = told_same (leaf sp (regex t)) s at e l
      told_leaf sp (nonterminal n) s at e l = rw (agree n) (told_nonterminal sp n (lookup G ps n) s at e l)
      told_leaf sp lookahead s at e l = told_same (leaf sp lookahead) s at e l
      told_leaf sp lookbehind s at e l = told_same (leaf sp lookbehind) s at e l
      told_leaf sp error s at e l = told_same (leaf sp error) s at e l

      asked_macro : (sp : Span) (k : ℕ) (d : Option Def) (s : List ℕ) → Asked s (ask_macro s sp k d) (validate_macro G ps sp k d)
      unfolding ask_macro
      asked_macro sp k none s = refl
      asked_macro sp k (some terminal_def) s = refl
      asked_macro sp k (some (nonterminal_def zero)) s = refl
      asked_macro sp k (some (nonterminal_def (suc j))) s = go (eqb (suc j) k)
        where
          go : (b : Bool) → Asked s (cond b (fine s) (refused 12 sp s)) (cond b (yes tt) (no 12 sp))
          go true = refl
          go false = refl
      asked_macro sp k (some argument_def) s = refl

      asked_over : (sp : Span) (o : Over) (k : ℕ) (s : List ℕ) → Asked s (ask_over look s sp (over_node ts o k)) (validate_over G ps sp o k)
      unfolding ask_over over_node
      asked_over sp (macro n) k s = rw (agree n) (asked_macro sp k (lookup G ps n) s)
      asked_over sp group k s = refl

      around_told : (sp : Span) (a : Around) (x : Sym) (n s : List ℕ) (at : ℕ) (r : Outcome Sym) (σ : State) → n ≡ node_bytes w (Node.Symbol sp (SymbolKind.Around (around_node ts a)))
          → Lies s at n (at + length n) → Told (sym_bytes w ts) s (at + length n) (length (sym_bytes w ts x)) σ r
          → Told (sym_bytes w ts) s at (length (sym_bytes w ts (around sp a x))) σ (after r (λ y. yes (around sp a y)))
      unfolding sym_bytes
      around_told sp a x n s at (yes y) σ z i t =
          rw (← z) (t.0 ∙ ap fine (behind_node s at (at + length n) n (sym_bytes w ts y) i refl), length-append n (sym_bytes w ts y) ∙ ap (λ (z : ℕ). length n + z) t.1 ∙ sym (length-append n (sym_bytes w ts x)))
      around_told sp a x n s at (no q sq) σ z i t = t

      over_told : (sp : Span) (o : Over) (xs : Syms) (n s : List ℕ) (at : ℕ) (v : Outcome (Unit {0})) (r : Outcome Syms) (σ : State) → n ≡ node_bytes w (Node.Symbol sp (SymbolKind.Over (over_node ts o (count xs))))
          → validate_symbols G ps xs ≡ r → Asked s σ v → Lies s at n (at + length n)
          → Told (syms_bytes w ts) s (at + length n) (length (syms_bytes w ts xs)) (fold_syms w (ask_name look) ts xs (fine s) (at + length n)) r
          → Told (sym_bytes w ts) s at (length (sym_bytes w ts (over sp o xs))) (fold_syms w (ask_name look) ts xs σ (at + length n)) (after v (λ u. after r (λ ys. yes (over sp o ys))))
      unfolding sym_bytes
      over_told sp o xs n s at (yes u) (yes ys) σ z c a i t =
          let k = count_kept G ps xs ys c in
          rw (k, ← z) (
            ap (λ (τ : State). fold_syms w (ask_name look) ts xs τ (at + length n)) a ∙ t.0 ∙ ap fine (behind_node s at (at + length n) n (syms_bytes w ts ys) i refl),
            length-append n (syms_bytes w ts ys) ∙ ap (λ (z : ℕ). length n + z) t.1 ∙ sym (length-append n (syms_bytes w ts xs)),
          )
      over_told sp o xs n s at (yes u) (no q sq) σ z c a i t = (t.0, ap (λ (τ : State). fold_syms w (ask_name look) ts xs τ (at + length n)) a ∙ t.1)
      over_told sp o xs n s at (no q sq) r σ z c a i t = (s, ap (λ (τ : State). fold_syms w (ask_name look) ts xs τ (at + length n)) a ∙ stay xs q sq s (at + length n))

      cons_told : (x : Sym) (xs : Syms) (s : List ℕ) (at d : ℕ) (v : Outcome Sym) (r : Outcome Syms) (σ : State) → d ≡ at + length (sym_bytes w ts x)
          → Told (sym_bytes w ts) s at (length (sym_bytes w ts x)) σ v
          → ((t : List ℕ) → σ ≡ fine t → Told (syms_bytes w ts) t d (length (syms_bytes w ts xs)) (fold_syms w (ask_name look) ts xs (fine t) d) r)
          → Told (syms_bytes w ts) s at (length (syms_bytes w ts (cons x xs))) (fold_syms w (ask_name look) ts xs σ d) (after v (λ y. after r (λ ys. yes (cons y ys))))
      unfolding sym_bytes syms_bytes
      cons_told x xs s at d (yes y) (yes ys) σ z h f =
          let t = f (store s at (sym_bytes w ts y)) h.0 in (
            ap (λ (τ : State). fold_syms w (ask_name look) ts xs τ d) h.0 ∙ t.0 ∙ ap fine (store-append s at d (sym_bytes w ts y) (syms_bytes w ts ys) (omega (arith, h.1))),
            omega (arith, h.1, t.1, length-append (sym_bytes w ts y) (syms_bytes w ts ys), length-append (sym_bytes w ts x) (syms_bytes w ts xs)),
          )
      cons_told x xs s at d (yes y) (no q sq) σ z h f =
          let t = f (store s at (sym_bytes w ts y)) h.0 in
          (t.0, ap (λ (τ : State). fold_syms w (ask_name look) ts xs τ d) h.0 ∙ t.1)
      cons_told x xs s at d (no q sq) r σ z h f = (h.0, ap (λ (τ : State). fold_syms w (ask_name look) ts xs τ d) h.1 ∙ stay xs q sq h.0 d)

      mutual
        unfolding fold_sym fold_syms sym_node ask_name sym_bytes syms_bytes validate_symbol validate_symbols size_of

        pub told_sym : (x : Sym) (s : List ℕ) (at e : ℕ) → Lies s at (sym_bytes w ts x) e → Told (sym_bytes w ts) s at (length (sym_bytes w ts x)) (fold_sym w (ask_name look) ts x (fine s) at) (validate_symbol G ps x)
        told_sym (leaf sp l) s at e k = told_leaf sp l s at e k
        told_sym (around sp a x) s at e k =
            let n = node_bytes w (Node.Symbol sp (SymbolKind.Around (around_node ts a))) in
            let m = lies_split s at e n (sym_bytes w ts x) k in
            around_told sp a x n s at (validate_symbol G ps x) (fold_sym w (ask_name look) ts x (fine s) (at + length n)) refl m.0 (told_sym x s (at + length n) e m.1)
        told_sym (over sp o xs) s at e k =
            let n = node_bytes w (Node.Symbol sp (SymbolKind.Over (over_node ts o (count xs)))) in
            let m = lies_split s at e n (syms_bytes w ts xs) k in
            over_told sp o xs n s at (validate_over G ps sp o (count xs)) (validate_symbols G ps xs) (ask_over look s sp (over_node ts o (count xs))) refl refl (asked_over sp o (count xs) s) m.0 (told_syms xs s (at + length n) e m.1)

        pub told_syms : (xs : Syms) (s : List ℕ) (at e : ℕ) → Lies s at (syms_bytes w ts xs) e → Told (syms_bytes w ts) s at (length (syms_bytes w ts xs)) (fold_syms w (ask_name look) ts xs (fine s) at) (validate_symbols G ps xs)
        told_syms nil s at e k = (ap fine (sym (store-none s at)), refl)
        told_syms (cons x xs) s at e k =
            let m = lies_split s at e (sym_bytes w ts x) (syms_bytes w ts xs) k in
            let d = at + length (sym_bytes w ts x) in
            let σ = fold_sym w (ask_name look) ts x (fine s) at in
            cons_told x xs s at d (validate_symbol G ps x) (validate_symbols G ps xs) σ refl (told_sym x s at d m.0) (λ t q.
            told_syms xs t d e (lies_kept s t d e (syms_bytes w ts xs) (ap (λ (τ : State). drop d (bytes_of τ)) (sym q) ∙ kept w (ask_name look) ts bytes_of ask_keeps x (fine s) at d refl) m.1))

      -- the flat run over a list of symbols, with the answer of name resolution
      pub names_run : (xs : Syms) (g : ℕ) (s : List ℕ) (at e : ℕ) → SymsFits w ts xs → nodes_all xs ≤ g → Lies s at (syms_bytes w ts xs) e
          → Told (syms_bytes w ts) s at (length (syms_bytes w ts xs)) (run w (ask_name look) bytes_of g (count xs) (fine s) at).0 (validate_symbols G ps xs)
      names_run xs g s at e h k l =
          let z = ap (λ (p : State × ℕ). p.0) (run_whole w (ask_name look) ts bytes_of ask_keeps xs h g (fine s) at e k l) in
          rw z (told_syms xs s at e l)
