-- The run over commands, at symbols: it asks each in prefix order, and goes on behind them. Assumes nothing.
use mathlib.Core.Path.{◌≡◌, refl, sym, ap, ◌∙◌}
use mathlib.Core.List.{List, [], ◌∷◌, ◌++◌, append_assoc}
use mathlib.Core.Option.{Option, none, some}
use Prim.Native.Nat.{ℕ, zero, suc, ◌+◌, ◌*◌, ◌<◌, ◌≤◌}
use native.Mathlib.Omega.{arith}
use lib.ListN.{length, get_or, set}
use lib.Seq.{set-get_or}
use Rattle.octets.specs.Plain.Runs.{Lies}
use Rattle.octets.specs.Working.Stores.{store}
use Rattle.octets.proofs.LiesLaws.{lies_split}
use Rattle.parse_tree.specs.Plain.Tree.{Text, Sym, Syms, leaf, around, over, nil, cons, count}
use Rattle.parse_tree.specs.Plain.Texts.{number}
use Rattle.parse_tree.specs.Working.Nodes.{node_bytes, size_of}
use Rattle.parse_tree.specs.Working.Encode.{leaf_node, around_node, over_node, sym_bytes, syms_bytes}
use Rattle.parse_tree.specs.declared.syntax.Span.{Span}
use Rattle.parse_tree.specs.declared.syntax.Leaf.{Leaf as LeafNode}
use Rattle.parse_tree.specs.declared.syntax.Over.{Over as OverNode}
use Rattle.parse_tree.specs.declared.syntax.SymbolKind.{SymbolKind}
use Rattle.passes.specs.Outcome.{Tree, Outcome, yes, no}
use Rattle.passes.specs.Resolve.{Def, terminal_def, nonterminal_def, argument_def, lookup, validate_symbols}
use Rattle.laws.specs.Flat.{sym_node, children, joined, nodes, nodes_all, fold_syms}
use Rattle.laws.specs.Names.{State, fine, refused, bytes_of, ask_ambiguous, ask_nonterminal, ask_macro, ask_leaf, ask_over, ask_kind, ask_name}
use Rattle.laws.proofs.Flat.{lies_kept, SymFits, SymsFits, sym_bytes_lem, joined_bytes, joined-fits, children-fit, node_size, fold_step, keeps_node}
use Rattle.laws.proofs.Names.{Told, nonterminal_bytes, macro_bytes, ask_keeps, stay, told_syms}
use Rattle.texts.specs.declared.Map.{Map}
use Rattle.resolve.specs.Cells.{known_at}
use Rattle.resolve.specs.Commands.{stopped}
use Rattle.resolve.specs.Whole.{Apart}
use Rattle.resolve.proofs.CellsLaws.{part_apart, known_off}
use Rattle.resolve.proofs.NamesMean.{meant}
use Rattle.resolve.proofs.CommandsStep.{up_to, state_then, symbol_step}

-- a byte off the records leaves what is known
known_set : (m : Map) (w : List ℕ) (p v k : ℕ) → Apart p (p + 1) m.base (m.base + 24 * m.count) → known_at m (set w p v) k ≡ known_at m w k
unfolding store
known_set m w p v k a = known_off m w p (v ∷ []) k a

-- ---- to ask a symbol sets one byte at most
module _ (look : ℕ → Option Def) where
  abbrev Sets : List ℕ → ℕ → State → Type 0
  Sets w p σ = (v : ℕ) × (bytes_of σ ≡ set w p v)

  sets_same : (w : List ℕ) (p : ℕ) (σ : State) → bytes_of σ ≡ w → Sets w p σ
  sets_same w p σ z = (get_or w p 0, z ∙ sym (set-get_or w p 0))

  ambiguous_sets : (w : List ℕ) (p : ℕ) (sp : Span) (o : Option Def) → Sets w p (ask_ambiguous w p sp o)
  unfolding ask_ambiguous
  ambiguous_sets w p sp none = sets_same w p (refused 8 sp w) refl
  ambiguous_sets w p sp (some terminal_def) = (33, refl)
  ambiguous_sets w p sp (some (nonterminal_def zero)) = (36, refl)
  ambiguous_sets w p sp (some (nonterminal_def (suc k))) = sets_same w p (refused 13 sp w) refl
  ambiguous_sets w p sp (some argument_def) = (36, refl)

  leaf_sets : (w : List ℕ) (p : ℕ) (sp : Span) (l : LeafNode) → Sets w p (ask_leaf look w p sp l)
  unfolding ask_leaf
  leaf_sets w p sp (LeafNode.AmbiguousId a) = ambiguous_sets w p sp (look a.0)
  leaf_sets w p sp (LeafNode.Bare a) = sets_same w p (fine w) refl
  leaf_sets w p sp (LeafNode.Quoted a) = sets_same w p (fine w) refl
  leaf_sets w p sp (LeafNode.Regex a) = sets_same w p (fine w) refl
  leaf_sets w p sp (LeafNode.Nonterminal a) = sets_same w p (ask_nonterminal w sp (look a.0)) (nonterminal_bytes look 0 w sp (look a.0))
  leaf_sets w p sp LeafNode.Lookahead = sets_same w p (fine w) refl
  leaf_sets w p sp LeafNode.Lookbehind = sets_same w p (fine w) refl
  leaf_sets w p sp LeafNode.Error = sets_same w p (fine w) refl

  kind-sets : (w : List ℕ) (p : ℕ) (sp : Span) (k : SymbolKind) → Sets w p (ask_kind look w p sp k)
  unfolding ask_over
  kind-sets w p sp (SymbolKind.Leaf l) = leaf_sets w p sp l
  kind-sets w p sp (SymbolKind.Around a) = sets_same w p (fine w) refl
  kind-sets w p sp (SymbolKind.Over (OverNode.Macro a n)) = sets_same w p (ask_macro w sp n (look a.0)) (macro_bytes look 0 w sp n (look a.0))
  kind-sets w p sp (SymbolKind.Over (OverNode.Group n)) = sets_same w p (fine w) refl

  sym_sets : (ts : List Text) (w : List ℕ) (p : ℕ) (x : Sym) → Sets w p (ask_name look (fine w) p (sym_node ts x))
  unfolding ask_name sym_node
  sym_sets ts w p (leaf sp l) = kind-sets w p sp (SymbolKind.Leaf (leaf_node ts l))
  sym_sets ts w p (around sp a x) = kind-sets w p sp (SymbolKind.Around (around_node ts a))
  sym_sets ts w p (over sp o xs) = kind-sets w p sp (SymbolKind.Over (over_node ts o (count xs)))

-- ---- how many symbols are left behind one
nodes_joined : (xs ys : Syms) → nodes_all (joined xs ys) ≡ nodes_all xs + nodes_all ys
unfolding nodes_all joined
nodes_joined nil ys = omega arith
nodes_joined (cons x xs) ys = omega (arith, nodes_joined xs ys)

nodes_inside : (x : Sym) → nodes x ≡ suc (nodes_all (children x))
unfolding nodes nodes_all children
nodes_inside (leaf s l) = refl
nodes_inside (around s a x) = omega arith
nodes_inside (over s o xs) = refl

-- ---- a run that ends at e, where the commands from b on are off the records
module _ (m : Map) (wd e : ℕ) (ts : List Text) (look : ℕ → Option Def) where
  abbrev pub Sees : List ℕ → Type 0
  Sees w = (k : ℕ) → meant (known_at m w k) ≡ look k

  sym_step : (x : Sym) → SymFits wd ts x → (w : List ℕ) → Sees w → (p d : ℕ) → p < e → Lies w p (node_bytes wd (sym_node ts x)) d
      → up_to m wd e w p ≡ state_then m wd e (ask_name look (fine w) p (sym_node ts x)) (λ w'. up_to m wd e w' d)
  unfolding ask_name sym_node
  sym_step (leaf sp l) f w s p d h l' = symbol_step m wd e look w s p d h sp f.0 _ f.1 l'
  sym_step (around sp a x) f w s p d h l = symbol_step m wd e look w s p d h sp f.0.0 _ f.0.1 l
  sym_step (over sp o xs) f w s p d h l = symbol_step m wd e look w s p d h sp f.0.0 _ f.0.1 l

  module _ (b : ℕ) (apart : Apart b e m.base (m.base + 24 * m.count)) where
    -- n counts the symbols
    syms_fold : (n : ℕ) (xs : Syms) → nodes_all xs ≤ n → SymsFits wd ts xs → (w : List ℕ) → Sees w → (p d : ℕ) → b ≤ p → d ≤ e → Lies w p (syms_bytes wd ts xs) d
        → up_to m wd e w p ≡ state_then m wd e (fold_syms wd (ask_name look) ts xs (fine w) p) (λ w'. up_to m wd e w' d)
    unfolding nodes_all syms_bytes fold_syms size_of
    syms_fold zero nil k f w s p d i j l = ap (up_to m wd e w) (omega (arith, l.end))
    syms_fold zero (cons x xs) k f w s p d i j l = absurd (omega (arith, nodes_inside x))
    syms_fold (suc n) nil k f w s p d i j l = ap (up_to m wd e w) (omega (arith, l.end))
    syms_fold (suc n) (cons x xs) k f w s p d i j l =
        let rest = joined (children x) xs in
        let node = node_bytes wd (sym_node ts x) in
        let z : sym_bytes wd ts x ++ syms_bytes wd ts xs ≡ node_bytes wd (sym_node ts x) ++ syms_bytes wd ts (joined (children x) xs) =
        ap (λ (r : List ℕ). r ++ syms_bytes wd ts xs) (sym_bytes_lem wd ts x) ∙ append_assoc (node_bytes wd (sym_node ts x)) (syms_bytes wd ts (children x)) (syms_bytes wd ts xs)
        ∙ ap (λ (r : List ℕ). node_bytes wd (sym_node ts x) ++ r) (sym (joined_bytes wd ts (children x) xs)) in
        let y = lies_split w p d (node_bytes wd (sym_node ts x)) (syms_bytes wd ts (joined (children x) xs)) (rw z at l) in
        let large = node_size wd ts x in
        let few : nodes_all (joined (children x) xs) ≤ n = omega (arith, nodes_inside x, nodes_joined (children x) xs) in
        let h : p < e = omega (arith, y.1.end) in
        let t = sym_sets look ts w p x in
        go rest (ask_name look (fine w) p (sym_node ts x))
        (sym_step x f.0 w s p (p + length node) h y.0) (fold_step wd (ask_name look) ts x xs (fine w) p)
        (lies_kept w _ (p + length node) d (syms_bytes wd ts rest) (keeps_node wd (ask_name look) ts bytes_of (ask_keeps look wd ts) x (fine w) p) y.1)
        (λ k. ap (λ (r : List ℕ). meant (known_at m r k)) t.1 ∙ ap meant (known_set m w p t.0 k (part_apart b e m.base (m.base + 24 * m.count) p (p + 1) i (omega arith) apart)) ∙ s k)
        (λ w' s' l'. syms_fold n rest few (joined-fits wd ts (children x) xs (children-fit wd ts x f.0) f.1) w' s' (p + length node) d (omega arith) j l')
      where
        go : (rest : Syms) (σ : State)
            → up_to m wd e w p ≡ state_then m wd e σ (λ w'. up_to m wd e w' (p + length (node_bytes wd (sym_node ts x))))
            → fold_syms wd (ask_name look) ts (cons x xs) (fine w) p ≡ fold_syms wd (ask_name look) ts rest σ (p + length (node_bytes wd (sym_node ts x)))
            → Lies (bytes_of σ) (p + length (node_bytes wd (sym_node ts x))) (syms_bytes wd ts rest) d
            → Sees (bytes_of σ)
            → ((w' : List ℕ) → Sees w' → Lies w' (p + length (node_bytes wd (sym_node ts x))) (syms_bytes wd ts rest) d
            → up_to m wd e w' (p + length (node_bytes wd (sym_node ts x))) ≡ state_then m wd e (fold_syms wd (ask_name look) ts rest (fine w') (p + length (node_bytes wd (sym_node ts x)))) (λ w'. up_to m wd e w' d))
            → up_to m wd e w p ≡ state_then m wd e (fold_syms wd (ask_name look) ts (cons x xs) (fine w) p) (λ w'. up_to m wd e w' d)
        go rest (fine w') u v l' s' g = u ∙ g w' s' l' ∙ ap (λ (σ : State). state_then m wd e σ (λ w'. up_to m wd e w' d)) (sym v)
        go rest (refused r sp w') u v l' s' g =
            u ∙ ap (λ (σ : State). state_then m wd e σ (λ w'. up_to m wd e w' d)) (sym (v ∙ stay look wd ts rest r sp w' (p + length (node_bytes wd (sym_node ts x)))))

-- ---- with the definitions of a tree, and of an item's arguments: what the run over symbols comes to
module _ (m : Map) (wd e : ℕ) (ts : List Text) (G : Tree) (ps : List Text) where
  abbrev pub SymsTold : List ℕ → ℕ → ℕ → ℕ → Outcome Syms → Type 0
  SymsTold w p d n (yes ys) = (up_to m wd e w p ≡ up_to m wd e (store w p (syms_bytes wd ts ys)) d) × (length (syms_bytes wd ts ys) ≡ n)
  SymsTold w p d n (no q s) = up_to m wd e w p ≡ stopped q s

  pub syms_told : (xs : Syms) → SymsFits wd ts xs → (w : List ℕ) → ((n : Text) → meant (known_at m w (number ts n)) ≡ lookup G ps n)
      → (p d : ℕ) → Apart p e m.base (m.base + 24 * m.count) → d ≤ e → Lies w p (syms_bytes wd ts xs) d
      → SymsTold w p d (length (syms_bytes wd ts xs)) (validate_symbols G ps xs)
  syms_told xs f w agree p d a j l =
      let look : ℕ → Option Def = λ k. meant (known_at m w k) in
      go (validate_symbols G ps xs) (fold_syms wd (ask_name look) ts xs (fine w) p) (syms_fold m wd e ts look p a (nodes_all xs) xs (omega arith) f w (λ k. refl) p d (omega arith) j l)
      (told_syms look wd ts G ps agree xs w p d l)
    where
      go : (v : Outcome Syms) (σ : State) → up_to m wd e w p ≡ state_then m wd e σ (λ w'. up_to m wd e w' d) → Told (syms_bytes wd ts) w p (length (syms_bytes wd ts xs)) σ v
          → SymsTold w p d (length (syms_bytes wd ts xs)) v
      go (yes ys) σ u t = (u ∙ ap (λ (τ : State). state_then m wd e τ (λ w'. up_to m wd e w' d)) t.0, t.1)
      go (no q s) σ u t = u ∙ ap (λ (τ : State). state_then m wd e τ (λ w'. up_to m wd e w' d)) t.1
