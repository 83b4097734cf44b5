-- A flat run over the bytes of symbols visits them in prefix order and ends behind them. Assumes nothing.
use mathlib.Core.Path.{◌≡◌, refl, sym, ap, ◌∙◌}
use mathlib.Core.Bool.{Bool}
use mathlib.Core.List.{List, ◌++◌, append-nil, append_assoc}
use Prim.Native.Nat.{ℕ, zero, suc, ◌+◌, ◌-◌, ◌*◌, ◌≤◌}
use native.Mathlib.Omega.{arith}
use lib.ListN.{length, drop, length-append}
use lib.Seq.{drop-drop}
use Rattle.std.specs.Prelude.{Some}
use Rattle.octets.specs.Plain.Runs.{Lies}
use Rattle.octets.proofs.LiesLaws.{lies_split, lies_inside}
use Rattle.parse_tree.specs.Plain.Tree.{Text, Over, Sym, Syms, leaf, around, over, nil, cons, macro, group, count}
use Rattle.parse_tree.specs.Working.Nodes.{node_bytes, symbol_bytes, node_at, size_of}
use Rattle.parse_tree.specs.Working.Operands.{inside_of, inside}
use Rattle.parse_tree.specs.Working.Encode.{leaf_node, around_node, over_node, sym_bytes, syms_bytes}
use Rattle.parse_tree.specs.Working.Within.{SymWithin, SymsWithin}
use Rattle.parse_tree.specs.declared.syntax.Span.{Span}
use Rattle.parse_tree.specs.declared.syntax.SymbolKind.{SymbolKind}
use Rattle.parse_tree.specs.declared.syntax.Node.{Node}
use Rattle.parse_tree.specs.declared.syntax.Around.{Around as AroundNode}
use Rattle.parse_tree.specs.declared.syntax.Over.{Over as OverNode}
use Rattle.parse_tree.proofs.SizeLaws.{length_span}
use Rattle.parse_tree.proofs.NodeFits.{NodeFits, TextFits}
use Rattle.parse_tree.proofs.NodeBack.{node_back}
use Rattle.parse_tree.proofs.ToCommands.{leaf_passes, around_passes, over_passes}
use Rattle.laws.specs.Flat.{sym_node, children, joined, nodes, nodes_all, fold_sym, fold_syms, run}

-- ---- what lies behind a place depends on the bytes from there on only
pub lies_kept : (s s' : List ℕ) (a e : ℕ) (xs : List ℕ) → drop a s' ≡ drop a s → Lies s a xs e → Lies s' a xs e
lies_kept s s' a e xs k l =
    let n = length xs in
    let d : drop e s' ≡ drop e s = rw l.end (sym (drop-drop (length xs) a s') ∙ ap (drop (length xs)) k ∙ drop-drop (length xs) a s) in
    record { is = k ∙ l.is ∙ ap (λ (r : List ℕ). xs ++ r) (sym d); end = l.end }

-- and so do the bytes behind a later place
pub drop_later : (s s' : List ℕ) (a b : ℕ) → a ≤ b → drop a s' ≡ drop a s → drop b s' ≡ drop b s
drop_later s s' a b h k =
    let z : a + (b - a) ≡ b = omega arith in
    ap (λ (n : ℕ). drop n s') (sym z) ∙ sym (drop-drop (b - a) a s') ∙ ap (drop (b - a)) k ∙ drop-drop (b - a) a s ∙ ap (λ (n : ℕ). drop n s) z

-- ---- symbols whose operands fit their widths, at any depth
module _ (w : ℕ) (ts : List Text) where
  abbrev mutual
    pub SymFits : Sym → Type 0
    SymFits (leaf s l) = NodeFits w (Node.Symbol s (SymbolKind.Leaf (leaf_node ts l)))
    SymFits (around s a x) = NodeFits w (Node.Symbol s (SymbolKind.Around (around_node ts a))) × SymFits x
    SymFits (over s o xs) = NodeFits w (Node.Symbol s (SymbolKind.Over (over_node ts o (count xs)))) × SymsFits xs

    pub SymsFits : Syms → Type 0
    SymsFits nil = Unit {0}
    SymsFits (cons x xs) = SymFits x × SymsFits xs

  mutual
    pub sym_fits_lem : (four : Bool) (x : Sym) (left : ℕ) → SymWithin four w ts x left → SymFits x
    sym_fits_lem four (leaf s l) zero h = absurd h
    sym_fits_lem four (leaf s l) (suc left) h = (leaf_passes four w ts s l h.0 h.1).fits
    sym_fits_lem four (around s a x) zero h = absurd h
    sym_fits_lem four (around s a x) (suc left) h = ((around_passes four w ts s a h.0 h.1).fits, sym_fits_lem four x left h.2)
    sym_fits_lem four (over s o xs) zero h = absurd h
    sym_fits_lem four (over s o xs) (suc left) h = ((over_passes four w ts s o (count xs) h.0 h.1).fits, syms_fit_lem four xs left h.2)

    pub syms_fit_lem : (four : Bool) (xs : Syms) (left : ℕ) → SymsWithin four w ts xs left → SymsFits xs
    syms_fit_lem four nil left h = tt
    syms_fit_lem four (cons x xs) left h = (sym_fits_lem four x left h.0, syms_fit_lem four xs left h.1)

  over_inside : (o : Over) (n : ℕ) → inside_of (over_node ts o n) ≡ n
  unfolding inside_of over_node
  over_inside (macro x) n = refl
  over_inside group n = refl

  -- ---- a symbol's bytes: its command, then what stands inside
  pub sym_bytes_lem : (x : Sym) → sym_bytes w ts x ≡ node_bytes w (sym_node ts x) ++ syms_bytes w ts (children x)
  unfolding sym_bytes syms_bytes sym_node children
  sym_bytes_lem (leaf s l) = sym (append-nil _)
  sym_bytes_lem (around s a x) = ap (λ (r : List ℕ). node_bytes w (Node.Symbol s (SymbolKind.Around (around_node ts a))) ++ r) (sym (append-nil (sym_bytes w ts x)))
  sym_bytes_lem (over s o xs) = refl

  pub joined_bytes : (xs ys : Syms) → syms_bytes w ts (joined xs ys) ≡ syms_bytes w ts xs ++ syms_bytes w ts ys
  unfolding syms_bytes joined
  joined_bytes nil ys = refl
  joined_bytes (cons x xs) ys = ap (λ (r : List ℕ). sym_bytes w ts x ++ r) (joined_bytes xs ys) ∙ sym (append_assoc (sym_bytes w ts x) (syms_bytes w ts xs) (syms_bytes w ts ys))

  pub joined-fits : (xs ys : Syms) → SymsFits xs → SymsFits ys → SymsFits (joined xs ys)
  unfolding joined
  joined-fits nil ys h k = k
  joined-fits (cons x xs) ys h k = (h.0, joined-fits xs ys h.1 k)

  pub children-fit : (x : Sym) → SymFits x → SymsFits (children x)
  unfolding children
  children-fit (leaf s l) h = tt
  children-fit (around s a x) h = (h.1, tt)
  children-fit (over s o xs) h = h.1

  pub node_fits : (x : Sym) → SymFits x → NodeFits w (sym_node ts x)
  unfolding sym_node
  node_fits (leaf s l) h = h
  node_fits (around s a x) h = h.0
  node_fits (over s o xs) h = h.0

  pub inside-count : (x : Sym) → inside (sym_node ts x) ≡ count (children x)
  unfolding inside sym_node children count
  inside-count (leaf s l) = refl
  inside-count (around s a x) = refl
  inside-count (over s o xs) = over_inside o (count xs)

  -- each command has nine bytes at least: two symbols' places differ by nine
  pub symbol_size : (s : Span) (k : SymbolKind) → 9 ≤ size_of w (Node.Symbol s k)
  unfolding size_of node_bytes symbol_bytes
  symbol_size s (SymbolKind.Leaf l) = simp (length-append, length_span) (omega arith)
  symbol_size s (SymbolKind.Around (AroundNode.Repeat o)) = simp (length-append, length_span) (omega arith)
  symbol_size s (SymbolKind.Around AroundNode.Choose) = simp length_span (omega arith)
  symbol_size s (SymbolKind.Around (AroundNode.Name m n)) = simp (length-append, length_span) (omega arith)
  symbol_size s (SymbolKind.Over (OverNode.Macro n k)) = simp (length-append, length_span) (omega arith)
  symbol_size s (SymbolKind.Over (OverNode.Group k)) = simp (length-append, length_span) (omega arith)

  pub node_size : (x : Sym) → 9 ≤ size_of w (sym_node ts x)
  unfolding sym_node
  node_size (leaf s l) = symbol_size s _
  node_size (around s a x) = symbol_size s _
  node_size (over s o xs) = symbol_size s _

  -- so there is a symbol for each nine bytes at most, and steps enough are as many as there are bytes
  mutual
    unfolding nodes nodes_all sym_bytes syms_bytes size_of

    pub nodes_few : (x : Sym) → 9 * nodes x ≤ length (sym_bytes w ts x)
    nodes_few (leaf s l) = symbol_size s _
    nodes_few (around s a x) =
        omega (arith, symbol_size s (SymbolKind.Around (around_node ts a)), nodes_few x, length-append (node_bytes w (Node.Symbol s (SymbolKind.Around (around_node ts a)))) (sym_bytes w ts x))
    nodes_few (over s o xs) =
        omega (arith, symbol_size s (SymbolKind.Over (over_node ts o (count xs))), nodes_all_few xs, length-append (node_bytes w (Node.Symbol s (SymbolKind.Over (over_node ts o (count xs))))) (syms_bytes w ts xs))

    pub nodes_all_few : (xs : Syms) → 9 * nodes_all xs ≤ length (syms_bytes w ts xs)
    nodes_all_few nil = omega arith
    nodes_all_few (cons x xs) = omega (arith, nodes_few x, nodes_all_few xs, length-append (sym_bytes w ts x) (syms_bytes w ts xs))

  joined-count : (xs ys : Syms) → count (joined xs ys) ≡ count xs + count ys
  unfolding joined count
  joined-count nil ys = omega arith
  joined-count (cons x xs) ys = omega (arith, joined-count xs ys)

  -- ---- one step, for a loop: the command at the place is the first symbol's, and what is left stands behind it
  pub record Step (s : List ℕ) (p e : ℕ) (x : Sym) (xs : Syms) : Type 0 where
    pub here : node_at w s p ≡ Some (sym_node ts x)
    pub large : 9 ≤ size_of w (sym_node ts x)
    pub room : p + size_of w (sym_node ts x) ≤ e
    pub below : e ≤ length s
    pub lies : Lies s (p + size_of w (sym_node ts x)) (syms_bytes w ts (joined (children x) xs)) e
    pub fits : SymsFits (joined (children x) xs)
    pub many : count (joined (children x) xs) ≡ count xs + inside (sym_node ts x)

  node_text : (x : Sym) (s : List ℕ) (p : ℕ) → TextFits s p (sym_node ts x)
  unfolding sym_node
  node_text (leaf sp l) s p = tt
  node_text (around sp a x) s p = tt
  node_text (over sp o xs) s p = tt

  pub sym_here : (s : List ℕ) (p e : ℕ) (x : Sym) → SymFits x → Lies s p (node_bytes w (sym_node ts x)) e → node_at w s p ≡ Some (sym_node ts x)
  sym_here s p e x h l = node_back w s p e (sym_node ts x) (node_fits x h) (node_text x s p) l

  pub step : (s : List ℕ) (p e : ℕ) (x : Sym) (xs : Syms) → SymsFits (cons x xs) → Lies s p (syms_bytes w ts (cons x xs)) e → Step s p e x xs
  unfolding syms_bytes size_of
  step s p e x xs h l =
      let n = node_bytes w (sym_node ts x) in
      let b : sym_bytes w ts x ++ syms_bytes w ts xs ≡ node_bytes w (sym_node ts x) ++ syms_bytes w ts (joined (children x) xs) =
      ap (λ (r : List ℕ). r ++ syms_bytes w ts xs) (sym_bytes_lem x) ∙ append_assoc (node_bytes w (sym_node ts x)) (syms_bytes w ts (children x)) (syms_bytes w ts xs)
      ∙ ap (λ (r : List ℕ). node_bytes w (sym_node ts x) ++ r) (sym (joined_bytes (children x) xs)) in
      let m = lies_split s p e (node_bytes w (sym_node ts x)) (syms_bytes w ts (joined (children x) xs)) (rw b at l) in
      let z = node_size x in
      record {
        here = sym_here s p _ x h.0 m.0;
        large = z;
        room = omega (arith, m.1.end);
        below = lies_inside s p e _ (omega (arith, length-append (node_bytes w (sym_node ts x)) (syms_bytes w ts (joined (children x) xs)))) (rw b at l);
        lies = m.1;
        fits = joined-fits (children x) xs (children-fit x h.0) h.1;
        many = omega (arith, joined-count (children x) xs, inside-count x);
      }

-- ---- an effect on each command
module _ (w : ℕ) {A : Type 0} (effect : A → ℕ → Node → A) (ts : List Text) where
  abbrev size : Sym → ℕ
  size x = size_of w (sym_node ts x)

  pub fold_joined : (xs ys : Syms) (acc : A) (at : ℕ) → fold_syms w effect ts (joined xs ys) acc at ≡ fold_syms w effect ts ys (fold_syms w effect ts xs acc at) (at + length (syms_bytes w ts xs))
  unfolding fold_syms joined syms_bytes
  fold_joined nil ys acc at = let z : at + 0 ≡ at = omega arith in rw z refl
  fold_joined (cons x xs) ys acc at =
      let z : at + length (sym_bytes w ts x) + length (syms_bytes w ts xs) ≡ at + length (sym_bytes w ts x ++ syms_bytes w ts xs) = omega (arith, length-append (sym_bytes w ts x) (syms_bytes w ts xs)) in
      fold_joined xs ys (fold_sym w effect ts x acc at) (at + length (sym_bytes w ts x))
      ∙ ap (fold_syms w effect ts ys (fold_syms w effect ts xs (fold_sym w effect ts x acc at) (at + length (sym_bytes w ts x)))) z

  pub fold_inside : (x : Sym) (acc : A) (at : ℕ) → fold_sym w effect ts x acc at ≡ fold_syms w effect ts (children x) (effect acc at (sym_node ts x)) (at + size x)
  unfolding fold_sym fold_syms children sym_node
  fold_inside (leaf s l) acc at = refl
  fold_inside (around s a x) acc at = refl
  fold_inside (over s o xs) acc at = refl

  -- theorem: the fold over what is left, from the state there: what a loop keeps
  pub fold_step : (x : Sym) (xs : Syms) (acc : A) (at : ℕ) → fold_syms w effect ts (cons x xs) acc at ≡ fold_syms w effect ts (joined (children x) xs) (effect acc at (sym_node ts x)) (at + size x)
  unfolding fold_syms size_of
  fold_step x xs acc at =
      let n : length (sym_bytes w ts x) ≡ length (node_bytes w (sym_node ts x)) + length (syms_bytes w ts (children x)) = ap length (sym_bytes_lem w ts x) ∙ length-append (node_bytes w (sym_node ts x)) (syms_bytes w ts (children x)) in
      let z : at + length (sym_bytes w ts x) ≡ at + size_of w (sym_node ts x) + length (syms_bytes w ts (children x)) = omega arith in
      ap (λ (a : A). fold_syms w effect ts xs a (at + length (sym_bytes w ts x))) (fold_inside x acc at)
      ∙ ap (fold_syms w effect ts xs (fold_syms w effect ts (children x) (effect acc at (sym_node ts x)) (at + size_of w (sym_node ts x)))) z
      ∙ sym (fold_joined (children x) xs (effect acc at (sym_node ts x)) (at + size_of w (sym_node ts x)))

  -- ---- where the effect leaves the bytes behind its command as they are
  module _ (bytes : A → List ℕ) where
    abbrev pub Keeps : Type 0
    Keeps = (acc : A) (at : ℕ) (s : Span) (k : SymbolKind) → drop (at + size_of w (Node.Symbol s k)) (bytes (effect acc at (Node.Symbol s k))) ≡ drop (at + size_of w (Node.Symbol s k)) (bytes acc)

    pub keeps_node : Keeps → (x : Sym) (acc : A) (at : ℕ) → drop (at + size x) (bytes (effect acc at (sym_node ts x))) ≡ drop (at + size x) (bytes acc)
    unfolding sym_node
    keeps_node h (leaf s l) acc at = h acc at s _
    keeps_node h (around s a x) acc at = h acc at s _
    keeps_node h (over s o xs) acc at = h acc at s _

    -- so does the effect on a tree
    mutual
      unfolding fold_sym fold_syms sym_bytes syms_bytes sym_node size_of

      pub kept : Keeps → (x : Sym) (acc : A) (at e : ℕ) → e ≡ at + length (sym_bytes w ts x) → drop e (bytes (fold_sym w effect ts x acc at)) ≡ drop e (bytes acc)
      kept h (leaf s l) acc at e z = rw z (h acc at s _)
      kept h (around s a x) acc at e z =
          let n = node_bytes w (Node.Symbol s (SymbolKind.Around (around_node ts a))) in
          let q = length-append (node_bytes w (Node.Symbol s (SymbolKind.Around (around_node ts a)))) (sym_bytes w ts x) in
          kept h x _ _ e (omega arith) ∙ drop_later (bytes acc) _ (at + length n) e (omega arith) (h acc at s _)
      kept h (over s o xs) acc at e z =
          let n = node_bytes w (Node.Symbol s (SymbolKind.Over (over_node ts o (count xs)))) in
          let q = length-append (node_bytes w (Node.Symbol s (SymbolKind.Over (over_node ts o (count xs))))) (syms_bytes w ts xs) in
          kept-all h xs _ _ e (omega arith) ∙ drop_later (bytes acc) _ (at + length n) e (omega arith) (h acc at s _)

      pub kept-all : Keeps → (xs : Syms) (acc : A) (at e : ℕ) → e ≡ at + length (syms_bytes w ts xs) → drop e (bytes (fold_syms w effect ts xs acc at)) ≡ drop e (bytes acc)
      kept-all h nil acc at e z = refl
      kept-all h (cons x xs) acc at e z =
          let q = length-append (sym_bytes w ts x) (syms_bytes w ts xs) in
          kept-all h xs _ _ e (omega arith) ∙ drop_later (bytes acc) _ (at + length (sym_bytes w ts x)) e (omega arith) (kept h x acc at (at + length (sym_bytes w ts x)) refl)

    turn : (g k : ℕ) (acc : A) (at : ℕ) (n : Node) → node_at w (bytes acc) at ≡ Some n → run w effect bytes (suc g) (suc k) acc at ≡ run w effect bytes g (k + inside n) (effect acc at n) (at + size_of w n)
    unfolding run
    turn g k acc at n e = cc

    alike : (g f j k : ℕ) (acc : A) (d e : ℕ) → g ≡ f → j ≡ k → d ≡ e → run w effect bytes g j acc d ≡ run w effect bytes f k acc e
    alike g f j k acc d e p q r = cc

    -- ---- a run over a symbol is the effect on its tree, and goes on behind it
    mutual
      unfolding sym_bytes syms_bytes sym_node nodes nodes_all fold_sym fold_syms inside count size_of

      pub run_sym : Keeps → (x : Sym) → SymFits w ts x → (g f k : ℕ) (acc : A) (at e : ℕ) → g ≡ nodes x + f → Lies (bytes acc) at (sym_bytes w ts x) e
          → run w effect bytes g (suc k) acc at ≡ run w effect bytes f k (fold_sym w effect ts x acc at) e
      run_sym h (leaf s l) i zero f k acc at e z m = absurd (omega arith)
      run_sym h (leaf s l) i (suc g) f k acc at e z m =
          turn g k acc at (sym_node ts (leaf s l)) (sym_here w ts (bytes acc) at e (leaf s l) i m)
          ∙ alike g f (k + 0) k (effect acc at (sym_node ts (leaf s l))) (at + size_of w (sym_node ts (leaf s l))) e (omega arith) (omega arith) (sym m.end)
      run_sym h (around s a x) i zero f k acc at e z m = absurd (omega arith)
      run_sym h (around s a x) i (suc g) f k acc at e z m =
          let n = sym_node ts (around s a x) in
          let q = lies_split (bytes acc) at e (node_bytes w (sym_node ts (around s a x))) (sym_bytes w ts x) m in
          let y : g ≡ nodes x + f = omega arith in
          turn g k acc at n (sym_here w ts (bytes acc) at _ (around s a x) i q.0)
          ∙ alike g g (k + 1) (suc k) (effect acc at n) (at + size_of w n) (at + size_of w n) refl (omega arith) refl
          ∙ run_sym h x i.1 g f k (effect acc at n) (at + size_of w n) e y (lies_kept (bytes acc) (bytes (effect acc at n)) (at + size_of w n) e (sym_bytes w ts x) (h acc at s _) q.1)
      run_sym h (over s o xs) i zero f k acc at e z m = absurd (omega arith)
      run_sym h (over s o xs) i (suc g) f k acc at e z m =
          let n = sym_node ts (over s o xs) in
          let q = lies_split (bytes acc) at e (node_bytes w (sym_node ts (over s o xs))) (syms_bytes w ts xs) m in
          let y : g ≡ nodes_all xs + f = omega arith in
          turn g k acc at n (sym_here w ts (bytes acc) at _ (over s o xs) i q.0)
          ∙ run_syms h xs i.1 g f (k + inside_of (over_node ts o (count xs))) k (effect acc at n) (at + size_of w n) e y (omega (arith, over_inside w ts o (count xs)))
          (lies_kept (bytes acc) (bytes (effect acc at n)) (at + size_of w n) e (syms_bytes w ts xs) (h acc at s _) q.1)

      pub run_syms : Keeps → (xs : Syms) → SymsFits w ts xs → (g f j k : ℕ) (acc : A) (at e : ℕ) → g ≡ nodes_all xs + f → j ≡ count xs + k → Lies (bytes acc) at (syms_bytes w ts xs) e
          → run w effect bytes g j acc at ≡ run w effect bytes f k (fold_syms w effect ts xs acc at) e
      run_syms h nil i g f j k acc at e z y l = alike g f j k acc at e (omega arith) (omega arith) (omega (arith, l.end))
      run_syms h (cons x xs) i g f j k acc at e z y l =
          let m = lies_split (bytes acc) at e (sym_bytes w ts x) (syms_bytes w ts xs) l in
          let d = at + length (sym_bytes w ts x) in
          alike g g j (suc (count xs + k)) acc at at refl (omega arith) refl
          ∙ run_sym h x i.0 g (nodes_all xs + f) (count xs + k) acc at d (omega arith) m.0
          ∙ run_syms h xs i.1 (nodes_all xs + f) f (count xs + k) k (fold_sym w effect ts x acc at) d e refl refl
          (lies_kept (bytes acc) (bytes (fold_sym w effect ts x acc at)) d e (syms_bytes w ts xs) (kept h x acc at d refl) m.1)

    over_now : (f : ℕ) (b : A) (d : ℕ) → run w effect bytes f 0 b d ≡ (b, d)
    unfolding run
    over_now zero b d = refl
    over_now (suc f) b d = refl

    -- the whole run: with steps enough it does the effect on each symbol in prefix order, and ends behind the list
    pub run_whole : Keeps → (xs : Syms) → SymsFits w ts xs → (g : ℕ) (acc : A) (at e : ℕ) → nodes_all xs ≤ g → Lies (bytes acc) at (syms_bytes w ts xs) e
        → run w effect bytes g (count xs) acc at ≡ (fold_syms w effect ts xs acc at, e)
    run_whole h xs i g acc at e z l =
        run_syms h xs i g (g - nodes_all xs) (count xs) 0 acc at e (omega arith) (omega arith) l ∙ over_now (g - nodes_all xs) (fold_syms w effect ts xs acc at) e
