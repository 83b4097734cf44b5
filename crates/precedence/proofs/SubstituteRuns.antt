-- The run that renames occurrences is a fold over the tree; two folds over a tree stay related where each step keeps them so. Assumes nothing.
use mathlib.Core.Path.{◌≡◌, refl, sym, ap, ◌∙◌}
use mathlib.Core.Bool.{Bool, true, false, cond, true≢false}
use mathlib.Core.List.{List}
use Prim.Native.Nat.{ℕ, zero, suc, ◌+◌, ◌<◌, ◌≤◌}
use native.Mathlib.Omega.{arith}
use borrow.Author.Tests.{lt-leb}
use lib.Dec.{eqb}
use lib.ListN.{length, get_or, length-append}
use Rattle.std.specs.Prelude.{Option, Some}
use Rattle.octets.specs.Working.Choice.{pick}
use Rattle.octets.specs.Plain.Numbers.{le}
use Rattle.octets.specs.Plain.Runs.{Lies}
use Rattle.octets.specs.Working.Stores.{store}
use Rattle.octets.proofs.NumbersLaws.{length-le}
use Rattle.parse_tree.specs.Plain.Tree.{Text, Leaf, Sym, Syms, ambiguous, bare, quoted, regex, nonterminal, lookahead, lookbehind, error, leaf, around, over, nil, cons, count}
use Rattle.parse_tree.specs.Plain.Texts.{number}
use Rattle.parse_tree.specs.Working.Nodes.{leaf_operand, symbol_bytes, node_bytes, size_of, long_of}
use Rattle.parse_tree.specs.Working.Encode.{leaf_node, around_node, over_node, sym_bytes, syms_bytes}
use Rattle.parse_tree.specs.declared.syntax.Span.{Span}
use Rattle.parse_tree.specs.declared.syntax.SymbolKind.{SymbolKind}
use Rattle.parse_tree.specs.declared.syntax.Node.{Node}
use Rattle.parse_tree.proofs.SizeLaws.{length_span}
use Rattle.laws.specs.Flat.{sym_node, children, joined, fold_sym, fold_syms}
use Rattle.laws.specs.Rename.{rename_leaf, rename}
use Rattle.laws.proofs.Flat.{SymsFits, step, lies_kept, fold_step}
use Rattle.octets.proofs.StoreLaws.{store-drop}
use Rattle.grades.specs.Skip.{names_at}
use Rattle.grades.proofs.CodesMean.{node_names, first_codes}
use Rattle.precedence.specs.declared.substitute.Marks.{Marks}
use Rattle.precedence.specs.Substitute.{marked_at, replace_out}
use Rattle.precedence.proofs.SubstituteCode.{replace-end}

-- ---- two folds
module _ (wd : ℕ) (ts : List Text) {A B : Type 0} (f : A → ℕ → Node → A) (g : B → ℕ → Node → B) (R : ℕ → A → B → Type 0) (e : ℕ) where
  abbrev pub Kept : Type 0
  Kept = (p : ℕ) (x : Sym) (σ : A) (τ : B) → p + size_of wd (sym_node ts x) ≤ e → R p σ τ → R (p + size_of wd (sym_node ts x)) (f σ p (sym_node ts x)) (g τ p (sym_node ts x))

  mutual
    unfolding fold_sym fold_syms sym_bytes syms_bytes sym_node size_of

    related : Kept → (x : Sym) (σ : A) (τ : B) (p d : ℕ) → d ≡ p + length (sym_bytes wd ts x) → d ≤ e → R p σ τ → R d (fold_sym wd f ts x σ p) (fold_sym wd g ts x τ p)
    related h (leaf s l) σ τ p d z i r = rw z (h p (leaf s l) σ τ (omega arith) r)
    related h (around s a x) σ τ p d z i r =
        let q = length-append (node_bytes wd (Node.Symbol s (SymbolKind.Around (around_node ts a)))) (sym_bytes wd ts x) in
        related h x _ _ _ d (omega arith) i (h p (around s a x) σ τ (omega arith) r)
    related h (over s o xs) σ τ p d z i r =
        let q = length-append (node_bytes wd (Node.Symbol s (SymbolKind.Over (over_node ts o (count xs))))) (syms_bytes wd ts xs) in
        related_all h xs _ _ _ d (omega arith) i (h p (over s o xs) σ τ (omega arith) r)

    pub related_all : Kept → (xs : Syms) (σ : A) (τ : B) (p d : ℕ) → d ≡ p + length (syms_bytes wd ts xs) → d ≤ e → R p σ τ → R d (fold_syms wd f ts xs σ p) (fold_syms wd g ts xs τ p)
    related_all h nil σ τ p d z i r = let y : d ≡ p = omega arith in rw y r
    related_all h (cons x xs) σ τ p d z i r =
        let q = length-append (sym_bytes wd ts x) (syms_bytes wd ts xs) in
        related_all h xs _ _ (p + length (sym_bytes wd ts x)) d (omega arith) i (related h x σ τ p (p + length (sym_bytes wd ts x)) refl (omega arith) r)

-- ---- an occurrence's command
module _ (wd target : ℕ) (ts : List Text) where
  leaf_size : (s : Span) (l : Leaf) → node_names target (sym_node ts (leaf s l)) ≡ true → size_of wd (sym_node ts (leaf s l)) ≡ 9 + wd
  unfolding node_names sym_node leaf_node size_of node_bytes symbol_bytes leaf_operand
  leaf_size s (ambiguous n) b = absurd (true≢false (sym b))
  leaf_size s (bare n) b = absurd (true≢false (sym b))
  leaf_size s (quoted t) b = absurd (true≢false (sym b))
  leaf_size s (regex t) b = absurd (true≢false (sym b))
  leaf_size s (nonterminal n) b = simp (length-append, length-le, length_span) (omega arith)
  leaf_size s lookahead b = absurd (true≢false (sym b))
  leaf_size s lookbehind b = absurd (true≢false (sym b))
  leaf_size s error b = absurd (true≢false (sym b))

  pub named-size : (x : Sym) → node_names target (sym_node ts x) ≡ true → size_of wd (sym_node ts x) ≡ 9 + wd
  unfolding node_names sym_node
  named-size (leaf s l) b = leaf_size s l b
  named-size (around s a x) b = absurd (true≢false (sym b))
  named-size (over s o xs) b = absurd (true≢false (sym b))

  -- what `rename` does to it; f names occurrence j
  module _ (f : ℕ → ℕ) (τ : List ℕ × ℕ) (at : ℕ) where
    cond-pick : (b : Bool) (x : List ℕ × ℕ) → cond b x τ ≡ pick b x τ
    unfolding pick
    cond-pick true x = refl
    cond-pick false x = refl

    leaf_named : (s : Span) (l : Leaf) → rename wd target f τ at (sym_node ts (leaf s l)) ≡ pick (node_names target (sym_node ts (leaf s l))) (store τ.0 (at + 9) (le wd (f τ.1)), suc τ.1) τ
    unfolding rename rename_leaf node_names sym_node leaf_node pick
    leaf_named s (ambiguous n) = refl
    leaf_named s (bare n) = refl
    leaf_named s (quoted t) = refl
    leaf_named s (regex t) = refl
    leaf_named s (nonterminal n) = cond-pick (eqb (number ts n) target) (store τ.0 (at + 9) (le wd (f τ.1)), suc τ.1)
    leaf_named s lookahead = refl
    leaf_named s lookbehind = refl
    leaf_named s error = refl

    pub renames : (x : Sym) → rename wd target f τ at (sym_node ts x) ≡ pick (node_names target (sym_node ts x)) (store τ.0 (at + 9) (le wd (f τ.1)), suc τ.1) τ
    unfolding rename node_names sym_node pick
    renames (leaf s l) = leaf_named s l
    renames (around s a x) = refl
    renames (over s o xs) = refl

  -- ---- the run is the fold that stores and marks
  module _ (rest e : ℕ) where
    unfoldable pub mark : List ℕ × Option Marks → ℕ → Node → List ℕ × Option Marks
    mark σ at n = pick (node_names target n) (store σ.0 (at + 9) (le wd rest), Some (marked_at at σ.1)) σ

    turn : (f : ℕ) (w : List ℕ) (p : ℕ) (m : Option Marks) (b : Bool) (l : ℕ) → p < e → names_at wd target w p ≡ b → long_of wd (get_or w p 0) ≡ l
        → replace_out wd target rest (suc f) w p e m
        ≡ pick b (replace_out wd target rest f (store w (p + 9) (le wd rest)) (p + (9 + wd)) e (Some (marked_at p m))) (replace_out wd target rest f w (p + l) e m)
    unfolding replace_out pick
    turn f w p m b l h i j = simp (lt-leb e p h, i, j)

    nil_end : (w : List ℕ) (p : ℕ) → Lies w p (syms_bytes wd ts nil) e → e ≤ p
    unfolding syms_bytes
    nil_end w p l = omega (arith, l.end)

    -- an occurrence or not, and then on behind it; n bytes are its command's
    chosen : (f : ℕ) (xs : Syms) (σ : List ℕ × Option Marks) (p n : ℕ) (b : Bool) → (b ≡ true → n ≡ 9 + wd) → Lies σ.0 (p + n) (syms_bytes wd ts xs) e
        → ((τ : List ℕ × Option Marks) → Lies τ.0 (p + n) (syms_bytes wd ts xs) e → replace_out wd target rest f τ.0 (p + n) e τ.1 ≡ fold_syms wd mark ts xs τ (p + n))
        → pick b (replace_out wd target rest f (store σ.0 (p + 9) (le wd rest)) (p + (9 + wd)) e (Some (marked_at p σ.1))) (replace_out wd target rest f σ.0 (p + n) e σ.1)
        ≡ fold_syms wd mark ts xs (pick b (store σ.0 (p + 9) (le wd rest), Some (marked_at p σ.1)) σ) (p + n)
    unfolding pick
    chosen f xs σ p n true z l k =
        let y = z refl in
        ap (λ (q : ℕ). replace_out wd target rest f (store σ.0 (p + 9) (le wd rest)) (p + q) e (Some (marked_at p σ.1))) (sym y)
        ∙ k (store σ.0 (p + 9) (le wd rest), Some (marked_at p σ.1))
        (lies_kept σ.0 (store σ.0 (p + 9) (le wd rest)) (p + n) e (syms_bytes wd ts xs) (store-drop σ.0 (p + 9) (p + n) (le wd rest) (omega (arith, length-le wd rest))) l)
    chosen f xs σ p n false z l k = k σ l

    pub run_fold : (f : ℕ) (xs : Syms) → SymsFits wd ts xs → (σ : List ℕ × Option Marks) (p : ℕ) → e ≤ f + p → Lies σ.0 p (syms_bytes wd ts xs) e
        → replace_out wd target rest f σ.0 p e σ.1 ≡ fold_syms wd mark ts xs σ p
    unfolding fold_syms mark
    run_fold zero nil h σ p i l = replace-end wd target rest zero σ.0 p e σ.1 (nil_end σ.0 p l)
    run_fold zero (cons x xs) h σ p i l = let s = step wd ts σ.0 p e x xs h l in absurd (omega (arith, s.large, s.room))
    run_fold (suc f) nil h σ p i l = replace-end wd target rest (suc f) σ.0 p e σ.1 (nil_end σ.0 p l)
    run_fold (suc f) (cons x xs) h σ p i l =
        let s = step wd ts σ.0 p e x xs h l in
        let c = first_codes wd target ts σ.0 p e x xs h l in
        turn f σ.0 p σ.1 (node_names target (sym_node ts x)) (size_of wd (sym_node ts x)) (omega (arith, s.large, s.room)) c.names c.size
        ∙ chosen f (joined (children x) xs) σ p (size_of wd (sym_node ts x)) (node_names target (sym_node ts x)) (named-size x) s.lies
        (λ τ m. run_fold f (joined (children x) xs) s.fits τ (p + size_of wd (sym_node ts x)) (omega (arith, s.large)) m)
        ∙ sym (fold_step wd mark ts x xs σ p)

    -- ---- a relation of it with a fold of `rename` is kept, if it is where an occurrence is met and where the place alone moves on
    module _ (f : ℕ → ℕ) (R : ℕ → List ℕ × Option Marks → List ℕ × ℕ → Type 0) where
      abbrev pub Moves : Type 0
      Moves = (p q : ℕ) (σ : List ℕ × Option Marks) (τ : List ℕ × ℕ) → p ≤ q → R p σ τ → R q σ τ

      abbrev pub Meets : Type 0
      Meets =
          (p : ℕ) (σ : List ℕ × Option Marks) (τ : List ℕ × ℕ) → p + (9 + wd) ≤ e → R p σ τ
          → R (p + (9 + wd)) (store σ.0 (p + 9) (le wd rest), Some (marked_at p σ.1)) (store τ.0 (p + 9) (le wd (f τ.1)), suc τ.1)

      met : Moves → Meets → (p n : ℕ) (σ : List ℕ × Option Marks) (τ : List ℕ × ℕ) (b : Bool) → (b ≡ true → n ≡ 9 + wd) → p + n ≤ e → R p σ τ
          → R (p + n) (pick b (store σ.0 (p + 9) (le wd rest), Some (marked_at p σ.1)) σ) (pick b (store τ.0 (p + 9) (le wd (f τ.1)), suc τ.1) τ)
      unfolding pick
      met h k p n σ τ true z i r = let y = z refl in rw y (k p σ τ (omega arith) r)
      met h k p n σ τ false z i r = h p (p + n) σ τ (omega arith) r

      pub kept_by : Moves → Meets → Kept wd ts mark (rename wd target f) R e
      unfolding mark
      kept_by h k p x σ τ i r = let z = renames f τ p x in rw z (met h k p (size_of wd (sym_node ts x)) σ τ (node_names target (sym_node ts x)) (named-size x) i r)
