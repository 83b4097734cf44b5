-- What skipping means: it comes to the place behind the symbols that lie there. Assumes nothing.
use mathlib.Core.Path.{◌≡◌, refl, sym, ap, ◌∙◌}
use mathlib.Core.Bool.{Bool, true, false}
use mathlib.Core.List.{List}
use Prim.Native.Nat.{ℕ, zero, suc, ◌+◌, ◌-◌, ◌<◌, ◌≤◌}
use native.Mathlib.Omega.{arith}
use borrow.Author.Tests.{le-ltb, lt-leb, ne_eqb}
use lib.Dec.{leb}
use lib.ListN.{length, get_or, length-append}
use Rattle.octets.specs.Working.Choice.{pick}
use Rattle.octets.specs.Plain.Runs.{Lies}
use Rattle.parse_tree.specs.Plain.Tree.{Text, Sym, Syms, nil, cons, count}
use Rattle.parse_tree.specs.Working.Nodes.{size_of, long_of}
use Rattle.parse_tree.specs.Working.Encode.{sym_bytes, syms_bytes}
use Rattle.parse_tree.specs.Working.Nested.{inside_at}
use Rattle.parse_tree.specs.Working.Operands.{inside}
use Rattle.laws.specs.Flat.{sym_node, children, joined, nodes}
use Rattle.laws.proofs.Flat.{SymsFits, step, nodes_few}
use Rattle.grades.specs.Skip.{skip_out}
use Rattle.grades.proofs.CodesMean.{first_codes}

module _ (wd : ℕ) (ts : List Text) where
  -- a symbol has a byte at least
  nodes_some : (x : Sym) → 1 ≤ nodes x
  unfolding nodes
  nodes_some (Sym.leaf s l) = omega arith
  nodes_some (Sym.around s a x) = omega arith
  nodes_some (Sym.over s o xs) = omega arith

  pub count-few : (xs : Syms) → count xs ≤ length (syms_bytes wd ts xs)
  unfolding count syms_bytes
  count-few nil = omega arith
  count-few (cons x xs) = omega (arith, nodes_some x, nodes_few wd ts x, count-few xs, length-append (sym_bytes wd ts x) (syms_bytes wd ts xs))

  same : (b : Bool) (p : ℕ) → pick b p p ≡ p
  unfolding pick
  same true p = refl
  same false p = refl

  none : (f : ℕ) (w : List ℕ) (p e : ℕ) → skip_out wd f w p e 0 ≡ p
  unfolding skip_out pick
  none zero w p e = refl
  none (suc f) w p e = same (leb e p) p

  nil_end : (w : List ℕ) (p d : ℕ) → Lies w p (syms_bytes wd ts nil) d → p ≡ d
  unfolding syms_bytes
  nil_end w p d l = omega (arith, l.end)

  turn : (f : ℕ) (w : List ℕ) (p e k l i : ℕ) → p < e → k < e - p → long_of wd (get_or w p 0) ≡ l → inside_at wd w p ≡ i → skip_out wd (suc f) w p e (suc k) ≡ skip_out wd f w (p + l) e (k + i)
  unfolding skip_out pick
  turn f w p e k l i h j a b = let z : suc k - 1 ≡ k = omega arith in cc (lt-leb e p h, ne_eqb (suc k) 0 (λ q. absurd (omega (arith, q))), le-ltb (e - p) (suc k) (omega arith))

  skip-fold : (f : ℕ) (xs : Syms) → SymsFits wd ts xs → (w : List ℕ) (p d e : ℕ) → d ≤ f + p → d ≤ e → Lies w p (syms_bytes wd ts xs) d → skip_out wd f w p e (count xs) ≡ d
  unfolding count
  skip-fold zero nil h w p d e i j l = none zero w p e ∙ nil_end w p d l
  skip-fold zero (cons x xs) h w p d e i j l = let s = step wd ts w p d x xs h l in absurd (omega (arith, s.large, s.room))
  skip-fold (suc f) nil h w p d e i j l = none (suc f) w p e ∙ nil_end w p d l
  skip-fold (suc f) (cons x xs) h w p d e i j l =
      let s = step wd ts w p d x xs h l in
      let c = first_codes wd 0 ts w p d x xs h l in
      let n = count-few (cons x xs) in
      turn f w p e (count xs) (size_of wd (sym_node ts x)) (inside (sym_node ts x)) (omega (arith, s.large, s.room)) (omega (arith, l.end)) c.size c.held
      ∙ ap (skip_out wd f w (p + size_of wd (sym_node ts x)) e) (sym s.many)
      ∙ skip-fold f (joined (children x) xs) s.fits w (p + size_of wd (sym_node ts x)) d e (omega (arith, s.large)) j s.lies

  -- theorem: the place behind the symbols
  pub skip-means : (xs : Syms) → SymsFits wd ts xs → (w : List ℕ) (at d e : ℕ) → d ≤ e → Lies w at (syms_bytes wd ts xs) d → skip_out wd e w at e (count xs) ≡ d
  skip-means xs h w at d e i l = skip-fold e xs h w at d e (omega arith) i l
