-- What stands on the pile and what its item is; the definition of a macro that is called. Assumes nothing.
use mathlib.Core.Path.{◌≡◌, refl, sym, ap, ◌∙◌, subst}
use mathlib.Core.Bool.{Bool}
use mathlib.Core.List.{List, [], ◌∷◌}
use mathlib.Core.Option.{Option, none, some}
use Prim.Native.Nat.{ℕ, zero, suc, ◌+◌, ◌≤◌}
use native.Mathlib.Omega.{arith}
use lib.ListN.{length}
use Rattle.octets.specs.Plain.Runs.{Lies}
use Rattle.parse_tree.specs.Plain.Tree.{Text, Op, Sym, Syms, Item, Nonterminal, repeat, macro, group, around, over}
use Rattle.parse_tree.specs.Plain.Display.{print}
use Rattle.parse_tree.specs.Working.Encode.{item_bytes}
use Rattle.parse_tree.specs.Working.Within.{Each, ItemWithin}
use Rattle.parse_tree.specs.declared.syntax.Span.{Span}
use Rattle.passes.specs.Outcome.{Tree, yes}
use Rattle.passes.specs.Views.{Look, ahead, behind}
use Rattle.passes.specs.Macros.{looking, symbol_of, macro_in, expand_symbol, expand_repeat_symbol, expand_lookaround_symbol, expand_expr_symbol, expand_macro_symbol}
use Rattle.resolve.specs.declared.Grammar.{Grammar}
use Rattle.resolve.specs.Items.{item_place_in, Row}
use Rattle.resolve.proofs.GrammarLaws.{row_below}
use Rattle.replacing.specs.Trees.{renamed, renamed_all, inner}
use Rattle.replacing.proofs.TreesMean.{print-inner}
use Rattle.macro_expand.specs.Drain.{item_of}

-- ---- the item of a symbol, by what it is
pub look_item : (G : Tree) (sp : Span) (k : Look) → expand_symbol G (inner (symbol_of (looking sp k))) ≡ yes (expand_lookaround_symbol sp (print (symbol_of (looking sp k))) k)
unfolding expand_symbol inner
look_item G sp ahead = refl
look_item G sp behind = refl

pub repeat_item : (G : Tree) (sp : Span) (o : Op) (x : Sym) → expand_symbol G (inner (around sp (repeat o) x)) ≡ yes (expand_repeat_symbol sp (print (around sp (repeat o) x)) o (renamed x))
unfolding expand_symbol inner
repeat_item G sp o x = ap (λ (key : Text). yes (expand_repeat_symbol sp key o (renamed x))) (print-inner (around sp (repeat o) x) refl)

pub group_item : (G : Tree) (sp : Span) (xs : Syms) → expand_symbol G (inner (over sp group xs)) ≡ expand_expr_symbol sp (print (over sp group xs)) (renamed_all xs)
unfolding expand_symbol inner
group_item G sp xs = ap (λ (key : Text). expand_expr_symbol sp key (renamed_all xs)) (print-inner (over sp group xs) refl)

pub macro_item : (G : Tree) (sp : Span) (m : Text) (xs : Syms) (D : Nonterminal) → macro_in G m ≡ some D
    → expand_symbol G (inner (over sp (macro m) xs)) ≡ expand_macro_symbol sp (print (over sp (macro m) xs)) (renamed_all xs) (some D)
unfolding expand_symbol inner
macro_item G sp m xs D e =
    ap (λ (key : Text). expand_macro_symbol sp key (renamed_all xs) (macro_in G m)) (print-inner (over sp (macro m) xs) refl)
    ∙ ap (expand_macro_symbol sp (print (over sp (macro m) xs)) (renamed_all xs)) e

-- ---- the i-th item of a row
some_is : {A : Type 0} (a b : A) → ◌≡◌ {A = Option A} (some a) (some b) → a ≡ b
some_is a b e = cc

none≢some : {A : Type 0} (a : A) → ◌≡◌ {A = Option A} none (some a) → ⊥
none≢some a e = let z : ◌≡◌ {A = ℕ} 0 1 = cc in omega arith

module _ (t : Grammar) (ts : List Text) (w : List ℕ) where
  pub record RowAt (i p : ℕ) (x : Item) : Type 0 where
    pub end : ℕ
    pub lies : Lies w (item_place_in t w i) (item_bytes t.width.bytes ts x) end
    pub from : p ≤ item_place_in t w i
    pub upto : end ≤ t.end

  pub row_at : (G : Tree) (k p i : ℕ) (x : Item) → Row t ts w k p G → item_of G i ≡ some x → RowAt (k + i) p x
  unfolding item_of
  row_at [] k p i x r e = absurd (none≢some x e)
  row_at (y ∷ ys) k p zero x r e = subst (λ (n : ℕ). RowAt n p x) (sym z) (subst (RowAt k p) (some_is y x e) here)
    where
      z : k + 0 ≡ k
      z = omega arith

      here : RowAt k p y
      here = record {
        end = p + length (item_bytes t.width.bytes ts y);
        lies = subst (λ (q : ℕ). Lies w q (item_bytes t.width.bytes ts y) (p + length (item_bytes t.width.bytes ts y))) (sym r.0) r.1;
        from = omega (arith, r.0);
        upto = row_below t ts w (k + 1) (p + length (item_bytes t.width.bytes ts y)) ys r.2;
      }
  row_at (y ∷ ys) k p (suc i) x r e =
      let z : k + 1 + i ≡ k + suc i = omega arith in
      let a = row_at ys (k + 1) (p + length (item_bytes t.width.bytes ts y)) i x r.2 e in
      subst (λ (n : ℕ). RowAt n p x) z (record { end = a.end; lies = a.lies; from = omega (arith, a.from); upto = a.upto })

  pub within_at : (four : Bool) (wd : ℕ) (us : List Text) (G : Tree) (i : ℕ) (x : Item) → Each (ItemWithin four wd us) G → item_of G i ≡ some x → ItemWithin four wd us x
  unfolding item_of
  within_at four wd us [] i x h e = absurd (none≢some x e)
  within_at four wd us (y ∷ ys) zero x h e = subst (ItemWithin four wd us) (some_is y x e) h.0
  within_at four wd us (y ∷ ys) (suc i) x h e = within_at four wd us ys i x h.1 e
