-- The printed forms of symbols by parts: what is put, and what is left. Assumes nothing.
use mathlib.Core.Path.{◌≡◌, refl, sym, ap, ◌∙◌}
use mathlib.Core.List.{List, [], ◌++◌, append_assoc}
use Prim.Native.Nat.{ℕ, zero, suc, ◌+◌}
use native.Mathlib.Omega.{arith}
use borrow.Author.Tests.{ne_eqb}
use lib.Dec.{eqb}
use Rattle.octets.specs.Working.Choice.{pick}
use Rattle.parse_tree.specs.Plain.Tree.{Text, Sym, Syms, nil, cons}
use Rattle.parse_tree.specs.Plain.Display.{shown, shown_all, shown_more, print}
use Rattle.parse_tree.proofs.DisplayLaws.{print-then}
use Rattle.display.specs.Follow.{between_by}
use Rattle.display.proofs.StandsLaws.{more}

-- the symbols that are left, with a separator before the first of them if others stand before: d is not 0
unfoldable pub rest_text : ℕ → Syms → Text → Text
rest_text d xs sep = pick (eqb d 0) (shown_all xs sep []) (shown_more xs sep [])

pub rest_none : (d : ℕ) (sep : Text) → rest_text d nil sep ≡ []
unfolding rest_text pick shown_all shown_more
rest_none zero sep = refl
rest_none (suc d) sep = cc (ne_eqb (suc d) 0 (λ q. absurd (omega (arith, q))))

-- behind a symbol others do
rest_more : (d : ℕ) (xs : Syms) (sep : Text) → rest_text (d + 1) xs sep ≡ shown_more xs sep []
unfolding rest_text pick
rest_more d xs sep = cc (ne_eqb (d + 1) 0 (λ q. absurd (omega (arith, q))))

rest_first : (c d : ℕ) (x : Sym) (xs : Syms) → between_by c d ++ (print x ++ shown_more xs (between_by c 1) []) ≡ rest_text d (cons x xs) (between_by c 1)
unfolding rest_text pick shown_all shown_more between_by
rest_first c zero x xs = print-then x (shown_more xs (between_by c 1) [])
rest_first c (suc d) x xs =
    let z : between_by c (suc d) ≡ between_by c 1 = more c d ∙ sym (more c 0) in
    let y : rest_text (suc d) (cons x xs) (between_by c 1) ≡ between_by c 1 ++ shown x (shown_more xs (between_by c 1) []) = cc (ne_eqb (suc d) 0 (λ q. absurd (omega (arith, q)))) in
    ap (λ (u : Text). u ++ (print x ++ shown_more xs (between_by c 1) [])) z ∙ ap (λ (u : Text). between_by c 1 ++ u) (print-then x (shown_more xs (between_by c 1) [])) ∙ sym y

-- theorem: what was put, then a separator and a symbol, then the others
pub rest_one : (bytes : List ℕ) (c d : ℕ) (x : Sym) (xs : Syms) (b : List ℕ) → b ≡ print x → (bytes ++ (between_by c d ++ b)) ++ rest_text (d + 1) xs (between_by c 1) ≡ bytes ++ rest_text d (cons x xs) (between_by c 1)
rest_one bytes c d x xs b z =
    let r = shown_more xs (between_by c 1) [] in
    ap (λ (u : Text). (bytes ++ (between_by c d ++ b)) ++ u) (rest_more d xs (between_by c 1)) ∙ ap (λ (u : Text). (bytes ++ (between_by c d ++ u)) ++ r) z ∙ append_assoc bytes (between_by c d ++ print x) r
    ∙ ap (λ (u : Text). bytes ++ u) (append_assoc (between_by c d) (print x) r ∙ rest_first c d x xs)
