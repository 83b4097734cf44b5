-- Printed forms from their parts: equal parts print equally, a replaced symbol prints as before, and forms are joined. Assumes nothing.
use mathlib.Core.Path.{◌≡◌, refl, sym, ap, ◌∙◌}
use mathlib.Core.List.{[], ◌∷◌, ◌++◌, append-nil}
use Rattle.parse_tree.specs.Plain.Tree.{Text, Leaf, Around, Over, Sym, Syms, ambiguous, bare, quoted, regex, nonterminal, lookahead, lookbehind, error, repeat, choose, name, leaf, around, over, nil, cons}
use Rattle.parse_tree.specs.Plain.Display.{shown_leaf, shown_before, shown_behind, opening, separator, closing, shown, shown_all, shown_more, print}
use Rattle.parse_tree.specs.declared.syntax.Span.{Span}
use Rattle.passes.specs.Macros.{Pending, looking, repeating, listing, symbol_of, MacroExpander, push, replace_around, replace_symbol, replace_symbols}
use Rattle.passes.specs.Views.{ahead, behind}
use Rattle.parse_tree.proofs.DisplayLaws.{print-then}

-- ---- symbols that print alike
abbrev pub Alike : Syms → Syms → Type 0
Alike nil nil = Unit {0}
Alike nil (cons y ys) = ⊥
Alike (cons x xs) nil = ⊥
Alike (cons x xs) (cons y ys) = (print x ≡ print y) × Alike xs ys

pub shown_alike : (x y : Sym) (r : Text) → print x ≡ print y → shown x r ≡ shown y r
shown_alike x y r e = sym (print-then x r) ∙ ap (λ (t : Text). t ++ r) e ∙ print-then y r

more_alike : (xs ys : Syms) (sep r : Text) → Alike xs ys → shown_more xs sep r ≡ shown_more ys sep r
unfolding shown_more
more_alike nil nil sep r h = refl
more_alike nil (cons y ys) sep r h = absurd h
more_alike (cons x xs) nil sep r h = absurd h
more_alike (cons x xs) (cons y ys) sep r h =
    ap (λ (t : Text). sep ++ t) (ap (shown x) (more_alike xs ys sep r h.1) ∙ shown_alike x y (shown_more ys sep r) h.0)

all_alike : (xs ys : Syms) (sep r : Text) → Alike xs ys → shown_all xs sep r ≡ shown_all ys sep r
unfolding shown_all
all_alike nil nil sep r h = refl
all_alike nil (cons y ys) sep r h = absurd h
all_alike (cons x xs) nil sep r h = absurd h
all_alike (cons x xs) (cons y ys) sep r h = ap (shown x) (more_alike xs ys sep r h.1) ∙ shown_alike x y (shown_more ys sep r) h.0

-- the same command and inner symbols that print alike
pub over_alike : (s t : Span) (o : Over) (xs ys : Syms) → Alike xs ys → print (over s o xs) ≡ print (over t o ys)
unfolding print shown
over_alike s t o xs ys h = ap (opening o) (all_alike xs ys (separator o) (closing o ∷ []) h)

pub around_alike : (s t : Span) (a : Around) (x y : Sym) → print x ≡ print y → print (around s a x) ≡ print (around t a y)
unfolding print shown
around_alike s t a x y h = ap (shown_before a) (shown_alike x y (shown_behind a []) h)

-- ---- a replaced symbol prints as it did: so S may stay as it is
push-print : (x : Pending) (σ : MacroExpander) → print (push x σ).0 ≡ print (symbol_of x)
unfolding push print shown shown_leaf
push-print x σ = append-nil (print (symbol_of x))

leaf_print : (s : Span) (l : Leaf) (σ : MacroExpander) → print (replace_symbol (leaf s l) σ).0 ≡ print (leaf s l)
unfolding replace_symbol
leaf_print s (ambiguous n) σ = refl
leaf_print s (bare n) σ = refl
leaf_print s (quoted t) σ = refl
leaf_print s (regex t) σ = refl
leaf_print s (nonterminal n) σ = refl
leaf_print s lookahead σ = push-print (looking s ahead) σ
leaf_print s lookbehind σ = push-print (looking s behind) σ
leaf_print s error σ = refl

around_print : (s : Span) (a : Around) (x : Sym) (q : Sym × MacroExpander) → print q.0 ≡ print x → print (replace_around s a q).0 ≡ print (around s a x)
around_print s (repeat o) x q h = push-print (repeating s o q.0) q.1 ∙ around_alike s s (repeat o) q.0 x h
around_print s choose x q h = around_alike s s choose q.0 x h
around_print s (name m n) x q h = around_alike s s (name m n) q.0 x h

mutual
  unfolding replace_symbol

  pub replaced_print : (x : Sym) (σ : MacroExpander) → print (replace_symbol x σ).0 ≡ print x
  replaced_print (leaf s l) σ = leaf_print s l σ
  replaced_print (around s a x) σ = around_print s a x (replace_symbol x σ) (replaced_print x σ)
  replaced_print (over s o xs) σ = push-print (listing s o (replace_symbols xs σ).0) (replace_symbols xs σ).1 ∙ over_alike s s o (replace_symbols xs σ).0 xs (replaced_alike xs σ)

  pub replaced_alike : (xs : Syms) (σ : MacroExpander) → Alike (replace_symbols xs σ).0 xs
  replaced_alike nil σ = tt
  replaced_alike (cons x xs) σ = (replaced_print x σ, replaced_alike xs (replace_symbol x σ).1)
