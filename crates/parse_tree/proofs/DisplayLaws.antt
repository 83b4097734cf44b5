-- Printed forms: what stands behind a symbol is only handed on. Assumes nothing.
use mathlib.Core.Path.{◌≡◌, refl, ap, ◌∙◌}
use mathlib.Core.Bool.{Bool, true, false, ◌||◌, cond}
use mathlib.Core.List.{[], ◌∷◌, ◌++◌, append_assoc}
use lib.Dec.{eqb}
use Rattle.parse_tree.specs.Plain.Tree.{Text, Leaf, Around, Over, Sym, Syms, ambiguous, bare, quoted, regex, nonterminal, lookahead, lookbehind, error, repeat, choose, name, macro, group, leaf, around, over, nil, cons}
use Rattle.parse_tree.specs.Plain.Display.{escaped, shown_leaf, shown_before, shown_behind, opening, separator, closing, shown, shown_all, shown_more, print}

escaped-app : (t r u : Text) → escaped t r ++ u ≡ escaped t (r ++ u)
unfolding escaped
escaped-app [] r u = refl
escaped-app (b ∷ bs) r u = go (eqb b 34 || eqb b 92) (escaped-app bs r u)
  where
    go : (c : Bool) → escaped bs r ++ u ≡ escaped bs (r ++ u) →
        cond {A = Text} c (92 ∷ b ∷ escaped bs r) (b ∷ escaped bs r) ++ u ≡ cond {A = Text} c (92 ∷ b ∷ escaped bs (r ++ u)) (b ∷ escaped bs (r ++ u))
    go true h = ap {B = Text} (λ l. 92 ∷ b ∷ l) h
    go false h = ap {B = Text} (λ l. b ∷ l) h

leaf_app : (l : Leaf) (r u : Text) → shown_leaf l r ++ u ≡ shown_leaf l (r ++ u)
unfolding shown_leaf
leaf_app (ambiguous n) r u = append_assoc n r u
leaf_app (bare n) r u = append_assoc n r u
leaf_app (quoted t) r u = ap {B = Text} (λ l. 34 ∷ l) (escaped-app t (34 ∷ r) u)
leaf_app (regex t) r u = ap {B = Text} (λ l. 114 ∷ 35 ∷ 34 ∷ l) (escaped-app t (34 ∷ 35 ∷ r) u)
leaf_app (nonterminal n) r u = append_assoc n r u
leaf_app lookahead r u = refl
leaf_app lookbehind r u = refl
leaf_app error r u = refl

before-app : (a : Around) (r u : Text) → shown_before a r ++ u ≡ shown_before a (r ++ u)
unfolding shown_before
before-app (repeat o) r u = refl
before-app choose r u = refl
before-app (name true n) r u = ap {B = Text} (λ l. 109 ∷ 117 ∷ 116 ∷ 32 ∷ l) (append_assoc n (58 ∷ r) u)
before-app (name false n) r u = append_assoc n (58 ∷ r) u

behind_app : (a : Around) (r u : Text) → shown_behind a r ++ u ≡ shown_behind a (r ++ u)
unfolding shown_behind
behind_app (repeat o) r u = refl
behind_app choose r u = refl
behind_app (name m n) r u = refl

opening-app : (o : Over) (r u : Text) → opening o r ++ u ≡ opening o (r ++ u)
unfolding opening
opening-app (macro n) r u = append_assoc n (60 ∷ r) u
opening-app group r u = refl

mutual
  unfolding shown

  pub shown_app : (x : Sym) (r u : Text) → shown x r ++ u ≡ shown x (r ++ u)
  shown_app (leaf s l) r u = leaf_app l r u
  shown_app (around s a x) r u =
      before-app a (shown x (shown_behind a r)) u ∙ ap (shown_before a) (shown_app x (shown_behind a r) u ∙ ap (shown x) (behind_app a r u))
  shown_app (over s o xs) r u =
      opening-app o (shown_all xs (separator o) (closing o ∷ r)) u ∙ ap (opening o) (shown_all_app xs (separator o) (closing o ∷ r) u)

  pub shown_all_app : (xs : Syms) (sep r u : Text) → shown_all xs sep r ++ u ≡ shown_all xs sep (r ++ u)
  shown_all_app nil sep r u = refl
  shown_all_app (cons x xs) sep r u = shown_app x (shown_more xs sep r) u ∙ ap (shown x) (shown_more_app xs sep r u)

  pub shown_more_app : (xs : Syms) (sep r u : Text) → shown_more xs sep r ++ u ≡ shown_more xs sep (r ++ u)
  shown_more_app nil sep r u = refl
  shown_more_app (cons x xs) sep r u =
      append_assoc sep (shown x (shown_more xs sep r)) u ∙ ap (sep ++◌) (shown_app x (shown_more xs sep r) u ∙ ap (shown x) (shown_more_app xs sep r u))

pub print-then : (x : Sym) (r : Text) → print x ++ r ≡ shown x r
unfolding print
print-then x r = shown_app x [] r
