-- A levelled tree with distinct globals is resolved, as the tree was. Assumes nothing.
use mathlib.Core.Path.{◌≡◌, refl, sym, ap, ◌∙◌, subst}
use mathlib.Core.Logic.{◌⊎◌, inl, inr, ◌≢◌}
use Prim.Native.Nat.{ℕ, ◌+◌}
use mathlib.Core.List.{List, [], ◌∷◌, ◌++◌, Memᴰ}
use mathlib.Core.Bool.{Bool, true, false, cond}
use Rattle.octets.specs.Plain.Runs.{same_as}
use Rattle.parse_tree.specs.Plain.Tree.{Text, Leaf, Over, Sym, Syms, ambiguous, bare, quoted, regex, nonterminal, lookahead, lookbehind, error, macro, group, leaf, around, over, nil, cons, Alternative, Nonterminal, item}
use Rattle.parse_tree.specs.Plain.Texts.{has}
use Rattle.parse_tree.specs.declared.syntax.Span.{Span}
use Rattle.passes.specs.Outcome.{Tree}
use Rattle.passes.specs.Grades.{annotated, Graded, graded}
use Rattle.meaning.specs.Meaning.{is_terminal, below}
use Rattle.passes.specs.Resolve.{externs, matches, globals}
use Rattle.passes.specs.Levels.{occurs, occurs_in, replace_occurrences, replace_occurrences_in, levelled}
use Rattle.meaning.specs.Premises.{HasItem}
use Rattle.meaning.proofs.Basics.{test}
use Rattle.meaning.proofs.Predicates.{Ident, Arity, OkayLeaf, OkayOver, Okay, Okays, Resolved}
use Rattle.meaning.proofs.Resolving.Globals.{Distinct, one_nonterminal, no_terminal}
use Rattle.meaning.proofs.Levels.LevelFacts.{Level, highest, has-highest, below-level, ceiling-level}
use Rattle.meaning.proofs.Levels.LevelForms.{name_at, substitute_at, level_item, highest_name, ceiling_in, symbols_at}
use Rattle.meaning.proofs.Levels.LevelItems.{levelled-terminals, levelled-plain, levelled-at, Origin, levelled-only, level_args, level_name_lem, LevelAlternative, level_only}
use Rattle.meaning.proofs.Levels.LevelPhrases.{graded-okay}
use Rattle.meaning.proofs.Levels.LevelMeaning.{Argumentless, AllSided}
use Rattle.meaning.proofs.Levels.LevelNames.{level_ident}

none_had : (n : Text) → has n [] ≡ false
unfolding has
none_had n = refl

arity_replaced : (E : Text) (f : ℕ → Text) (qs : List Text) (xs : Syms) (i : ℕ) → Arity qs xs → Arity qs (replace_occurrences_in E f xs i)
unfolding replace_occurrences
arity_replaced E f [] nil i a = a
arity_replaced E f [] (cons x xs) i a = a
arity_replaced E f (q ∷ qs) nil i a = a
arity_replaced E f (q ∷ qs) (cons x xs) i a = arity_replaced E f qs xs (i + occurs E x) a

module _ (R : Tree) (argumentless : Argumentless R) where
  abbrev L : Tree
  L = levelled R

  level_has : (d : Nonterminal) → Memᴰ (item d) R → annotated d ≡ true → (v : ℕ) → Level (graded d) v → HasItem L (name_at d v)
  unfolding level_item
  level_has d g an v l = (level_item d v, levelled-at R d g an v l, refl, argumentless d g an)

  pub keep_item : (n : Text) → HasItem R n → HasItem L n
  keep_item n (d, g, e, p) = go (test (annotated d))
    where
      go : (annotated d ≡ true) ⊎ (annotated d ≡ false) → HasItem L n
      go (inl an) = subst (HasItem L) (highest_name d ∙ e) (level_has d g an (highest (graded d)) (has-highest d an))
      go (inr an) = (d, levelled-plain R d g an, e, p)

  keep_macro : (d : Nonterminal) → Memᴰ (item d) R → (d.args ≢ []) → Memᴰ (item d) L
  keep_macro d g ne = go (test (annotated d))
    where
      go : (annotated d ≡ true) ⊎ (annotated d ≡ false) → Memᴰ (item d) L
      go (inl an) = absurd (ne (argumentless d g an))
      go (inr an) = levelled-plain R d g an

  -- ---- symbols that stay
  module _ (ps : List Text) where
    keep_leaf : (l : Leaf) → OkayLeaf R ps l → OkayLeaf L ps l
    keep_leaf (ambiguous n) o = o
    keep_leaf (bare n) o = (o.0, levelled-terminals R n ∙ o.1)
    keep_leaf (quoted t) o = o
    keep_leaf (regex t) o = o
    keep_leaf (nonterminal n) (inl e) = inl e
    keep_leaf (nonterminal n) (inr (e, i, t, h)) = inr (e, i, levelled-terminals R n ∙ t, keep_item n h)
    keep_leaf lookahead o = o
    keep_leaf lookbehind o = o
    keep_leaf error o = o

    keep_over : (k : Over) (xs ys : Syms) → ((qs : List Text) → Arity qs xs → Arity qs ys) → OkayOver R ps k xs → OkayOver L ps k ys
    keep_over (macro n) xs ys f (d, g, e, ne, a, i) = (d, keep_macro d g ne, e, ne, f d.args a, i)
    keep_over group xs ys f o = o

    mutual
      keep : (x : Sym) → Okay R ps x → Okay L ps x
      keep (leaf s l) o = keep_leaf l o
      keep (around s a x) o = (o.0, keep x o.1)
      keep (over s k xs) o = (keep_over k xs xs (λ qs a. a) o.0, keeps xs o.1)

      keeps : (xs : Syms) → Okays R ps xs → Okays L ps xs
      keeps nil o = o
      keeps (cons x xs) o = (keep x o.0, keeps xs o.1)

  -- ---- the name of a level in place of the nonterminal's
  abbrev Fine : Text → Type 0
  Fine n = Ident n × (is_terminal L n ≡ false) × HasItem L n

  fine_leaf : (n : Text) → Fine n → OkayLeaf L [] (nonterminal n)
  fine_leaf n (i, t, h) = inr (none_had n, i, t, h)

  module _ (E : Text) (f : ℕ → Text) (fine : (j : ℕ) → Fine (f j)) where
    replaced_leaf : (s : Span) (l : Leaf) (i : ℕ) → OkayLeaf R [] l → Okay L [] (replace_occurrences E f (leaf s l) i)
    unfolding replace_occurrences
    replaced_leaf s (ambiguous n) i o = o
    replaced_leaf s (bare n) i o = keep_leaf [] (bare n) o
    replaced_leaf s (quoted t) i o = o
    replaced_leaf s (regex t) i o = o
    replaced_leaf s (nonterminal n) i o = go (same_as n E)
      where
        go : (b : Bool) → OkayLeaf L [] (cond b (nonterminal (f i)) (nonterminal n))
        go true = fine_leaf (f i) (fine i)
        go false = keep_leaf [] (nonterminal n) o
    replaced_leaf s lookahead i o = o
    replaced_leaf s lookbehind i o = o
    replaced_leaf s error i o = o

    mutual
      unfolding replace_occurrences

      replaced : (x : Sym) (i : ℕ) → Okay R [] x → Okay L [] (replace_occurrences E f x i)
      replaced (leaf s l) i o = replaced_leaf s l i o
      replaced (around s a x) i o = (o.0, replaced x i o.1)
      replaced (over s k xs) i o = (keep_over [] k xs (replace_occurrences_in E f xs i) (λ qs a. arity_replaced E f qs xs i a) o.0, replaceds xs i o.1)

      replaceds : (xs : Syms) (i : ℕ) → Okays R [] xs → Okays L [] (replace_occurrences_in E f xs i)
      replaceds nil i o = o
      replaceds (cons x xs) i o = (replaced x i o.0, replaceds xs (i + occurs E x) o.1)

  -- ---- the levelled tree
  module _ (res : Resolved R) (sided : AllSided R) (dis : Distinct [] (globals L)) where
    level_fine : (d : Nonterminal) → Memᴰ (item d) R → annotated d ≡ true → (v : ℕ) → Level (graded d) v → Fine (name_at d v)
    unfolding level_item
    level_fine d g an v l = (level_ident d v (res.names d g).0, no_terminal L dis (level_item d v) (levelled-at R d g an v l), level_has d g an v l)

    substituted-okay : (d : Nonterminal) (g : Memᴰ (item d) R) (an : annotated d ≡ true) (γ : Graded) → Memᴰ γ (graded d) → Okays L [] (substitute_at d γ).symbols
    substituted-okay d g an γ i =
        let total = occurs_in d.name γ.alternative.symbols in
        subst (Okays L []) (sym (symbols_at d (sided d g an) γ i))
        (replaceds d.name (λ j. name_at d (ceiling_in d γ j)) (λ j. level_fine d g an (ceiling_in d γ j) (ceiling-level d (sided d g an) γ i total j)) γ.alternative.symbols 0
        (graded-okay R res d g (argumentless d g an) γ i))

    level_symbols : (d : Nonterminal) (g : Memᴰ (item d) R) (an : annotated d ≡ true) (v : ℕ) (a : Alternative) → Memᴰ a (level_item d v).alternatives → Okays L [] a.symbols
    level_symbols d g an v a i = go (level_only d v a i)
      where
        go : LevelAlternative d v a → Okays L [] a.symbols
        go (inl (γ, j, e, q)) = subst (λ (z : Alternative). Okays L [] z.symbols) (sym q) (substituted-okay d g an γ j)
        go (inr (nl, q)) =
            let (lb, lt) = below-level v (graded d) nl in
            subst (λ (z : Alternative). Okays L [] z.symbols) (sym q) (fine_leaf (name_at d (below v (graded d))) (level_fine d g an (below v (graded d)) lb), tt)

    symbols : (x : Nonterminal) → Memᴰ (item x) L → (a : Alternative) → Memᴰ a x.alternatives → Okays L x.args a.symbols
    symbols x gx a i = go (levelled-only R x gx)
      where
        go : Origin R x → Okays L x.args a.symbols
        go (inl (g, an)) = keeps x.args a.symbols (res.symbols x g a i)
        go (inr (d, v, g, an, l, e)) =
            subst (λ (z : List Text). Okays L z a.symbols) (sym (ap (λ (y : Nonterminal). y.args) e ∙ level_args d v ∙ argumentless d g an))
            (level_symbols d g an v a (subst (λ (y : Nonterminal). Memᴰ a y.alternatives) e i))

    names : (x : Nonterminal) → Memᴰ (item x) L → Ident x.name × (is_terminal L x.name ≡ false)
    names x gx = (go (levelled-only R x gx), no_terminal L dis x gx)
      where
        go : Origin R x → Ident x.name
        go (inl (g, an)) = (res.names x g).0
        go (inr (d, v, g, an, l, e)) = subst Ident (sym (ap (λ (y : Nonterminal). y.name) e ∙ level_name_lem d v)) (level_ident d v (res.names d g).0)

    pub levelled-resolved : Resolved L
    levelled-resolved = record { symbols = symbols; distinct = one_nonterminal [] L (externs L ++ matches L) dis; idents = λ n t. res.idents n (sym (levelled-terminals R n) ∙ t); names = names }
