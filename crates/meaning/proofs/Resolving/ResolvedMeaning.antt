-- Resolving keeps the meaning of a symbol, and each of its names is looked up. Assumes nothing.
use mathlib.Core.Path.{◌≡◌, refl, sym, ap, ap₂, ◌∙◌, subst}
use mathlib.Core.Logic.{inl, inr, ◌≢◌}
use Prim.Native.Nat.{ℕ, zero, suc}
use mathlib.Core.List.{List, [], ◌∷◌, Memᴰ}
use mathlib.Core.Option.{Option, none, some}
use mathlib.Core.Bool.{Bool, true, false, cond}
use borrow.Author.Tests.{eqb-true}
use lib.Dec.{eqb}
use lib.ListN.{length}
use native.Mathlib.Omega.{arith}
use Rattle.parse_tree.specs.Plain.Tree.{Text, Leaf, Around, Over, Sym, Syms, ambiguous, bare, quoted, regex, nonterminal, lookahead, lookbehind, error, repeat, choose, name, macro, group, leaf, around, over, nil, cons, count, Nonterminal, item}
use Rattle.parse_tree.specs.declared.syntax.Span.{Span}
use Rattle.passes.specs.Outcome.{Tree, Outcome, yes, no}
use Rattle.meaning.specs.Phrases.{token, bare_token, pcons}
use Rattle.meaning.specs.Meaning.{is_terminal, named, mean_around, mean_over, mean, means}
use Rattle.passes.specs.Resolve.{Def, terminal_def, nonterminal_def, argument_def, globals, lookup, rewrite_ambiguous_id, validate_nonterminal, validate_macro, validate_leaf, validate_over, validate_symbol, validate_symbols}
use Rattle.passes.proofs.Outcomes.{no≢yes, yes_inj, after-yes}
use Rattle.meaning.proofs.Predicates.{UnresolvedLeaf, NamedAround, NamedOver, UnresolvedSym, UnresolvedSyms, Ident, IdentAround, Arity, Okay, OkayOver, Okays}
use Rattle.meaning.proofs.Idents.{ident_of}
use Rattle.meaning.proofs.Resolving.Globals.{Distinct, no_terminal}
use Rattle.meaning.proofs.Resolving.Lookups.{Found, f_argument, f_terminal, f_nonterminal, found}

-- ---- the meaning is the same
module _ (G : Tree) (ps : List Text) where
  abbrev Same : Sym → Sym → Type 0
  Same x y = mean G ps y ≡ mean G ps x

  abbrev Sames : Syms → Syms → Type 0
  Sames xs ys = means G ps ys ≡ means G ps xs

  -- a yes with a symbol that means the same
  answered : (x y z : Sym) → ◌≡◌ {A = Outcome Sym} (yes y) (yes z) → Same x y → Same x z
  answered x y z e h = subst (Same x) (yes_inj y z e) h

  ambiguous_mean : (s : Span) (n : Text) (o : Option Def) → lookup G ps n ≡ o → (y : Sym) → rewrite_ambiguous_id G ps s n o ≡ yes y → Same (leaf s (ambiguous n)) y
  unfolding mean named
  ambiguous_mean s n none l y e = absurd (no≢yes _ _ _ e)
  ambiguous_mean s n (some terminal_def) l y e = answered (leaf s (ambiguous n)) (leaf s (bare n)) y e (go (found G ps n terminal_def l))
    where
      go : Found G ps n terminal_def → token (bare_token n) ≡ named G ps n
      go (f_terminal h t) = rw (h, t)
  ambiguous_mean s n (some (nonterminal_def zero)) l y e = answered (leaf s (ambiguous n)) (leaf s (nonterminal n)) y e refl
  ambiguous_mean s n (some (nonterminal_def (suc k))) l y e = absurd (no≢yes _ _ _ e)
  ambiguous_mean s n (some argument_def) l y e = answered (leaf s (ambiguous n)) (leaf s (nonterminal n)) y e refl

  -- a leaf that stays as it is
  kept-mean : (s : Span) (l : Leaf) (y : Sym) → ◌≡◌ {A = Outcome Sym} (yes (leaf s l)) (yes y) → Same (leaf s l) y
  kept-mean s l y e = answered (leaf s l) (leaf s l) y e refl

  nonterminal_mean : (s : Span) (n : Text) (o : Option Def) (y : Sym) → validate_nonterminal G ps s n o ≡ yes y → Same (leaf s (nonterminal n)) y
  nonterminal_mean s n none y e = absurd (no≢yes _ _ _ e)
  nonterminal_mean s n (some terminal_def) y e = absurd (no≢yes _ _ _ e)
  nonterminal_mean s n (some (nonterminal_def zero)) y e = kept-mean s (nonterminal n) y e
  nonterminal_mean s n (some (nonterminal_def (suc k))) y e = absurd (no≢yes _ _ _ e)
  nonterminal_mean s n (some argument_def) y e = kept-mean s (nonterminal n) y e

  leaf_mean : (s : Span) (l : Leaf) (y : Sym) → validate_leaf G ps s l ≡ yes y → Same (leaf s l) y
  leaf_mean s (ambiguous n) y e = ambiguous_mean s n (lookup G ps n) refl y e
  leaf_mean s (bare n) y e = kept-mean s (bare n) y e
  leaf_mean s (quoted t) y e = kept-mean s (quoted t) y e
  leaf_mean s (regex t) y e = kept-mean s (regex t) y e
  leaf_mean s (nonterminal n) y e = nonterminal_mean s n (lookup G ps n) y e
  leaf_mean s lookahead y e = kept-mean s lookahead y e
  leaf_mean s lookbehind y e = kept-mean s lookbehind y e
  leaf_mean s error y e = kept-mean s error y e

  mutual
    unfolding validate_symbol mean

    pub symbol_mean : (x y : Sym) → validate_symbol G ps x ≡ yes y → Same x y
    symbol_mean (leaf s l) y e = leaf_mean s l y e
    symbol_mean (around s a x) z e =
        let (y, ey, e1) = after-yes (validate_symbol G ps x) _ z e in
        answered (around s a x) (around s a y) z e1 (ap (mean_around G ps a) (symbol_mean x y ey))
    symbol_mean (over s o xs) z e =
        let (u, eu, e1) = after-yes (validate_over G ps s o (count xs)) _ z e in
        let (ys, ey, e2) = after-yes (validate_symbols G ps xs) _ z e1 in
        answered (over s o xs) (over s o ys) z e2 (ap (mean_over G ps o) (symbols_mean xs ys ey))

    pub symbols_mean : (xs ys : Syms) → validate_symbols G ps xs ≡ yes ys → Sames xs ys
    symbols_mean nil ys e = subst (Sames nil) (yes_inj _ ys e) refl
    symbols_mean (cons x xs) zs e =
        let (y, ey, e1) = after-yes (validate_symbol G ps x) _ zs e in
        let (ys, eys, e2) = after-yes (validate_symbols G ps xs) _ zs e1 in
        subst (Sames (cons x xs)) (yes_inj _ zs e2) (ap₂ pcons (symbol_mean x y ey) (symbols_mean xs ys eys))

-- ---- counts of arguments
zero≢suc : (n : ℕ) → zero ≡ suc n → ⊥
zero≢suc n e = omega arith

suc_inj : (a b : ℕ) → suc a ≡ suc b → a ≡ b
suc_inj a b e = omega arith

no_arguments : (l : List Text) → zero ≡ length l → l ≡ []
no_arguments [] e = refl
no_arguments (x ∷ l) e = absurd (zero≢suc (length l) e)

some_arguments : (j : ℕ) (l : List Text) → suc j ≡ length l → l ≢ []
some_arguments j l a b = zero≢suc j (sym (a ∙ ap (λ (z : List Text). length z) b))

arity_of : (ps : List Text) (xs : Syms) → length ps ≡ count xs → Arity ps xs
unfolding count
arity_of [] nil e = tt
arity_of [] (cons x xs) e = zero≢suc (count xs) e
arity_of (p ∷ ps) nil e = zero≢suc (length ps) (sym e)
arity_of (p ∷ ps) (cons x xs) e = arity_of ps xs (suc_inj (length ps) (count xs) e)

same_count : (G : Tree) (ps : List Text) (xs ys : Syms) → validate_symbols G ps xs ≡ yes ys → count ys ≡ count xs
unfolding validate_symbol count
same_count G ps nil ys e = subst (λ (z : Syms). count z ≡ 0) (yes_inj _ ys e) refl
same_count G ps (cons x xs) zs e =
    let (y, ey, e1) = after-yes (validate_symbol G ps x) _ zs e in
    let (ys, eys, e2) = after-yes (validate_symbols G ps xs) _ zs e1 in
    subst (λ (z : Syms). count z ≡ count (cons x xs)) (yes_inj _ zs e2) (ap suc (same_count G ps xs ys eys))

-- ---- each name is looked up: R is U resolved
module _ (U R : Tree) (dis : Distinct [] (globals U)) (same_terminals : (n : Text) → is_terminal R n ≡ is_terminal U n)
    (same_items : (d : Nonterminal) → Memᴰ (item d) U → (e : Nonterminal) × Memᴰ (item e) R × (e.name ≡ d.name) × (e.args ≡ d.args)) (ps : List Text) where
  abbrev Fine : Sym → Type 0
  Fine x = Okay R ps x

  fine : (x y : Sym) → ◌≡◌ {A = Outcome Sym} (yes x) (yes y) → Fine x → Fine y
  fine x y e h = subst Fine (yes_inj x y e) h

  ambiguous_okay : (s : Span) (n : Text) → Ident n → (o : Option Def) → lookup U ps n ≡ o → (y : Sym) → rewrite_ambiguous_id U ps s n o ≡ yes y → Fine y
  ambiguous_okay s n i none l y e = absurd (no≢yes _ _ _ e)
  ambiguous_okay s n i (some terminal_def) l y e = fine (leaf s (bare n)) y e (go (found U ps n terminal_def l))
    where
      go : Found U ps n terminal_def → Fine (leaf s (bare n))
      go (f_terminal h t) = (i, same_terminals n ∙ t)
  ambiguous_okay s n i (some (nonterminal_def zero)) l y e = fine (leaf s (nonterminal n)) y e (go (found U ps n (nonterminal_def zero) l))
    where
      go : Found U ps n (nonterminal_def zero) → Fine (leaf s (nonterminal n))
      go (f_nonterminal h d g q k) =
          let (d', g', q', p') = same_items d g in
          inr (h, i, same_terminals n ∙ subst (λ (z : Text). is_terminal U z ≡ false) q (no_terminal U dis d g), (d', g', q' ∙ q, p' ∙ no_arguments d.args k))
  ambiguous_okay s n i (some (nonterminal_def (suc k))) l y e = absurd (no≢yes _ _ _ e)
  ambiguous_okay s n i (some argument_def) l y e = fine (leaf s (nonterminal n)) y e (go (found U ps n argument_def l))
    where
      go : Found U ps n argument_def → Fine (leaf s (nonterminal n))
      go (f_argument h) = inl h

  leaf_okay : (s : Span) (l : Leaf) (y : Sym) → validate_leaf U ps s l ≡ yes y → UnresolvedLeaf l → Fine y
  leaf_okay s (ambiguous n) y e w = ambiguous_okay s n (ident_of n w) (lookup U ps n) refl y e
  leaf_okay s (bare n) y e w = absurd w
  leaf_okay s (quoted t) y e w = fine (leaf s (quoted t)) y e tt
  leaf_okay s (regex t) y e w = fine (leaf s (regex t)) y e tt
  leaf_okay s (nonterminal n) y e w = absurd w
  leaf_okay s lookahead y e w = fine (leaf s lookahead) y e tt
  leaf_okay s lookbehind y e w = fine (leaf s lookbehind) y e tt
  leaf_okay s error y e w = fine (leaf s error) y e tt

  around_okay : (a : Around) → NamedAround a → IdentAround a
  around_okay (repeat o) w = tt
  around_okay choose w = tt
  around_okay (name m n) w = ident_of n w

  macro_okay : (s : Span) (n : Text) (ys : Syms) (k : ℕ) → count ys ≡ k → Ident n → (o : Option Def) → lookup U ps n ≡ o → (u : Unit {0}) → validate_macro U ps s k o ≡ yes u → OkayOver R ps (macro n) ys
  macro_okay s n ys k c i none l u e = absurd (no≢yes _ _ _ e)
  macro_okay s n ys k c i (some terminal_def) l u e = absurd (no≢yes _ _ _ e)
  macro_okay s n ys k c i (some (nonterminal_def zero)) l u e = absurd (no≢yes _ _ _ e)
  macro_okay s n ys k c i (some (nonterminal_def (suc j))) l u e = counted (eqb (suc j) k) refl e (found U ps n (nonterminal_def (suc j)) l)
    where
      go : suc j ≡ k → Found U ps n (nonterminal_def (suc j)) → OkayOver R ps (macro n) ys
      go t (f_nonterminal h d g q f) =
          let (d', g', q', p') = same_items d g in
          (d', g', q' ∙ q, subst (λ (z : List Text). z ≢ []) (sym p') (some_arguments j d.args f), subst (λ (z : List Text). Arity z ys) (sym p') (arity_of d.args ys (sym f ∙ t ∙ sym c)), i)

      counted : (b : Bool) → eqb (suc j) k ≡ b → cond b (yes tt) (no 12 s) ≡ yes u → Found U ps n (nonterminal_def (suc j)) → OkayOver R ps (macro n) ys
      counted true t z f = go (eqb-true (suc j) k t) f
      counted false t z f = absurd (no≢yes _ _ _ z)
  macro_okay s n ys k c i (some argument_def) l u e = absurd (no≢yes _ _ _ e)

  over_okay : (s : Span) (o : Over) (ys : Syms) (k : ℕ) → count ys ≡ k → (u : Unit {0}) → validate_over U ps s o k ≡ yes u → NamedOver o → OkayOver R ps o ys
  over_okay s (macro n) ys k c u e w = macro_okay s n ys k c (ident_of n w) (lookup U ps n) refl u e
  over_okay s group ys k c u e w = tt

  mutual
    unfolding validate_symbol

    pub symbol_okay : (x y : Sym) → validate_symbol U ps x ≡ yes y → UnresolvedSym x → Fine y
    symbol_okay (leaf s l) y e w = leaf_okay s l y e w
    symbol_okay (around s a x) z e w =
        let (y, ey, e1) = after-yes (validate_symbol U ps x) _ z e in
        fine (around s a y) z e1 (around_okay a w.0, symbol_okay x y ey w.1)
    symbol_okay (over s o xs) z e w =
        let (u, eu, e1) = after-yes (validate_over U ps s o (count xs)) _ z e in
        let (ys, ey, e2) = after-yes (validate_symbols U ps xs) _ z e1 in
        fine (over s o ys) z e2 (over_okay s o ys (count xs) (same_count U ps xs ys ey) u eu w.0, symbols_okay xs ys ey w.1)

    pub symbols_okay : (xs ys : Syms) → validate_symbols U ps xs ≡ yes ys → UnresolvedSyms xs → Okays R ps ys
    symbols_okay nil ys e w = subst (Okays R ps) (yes_inj _ ys e) tt
    symbols_okay (cons x xs) zs e w =
        let (y, ey, e1) = after-yes (validate_symbol U ps x) _ zs e in
        let (ys, eys, e2) = after-yes (validate_symbols U ps xs) _ zs e1 in
        subst (Okays R ps) (yes_inj _ zs e2) (symbol_okay x y ey w.0, symbols_okay xs ys eys w.1)
