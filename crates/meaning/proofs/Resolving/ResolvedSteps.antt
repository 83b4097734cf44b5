-- The resolved tree has the steps of the tree, and passed questions 5 to 13. Assumes nothing.
use mathlib.Core.Path.{◌≡◌, refl, sym, ap, ap₂, ◌∙◌, subst}
use mathlib.Core.Logic.{◌↔◌}
use Prim.Native.Nat.{ℕ}
use mathlib.Core.List.{List, [], ◌++◌, Memᴰ}
use mathlib.Core.Option.{Option, none}
use mathlib.Core.Bool.{Bool, true, false, cond}
use Rattle.parse_tree.specs.Plain.Tree.{Text, Leaf, Around, Over, Sym, Syms, ambiguous, bare, quoted, regex, nonterminal, lookahead, lookbehind, error, repeat, choose, name, macro, group, leaf, around, over, nil, cons, Condition, Alternative, Nonterminal, item}
use Rattle.parse_tree.specs.Plain.Texts.{has}
use Rattle.passes.specs.Outcome.{Tree, yes}
use Rattle.passes.specs.Grades.{Side, all, annotated, Graded, graded, ceiling}
use Rattle.meaning.specs.Phrases.{Token, Phrase, Phrases, token, bare_token, parameter, reference, call, sequence, pcons}
use Rattle.meaning.specs.Meaning.{is_terminal, named, mean_leaf, mean_around, mean_over, mean, means, puts, holds, occurrences_in, marks, Under, own, Step, s_plain, s_level, s_call, s_sequence, s_question_none, s_question_one, s_star_none, s_star_plus, s_plus_one, s_plus_more, Derives, below}
use Rattle.passes.specs.Resolve.{Global, externs, matches, globals, check_globals, resolve}
use Rattle.meaning.specs.Premises.{HasItem}
use Rattle.passes.proofs.Outcomes.{after-yes}
use Rattle.meaning.proofs.Predicates.{Unresolved, Ident, Okays, Resolved}
use Rattle.meaning.proofs.Idents.{ident_of}
use Rattle.meaning.proofs.Simulation.{include}
use Rattle.meaning.proofs.Resolving.Globals.{Distinct, check_distinct, one_nonterminal, no_terminal}
use Rattle.meaning.proofs.Resolving.ResolvedMeaning.{symbols_mean, symbols_okay}
use Rattle.meaning.proofs.Resolving.Alike.{alike_to, alike_from, AlternativeLike, GradedLike, annotated-like, graded-like, below-like, Like, ItemsLike, items_like, item_to, item_from, terminals_like, nonterminals-like}

-- ---- what a symbol means depends on the tree's terminals only
module _ (U R : Tree) (same_terminals : (n : Text) → is_terminal R n ≡ is_terminal U n) (ps : List Text) where
  named-tree : (n : Text) → named R ps n ≡ named U ps n
  unfolding named
  named-tree n = ap (λ (b : Bool). cond (has n ps) (parameter n) (cond b (token (bare_token n)) (reference n none))) (same_terminals n)

  leaf_tree : (l : Leaf) → mean_leaf R ps l ≡ mean_leaf U ps l
  leaf_tree (ambiguous n) = named-tree n
  leaf_tree (bare n) = refl
  leaf_tree (quoted t) = refl
  leaf_tree (regex t) = refl
  leaf_tree (nonterminal n) = named-tree n
  leaf_tree lookahead = refl
  leaf_tree lookbehind = refl
  leaf_tree error = refl

  around_tree : (a : Around) (x y : Phrase) → x ≡ y → mean_around R ps a x ≡ mean_around U ps a y
  around_tree (repeat o) x y e = ap (mean_around R ps (repeat o)) e
  around_tree choose x y e = e
  around_tree (name m n) x y e = e

  over_tree : (o : Over) (xs ys : Phrases) → xs ≡ ys → mean_over R ps o xs ≡ mean_over U ps o ys
  over_tree (macro n) xs ys e = ap (call n) e
  over_tree group xs ys e = ap sequence e

  mutual
    unfolding mean

    pub mean_tree : (x : Sym) → mean R ps x ≡ mean U ps x
    mean_tree (leaf s l) = leaf_tree l
    mean_tree (around s a x) = around_tree a (mean R ps x) (mean U ps x) (mean_tree x)
    mean_tree (over s o xs) = over_tree o (means R ps xs) (means U ps xs) (means_tree xs)

    pub means_tree : (xs : Syms) → means R ps xs ≡ means U ps xs
    means_tree nil = refl
    means_tree (cons x xs) = ap₂ pcons (mean_tree x) (means_tree xs)

-- ---- the resolved tree
module _ (U R : Tree) (premises : Unresolved U) (resolves : resolve U ≡ yes R) where
  distinct-globals : Distinct [] (globals U)
  unfolding resolve
  distinct-globals = let (u, eu, e1) = after-yes (check_globals [] (globals U)) _ R resolves in check_distinct [] (globals U) eu

  alike : ItemsLike U U R
  unfolding resolve
  alike = let (u, eu, e1) = after-yes (check_globals [] (globals U)) _ R resolves in items_like U U R e1

  pub same_terminals : (n : Text) → is_terminal R n ≡ is_terminal U n
  same_terminals = terminals_like U alike

  to : (d : Nonterminal) → Memᴰ (item d) U → (e : Nonterminal) × Memᴰ (item e) R × Like U d e
  to = item_to U alike

  from : (e : Nonterminal) → Memᴰ (item e) R → (d : Nonterminal) × Memᴰ (item d) U × Like U d e
  from = item_from U alike

  same_items : (d : Nonterminal) → Memᴰ (item d) U → (e : Nonterminal) × Memᴰ (item e) R × (e.name ≡ d.name) × (e.args ≡ d.args)
  same_items d g = let (e, i, l) = to d g in (e, i, l.name, l.args)

  pub has-item : (n : Text) → HasItem U n → HasItem R n
  has-item n (d, g, e, p) = let (d', g', q, r) = same_items d g in (d', g', q ∙ e, r ∙ p)

  same_means : (ps qs : List Text) → ps ≡ qs → (a b : Alternative) → AlternativeLike U ps a b → means R qs b.symbols ≡ means U qs a.symbols
  same_means ps qs e a b l =
      subst (λ (z : List Text). means R z b.symbols ≡ means U z a.symbols) e (means_tree U R same_terminals ps b.symbols ∙ symbols_mean U ps a.symbols b.symbols l.symbols)

  -- level and next lower level, as one
  abbrev lows : Graded → Nonterminal → ℕ × ℕ
  lows g d = (g.level, below g.level (graded d))

  same_own : (n : Text) (d e : Nonterminal) (g h : Graded) (ms : Phrases) → Like U d e → GradedLike U d.args g h → own n e h ms ≡ own n d g ms
  same_own n d e g h ms l k = ap (λ (f : ℕ → ℕ). marks n f ms 0) (ap₂ (λ (s : Side) (z : ℕ × ℕ). ceiling s z.0 z.1 (occurrences_in n ms)) k.side pair)
    where
      pair : ◌≡◌ {A = ℕ × ℕ} (lows h e) (lows g d)
      pair = ap {B = ℕ × ℕ} (λ v. (v, below v (graded e))) k.level ∙ ap {B = ℕ × ℕ} (λ b. (g.level, b)) (below-like U d.args g.level (graded-like U d.args 0 all l.alternatives))

  -- in a macro: the arguments, and what is put in
  same_holds : (xs : Phrases) (d e : Nonterminal) (a b : Alternative) → Like U d e → AlternativeLike U d.args a b → holds e.args xs b.condition ≡ holds d.args xs a.condition
  same_holds xs d e a b l k = ap₂ (λ (ps : List Text) (o : Option Condition). holds ps xs o) l.args k.condition

  same_puts : (xs : Phrases) (d e : Nonterminal) (a b : Alternative) → Like U d e → AlternativeLike U d.args a b
      → puts e.args xs (means R e.args b.symbols) ≡ puts d.args xs (means U d.args a.symbols)
  same_puts xs d e a b l k =
      ap₂ (λ (ps : List Text) (ms : Phrases). puts ps xs ms) l.args (ap (λ (z : List Text). means R z b.symbols) l.args ∙ same_means d.args d.args refl a b k)

  step-to : {m : Phrase} {ms : Phrases} → Step true U m ms → Step true R m ms
  step-to (s_plain d a g e p i an q) =
      let (d', g', l) = to d g in
      let (a', i', k) = alike_to Alternative (AlternativeLike U d.args) l.alternatives a i in
      s_plain d' a' g' (l.name ∙ e) (l.args ∙ p) i' (annotated-like U d.args l.alternatives ∙ an) (q ∙ sym (same_means d.args [] p a a' k))
  step-to (s_level {n = n} {c = c} d γ g e p i an u q) =
      let (d', g', l) = to d g in
      let (γ', i', k) = alike_to Graded (GradedLike U d.args) (graded-like U d.args 0 all l.alternatives) γ i in
      s_level d' γ' g' (l.name ∙ e) (l.args ∙ p) i' (annotated-like U d.args l.alternatives ∙ an) (subst (Under c) (sym k.level) u)
      (q ∙ sym (same_own n d d' γ γ' (means R [] γ'.alternative.symbols) l k ∙ ap (own n d γ) (same_means d.args [] p γ.alternative γ'.alternative k.alternative)))
  step-to (s_call {xs = xs} d a g e ne i c q) =
      let (d', g', l) = to d g in
      let (a', i', k) = alike_to Alternative (AlternativeLike U d.args) l.alternatives a i in
      s_call d' a' g' (l.name ∙ e) (λ z. ne (sym l.args ∙ z)) i' (same_holds xs d d' a a' l k ∙ c) (q ∙ sym (same_puts xs d d' a a' l k))
  step-to s_sequence = s_sequence
  step-to s_question_none = s_question_none
  step-to s_question_one = s_question_one
  step-to s_star_none = s_star_none
  step-to s_star_plus = s_star_plus
  step-to s_plus_one = s_plus_one
  step-to s_plus_more = s_plus_more

  step_from : {m : Phrase} {ms : Phrases} → Step true R m ms → Step true U m ms
  step_from (s_plain d' a' g' e p i' an q) =
      let (d, g, l) = from d' g' in
      let (a, i, k) = alike_from Alternative (AlternativeLike U d.args) l.alternatives a' i' in
      let p' : d.args ≡ [] = sym l.args ∙ p in
      s_plain d a g (sym l.name ∙ e) p' i (sym (annotated-like U d.args l.alternatives) ∙ an) (q ∙ same_means d.args [] p' a a' k)
  step_from (s_level {n = n} {c = c} d' γ' g' e p i' an u q) =
      let (d, g, l) = from d' g' in
      let (γ, i, k) = alike_from Graded (GradedLike U d.args) (graded-like U d.args 0 all l.alternatives) γ' i' in
      let p' : d.args ≡ [] = sym l.args ∙ p in
      s_level d γ g (sym l.name ∙ e) p' i (sym (annotated-like U d.args l.alternatives) ∙ an) (subst (Under c) k.level u)
      (q ∙ same_own n d d' γ γ' (means R [] γ'.alternative.symbols) l k ∙ ap (own n d γ) (same_means d.args [] p' γ.alternative γ'.alternative k.alternative))
  step_from (s_call {xs = xs} d' a' g' e ne i' c q) =
      let (d, g, l) = from d' g' in
      let (a, i, k) = alike_from Alternative (AlternativeLike U d.args) l.alternatives a' i' in
      s_call d a g (sym l.name ∙ e) (λ z. ne (l.args ∙ z)) i (sym (same_holds xs d d' a a' l k) ∙ c) (q ∙ same_puts xs d d' a a' l k)
  step_from s_sequence = s_sequence
  step_from s_question_none = s_question_none
  step_from s_question_one = s_question_one
  step_from s_star_none = s_star_none
  step_from s_star_plus = s_star_plus
  step_from s_plus_one = s_plus_one
  step_from s_plus_more = s_plus_more

  pub resolved-derives : (N : Text) (w : List Token) → Derives R N w ↔ Derives U N w
  resolved-derives N w = (include (Step true R) (Step true U) (λ m ms. step_from), include (Step true U) (Step true R) (λ m ms. step-to))

  one_item : (d e : Nonterminal) → Memᴰ (item d) R → Memᴰ (item e) R → d.name ≡ e.name → d ≡ e
  one_item = one_nonterminal [] R (externs U ++ matches U) (subst (λ (z : List Global). Distinct [] (z ++ (externs U ++ matches U))) (sym (nonterminals-like U alike)) distinct-globals)

  pub resolved : Resolved R
  resolved = record {
    symbols = λ d' g' a' i'.
        (let (d, g, l) = from d' g' in
        let (a, i, k) = alike_from Alternative (AlternativeLike U d.args) l.alternatives a' i' in
        subst (λ (z : List Text). Okays R z a'.symbols) (sym l.args)
        (symbols_okay U R distinct-globals same_terminals same_items d.args a.symbols a'.symbols k.symbols (premises.symbols d g a i)));
    distinct = one_item;
    idents = λ n t. ident_of n (premises.terminals n (sym (same_terminals n) ∙ t));
    names = λ d' g'.
        (let (d, g, l) = from d' g' in (
          subst Ident (sym l.name) (ident_of d.name (premises.names d g)),
          same_terminals d'.name ∙ subst (λ (z : Text). is_terminal U z ≡ false) (sym l.name) (no_terminal U distinct-globals d g),
        ));
  }

  pub resolved-plain : (d : Nonterminal) → Memᴰ (item d) R → annotated d ≡ true → d.args ≡ []
  resolved-plain d' g' an = let (d, g, l) = from d' g' in l.args ∙ premises.no_macro d g (sym (annotated-like U d.args l.alternatives) ∙ an)
