-- How a phrase of the resolved tree and one of the levelled tree answer each other. Assumes nothing.
use mathlib.Core.Path.{◌≡◌, refl, sym, ap, ap₂, ◌∙◌, subst}
use mathlib.Core.Logic.{inl, inr}
use Prim.Native.Nat.{ℕ, ◌+◌}
use mathlib.Core.List.{List, [], ◌∷◌, Memᴰ}
use mathlib.Core.Option.{Option, none, some}
use mathlib.Core.Bool.{Bool, true, false, cond, false≢true}
use Rattle.octets.specs.Plain.Runs.{same_as}
use Rattle.octets.proofs.SameLaws.{same_as-eq}
use Rattle.parse_tree.specs.Plain.Tree.{Text, Op, Leaf, Around, Over, Sym, Syms, ambiguous, bare, quoted, regex, nonterminal, lookahead, lookbehind, error, repeat, choose, name, macro, group, leaf, around, over, nil, cons, Condition, Nonterminal, item}
use Rattle.parse_tree.specs.Plain.Texts.{has}
use Rattle.parse_tree.specs.declared.syntax.Span.{Span}
use Rattle.passes.specs.Outcome.{Tree}
use Rattle.passes.specs.Grades.{all, annotated, Graded, graded, ceiling}
use Rattle.meaning.specs.Phrases.{Token, Phrase, Phrases, token, parameter, reference, call, repeated, sequence, pnil, pcons}
use Rattle.meaning.specs.Meaning.{is_terminal, named, mean_leaf, mean_around, mean_over, mean, means, argument, put, puts, of_quoted, holds, occurrences, occurrences_in, mark, marks, own, below}
use Rattle.passes.specs.Levels.{occurs, occurs_in, replace_occurrences, replace_occurrences_in, levelled}
use Rattle.meaning.specs.Premises.{HasItem}
use Rattle.meaning.proofs.Predicates.{OkayLeaf, Okay, Okays, Resolved, named-parameter, named-reference}
use Rattle.meaning.proofs.Simulation.{All2, a_nil, a_cons}
use Rattle.meaning.proofs.Levels.LevelFacts.{Level, Sided, ceiling-level, graded-symbols}
use Rattle.meaning.proofs.Levels.LevelForms.{name_at, substitute_at, level_item, ceiling_in, symbols_at}
use Rattle.meaning.proofs.Levels.LevelItems.{levelled-terminals, levelled-at}

nothing-had : (n : Text) → has n [] ≡ false
unfolding has
nothing-had n = refl

-- the symbols of a graded alternative are looked up, as those of its nonterminal are
pub graded-okay : (R : Tree) → Resolved R → (d : Nonterminal) → Memᴰ (item d) R → d.args ≡ [] → (γ : Graded) → Memᴰ γ (graded d) → Okays R [] γ.alternative.symbols
graded-okay R res d g e γ i = graded-symbols (Okays R []) 0 all d.alternatives (λ a j. subst (λ (l : List Text). Okays R l a.symbols) e (res.symbols d g a j)) γ i

module _ (R : Tree) where
  abbrev L : Tree
  L = levelled R

  mutual
    -- x says in the levelled tree what m says in the resolved one: a ceiling c on a nonterminal is the nonterminal of that level
    pub data Answers : Phrase → Phrase → Type 0 where
      l_token : {t : Token} → Answers (token t) (token t)
      l_parameter : {n : Text} → Answers (parameter n) (parameter n)
      l_reference : {n : Text} → HasItem R n → Answers (reference n none) (reference n none)
      l_ceiling : {n k : Text} {c : ℕ} (d : Nonterminal) → Memᴰ (item d) R → d.name ≡ n → annotated d ≡ true → Level (graded d) c → k ≡ name_at d c
          → Answers (reference n (some c)) (reference k none)
      l_call : {n : Text} {xs ys : Phrases} → AnswersAll xs ys → Answers (call n xs) (call n ys)
      l_repeated : {o : Op} {m x : Phrase} → Answers m x → Answers (repeated o m) (repeated o x)
      l_sequence : {xs ys : Phrases} → AnswersAll xs ys → Answers (sequence xs) (sequence ys)

    pub data AnswersAll : Phrases → Phrases → Type 0 where
      l_nil : AnswersAll pnil pnil
      l_cons : {m x : Phrase} {ms xs : Phrases} → Answers m x → AnswersAll ms xs → AnswersAll (pcons m ms) (pcons x xs)

  -- the other way round
  abbrev pub Answered : Phrase → Phrase → Type 0
  Answered x m = Answers m x

  pub all_answer : {ms xs : Phrases} → AnswersAll ms xs → All2 Answers ms xs
  all_answer l_nil = a_nil
  all_answer (l_cons h hs) = a_cons h (all_answer hs)

  pub all_answered : {ms xs : Phrases} → AnswersAll ms xs → All2 Answered xs ms
  all_answered l_nil = a_nil
  all_answered (l_cons h hs) = a_cons h (all_answered hs)

  -- ---- the symbols of an item without levels
  no_terminal_now : (n : Text) → is_terminal R n ≡ false → is_terminal L n ≡ false
  no_terminal_now n e = levelled-terminals R n ∙ e

  module _ (ps : List Text) where
    leaf_answers : (l : Leaf) → OkayLeaf R ps l → Answers (mean_leaf R ps l) (mean_leaf L ps l)
    leaf_answers (ambiguous n) o = absurd o
    leaf_answers (bare n) o = l_token
    leaf_answers (quoted t) o = l_token
    leaf_answers (regex t) o = l_token
    leaf_answers (nonterminal n) (inl e) = rw (named-parameter R ps n e, named-parameter L ps n e) l_parameter
    leaf_answers (nonterminal n) (inr (e, i, t, h)) = rw (named-reference R ps n e t, named-reference L ps n e (no_terminal_now n t)) (l_reference h)
    leaf_answers lookahead o = l_sequence l_nil
    leaf_answers lookbehind o = l_sequence l_nil
    leaf_answers error o = l_token

    around_answers : (a : Around) {m x : Phrase} → Answers m x → Answers (mean_around R ps a m) (mean_around L ps a x)
    around_answers (repeat o) h = l_repeated h
    around_answers choose h = h
    around_answers (name b n) h = h

    over_answers : (o : Over) {ms xs : Phrases} → AnswersAll ms xs → Answers (mean_over R ps o ms) (mean_over L ps o xs)
    over_answers (macro n) h = l_call h
    over_answers group h = l_sequence h

    mutual
      unfolding mean

      mean_answers : (x : Sym) → Okay R ps x → Answers (mean R ps x) (mean L ps x)
      mean_answers (leaf s l) o = leaf_answers l o
      mean_answers (around s a x) o = around_answers a (mean_answers x o.1)
      mean_answers (over s k xs) o = over_answers k (means_answer xs o.1)

      pub means_answer : (xs : Syms) → Okays R ps xs → AnswersAll (means R ps xs) (means L ps xs)
      means_answer nil o = l_nil
      means_answer (cons x xs) o = l_cons (mean_answers x o.0) (means_answer xs o.1)

  -- ---- arguments put in
  argument-answers : (ps : List Text) {xs ys : Phrases} → AnswersAll xs ys → (n : Text) → Answers (argument ps xs n) (argument ps ys n)
  argument-answers [] h n = l_parameter
  argument-answers (p ∷ ps) l_nil n = l_parameter
  argument-answers (p ∷ ps) (l_cons {m = m} {x = x} {ms = ms} {xs = xs} h hs) n = go (same_as n p) (argument-answers ps hs n)
    where
      go : (b : Bool) → Answers (argument ps ms n) (argument ps xs n) → Answers (cond b m (argument ps ms n)) (cond b x (argument ps xs n))
      go true k = h
      go false k = k

  module _ (ps : List Text) (xs ys : Phrases) (hs : AnswersAll xs ys) where
    mutual
      unfolding put

      put_answers : {m x : Phrase} → Answers m x → Answers (put ps xs m) (put ps ys x)
      put_answers l_token = l_token
      put_answers (l_parameter {n}) = argument-answers ps hs n
      put_answers (l_reference h) = l_reference h
      put_answers (l_ceiling d g e a l q) = l_ceiling d g e a l q
      put_answers (l_call h) = l_call (puts_answer h)
      put_answers (l_repeated h) = l_repeated (put_answers h)
      put_answers (l_sequence h) = l_sequence (puts_answer h)

      pub puts_answer : {ms zs : Phrases} → AnswersAll ms zs → AnswersAll (puts ps xs ms) (puts ps ys zs)
      puts_answer l_nil = l_nil
      puts_answer (l_cons h hs') = l_cons (put_answers h) (puts_answer hs')

  quoted_alike : {m x : Phrase} → Answers m x → (f : Text → Bool) → of_quoted m f ≡ of_quoted x f
  quoted_alike l_token f = refl
  quoted_alike l_parameter f = refl
  quoted_alike (l_reference h) f = refl
  quoted_alike (l_ceiling d g e a l q) f = refl
  quoted_alike (l_call h) f = refl
  quoted_alike (l_repeated h) f = refl
  quoted_alike (l_sequence h) f = refl

  pub holds-alike : (ps : List Text) {xs ys : Phrases} → AnswersAll xs ys → (c : Option Condition) → holds ps xs c ≡ holds ps ys c
  holds-alike ps h none = refl
  holds-alike ps h (some c) = quoted_alike (argument-answers ps h c.lhs) _

  -- ---- the ceilings of an annotated nonterminal d
  module _ (resolved : Resolved (levelled R)) (d : Nonterminal) (g : Memᴰ (item d) R) (an : annotated d ≡ true) where
    pub level_known : (v : ℕ) → Level (graded d) v → is_terminal L (name_at d v) ≡ false
    unfolding level_item
    level_known v l = (resolved.names (level_item d v) (levelled-at R d g an v l)).1

    pub level_named : (v : ℕ) → Level (graded d) v → named L [] (name_at d v) ≡ reference (name_at d v) none
    level_named v l = named-reference L [] (name_at d v) (nothing-had (name_at d v)) (level_known v l)

    -- ---- occurrences are counted alike in symbols and in phrases
    count-leaf : (s : Span) (l : Leaf) → OkayLeaf R [] l → occurrences d.name (mean_leaf R [] l) ≡ occurs d.name (leaf s l)
    unfolding occurrences has occurs
    count-leaf s (ambiguous n) o = absurd o
    count-leaf s (bare n) o = refl
    count-leaf s (quoted t) o = refl
    count-leaf s (regex t) o = refl
    count-leaf s (nonterminal n) (inl e) = absurd (false≢true e)
    count-leaf s (nonterminal n) (inr (e, i, t, h)) = ap (occurrences d.name) (named-reference R [] n e t)
    count-leaf s lookahead o = refl
    count-leaf s lookbehind o = refl
    count-leaf s error o = refl

    count-around : (a : Around) (m : Phrase) → occurrences d.name (mean_around R [] a m) ≡ occurrences d.name m
    unfolding occurrences
    count-around (repeat o) m = refl
    count-around choose m = refl
    count-around (name b n) m = refl

    count-over : (o : Over) (ms : Phrases) → occurrences d.name (mean_over R [] o ms) ≡ occurrences_in d.name ms
    unfolding occurrences
    count-over (macro n) ms = refl
    count-over group ms = refl

    mutual
      unfolding mean occurrences occurs

      count-mean : (x : Sym) → Okay R [] x → occurrences d.name (mean R [] x) ≡ occurs d.name x
      count-mean (leaf s l) o = count-leaf s l o
      count-mean (around s a x) o = count-around a (mean R [] x) ∙ count-mean x o.1
      count-mean (over s k xs) o = count-over k (means R [] xs) ∙ counts_mean xs o.1

      counts_mean : (xs : Syms) → Okays R [] xs → occurrences_in d.name (means R [] xs) ≡ occurs_in d.name xs
      counts_mean nil o = refl
      counts_mean (cons x xs) o = ap₂ ◌+◌ (count-mean x o.0) (counts_mean xs o.1)

    module _ (c : ℕ → ℕ) (levels : (j : ℕ) → Level (graded d) (c j)) where
      abbrev names : ℕ → Text
      names j = name_at d (c j)

      abbrev Marked : Phrase → Phrase → ℕ → Type 0
      Marked m x i = Answers (mark d.name c m i) x

      mark_nonterminal : (s : Span) (n : Text) (i : ℕ) → has n [] ≡ false → is_terminal R n ≡ false → HasItem R n
          → Marked (named R [] n) (mean L [] (replace_occurrences d.name names (leaf s (nonterminal n)) i)) i
      unfolding mean mark replace_occurrences
      mark_nonterminal s n i e t h = rw (named-reference R [] n e t) (go (same_as n d.name) refl)
        where
          go : (b : Bool) → same_as n d.name ≡ b → Answers (cond b (reference n (some (c i))) (reference n none)) (mean_leaf L [] (cond b (nonterminal (names i)) (nonterminal n)))
          go true q = rw (level_named (c i) (levels i)) (l_ceiling d g (sym (same_as-eq n d.name q)) an (levels i) refl)
          go false q = rw (named-reference L [] n e (no_terminal_now n t)) (l_reference h)

      mark_leaf : (s : Span) (l : Leaf) → OkayLeaf R [] l → (i : ℕ) → Marked (mean_leaf R [] l) (mean L [] (replace_occurrences d.name names (leaf s l) i)) i
      unfolding mean mark has replace_occurrences
      mark_leaf s (ambiguous n) o i = absurd o
      mark_leaf s (bare n) o i = l_token
      mark_leaf s (quoted t) o i = l_token
      mark_leaf s (regex t) o i = l_token
      mark_leaf s (nonterminal n) (inl e) i = absurd (false≢true e)
      mark_leaf s (nonterminal n) (inr (e, id, t, h)) i = mark_nonterminal s n i e t h
      mark_leaf s lookahead o i = l_sequence l_nil
      mark_leaf s lookbehind o i = l_sequence l_nil
      mark_leaf s error o i = l_token

      mark_around : (a : Around) (m x : Phrase) (i : ℕ) → Marked m x i → Marked (mean_around R [] a m) (mean_around L [] a x) i
      unfolding mark
      mark_around (repeat o) m x i h = l_repeated h
      mark_around choose m x i h = h
      mark_around (name b n) m x i h = h

      mark_over : (o : Over) (ms xs : Phrases) (i : ℕ) → AnswersAll (marks d.name c ms i) xs → Marked (mean_over R [] o ms) (mean_over L [] o xs) i
      unfolding mark
      mark_over (macro n) ms xs i h = l_call h
      mark_over group ms xs i h = l_sequence h

      mutual
        unfolding mean mark replace_occurrences

        mark_mean : (x : Sym) → Okay R [] x → (i : ℕ) → Marked (mean R [] x) (mean L [] (replace_occurrences d.name names x i)) i
        mark_mean (leaf s l) o i = mark_leaf s l o i
        mark_mean (around s a x) o i = mark_around a (mean R [] x) (mean L [] (replace_occurrences d.name names x i)) i (mark_mean x o.1 i)
        mark_mean (over s k xs) o i = mark_over k (means R [] xs) (means L [] (replace_occurrences_in d.name names xs i)) i (marks_mean xs o.1 i)

        marks_mean : (xs : Syms) → Okays R [] xs → (i : ℕ) → AnswersAll (marks d.name c (means R [] xs) i) (means L [] (replace_occurrences_in d.name names xs i))
        marks_mean nil o i = l_nil
        marks_mean (cons x xs) o i =
            l_cons (mark_mean x o.0 i)
            (subst (λ (k : ℕ). AnswersAll (marks d.name c (means R [] xs) (i + k)) (means L [] (replace_occurrences_in d.name names xs (i + occurs d.name x)))) (sym (count-mean x o.0))
            (marks_mean xs o.1 (i + occurs d.name x)))

    -- an own alternative with its ceilings, and the alternative of the level's item
    pub own-answers : Sided d → (γ : Graded) → Memᴰ γ (graded d) → Okays R [] γ.alternative.symbols
        → AnswersAll (own d.name d γ (means R [] γ.alternative.symbols)) (means L [] (substitute_at d γ).symbols)
    own-answers sided γ i o =
        let xs : Syms = γ.alternative.symbols in
        subst (λ (ys : Syms). AnswersAll (own d.name d γ (means R [] xs)) (means L [] ys)) (sym (symbols_at d sided γ i))
        (subst
        (λ (t : ℕ).
        AnswersAll (marks d.name (ceiling γ.side γ.level (below γ.level (graded d)) t) (means R [] xs) 0) (means L [] (replace_occurrences_in d.name (λ j. name_at d (ceiling_in d γ j)) xs 0)))
        (sym (counts_mean xs o))
        (marks_mean (ceiling_in d γ) (ceiling-level d sided γ i (occurs_in d.name xs)) xs o 0))
