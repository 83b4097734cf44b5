-- A printed form can be read in one way: the machine comes to what the symbol says, whatever stands behind it. Assumes nothing.
use mathlib.Core.Path.{◌≡◌, refl, sym, ap, ◌∙◌}
use mathlib.Core.Bool.{Bool, true, false, cond, ◌||◌, false≢true}
use mathlib.Mathlib.Data.Bool.Basic.{and_elim_left, and_elim_right}
use mathlib.Core.List.{[], ◌∷◌, ◌++◌, append_assoc, append-nil}
use mathlib.Core.Option.{Option, some}
use Prim.Native.Nat.{ℕ}
use lib.Dec.{eqb}
use Rattle.octets.specs.Plain.Runs.{same_as}
use Rattle.parse_tree.specs.Plain.Tree.{Text, Op, star, plus, question, Leaf, Around, Over, Sym, Syms, ambiguous, bare, quoted, regex, nonterminal, lookahead, lookbehind, error, repeat, choose, name, macro, group, leaf, around, over, nil, cons}
use Rattle.parse_tree.specs.Plain.Texts.{has, every, starts_name, in_name, mut_text, error_text}
use Rattle.parse_tree.specs.Plain.Display.{escaped, shown_op, shown_leaf, shown_before, shown_behind, opening, separator, closing, shown, shown_all, shown_more, print}
use Rattle.passes.specs.Outcome.{Tree}
use Rattle.meaning.specs.Phrases.{Phrase, Phrases, token, quoted_token, regex_token, error_token, bare_token, repeated, pnil}
use Rattle.meaning.specs.Meaning.{is_terminal, named, mean_leaf, mean_around, mean_over, mean, means}
use Rattle.meaning.proofs.Basics.{some_inj}
use Rattle.meaning.proofs.Macros.Machine.{snoc, join, snoc_join, join-nil, Stack, bottom, in_choice, in_over, Mode, start, in_word, in_quoted, in_regex, behind, says, next, step, run}
use Rattle.meaning.proofs.Predicates.{Ident, IdentAround, IdentOver, PureLeaf, Pure, Pures}

module _ (G : Tree) where
  -- ---- what may stand behind a symbol
  data Follow : Text → Type 0 where
    f_end : Follow []
    f_op : (o : Op) {r : Text} → Follow (shown_op o ∷ r)
    f_comma : {r : Text} → Follow (44 ∷ r)
    f_space : {r : Text} → Follow (32 ∷ r)
    f_gt : {r : Text} → Follow (62 ∷ r)
    f_close : {r : Text} → Follow (41 ∷ r)

  -- ---- words
  run_word : (n : Text) (K : Stack) {r : Text} → same_as n mut_text ≡ false → Follow r → run G (in_word n K) r ≡ run G (behind (says G n) K) r
  unfolding run in_name starts_name
  run_word n K e f_end = refl
  run_word n K e (f_op star) = refl
  run_word n K e (f_op plus) = refl
  run_word n K e (f_op question) = refl
  run_word n K e f_comma = refl
  run_word n K e (f_space {r = r}) = ap (λ (b : Bool). run G (cond b (start K) (next G (says G n) K 32)) r) e
  run_word n K e f_gt = refl
  run_word n K e f_close = refl

  step-word : (read : Text) (b : ℕ) (K : Stack) → in_name b ≡ true → step G (in_word read K) b ≡ in_word (read ++ (b ∷ [])) K
  step-word read b K e = rw e

  step-first : (b : ℕ) (K : Stack) → in_name b ≡ true → step G (start K) b ≡ in_word (b ∷ []) K
  step-first b K e = rw e

  run_letters : (read n : Text) (K : Stack) (r : Text) → every in_name n ≡ true → run G (in_word read K) (n ++ r) ≡ run G (in_word (read ++ n) K) r
  unfolding run every
  run_letters read [] K r e = ap (λ (t : Text). run G (in_word t K) r) (sym (append-nil read))
  run_letters read (b ∷ bs) K r e =
      ap (λ (μ : Mode). run G μ (bs ++ r)) (step-word read b K (and_elim_left (in_name b) (every in_name bs) e))
      ∙ run_letters (read ++ (b ∷ [])) bs K r (and_elim_right (in_name b) (every in_name bs) e)
      ∙ ap (λ (t : Text). run G (in_word t K) r) (append_assoc read (b ∷ []) bs)

  run_ident : (n : Text) (K : Stack) (r : Text) → Ident n → run G (start K) (n ++ r) ≡ run G (in_word n K) r
  unfolding run every
  run_ident [] K r i = absurd (false≢true i.first)
  run_ident (b ∷ bs) K r i =
      ap (λ (μ : Mode). run G μ (bs ++ r)) (step-first b K (and_elim_left (in_name b) (every in_name bs) i.rest))
      ∙ run_letters (b ∷ []) bs K r (and_elim_right (in_name b) (every in_name bs) i.rest)

  -- a whole word
  run_name : (n : Text) (K : Stack) (r : Text) → Ident n → Follow r → run G (start K) (n ++ r) ≡ run G (behind (named G [] n) K) r
  run_name n K r i f =
      run_ident n K r i ∙ run_word n K i.no_mut f
      ∙ ap (λ (b : Bool). run G (behind (cond b (token error_token) (named G [] n)) K) r) i.no_error

  -- ---- literals: what both escapes and plain bytes do
  step-quoted : (read : Text) (b : ℕ) (K : Stack) → eqb b 34 ≡ false → eqb b 92 ≡ false → step G (in_quoted read K) b ≡ in_quoted (read ++ (b ∷ [])) K
  step-quoted read b K e f = rw (e, f)

  step-regex : (read : Text) (b : ℕ) (K : Stack) → eqb b 34 ≡ false → eqb b 92 ≡ false → step G (in_regex read K) b ≡ in_regex (read ++ (b ∷ [])) K
  step-regex read b K e f = rw (e, f)

  abbrev AfterQuoted : Text → Stack → Text → Option Phrase
  AfterQuoted t K r = run G (behind (token (quoted_token t)) K) r

  run_quoted : (read t : Text) (K : Stack) (r : Text) → run G (in_quoted read K) (escaped t (34 ∷ r)) ≡ AfterQuoted (read ++ t) K r
  unfolding run escaped
  run_quoted read [] K r = ap (λ (t : Text). AfterQuoted t K r) (sym (append-nil read))
  run_quoted read (b ∷ bs) K r =
      go (eqb b 34) (eqb b 92) refl refl (run_quoted (read ++ (b ∷ [])) bs K r ∙ ap (λ (t : Text). AfterQuoted t K r) (append_assoc read (b ∷ []) bs))
    where
      go : (x y : Bool) → eqb b 34 ≡ x → eqb b 92 ≡ y → run G (in_quoted (read ++ (b ∷ [])) K) (escaped bs (34 ∷ r)) ≡ AfterQuoted (read ++ (b ∷ bs)) K r →
          run G (in_quoted read K) (cond {A = Text} (x || y) (92 ∷ b ∷ escaped bs (34 ∷ r)) (b ∷ escaped bs (34 ∷ r))) ≡ AfterQuoted (read ++ (b ∷ bs)) K r
      go true y ex ey ih = ih
      go false true ex ey ih = ih
      go false false ex ey ih = ap (λ (μ : Mode). run G μ (escaped bs (34 ∷ r))) (step-quoted read b K ex ey) ∙ ih

  abbrev AfterRegex : Text → Stack → Text → Option Phrase
  AfterRegex t K r = run G (behind (token (regex_token t)) K) r

  run_regex : (read t : Text) (K : Stack) (r : Text) → run G (in_regex read K) (escaped t (34 ∷ 35 ∷ r)) ≡ AfterRegex (read ++ t) K r
  unfolding run escaped
  run_regex read [] K r = ap (λ (t : Text). AfterRegex t K r) (sym (append-nil read))
  run_regex read (b ∷ bs) K r =
      go (eqb b 34) (eqb b 92) refl refl (run_regex (read ++ (b ∷ [])) bs K r ∙ ap (λ (t : Text). AfterRegex t K r) (append_assoc read (b ∷ []) bs))
    where
      go : (x y : Bool) → eqb b 34 ≡ x → eqb b 92 ≡ y → run G (in_regex (read ++ (b ∷ [])) K) (escaped bs (34 ∷ 35 ∷ r)) ≡ AfterRegex (read ++ (b ∷ bs)) K r →
          run G (in_regex read K) (cond {A = Text} (x || y) (92 ∷ b ∷ escaped bs (34 ∷ 35 ∷ r)) (b ∷ escaped bs (34 ∷ 35 ∷ r))) ≡ AfterRegex (read ++ (b ∷ bs)) K r
      go true y ex ey ih = ih
      go false true ex ey ih = ih
      go false false ex ey ih = ap (λ (μ : Mode). run G μ (escaped bs (34 ∷ 35 ∷ r))) (step-regex read b K ex ey) ∙ ih

  -- ---- symbols with nothing inside
  named-terminal : (n : Text) → is_terminal G n ≡ true → named G [] n ≡ token (bare_token n)
  unfolding named has
  named-terminal n e = rw e

  read_leaf : (l : Leaf) → PureLeaf G l → (K : Stack) (r : Text) → Follow r → run G (start K) (shown_leaf l r) ≡ run G (behind (mean_leaf G [] l) K) r
  unfolding shown_leaf run same_as in_name starts_name
  read_leaf (ambiguous n) p K r f = absurd p
  read_leaf (bare n) p K r f = run_name n K r p.0 f ∙ ap (λ (m : Phrase). run G (behind m K) r) (named-terminal n p.1)
  read_leaf (quoted t) p K r f = run_quoted [] t K r
  read_leaf (regex t) p K r f = run_regex [] t K r
  read_leaf (nonterminal n) p K r f = run_name n K r p.0 f
  read_leaf lookahead p K r f = refl
  read_leaf lookbehind p K r f = refl
  read_leaf error p K r f = run_word error_text K refl f

  -- ---- symbols around another: what is read before it, and behind it
  abbrev within : Around → Stack → Stack
  within (repeat o) K = K
  within choose K = in_choice K
  within (name m n) K = K

  run_colon : (n : Text) (K : Stack) (r : Text) → Ident n → run G (start K) (n ++ (58 ∷ r)) ≡ run G (start K) r
  unfolding run in_name starts_name
  run_colon n K r i = run_ident n K (58 ∷ r) i

  run_before : (a : Around) → IdentAround a → (K : Stack) (r : Text) → run G (start K) (shown_before a r) ≡ run G (start (within a K)) r
  unfolding shown_before run same_as in_name starts_name
  run_before (repeat o) i K r = refl
  run_before choose i K r = refl
  run_before (name true n) i K r = run_colon n K r i
  run_before (name false n) i K r = run_colon n K r i

  follow_behind : (a : Around) {r : Text} → Follow r → Follow (shown_behind a r)
  unfolding shown_behind
  follow_behind (repeat o) f = f_op o
  follow_behind choose f = f_gt
  follow_behind (name m n) f = f

  run_op : (o : Op) (m : Phrase) (K : Stack) (r : Text) → run G (behind m K) (shown_op o ∷ r) ≡ run G (behind (repeated o m) K) r
  unfolding run
  run_op star m K r = refl
  run_op plus m K r = refl
  run_op question m K r = refl

  run_behind : (a : Around) (m : Phrase) (K : Stack) (r : Text) → run G (behind m (within a K)) (shown_behind a r) ≡ run G (behind (mean_around G [] a m) K) r
  unfolding shown_behind run
  run_behind (repeat o) m K r = run_op o m K r
  run_behind choose m K r = refl
  run_behind (name b n) m K r = refl

  -- ---- symbols over a list: what is read before, between and behind the symbols
  run_opening : (o : Over) → IdentOver o → (K : Stack) (r : Text) → run G (start K) (opening o r) ≡ run G (start (in_over o pnil K)) r
  unfolding opening run in_name starts_name
  run_opening (macro n) i K r = run_ident n K (60 ∷ r) i
  run_opening group i K r = refl

  run_separator : (o : Over) (ms : Phrases) (m : Phrase) (K : Stack) (r : Text) → run G (behind m (in_over o ms K)) (separator o ++ r) ≡ run G (start (in_over o (snoc ms m) K)) r
  unfolding run
  run_separator (macro n) ms m K r = refl
  run_separator group ms m K r = refl

  run_closing : (o : Over) (ms : Phrases) (m : Phrase) (K : Stack) (r : Text) → run G (behind m (in_over o ms K)) (closing o ∷ r) ≡ run G (behind (mean_over G [] o (snoc ms m)) K) r
  unfolding run
  run_closing (macro n) ms m K r = refl
  run_closing group ms m K r = refl

  run_empty : (o : Over) (K : Stack) (r : Text) → run G (start (in_over o pnil K)) (closing o ∷ r) ≡ run G (behind (mean_over G [] o pnil) K) r
  unfolding run in_name starts_name
  run_empty (macro n) K r = refl
  run_empty group K r = refl

  follow_more : (xs : Syms) (o : Over) (r : Text) → Follow (shown_more xs (separator o) (closing o ∷ r))
  unfolding shown
  follow_more nil (macro n) r = f_gt
  follow_more nil group r = f_close
  follow_more (cons x xs) (macro n) r = f_comma
  follow_more (cons x xs) group r = f_space

  -- ---- symbols
  mutual
    unfolding shown mean

    read : (x : Sym) → Pure G x → (K : Stack) (r : Text) → Follow r → run G (start K) (shown x r) ≡ run G (behind (mean G [] x) K) r
    read (leaf s l) p K r f = read_leaf l p K r f
    read (around s a x) p K r f =
        run_before a p.0 K (shown x (shown_behind a r)) ∙ read x p.1 (within a K) (shown_behind a r) (follow_behind a f) ∙ run_behind a (mean G [] x) K r
    read (over s o xs) p K r f = run_opening o p.0 K (shown_all xs (separator o) (closing o ∷ r)) ∙ read_all xs p.1 o K r

    read_all : (xs : Syms) → Pures G xs → (o : Over) (K : Stack) (r : Text) →
        run G (start (in_over o pnil K)) (shown_all xs (separator o) (closing o ∷ r)) ≡ run G (behind (mean_over G [] o (means G [] xs)) K) r
    read_all nil p o K r = run_empty o K r
    read_all (cons x xs) p o K r =
        read x p.0 (in_over o pnil K) (shown_more xs (separator o) (closing o ∷ r)) (follow_more xs o r) ∙ read_more xs p.1 o pnil (mean G [] x) K r

    read_more : (xs : Syms) → Pures G xs → (o : Over) (ms : Phrases) (m : Phrase) (K : Stack) (r : Text) →
        run G (behind m (in_over o ms K)) (shown_more xs (separator o) (closing o ∷ r)) ≡ run G (behind (mean_over G [] o (join (snoc ms m) (means G [] xs))) K) r
    read_more nil p o ms m K r = run_closing o ms m K r ∙ ap (λ (l : Phrases). run G (behind (mean_over G [] o l) K) r) (sym (join-nil (snoc ms m)))
    read_more (cons x xs) p o ms m K r =
        run_separator o ms m K (shown x (shown_more xs (separator o) (closing o ∷ r)))
        ∙ read x p.0 (in_over o (snoc ms m) K) (shown_more xs (separator o) (closing o ∷ r)) (follow_more xs o r)
        ∙ read_more xs p.1 o (snoc ms m) (mean G [] x) K r
        ∙ ap (λ (l : Phrases). run G (behind (mean_over G [] o l) K) r) (snoc_join (snoc ms m) (mean G [] x) (means G [] xs))

  whole : (x : Sym) → Pure G x → run G (start bottom) (print x) ≡ some (mean G [] x)
  unfolding print run
  whole x p = read x p bottom [] f_end

  -- symbols with the same printed form say the same
  pub uniq : (a b : Sym) → Pure G a → Pure G b → print a ≡ print b → mean G [] a ≡ mean G [] b
  uniq a b p q e = some_inj (mean G [] a) (mean G [] b) (sym (whole a p) ∙ ap (run G (start bottom)) e ∙ whole b q)
