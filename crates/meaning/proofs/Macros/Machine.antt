-- A machine that reads printed forms: it goes over a text once, byte by byte, with what is open on a stack. Assumes nothing.
use mathlib.Core.Path.{◌≡◌, refl, ap}
use mathlib.Core.Bool.{cond, ◌&&◌}
use mathlib.Core.List.{[], ◌∷◌, ◌++◌}
use mathlib.Core.Option.{Option, none, some}
use Prim.Native.Nat.{ℕ}
use lib.Dec.{eqb}
use Rattle.octets.specs.Plain.Runs.{same_as}
use Rattle.parse_tree.specs.Plain.Tree.{Text, star, plus, question, Over, macro, group}
use Rattle.parse_tree.specs.Plain.Texts.{in_name, mut_text, error_text}
use Rattle.parse_tree.specs.Plain.Display.{closing}
use Rattle.passes.specs.Outcome.{Tree}
use Rattle.meaning.specs.Phrases.{Phrase, Phrases, token, quoted_token, regex_token, error_token, repeated, sequence, pnil, pcons}
use Rattle.meaning.specs.Meaning.{named, mean_over}

-- ---- lists of phrases
abbrev pub snoc : Phrases → Phrase → Phrases
snoc pnil m = pcons m pnil
snoc (pcons x xs) m = pcons x (snoc xs m)

abbrev pub join : Phrases → Phrases → Phrases
join pnil ys = ys
join (pcons x xs) ys = pcons x (join xs ys)

pub snoc_join : (xs : Phrases) (m : Phrase) (ys : Phrases) → join (snoc xs m) ys ≡ join xs (pcons m ys)
snoc_join pnil m ys = refl
snoc_join (pcons x xs) m ys = ap (pcons x) (snoc_join xs m ys)

pub join-nil : (xs : Phrases) → join xs pnil ≡ xs
join-nil pnil = refl
join-nil (pcons x xs) = ap (pcons x) (join-nil xs)

-- ---- the machine

-- what is open: a choice, or a group or call with what it has so far
pub data Stack : Type 0 where
  bottom : Stack
  in_choice : Stack → Stack
  in_over : Over → Phrases → Stack → Stack

pub data Mode : Type 0 where
  start at_regex at_sign at_comma : Stack → Mode
  in_word in_quoted in_quoted_escape in_regex in_regex_escape at_regex_end : Text → Stack → Mode
  behind : Phrase → Stack → Mode
  stuck : Mode

module _ (G : Tree) where
  abbrev pub says : Text → Phrase
  says n = cond (same_as n error_text) (token error_token) (named G [] n)

  -- a group or call closed with nothing in it
  abbrev pub close : Stack → ℕ → Mode
  close bottom b = stuck
  close (in_choice K) b = stuck
  close (in_over o ms K) b = cond (eqb b (closing o)) (behind (mean_over G [] o ms) K) stuck

  abbrev pub separate : Over → Stack → ℕ → Mode
  separate (macro n) K b = cond (eqb b 44) (at_comma K) stuck
  separate group K b = cond (eqb b 32) (start K) stuck

  -- a byte behind the phrase m that is no operator
  abbrev pub leave : Stack → Phrase → ℕ → Mode
  leave bottom m b = stuck
  leave (in_choice K) m b = cond (eqb b 62) (behind m K) stuck
  leave (in_over o ms K) m b = cond (eqb b (closing o)) (behind (mean_over G [] o (snoc ms m)) K) (separate o (in_over o (snoc ms m) K) b)

  abbrev pub next : Phrase → Stack → ℕ → Mode
  next m K b =
      cond (eqb b 42) (behind (repeated star m) K)
      (cond (eqb b 43) (behind (repeated plus m) K)
      (cond (eqb b 63) (behind (repeated question m) K) (leave K m b)))

  -- letters are tested first, so that one rewrite does for them
  abbrev pub step : Mode → ℕ → Mode
  step (start K) b =
      cond (in_name b) (in_word (b ∷ []) K)
      (cond (eqb b 34) (in_quoted [] K)
      (cond (eqb b 60) (start (in_choice K))
      (cond (eqb b 40) (start (in_over group pnil K))
      (cond (eqb b 64) (at_sign K) (close K b)))))
  step (at_regex K) b = in_regex [] K
  step (at_sign K) b = behind (sequence pnil) K
  step (at_comma K) b = start K
  step (in_word n K) b =
      cond (in_name b) (in_word (n ++ (b ∷ [])) K)
      (cond (eqb b 58) (start K)
      (cond (eqb b 60) (start (in_over (macro n) pnil K))
      (cond (eqb b 32 && same_as n mut_text) (start K)
      (cond (eqb b 35 && same_as n (114 ∷ [])) (at_regex K) (next (says n) K b)))))
  step (in_quoted t K) b = cond (eqb b 34) (behind (token (quoted_token t)) K) (cond (eqb b 92) (in_quoted_escape t K) (in_quoted (t ++ (b ∷ [])) K))
  step (in_quoted_escape t K) b = in_quoted (t ++ (b ∷ [])) K
  step (in_regex t K) b = cond (eqb b 34) (at_regex_end t K) (cond (eqb b 92) (in_regex_escape t K) (in_regex (t ++ (b ∷ [])) K))
  step (in_regex_escape t K) b = in_regex (t ++ (b ∷ [])) K
  step (at_regex_end t K) b = behind (token (regex_token t)) K
  step (behind m K) b = next m K b
  step stuck b = stuck

  abbrev pub done : Stack → Phrase → Option Phrase
  done bottom m = some m
  done (in_choice K) m = none
  done (in_over o ms K) m = none

  abbrev pub finish : Mode → Option Phrase
  finish (start K) = none
  finish (at_regex K) = none
  finish (at_sign K) = none
  finish (at_comma K) = none
  finish (in_word n K) = done K (says n)
  finish (in_quoted t K) = none
  finish (in_quoted_escape t K) = none
  finish (in_regex t K) = none
  finish (in_regex_escape t K) = none
  finish (at_regex_end t K) = none
  finish (behind m K) = done K m
  finish stuck = none

  unfoldable pub run : Mode → Text → Option Phrase
  run μ [] = finish μ
  run μ (b ∷ t) = run (step μ b) t
