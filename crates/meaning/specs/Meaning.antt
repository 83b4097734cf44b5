-- What a tree derives. Assumes nothing: these are definitions.
use Rattle.std.specs.Prelude.{◌≡◌, ◌≢◌, ℕ, ◌+◌, ◌≤◌, Bool, true, false, cond, not, ◌&&◌, ◌||◌, ltb, leb}
use mathlib.Core.List.{List, [], ◌∷◌, Memᴰ}
use Rattle.std.proofs.Math.Option.{Option, none, some}
use Rattle.octets.specs.Plain.Runs.{same_as}
use Rattle.parse_tree.specs.Plain.Tree.{Text, star, plus, question, Leaf, Around, Over, Sym, Syms, ambiguous, bare, quoted, regex, nonterminal, lookahead, lookbehind, error, repeat, choose, name, macro, group, leaf, around, over, nil, cons, Condition, Alternative, Nonterminal, Item, item}
use Rattle.parse_tree.specs.Plain.Texts.{has}
use Rattle.passes.specs.Outcome.{Tree}
use Rattle.passes.specs.Grades.{annotated, Graded, graded, ceiling}
use Rattle.meaning.specs.Phrases.{Token, bare_token, quoted_token, regex_token, error_token, Phrase, Phrases, token, parameter, reference, call, repeated, sequence, pnil, pcons, DerivesFrom}

-- ---- reading a symbol

-- whether a name is a terminal of the tree
abbrev pub is_terminal : Tree → Text → Bool
is_terminal [] n = false
is_terminal (item d ∷ rest) n = is_terminal rest n
is_terminal (Item.terminal s o t ∷ rest) n = same_as n t || is_terminal rest n

-- "A 20 or 24 means its item's argument of that name, otherwise the global, a terminal being the 21 of its name"
unfoldable pub named : Tree → List Text → Text → Phrase
named G ps n = cond (has n ps) (parameter n) (cond (is_terminal G n) (token (bare_token n)) (reference n none))

-- G is the tree, ps the arguments of the item that the symbol was written in
module _ (G : Tree) (ps : List Text) where
  -- "`@L` and `@R` the empty string"
  abbrev pub mean_leaf : Leaf → Phrase
  mean_leaf (ambiguous n) = named G ps n
  mean_leaf (bare n) = token (bare_token n)
  mean_leaf (quoted t) = token (quoted_token t)
  mean_leaf (regex t) = token (regex_token t)
  mean_leaf (nonterminal n) = named G ps n
  mean_leaf lookahead = sequence pnil
  mean_leaf lookbehind = sequence pnil
  mean_leaf error = token error_token

  -- "Name and choose mean their inner symbol"
  abbrev pub mean_around : Around → Phrase → Phrase
  mean_around (repeat o) m = repeated o m
  mean_around choose m = m
  mean_around (name b n) m = m

  abbrev pub mean_over : Over → Phrases → Phrase
  mean_over (macro n) ms = call n ms
  mean_over group ms = sequence ms

  unfoldable mutual
    pub mean : Sym → Phrase
    mean (leaf s l) = mean_leaf l
    mean (around s a x) = mean_around a (mean x)
    mean (over s o xs) = mean_over o (means xs)

    pub means : Syms → Phrases
    means nil = pnil
    means (cons x xs) = pcons (mean x) (means xs)

-- ---- "all arguments put in together"; "put in for a parameter, it keeps that ceiling, as every symbol put in keeps the names of the item it was written in": phrases for parameters; nothing
-- can be caught, since a parameter is no reference
abbrev pub argument : List Text → Phrases → Text → Phrase
argument [] xs n = parameter n
argument (p ∷ ps) pnil n = parameter n
argument (p ∷ ps) (pcons x xs) n = cond (same_as n p) x (argument ps xs n)

module _ (ps : List Text) (xs : Phrases) where
  unfoldable mutual
    pub put : Phrase → Phrase
    put (token t) = token t
    put (parameter n) = argument ps xs n
    put (reference n c) = reference n c
    put (call n ms) = call n (puts ms)
    put (repeated o m) = repeated o (put m)
    put (sequence ms) = sequence (puts ms)

    pub puts : Phrases → Phrases
    puts pnil = pnil
    puts (pcons m ms) = pcons (put m) (puts ms)

-- "its alternatives whose condition holds (of a quoted literal only)"
abbrev pub of_quoted : Phrase → (Text → Bool) → Bool
of_quoted (token (bare_token t)) f = false
of_quoted (token (quoted_token t)) f = f t
of_quoted (token (regex_token t)) f = false
of_quoted (token error_token) f = false
of_quoted (parameter n) f = false
of_quoted (reference n c) f = false
of_quoted (call n xs) f = false
of_quoted (repeated o m) f = false
of_quoted (sequence ms) f = false

abbrev pub holds : List Text → Phrases → Option Condition → Bool
holds ps xs none = true
holds ps xs (some c) = of_quoted (argument ps xs c.lhs) (λ t. cond c.equal (same_as t c.rhs) (not (same_as t c.rhs)))

-- ---- ceilings: "each occurrence of it, macro arguments included"; E is the nonterminal
module _ (E : Text) where
  unfoldable mutual
    -- how often E stands in a phrase
    pub occurrences : Phrase → ℕ
    occurrences (token t) = 0
    occurrences (parameter n) = 0
    occurrences (reference n c) = cond (same_as n E) 1 0
    occurrences (call n ms) = occurrences_in ms
    occurrences (repeated o m) = occurrences m
    occurrences (sequence ms) = occurrences_in ms

    pub occurrences_in : Phrases → ℕ
    occurrences_in pnil = 0
    occurrences_in (pcons m ms) = occurrences m + occurrences_in ms

  module _ (f : ℕ → ℕ) where
    unfoldable mutual
      -- occurrence j of E, in tape order and counted from i, gets the ceiling f j
      pub mark : Phrase → ℕ → Phrase
      mark (token t) i = token t
      mark (parameter n) i = parameter n
      mark (reference n c) i = cond (same_as n E) (reference n (some (f i))) (reference n c)
      mark (call n ms) i = call n (marks ms i)
      mark (repeated o m) i = repeated o (mark m i)
      mark (sequence ms) i = sequence (marks ms i)

      pub marks : Phrases → ℕ → Phrases
      marks pnil i = pnil
      marks (pcons m ms) i = pcons (mark m i) (marks ms (i + occurrences m))

-- "An occurrence derives only by alternatives at or under its ceiling .. Elsewhere there is no ceiling"
abbrev pub Under : Option ℕ → ℕ → Type 0
Under none v = Unit {0}
Under (some c) v = v ≤ c

-- "the next lower level": the highest one that is below v
abbrev pub below : ℕ → List Graded → ℕ
below v [] = 0
below v (g ∷ rest) = cond (ltb g.level v && leb (below v rest) g.level) g.level (below v rest)

-- an alternative of the annotated nonterminal d, its own occurrences marked
abbrev pub own : Text → Nonterminal → Graded → Phrases → Phrases
own E d g ms = marks E (ceiling g.side g.level (below g.level (graded d)) (occurrences_in E ms)) ms 0

-- ---- the steps of a tree G. "In a levelled or expanded tree leftover attributes mean nothing": `levels` is false there
module _ (levels : Bool) (G : Tree) where
  pub data Step : Phrase → Phrases → Type 0 where
    s_plain : {n : Text} {c : Option ℕ} {ms : Phrases} (d : Nonterminal) (a : Alternative) → Memᴰ (item d) G → d.name ≡ n → d.args ≡ [] → Memᴰ a d.alternatives
        → (levels && annotated d) ≡ false → ms ≡ means G [] a.symbols → Step (reference n c) ms
    s_level : {n : Text} {c : Option ℕ} {ms : Phrases} (d : Nonterminal) (g : Graded) → Memᴰ (item d) G → d.name ≡ n → d.args ≡ [] → Memᴰ g (graded d)
        → (levels && annotated d) ≡ true → Under c g.level → ms ≡ own n d g (means G [] g.alternative.symbols) → Step (reference n c) ms
    s_call : {n : Text} {xs ms : Phrases} (d : Nonterminal) (a : Alternative) → Memᴰ (item d) G → d.name ≡ n → (d.args ≢ []) → Memᴰ a d.alternatives
        → holds d.args xs a.condition ≡ true → ms ≡ puts d.args xs (means G d.args a.symbols) → Step (call n xs) ms
    s_sequence : {ms : Phrases} → Step (sequence ms) ms
    s_question_none : {m : Phrase} → Step (repeated question m) pnil
    s_question_one : {m : Phrase} → Step (repeated question m) (pcons m pnil)
    s_star_none : {m : Phrase} → Step (repeated star m) pnil
    s_star_plus : {m : Phrase} → Step (repeated star m) (pcons (repeated plus m) pnil)
    s_plus_one : {m : Phrase} → Step (repeated plus m) (pcons m pnil)
    s_plus_more : {m : Phrase} → Step (repeated plus m) (pcons (repeated plus m) (pcons m pnil))

-- the tree G derives w from its nonterminal N: "A derivation starts at N without a ceiling and is finite"
abbrev pub Derives : Tree → Text → List Token → Type 0
Derives G N w = DerivesFrom (Step true G) (reference N none) w

-- the same of a levelled or expanded tree
abbrev pub DerivesExpanded : Tree → Text → List Token → Type 0
DerivesExpanded G N w = DerivesFrom (Step false G) (reference N none) w
