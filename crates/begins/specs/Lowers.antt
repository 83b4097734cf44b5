-- The names of levels that are not a nonterminal's highest: these are the texts that levels bring. Assumes nothing: these are definitions.
use Rattle.std.specs.Prelude.{cond, List, [], ◌∷◌, ◌++◌, ℕ}
use Rattle.octets.specs.Working.Choice.{pick}
use Rattle.parse_tree.specs.Plain.Tree.{Text, Nonterminal, Item, item}
use Rattle.parse_tree.specs.Plain.Texts.{has}
use Rattle.passes.specs.Outcome.{Tree}
use Rattle.passes.specs.Grades.{annotated, graded}
use Rattle.passes.specs.Levels.{decimal, levels_of}

-- a level's name stands before the others', unless none is higher
abbrev pub before : Text → List ℕ → List Text → List Text
before n [] r = []
before n (u ∷ us) r = n ∷ r

unfoldable pub lowers_of : Text → List ℕ → List Text
lowers_of E [] = []
lowers_of E (v ∷ vs) = before (E ++ decimal v) vs (lowers_of E vs)

unfoldable pub lowers : Nonterminal → List Text
lowers d = cond (annotated d) (lowers_of d.name (levels_of (graded d))) []

-- those of nonterminals without arguments, and those of macros
unfoldable pub plain_lowers : Tree → List Text
plain_lowers [] = []
plain_lowers (item d ∷ rest) = elim d.args [ [] ↦ lowers d | p ∷ ps ↦ [] ] ++ plain_lowers rest
plain_lowers (Item.terminal s o t ∷ rest) = plain_lowers rest

unfoldable pub macro_lowers : Tree → List Text
macro_lowers [] = []
macro_lowers (item d ∷ rest) = elim d.args [ [] ↦ [] | p ∷ ps ↦ lowers d ] ++ macro_lowers rest
macro_lowers (Item.terminal s o t ∷ rest) = macro_lowers rest

-- one for a text of M, and a cost for the others
unfoldable pub owes : List Text → Text → ℕ
owes M t = pick (has t M) 1 0

unfoldable pub unless : List Text → (Text → ℕ) → Text → ℕ
unless M f t = pick (has t M) 0 (f t)
