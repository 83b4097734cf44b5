-- The parts of the text, as the functions put them. w is work, wd the width of an atom's number in bytes, ts are the texts. Assumes nothing: these are definitions.
use Rattle.std.specs.Prelude.{ℕ, ◌+◌, List, [], ◌∷◌, ◌++◌, eqb, ltb, get_or}
use Rattle.octets.specs.Working.Choice.{pick}
use Rattle.octets.specs.Plain.Numbers.{le_at}
use Rattle.parse_tree.specs.Plain.Tree.{Text, Stage}
use Rattle.parse_tree.specs.Plain.Texts.{ascii}
use Rattle.parse_tree.specs.declared.refusal.Refusal.{Refusal}
use Rattle.passes.specs.Outcome.{Outcome, no}
use Rattle.passes.specs.Levels.{number_digits}
use Rattle.display.specs.Follow.{word_at}

-- ---- a refusal
-- "A refusal prints `refused`, .."
unfoldable pub refused_word : Text
refused_word = ascii "refused"

-- ".. both place numbers on one line, one space between"
unfoldable pub places_text : ℕ → ℕ → Text
places_text from end = (0x20 ∷ number_digits from) ++ ((0x20 ∷ number_digits end) ++ (0x0a ∷ []))

-- a refusal as an answer
unfoldable pub refused_by : Refusal → Outcome Stage
refused_by z = no z.number (record { 0 = z.from; 1 = z.to })

-- ---- a nonterminal's line
-- the flags, 1 inline and 2 pub, and the end of the line
unfoldable pub flags_line : ℕ → Text
flags_line f = pick (eqb f 0) (ascii "\n") (pick (eqb f 1) (ascii " inline\n") (pick (eqb f 2) (ascii " pub\n") (ascii " pub inline\n")))

-- what stands behind the name
unfoldable pub line_text : ℕ → ℕ → ℕ → Text
line_text from end f = (0x20 ∷ number_digits from) ++ ((0x2d ∷ number_digits end) ++ flags_line f)

unfoldable pub head_text : ℕ → List Text → List ℕ → ℕ → Text
head_text wd ts w at = word_at wd ts w (at + 9) ++ line_text (le_at 4 w (at + 1)) (le_at 4 w (at + 5)) (get_or w (at + 9 + wd) 0)

-- ---- an alternative's action
unfoldable pub arrow_text : ℕ → Text
arrow_text c = pick (eqb c 2) (ascii " =>? ") (ascii " => ")

unfoldable pub side_text : ℕ → Text
side_text c = pick (eqb c 3) (ascii " => @L") (ascii " => @R")

-- of the code c, whose text is x
unfoldable pub action_by : ℕ → Text → Text
action_by c x = pick (eqb c 0) [] (pick (ltb c 3) (arrow_text c ++ x) (side_text c))

-- of the alternative at a place
unfoldable pub action_at : ℕ → List Text → List ℕ → ℕ → Text
action_at wd ts w at = action_by (get_or w (at + 11) 0) (word_at wd ts w (at + 12))
