-- A refusal made of a question's number and a place. Assumes nothing: these are definitions.
use Rattle.std.specs.Prelude.{ℕ}
use Rattle.parse_tree.specs.declared.refusal.Question.{Question}
use Rattle.parse_tree.specs.declared.refusal.Refusal.{Refusal}
use Rattle.parse_tree.specs.declared.syntax.Span.{Span}

-- a question's number in document 01
abbrev pub number_of : Question → ℕ
number_of Question.Room = 1
number_of Question.Command = 2
number_of Question.Operand = 3
number_of Question.Text = 4
number_of Question.TwiceAlike = 5
number_of Question.TwiceUnlike = 6
number_of Question.Arguments = 7
number_of Question.Defined = 8
number_of Question.ConditionName = 9
number_of Question.Nonterminal = 10
number_of Question.Macro = 11
number_of Question.ArgumentCount = 12
number_of Question.AmbiguousId = 13
number_of Question.Level = 14
number_of Question.Side = 15
number_of Question.LowestLevel = 16
number_of Question.Literal = 17
number_of Question.Rounds = 18
number_of Question.Group = 19
number_of Question.Counts = 20
number_of Question.Output = 21

-- an offset twice
unfoldable pub refusal_at : ℕ → ℕ → Refusal
refusal_at n p = record { number = n; from = p; to = p }

unfoldable pub refusal_over : ℕ → Span → Refusal
refusal_over n s = record { number = n; from = s.0; to = s.1 }
