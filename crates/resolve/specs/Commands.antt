-- A run over commands that stand in work, one behind another. wd is the width of an atom's number in bytes. Assumes nothing: these are definitions.
use Rattle.std.specs.Prelude.{◌≡◌, List, ℕ, zero, suc, ◌+◌, leb, eqb, get_or, set, Option, Some, None, Result, Ok, Err}
use Rattle.octets.specs.Working.Choice.{pick}
use Rattle.octets.specs.Plain.Numbers.{le_at}
use Rattle.parse_tree.specs.Working.Nodes.{span_in, long_of}
use Rattle.parse_tree.specs.Working.Refusals.{number_of, refusal_over}
use Rattle.parse_tree.specs.declared.refusal.Question.{Question}
use Rattle.parse_tree.specs.declared.refusal.Refusal.{Refusal}
use Rattle.parse_tree.specs.declared.syntax.Span.{Span}
use Rattle.texts.specs.declared.Map.{Map}
use Rattle.resolve.specs.Cells.{known_at, found_by}
use Rattle.resolve.specs.Names.{condition_says, nonterminal_says, macro_says, ambiguous_says}

-- what a name is answered, as what its command is answered: the code that it becomes, none where it stays, or the question that it fails
unfoldable pub becomes : Result ℕ Question → Result (Option ℕ) Question
becomes (Ok c) = Ok (Some c)
becomes (Err q) = Err q

-- the same where no code changes
unfoldable pub stays : Result (Unit {0}) Question → Result (Option ℕ) Question
stays (Ok u) = Ok None
stays (Err q) = Err q

-- what the command at a place, whose code is c, is answered
unfoldable pub asked_at : Map → ℕ → List ℕ → ℕ → ℕ → Result (Option ℕ) Question
asked_at m wd w at c =
    pick (eqb c 32) (becomes (ambiguous_says (found_by (known_at m w (le_at wd w (at + 9))))))
    (pick (eqb c 36) (stays (nonterminal_says (found_by (known_at m w (le_at wd w (at + 9))))))
    (pick (eqb c 37) (stays (macro_says (found_by (known_at m w (le_at wd w (at + 9)))) (get_or w (at + 9 + wd) 0)))
    (pick (eqb c 20) (stays (condition_says (found_by (known_at m w (le_at wd w (at + 9)))))) (Ok None))))

-- work afterwards, or the question's number and the span
pub data RunEnd : Type 0 where
  ran : List ℕ → RunEnd
  stopped : ℕ → Span → RunEnd

-- one behind another
unfoldable pub run_then : RunEnd → (List ℕ → RunEnd) → RunEnd
run_then (ran w) f = f w
run_then (stopped q s) f = stopped q s

-- the run as an answer
unfoldable pub Runs : RunEnd → Result (Unit {0}) Refusal → List ℕ → Type 0
Runs (ran w) r w' = (r ≡ Ok tt) × (w' ≡ w)
Runs (stopped q s) r w' = r ≡ Err (refusal_over q s)

-- what comes of an answer: where the command stays, where it becomes another, and where it is refused
unfoldable pub asked_then : Result (Option ℕ) Question → RunEnd → (ℕ → RunEnd) → (Question → RunEnd) → RunEnd
asked_then (Ok None) x f g = x
asked_then (Ok (Some c)) x f g = f c
asked_then (Err q) x f g = g q

-- the commands from a place up to e, of which there are at most n
unfoldable pub run_out : Map → ℕ → ℕ → List ℕ → ℕ → ℕ → RunEnd
run_out m wd zero w at e = ran w
run_out m wd (suc n) w at e =
    pick (leb e at) (ran w)
    (asked_then (asked_at m wd w at (get_or w at 0)) (run_out m wd n w (at + long_of wd (get_or w at 0)) e) (λ c. run_out m wd n (set w at c) (at + (9 + wd)) e)
    (λ q. stopped (number_of q) (span_in w (at + 1))))
