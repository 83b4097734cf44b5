-- What one name is answered, by its definition (see Cells): a yes, with the code that a 20 becomes, or the question that it fails.
-- Assumes nothing: these are definitions.
use Rattle.std.specs.Prelude.{ℕ, zero, suc, eqb, Option, Some, None, Result, Ok, Err}
use Rattle.octets.specs.Working.Choice.{pick}
use Rattle.parse_tree.specs.declared.refusal.Question.{Question}
use Rattle.resolve.specs.declared.Definition.{Definition}

-- "condition's name defined? 8. An argument? 9"
unfoldable pub condition_says : Option Definition → Result (Unit {0}) Question
condition_says None = Err Question.Defined
condition_says (Some Definition.Terminal) = Err Question.ConditionName
condition_says (Some (Definition.Nonterminal n)) = Err Question.ConditionName
condition_says (Some (Definition.Argument n)) = Ok tt
condition_says (Some Definition.Unknown) = Err Question.ConditionName

-- "Does 24 name a plain nonterminal or argument? 10"
unfoldable pub nonterminal_says : Option Definition → Result (Unit {0}) Question
nonterminal_says None = Err Question.Defined
nonterminal_says (Some Definition.Terminal) = Err Question.Nonterminal
nonterminal_says (Some (Definition.Nonterminal zero)) = Ok tt
nonterminal_says (Some (Definition.Nonterminal (suc n))) = Err Question.Nonterminal
nonterminal_says (Some (Definition.Argument n)) = Ok tt
nonterminal_says (Some Definition.Unknown) = Err Question.Nonterminal

-- "Does 25 name a macro? 11, with its count? 12"
unfoldable pub macro_says : Option Definition → ℕ → Result (Unit {0}) Question
macro_says None k = Err Question.Defined
macro_says (Some Definition.Terminal) k = Err Question.Macro
macro_says (Some (Definition.Nonterminal zero)) k = Err Question.Macro
macro_says (Some (Definition.Nonterminal (suc n))) k = pick (eqb (suc n) k) (Ok tt) (Err Question.ArgumentCount)
macro_says (Some (Definition.Argument n)) k = Err Question.Macro
macro_says (Some Definition.Unknown) k = Err Question.Macro

-- "Is 20 no macro? 13"
unfoldable pub ambiguous_says : Option Definition → Result ℕ Question
ambiguous_says None = Err Question.Defined
ambiguous_says (Some Definition.Terminal) = Ok 33
ambiguous_says (Some (Definition.Nonterminal zero)) = Ok 36
ambiguous_says (Some (Definition.Nonterminal (suc n))) = Err Question.AmbiguousId
ambiguous_says (Some (Definition.Argument n)) = Ok 36
ambiguous_says (Some Definition.Unknown) = Err Question.AmbiguousId
