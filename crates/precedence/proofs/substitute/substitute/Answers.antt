use Rattle.precedence.proofs.SubstituteCode.{siding}
use Rattle.precedence.proofs.substitute.substitute.Goals as goal

pub returns-in-Some : goal.returns-in-Some
returns-in-Some c = search siding

pub returns-in_default : goal.returns-in_default
returns-in_default c = search siding

pub returns-in-Some-replace_symbols : goal.returns-in-Some-replace_symbols
returns-in-Some-replace_symbols c = search siding

pub returns-in_default-replace_symbols : goal.returns-in_default-replace_symbols
returns-in_default-replace_symbols c = search siding

pub returns-in-NonAssoc : goal.returns-in-NonAssoc
returns-in-NonAssoc c = search siding

pub returns-then-names : goal.returns-then-names
returns-then-names c = search siding

pub returns-else-names : goal.returns-else-names
returns-else-names c = search siding
