use Rattle.validate.proofs.SuitsCode.{nodes}
use Rattle.validate.proofs.suits.is_suited.Goals as goal

pub returns-in-Text : goal.returns-in-Text
returns-in-Text c = search nodes

pub returns-in-Nonterminal : goal.returns-in-Nonterminal
returns-in-Nonterminal c = search nodes

pub returns-in-Terminal : goal.returns-in-Terminal
returns-in-Terminal c = search nodes

pub returns-in-Argument : goal.returns-in-Argument
returns-in-Argument c = search nodes

pub returns-in-Symbol : goal.returns-in-Symbol
returns-in-Symbol c = search nodes
