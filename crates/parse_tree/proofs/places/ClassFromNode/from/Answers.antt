use Rattle.parse_tree.specs.Working.Places.{class_of, column}
use borrow.Author.Rules.{rules}
use Rattle.parse_tree.proofs.places.ClassFromNode.from.Goals as goal

pub returns-in-Text : goal.returns-in-Text
unfolding class_of column
returns-in-Text c = search rules

pub returns-in-Nonterminal : goal.returns-in-Nonterminal
unfolding class_of column
returns-in-Nonterminal c = search rules

pub returns-in-Terminal : goal.returns-in-Terminal
unfolding class_of column
returns-in-Terminal c = search rules

pub returns-in-Argument : goal.returns-in-Argument
unfolding class_of column
returns-in-Argument c = search rules

pub returns-in-Alternative : goal.returns-in-Alternative
unfolding class_of column
returns-in-Alternative c = search rules

pub returns-in-Attribute : goal.returns-in-Attribute
unfolding class_of column
returns-in-Attribute c = search rules

pub returns-in-Condition : goal.returns-in-Condition
unfolding class_of column
returns-in-Condition c = search rules

pub returns-in-Symbol : goal.returns-in-Symbol
unfolding class_of column
returns-in-Symbol c = search rules
