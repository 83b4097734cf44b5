use Rattle.validate.proofs.QuestionsCode.{leaves}
use Rattle.validate.proofs.questions.leaf_defined.Goals as goal

pub returns-in-AmbiguousId : goal.returns-in-AmbiguousId
returns-in-AmbiguousId c = search leaves

pub returns-in-Bare : goal.returns-in-Bare
returns-in-Bare c = search leaves

pub returns-in-Nonterminal : goal.returns-in-Nonterminal
returns-in-Nonterminal c = search leaves

pub returns-in-Lookahead : goal.returns-in-Lookahead
returns-in-Lookahead c = search leaves
