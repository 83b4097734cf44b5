use Rattle.grades.proofs.AnnotationsCode.{heading}
use Rattle.grades.proofs.annotations.has_prec_attr.Goals as goal

pub returns-then-whole_nonterminal-ne0 : goal.returns-then-whole_nonterminal-ne0
returns-then-whole_nonterminal-ne0 c = search heading

pub returns-else-whole_nonterminal-ne0 : goal.returns-else-whole_nonterminal-ne0
returns-else-whole_nonterminal-ne0 c = search heading
