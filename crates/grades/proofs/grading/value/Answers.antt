use Rattle.grades.proofs.GradingCode.{valuing}
use Rattle.grades.proofs.grading.value.Goals as goal

pub returns-then-attribute-eq0 : goal.returns-then-attribute-eq0
returns-then-attribute-eq0 c = search valuing

pub returns-else-attribute-eq0 : goal.returns-else-attribute-eq0
returns-else-attribute-eq0 c = search valuing
