use Rattle.grades.proofs.AnnotationsCode.{annotating}
use Rattle.grades.proofs.annotations.annotated.Goals as goal

pub returns-then-is_some : goal.returns-then-is_some
returns-then-is_some c = search annotating

pub returns-else-is_some : goal.returns-else-is_some
returns-else-is_some c = search annotating
