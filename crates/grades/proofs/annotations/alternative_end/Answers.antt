use Rattle.grades.proofs.AnnotationsCode.{ending}
use Rattle.grades.proofs.annotations.alternative_end.Goals as goal

pub returns : goal.returns
returns c = search ending
