use Rattle.grades.proofs.AnnotationsCode.{conditioning}
use Rattle.grades.proofs.annotations.conditions.Goals as goal

pub returns : goal.returns
returns c = search conditioning
