use Rattle.grades.proofs.AnnotationsCode.{placing}
use Rattle.grades.proofs.annotations.first_alternative.Goals as goal

pub returns : goal.returns
returns c = search placing
