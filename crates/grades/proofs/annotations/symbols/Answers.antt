use Rattle.grades.proofs.AnnotationsCode.{symboling}
use Rattle.grades.proofs.annotations.symbols.Goals as goal

pub returns : goal.returns
returns c = search symboling
