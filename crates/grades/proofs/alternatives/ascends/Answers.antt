use Rattle.grades.proofs.AlternativesCode.{ascending}
use Rattle.grades.proofs.alternatives.ascends.Goals as goal

pub returns-then-before : goal.returns-then-before
returns-then-before c = search ascending

pub returns-else-before : goal.returns-else-before
returns-else-before c = search ascending
