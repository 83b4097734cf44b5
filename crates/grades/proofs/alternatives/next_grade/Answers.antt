use Rattle.grades.proofs.AlternativesCode.{nexting}
use Rattle.grades.proofs.alternatives.next_grade.Goals as goal

pub returns-then-e-at : goal.returns-then-e-at
returns-then-e-at c = search nexting

pub graded-read-requires : goal.graded-read-requires
graded-read-requires c = search nexting

pub returns : goal.returns
returns c = search nexting
