use Rattle.grades.proofs.AlternativesCode.{putting_grades}
use Rattle.grades.proofs.alternatives.put_grade.Goals as goal

pub returns : goal.returns
returns c = search putting_grades
