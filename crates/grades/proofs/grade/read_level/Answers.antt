use Rattle.grades.proofs.GradeCode.{levelling}
use Rattle.grades.proofs.grade.read_level.Goals as goal

pub returns-in_err-ok : goal.returns-in_err-ok
returns-in_err-ok c = search levelling

pub returns : goal.returns
returns c = search levelling
