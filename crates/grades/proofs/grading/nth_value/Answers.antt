use Rattle.grades.proofs.GradingCode.{choosing}
use Rattle.grades.proofs.grading.nth_value.Goals as goal

pub value-requires : goal.value-requires
value-requires c = search choosing

pub returns : goal.returns
returns c = search choosing
