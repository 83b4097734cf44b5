use Rattle.grades.proofs.DecimalCode.{putting}
use Rattle.grades.proofs.decimal.put_digits.Goals as goal

pub loop-at-init : goal.loop-at-init
loop-at-init c = search putting

pub loop-at-preserved : goal.loop-at-preserved
loop-at-preserved c = search putting

pub returns : goal.returns
returns c = search putting
