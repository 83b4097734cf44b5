use Rattle.grades.proofs.DecimalCode.{Putting}
use Rattle.grades.proofs.decimal.put_digits.Given as goal

abbrev pub invariant-loop-at : goal.invariant-loop-at
invariant-loop-at l = Putting l.initial.out l.to l.v l.out l.at l.q
