use Rattle.macro_expand.proofs.ArgumentsCode.{judging}
use Rattle.macro_expand.proofs.arguments.evaluate_cond.Goals as goal
use Rattle.macro_expand.proofs.arguments.evaluate_cond.Goals.{else-p-x-via-then-p-x+else-x-p-eq34, else-p-x-via-else-p-x}

pub returns-then-x-at : goal.returns-then-x-at
returns-then-x-at c = search judging

pub returns-else-p-x : goal.returns-else-p-x
returns-else-p-x c = elim c.else-p-x.branch [
  | else-p-x-via-then-p-x+else-x-p-eq34 w ↦ search (judging, c.in_ok-p.was)
  | else-p-x-via-else-p-x w ↦ search (judging, c.in_ok-p.was)
]

pub returns-then-x-p-eq34 : goal.returns-then-x-p-eq34
returns-then-x-p-eq34 c = search judging

pub returns-in_err-p : goal.returns-in_err-p
returns-in_err-p c = rw c.from_residual.ensures (search judging)
