use Rattle.std.proofs.lemmas.Result.{err_from_is_err_and}
use Rattle.grades.proofs.GradingCode.{grading}
use Rattle.grades.proofs.grading.graded.Goals as goal

pub returns-in-None : goal.returns-in-None
returns-in-None c = search grading

pub returns-in_err-level-in-Some : goal.returns-in_err-level-in-Some
returns-in_err-level-in-Some c =
    let p = err_from_is_err_and c.from_residual.result c.from_residual.ensures.1 in
    rw (p.1, p.2) (search (grading, c.in_err-level-in-Some.was))

pub returns-in_ok-level-in-Some : goal.returns-in_ok-level-in-Some
returns-in_ok-level-in-Some c = search (grading, c.in_ok-level-in-Some.was)
