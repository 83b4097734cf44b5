use Rattle.std.proofs.lemmas.Result.{err_from_is_err_and}
use Rattle.grades.proofs.GradingCode.{siding}
use Rattle.grades.proofs.grading.sided.Goals as goal

pub returns-in-None : goal.returns-in-None
returns-in-None c = search siding

pub returns-in_err-side-in-Some : goal.returns-in_err-side-in-Some
returns-in_err-side-in-Some c =
    let p = err_from_is_err_and c.from_residual.result c.from_residual.ensures.1 in
    rw (p.1, p.2) (search (siding, c.in_err-side-in-Some.was))

pub returns-in_ok-side-in-Some : goal.returns-in_ok-side-in-Some
returns-in_ok-side-in-Some c = search (siding, c.in_ok-side-in-Some.was)
