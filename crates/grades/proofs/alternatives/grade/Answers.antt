use Rattle.std.proofs.lemmas.Result.{err_from_is_err_and}
use Rattle.grades.proofs.AlternativesCode.{walking}
use Rattle.grades.proofs.alternatives.grade.Goals as goal

pub loop-i-init : goal.loop-i-init
loop-i-init c = search walking

pub returns-in_err-grade : goal.returns-in_err-grade
returns-in_err-grade c =
    let p = err_from_is_err_and c.from_residual.result c.from_residual.ensures.1 in
    rw (p.1, p.2) (search (walking, c.in_err-grade.was))

pub alternative_end-end-requires : goal.alternative_end-end-requires
alternative_end-end-requires c = search walking

pub loop-i-preserved : goal.loop-i-preserved
loop-i-preserved c = search walking

pub returns : goal.returns
returns c = search walking
