use Rattle.std.proofs.lemmas.Result.{err_from_is_err_and}
use Rattle.stages.proofs.WholeCode.{expanding_settled}
use Rattle.stages.proofs.whole.expand_settled.Goals as goal

pub resolve_again-requires : goal.resolve_again-requires
resolve_again-requires c = search expanding_settled

pub run_rounds-requires : goal.run_rounds-requires
run_rounds-requires c = search (expanding_settled, c.in_ok-grammar.was)

pub returns-in_err-grammar : goal.returns-in_err-grammar
returns-in_err-grammar c = let p = err_from_is_err_and c.from_residual.result c.from_residual.ensures.1 in rw (p.1, p.2) (search (expanding_settled, c.in_err-grammar.was))

pub returns : goal.returns
returns c = search (expanding_settled, c.in_ok-grammar.was)
