use lib.ListN.{length}
use Rattle.std.proofs.lemmas.Result.{err_from_is_err_and}
use Rattle.stages.specs.Levelling.{SomeAdmitted}
use Rattle.stages.proofs.PassCode.{running, run_refused, run_no, run_none, admitted-inside, admitted-room, admitted-fits}
use Rattle.stages.proofs.pass.run.Goals as goal

pub returns-in_err-r : goal.returns-in_err-r
returns-in_err-r g c = let p = err_from_is_err_and c.from_residual.result c.from_residual.ensures.1 in let F = g.P.Pass.follows c.args.pass in rw (p.1, p.2) (search (running, run_refused, F, c.in_err-r.was))

pub returns-in_err-judge : goal.returns-in_err-judge
returns-in_err-judge g c = let p = err_from_is_err_and c.from_residual-in_err-judge.result c.from_residual-in_err-judge.ensures.1 in let F = g.P.Pass.follows c.args.pass in rw (p.1, p.2) (search (running, run_no, F, c.in_ok-r.ensures, c.in_err-judge.was))

pub hand_over-requires : goal.hand_over-requires
hand_over-requires g c = let a : SomeAdmitted c.args.tape.now (length c.args.output.now) c.in_ok-r.r.texts c.in_ok-r.r.grammar c.in_ok-r.r.at c.resolve_tape.new.work = search (running, c.in_ok-r.ensures, c.in_ok-judge.was) in (admitted-inside _ _ _ _ _ _ a, admitted-room _ _ _ _ _ _ a, admitted-fits _ _ _ _ _ _ a)

pub returns-then-r-eq0 : goal.returns-then-r-eq0
returns-then-r-eq0 g c = let a : SomeAdmitted c.args.tape.now (length c.args.output.now) c.in_ok-r.r.texts c.in_ok-r.r.grammar c.in_ok-r.r.at c.resolve_tape.new.work = search (running, c.in_ok-r.ensures, c.in_ok-judge.was) in run_none _ (g.P.Pass.follows c.args.pass) _ _ _ _ _ _ a c.if-r-eq0.true _ c.hand_over.ensures

pub items-requires : goal.items-requires
items-requires g c = search (running, c.in_ok-r.ensures, c.in_ok-judge.was)
