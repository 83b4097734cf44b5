use Rattle.std.proofs.Common.{rules}
use Rattle.precedence.proofs.WriteCode.{run_ends}
use Rattle.precedence.proofs.write.put_run.Goals as goal

pub returns : goal.returns
returns c =
    run_ends c.args.work.now c.args.a c.args.e c.args.lim c.args.to c.put.result c.put.new.work c.requires.0 c.requires.1 c.requires.2
    (λ h. let p = c.put.ensures.whole h in let q = p.1 in (p.0, search (rules, q.met, q.shows, q.leaves))) c.put.ensures.over
