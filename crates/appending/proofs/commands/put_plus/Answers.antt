use Rattle.std.proofs.Common.{rules}
use Rattle.appending.specs.Commands.{plus_head}
use Rattle.appending.proofs.CommandsCode.{put_ends, plus_long, plus_stored}
use Rattle.appending.proofs.commands.put_plus.Goals as goal

pub returns : goal.returns
returns c =
    put_ends c.args.work.now (plus_head c.args.span) 10 c.args.lim c.args.to c.put.result c.put.new.work (plus_long c.args.span)
    (λ h. let p = c.put.ensures.whole h in let q = p.1 in (p.0, search (rules, plus_stored, q.met, q.shows, q.leaves))) c.put.ensures.over
