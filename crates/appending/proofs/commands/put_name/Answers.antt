use Rattle.std.proofs.Common.{rules}
use Prim.Native.Nat.{◌+◌}
use Rattle.appending.specs.Commands.{name_head}
use Rattle.appending.proofs.CommandsCode.{put_ends, name_long}
use Rattle.appending.proofs.commands.put_name.Goals as goal

pub returns : goal.returns
returns c =
    put_ends c.args.work.now (name_head c.args.width.bytes c.args.span c.args.k) (10 + c.args.width.bytes) c.args.lim c.args.to c.put.result c.put.new.work (name_long c.args.width.bytes c.args.span c.args.k)
    (λ h. let p = c.put.ensures.whole h in let q = p.1 in (p.0, search (rules, q.met, q.shows, q.leaves))) c.put.ensures.over
