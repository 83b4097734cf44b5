use Rattle.std.proofs.Common.{rules}
use Prim.Native.Nat.{◌+◌}
use Rattle.appending.specs.Commands.{item_head}
use Rattle.appending.proofs.CommandsCode.{put_ends, item_long}
use Rattle.appending.proofs.commands.put_item.Goals as goal

pub returns : goal.returns
returns c =
    put_ends c.args.work.now (item_head c.args.width.bytes c.args.span c.args.k c.args.flags c.args.alternatives) (13 + c.args.width.bytes) c.args.lim c.args.to c.put.result c.put.new.work (item_long c.args.width.bytes c.args.span c.args.k c.args.flags c.args.alternatives)
    (λ h. let p = c.put.ensures.whole h in let q = p.1 in (p.0, search (rules, q.met, q.shows, q.leaves))) c.put.ensures.over
