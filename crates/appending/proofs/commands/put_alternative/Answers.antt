use Rattle.std.proofs.Common.{rules}
use Prim.Native.Nat.{◌+◌}
use Rattle.precedence.specs.Write.{alternative_head}
use Rattle.precedence.proofs.WriteCode.{alternative_long}
use Rattle.appending.proofs.CommandsCode.{put_ends}
use Rattle.appending.proofs.commands.put_alternative.Goals as goal

pub returns : goal.returns
returns c =
    put_ends c.args.work.now (alternative_head c.args.width.bytes c.args.span c.args.act c.args.text c.args.symbols) (14 + c.args.width.bytes) c.args.lim c.args.to c.put.result c.put.new.work (alternative_long c.args.width.bytes c.args.span c.args.act c.args.text c.args.symbols)
    (λ h. let p = c.put.ensures.whole h in let q = p.1 in (p.0, search (rules, q.met, q.shows, q.leaves))) c.put.ensures.over
