use Rattle.std.proofs.Common.{rules}
use Rattle.octets.specs.Plain.Numbers.{le}
use Rattle.octets.proofs.NumbersLaws.{length-le}
use Rattle.precedence.proofs.WriteLaws.{put_ends}
use Rattle.precedence.proofs.level.put_number.Goals as goal

pub returns : goal.returns
returns c =
    put_ends c.args.work.now (le c.args.width.bytes c.args.v) c.args.width.bytes c.args.lim c.args.to c.put.result c.put.new.work (length-le c.args.width.bytes c.args.v)
    (λ h. let p = c.put.ensures.whole h in let q = p.1 in (p.0, search (rules, q.met, q.shows, q.leaves))) c.put.ensures.over
