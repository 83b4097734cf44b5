use mathlib.Core.Path.{sym}
use Rattle.std.proofs.Common.{rules}
use Rattle.passes.specs.Levels.{number_digits}
use Rattle.precedence.proofs.WriteLaws.{put_ends}
use Rattle.listing.proofs.number.put_number.Goals as goal

pub returns : goal.returns
returns c =
    put_ends c.args.work.now (number_digits c.args.v) c.number_size.result c.args.lim c.args.to c.put.result c.put.new.work (sym c.number_size.ensures.0)
    (λ h. let p = c.put.ensures.whole h in let q = p.1 in (p.0, search (rules, q.met, q.shows, q.leaves))) c.put.ensures.over
