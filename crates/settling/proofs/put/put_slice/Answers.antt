use Rattle.std.proofs.Common.{rules}
use mathlib.Core.Path.{ap}
use lib.ListN.{length}
use Rattle.octets.specs.Plain.Runs.{part}
use Rattle.appending.proofs.CommandsCode.{put_ends}
use Rattle.settling.proofs.PutLaws.{puts_as}
use Rattle.settling.proofs.PutCode.{part_all}
use Rattle.settling.proofs.put.put_slice.Goals as goal

pub returns : goal.returns
returns c =
    let t = c.args.t.now in
    puts_as (part_all t)
    (put_ends c.args.work.now (part 0 (length t) t) (length t) c.args.lim c.args.to c.put.result c.put.new.work (ap length (part_all t))
    (λ h. let p = c.put.ensures.whole h in let q = p.1 in (p.0, search (rules, q.met, q.shows, q.leaves))) c.put.ensures.over)
