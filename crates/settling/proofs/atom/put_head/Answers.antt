use Rattle.std.proofs.Common.{rules}
use mathlib.Core.List.{◌∷◌}
use Rattle.octets.specs.Plain.Numbers.{le}
use Rattle.settling.proofs.AtomCode.{head_long}
use Rattle.appending.proofs.CommandsCode.{put_ends}
use Rattle.settling.proofs.atom.put_head.Goals as goal

pub returns : goal.returns
returns c =
    put_ends c.args.work.now (1 ∷ le 2 c.args.len) 3 c.args.lim c.args.to c.put.result c.put.new.work (head_long c.args.len)
    (λ h. let p = c.put.ensures.whole h in let q = p.1 in (p.0, search (rules, q.met, q.shows, q.leaves))) c.put.ensures.over
