use Rattle.std.proofs.Common.{rules, ◌+◌, ◌*◌}
use Rattle.precedence.specs.Write.{fall_bytes}
use Rattle.precedence.proofs.WriteLaws.{put_ends}
use Rattle.precedence.proofs.WriteCode.{fall_length, fall_whole}
use Rattle.precedence.proofs.write.fall_through.Goals as goal

pub returns : goal.returns
returns c =
    let n = c.u64_at-span.result in
    let e = c.u64_at-span.ensures in
    rw (← e) (put_ends c.args.work.now (fall_bytes c.args.width.bytes n c.args.below) (23 + 2 * c.args.width.bytes) c.args.lim c.args.to c.put.result c.put.new.work (fall_length c.args.width.bytes n c.args.below)
    (λ h. let p = c.put.ensures.whole h in let q = p.1 in (p.0, search (rules, fall_whole, q.met, q.shows, q.leaves))) c.put.ensures.over)
