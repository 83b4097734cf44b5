use Rattle.std.proofs.Common.{rules, refl, ◌∷◌, []}
use Rattle.precedence.proofs.WriteLaws.{put_ends}
use Rattle.precedence.proofs.WriteWholeCode.{set_store}
use Rattle.precedence.proofs.write.put_byte.Goals as goal

pub returns : goal.returns
returns c =
    put_ends c.args.work.now (c.args.b ∷ []) 1 c.args.lim c.args.to c.put.result c.put.new.work refl
    (λ h. let p = c.put.ensures.whole h in let q = p.1 in (p.0, search (rules, set_store, q.met, q.shows, q.leaves))) c.put.ensures.over
