use Rattle.std.proofs.Common.{rules}
use Prim.Native.Nat.{◌+◌}
use mathlib.Core.List.{◌∷◌, ◌++◌}
use Rattle.octets.specs.Plain.Numbers.{le}
use Rattle.appending.proofs.CommandsCode.{put_ends, nonterminal_long}
use Rattle.appending.proofs.commands.put_nonterminal.Goals as goal

pub returns : goal.returns
returns c =
    put_ends c.args.work.now (36 ∷ (le 8 c.args.span ++ le c.args.width.bytes c.args.k)) (9 + c.args.width.bytes) c.args.lim c.args.to c.put.result c.put.new.work (nonterminal_long c.args.width.bytes c.args.span c.args.k)
    (λ h. let p = c.put.ensures.whole h in let q = p.1 in (p.0, search (rules, q.met, q.shows, q.leaves))) c.put.ensures.over
