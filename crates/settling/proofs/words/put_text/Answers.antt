use Rattle.std.proofs.Common.{rules}
use Prim.Native.Nat.{◌-◌}
use Rattle.octets.specs.Plain.Runs.{part}
use Rattle.octets.proofs.PartLaws.{part_length}
use Rattle.appending.proofs.CommandsCode.{put_ends}
use Rattle.settling.proofs.WordsCode.{standing, here_inside, here_text, tape_put}
use Rattle.settling.proofs.words.put_text.Goals as goal

pub overflow_sub-e : goal.overflow_sub-e
overflow_sub-e c = search standing

pub put-requires-clause-stores : goal.put-requires-clause-stores
put-requires-clause-stores c = search standing

pub returns-in-Tape : goal.returns-in-Tape
returns-in-Tape c = tape_put _ _ _ _ c.in-Tape.is _ _ _ c.put_slice.ensures

pub returns-in-Work : goal.returns-in-Work
returns-in-Work c =
    let w = c.args.work.now in
    let a = c.in-Work.a in
    let e = c.in-Work.e in
    let n = part_length a e w (here_inside _ _ _ _ _ c.in-Work.is c.requires.1) in
    let z =
    put_ends w (part a e w) (e - a) c.args.lim c.args.to c.put.result c.put.new.work n
    (λ h. let p = c.put.ensures.whole h in let q = p.1 in (p.0, search (rules, q.met, q.shows, q.leaves))) c.put.ensures.over in
    here_text _ _ _ _ _ c.in-Work.is c.requires.1 _ _ _ z
