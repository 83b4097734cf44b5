use lib.ListN.{length, replicate, take, drop}
use Rattle.std.proofs.Common.{rules, ◌≡◌, ℕ, ◌-◌, arith}
use Rattle.std.proofs.lemmas.List.{length-replicate}
use Rattle.octets.proofs.StoreLaws.{store-copied}
use Rattle.rounds.proofs.GroundCode.{filled, cleared_lem}
use Rattle.rounds.proofs.ground.clear_built.Goals as goal

pub returns : goal.returns
returns c =
    let n = c.args.slots in
    let w = c.args.work.now in
    let z : c.fill.new.self ≡ replicate (length (take (n - (n - 72)) (drop (n - 72) w))) 0 = search rules in
    cleared_lem c.args.slots w _ c.requires.0 c.requires.1
    (store-copied w c.fill.new.self (replicate 72 0) (n - 72) (n - (n - 72)) (filled c.args.slots w c.requires.0 c.requires.1 c.fill.new.self z) (omega arith) (omega (arith, length-replicate {A = ℕ} 72 0)))
