use Rattle.rounds.proofs.GroundCode.{grounding}
use Rattle.rounds.proofs.ground.ground.Goals as goal

pub empty-requires : goal.empty-requires
empty-requires c = let e = c.pushed.ensures in rw (e.0, e.2) (search grounding)

pub returns : goal.returns
returns c = let e = c.pushed.ensures in let z = rw (e.0, e.2) at c.empty.ensures in search (grounding, z)
