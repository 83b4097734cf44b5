use Rattle.rounds.proofs.GroundCode.{bucketing}
use Rattle.rounds.proofs.ground.bucket_count.Goals as goal

pub returns : goal.returns
returns c = search bucketing
