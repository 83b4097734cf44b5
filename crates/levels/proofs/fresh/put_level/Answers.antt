use Rattle.levels.proofs.FreshCode.{level_putting}
use Rattle.levels.proofs.fresh.put_level.Goals as goal

pub returns : goal.returns
returns c = search level_putting
