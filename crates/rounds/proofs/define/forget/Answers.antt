use Rattle.rounds.proofs.DefineCells.{forgetting}
use Rattle.rounds.proofs.define.forget.Goals as goal

pub loop-k-preserved : goal.loop-k-preserved
loop-k-preserved c = search forgetting
