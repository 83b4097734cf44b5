use Rattle.levels.proofs.LevelsCode.{levelling}
use Rattle.levels.proofs.expand.write_levels.Goals as goal

pub loop-i-init : goal.loop-i-init
loop-i-init c = search levelling

pub loop-i-smaller : goal.loop-i-smaller
loop-i-smaller c = search levelling

pub loop-i-preserved : goal.loop-i-preserved
loop-i-preserved c = search levelling

pub returns : goal.returns
returns c = search (levelling, c.loop-i.invariant)
