use Rattle.display.proofs.WindowSame.{comparing}
use Rattle.display.proofs.window.same_in.Goals as goal

pub returns-in-Same : goal.returns-in-Same
returns-in-Same c = search comparing

pub returns-in-Differ : goal.returns-in-Differ
returns-in-Differ c = search comparing

pub overflow_add-skip : goal.overflow_add-skip
overflow_add-skip c = search comparing

pub loop-skip-smaller : goal.loop-skip-smaller
loop-skip-smaller c = search comparing

pub loop-skip-preserved : goal.loop-skip-preserved
loop-skip-preserved c = search comparing
