use Rattle.levels.proofs.FreshCode.{counting}
use Rattle.levels.proofs.fresh.count_bytes.Goals as goal
use Rattle.levels.proofs.fresh.count_bytes.Goals.{then-l-gt65535, else-l-gt65535}

pub loop-k-init : goal.loop-k-init
loop-k-init c = search counting

pub loop-k-preserved : goal.loop-k-preserved
loop-k-preserved c = elim c.if-l-gt65535.branch [ then-l-gt65535 w ↦ search counting | else-l-gt65535 w ↦ search counting ]

pub returns-then-too_long : goal.returns-then-too_long
returns-then-too_long c = search counting

pub returns-else-too_long : goal.returns-else-too_long
returns-else-too_long c = search counting
