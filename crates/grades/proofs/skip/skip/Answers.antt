use Rattle.grades.proofs.SkipCode.{skipping}
use Rattle.grades.proofs.skip.skip.Goals as goal
use Rattle.grades.proofs.skip.skip.Goals.{then-k-eq0-via-then-k-eq0, then-k-eq0-via-else-k-eq0+then-e-p}

pub loop-p-init : goal.loop-p-init
loop-p-init c = search skipping

pub returns-then-k-eq0 : goal.returns-then-k-eq0
returns-then-k-eq0 c = elim c.then-k-eq0.branch [ then-k-eq0-via-then-k-eq0 w ↦ search skipping | then-k-eq0-via-else-k-eq0+then-e-p w ↦ search skipping ]

pub loop-p-preserved : goal.loop-p-preserved
loop-p-preserved c = search skipping

pub returns : goal.returns
returns c = search skipping
