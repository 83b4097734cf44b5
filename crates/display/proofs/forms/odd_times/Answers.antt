use Rattle.display.proofs.FormCode.{powering}
use Rattle.display.proofs.forms.odd_times.Goals as goal

pub returns-then-k-eq1 : goal.returns-then-k-eq1
returns-then-k-eq1 c = search powering

pub returns-else-k-eq1 : goal.returns-else-k-eq1
returns-else-k-eq1 c = search powering
