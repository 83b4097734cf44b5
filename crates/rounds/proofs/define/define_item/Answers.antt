use Rattle.rounds.proofs.DefineItem.{heading}
use Rattle.rounds.proofs.define.define_item.Goals as goal

pub returns-then-work-p-eq16 : goal.returns-then-work-p-eq16
returns-then-work-p-eq16 c = search heading

pub returns-else-work-p-eq16 : goal.returns-else-work-p-eq16
returns-else-work-p-eq16 c = search heading
