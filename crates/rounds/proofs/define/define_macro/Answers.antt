use Rattle.rounds.proofs.DefineItem.{telling}
use Rattle.rounds.proofs.define.define_macro.Goals as goal

pub returns-then-d-ne0 : goal.returns-then-d-ne0
returns-then-d-ne0 c = search telling

pub returns-else-d-ne0 : goal.returns-else-d-ne0
returns-else-d-ne0 c = search telling
