use Rattle.resolve.proofs.GlobalsCode.{declaring}
use Rattle.resolve.proofs.globals.declared.Goals as goal

pub returns-then-c-eq16 : goal.returns-then-c-eq16
returns-then-c-eq16 c = search declaring

pub returns-else-c-eq16 : goal.returns-else-c-eq16
returns-else-c-eq16 c = search declaring
