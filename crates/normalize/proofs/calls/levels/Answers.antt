use lib.ListN.{length}
use Rattle.normalize.proofs.CallsCode.{levels_is}
use Rattle.normalize.proofs.calls.levels.Goals as goal

pub returns : goal.returns
returns c = rw (← levels_is c.args.tape.now 0 (length c.args.output.now) (length c.args.work.now)) c.call.ensures
