use lib.ListN.{length}
use Rattle.normalize.proofs.CallsCode.{macros_is}
use Rattle.normalize.proofs.calls.macros.Goals as goal

pub returns : goal.returns
returns c = rw (← macros_is c.args.tape.now c.args.limit (length c.args.output.now) (length c.args.work.now)) c.call.ensures
