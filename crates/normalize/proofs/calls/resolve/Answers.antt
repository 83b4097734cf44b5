use lib.ListN.{length}
use Rattle.normalize.proofs.CallsCode.{calling, resolve_is}
use Rattle.normalize.proofs.calls.resolve.Goals as goal

pub returns : goal.returns
returns c = rw (← resolve_is c.args.tape.now 0 (length c.args.output.now) (length c.args.work.now)) (search (calling, c.call.ensures))
