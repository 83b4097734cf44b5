use Rattle.std.proofs.Common.{refl}
use Rattle.settling.proofs.PutCode.{telling_start, telling_next, telling_done}
use Rattle.settling.proofs.put.escape.Goals as goal

pub loop-i-init : goal.loop-i-init
loop-i-init g c = telling_start _ _ _ _ _ _ _ c.requires.inside.1

pub byte-b-requires : goal.byte-b-requires
byte-b-requires g c = c.requires.reads _ _ c.loop-i.invariant.stays c.loop-i.invariant.from c.loop-i-test.true

pub loop-i-preserved : goal.loop-i-preserved
loop-i-preserved g c = telling_next _ _ _ _ _ _ _ _ _ _ c.loop-i.invariant _ _ _ _ c.loop-i-test.true refl c.byte-b.ensures c.put_inside-q.ensures

pub returns : goal.returns
returns g c = telling_done _ _ _ _ _ _ _ _ _ _ c.loop-i.invariant c.loop-i-test.false
