use Rattle.precedence.proofs.WriteCode.{keeping_one}
use Rattle.precedence.proofs.write.put_attribute.Goals as goal
use Rattle.precedence.proofs.write.put_attribute.Goals.{then-eq, else-eq}

pub returns-then-eq-2 : goal.returns-then-eq-2
returns-then-eq-2 c = elim c.if-eq.branch [ then-eq w ↦ search keeping_one | else-eq w ↦ search keeping_one ]

pub returns-else-eq-2 : goal.returns-else-eq-2
returns-else-eq-2 c = elim c.if-eq.branch [ then-eq w ↦ search keeping_one | else-eq w ↦ search keeping_one ]
