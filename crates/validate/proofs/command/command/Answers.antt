use Rattle.std.proofs.Common.{arith}
use Rattle.validate.proofs.CommandCode.{asked_inside, commanding}
use Rattle.validate.proofs.command.command.Goals.{then-not-is_defined-via-then-not-is_defined, then-not-is_defined-via-else-not-is_defined+then-left-lt1}
use Rattle.validate.proofs.command.command.Goals as goal

pub returns-then-not-allowed : goal.returns-then-not-allowed
returns-then-not-allowed c = search commanding

pub returns-then-not-is_defined : goal.returns-then-not-is_defined
returns-then-not-is_defined c = elim c.then-not-is_defined.branch [ then-not-is_defined-via-then-not-is_defined w ↦ search commanding | then-not-is_defined-via-else-not-is_defined+then-left-lt1 w ↦ search commanding ]

pub returns-then-not-is_apt : goal.returns-then-not-is_apt
returns-then-not-is_apt c = search commanding

pub overflow_add-result : goal.overflow_add-result
overflow_add-result c = record { fits = omega (arith, asked_inside c.args.r.now.tape.now _ c.args.at c.node.result c.node.ensures c.in-Some.n c.in-Some.is) }

pub returns : goal.returns
returns c = search commanding

pub returns-in_default : goal.returns-in_default
returns-in_default c = search commanding
