use Rattle.display.proofs.SinksLaws.{holding}
use Rattle.display.proofs.follow.HeldSink.run.Goals as goal

pub returns-in-Some : goal.returns-in-Some
returns-in-Some c = search holding

pub returns-in_default : goal.returns-in_default
returns-in_default c = search holding
