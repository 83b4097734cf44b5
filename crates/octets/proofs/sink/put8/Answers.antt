use Rattle.octets.proofs.SinkCode.{laying}
use Rattle.octets.proofs.sink.put8.Goals as goal

pub returns-then-lim-to : goal.returns-then-lim-to
returns-then-lim-to c = search laying

pub returns-then-to-lim : goal.returns-then-to-lim
returns-then-to-lim c = search laying

pub returns : goal.returns
returns c = search laying
