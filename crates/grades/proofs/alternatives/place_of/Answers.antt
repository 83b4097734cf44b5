use Rattle.std.proofs.Common.{rules}
use Rattle.octets.specs.Working.Choice.{pick}
use Rattle.grades.specs.Alternatives.{place_of_key}
use Rattle.grades.proofs.alternatives.place_of.Goals as goal

pub returns : goal.returns
unfolding place_of_key pick
returns c = search rules
