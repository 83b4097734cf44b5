use Rattle.std.proofs.Common.{length, ◌-◌}
use Rattle.cases.proofs.line.read_words.Given as goal

abbrev pub decreases-loop-at : goal.decreases-loop-at
decreases-loop-at l = length l.line - l.at
