use Rattle.rounds.proofs.RoundCode.{piling}
use Rattle.rounds.proofs.round.expand_pile.Goals as goal

pub clear_built-requires : goal.clear_built-requires
clear_built-requires c = search piling

pub overflow_sub-lim : goal.overflow_sub-lim
overflow_sub-lim c = search piling

pub overflow_sub-lim-3 : goal.overflow_sub-lim-3
overflow_sub-lim-3 c = search piling

pub drain-requires : goal.drain-requires
drain-requires c = search piling

pub returns : goal.returns
returns c = search piling
