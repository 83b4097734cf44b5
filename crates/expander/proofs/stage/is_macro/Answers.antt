use Rattle.expander.proofs.StageCode.{defining}
use Rattle.expander.proofs.stage.is_macro.Goals as goal

pub whole_nonterminal-requires : goal.whole_nonterminal-requires
whole_nonterminal-requires c = search defining

pub returns-then-c-eq16 : goal.returns-then-c-eq16
returns-then-c-eq16 c = search defining

pub returns-else-c-eq16 : goal.returns-else-c-eq16
returns-else-c-eq16 c = search defining
