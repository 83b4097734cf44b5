use Rattle.precedence.proofs.LevelCode.{beginning, ending, heading_level}
use Rattle.precedence.proofs.WriteWholeCode.{rooming}
use Rattle.precedence.proofs.level.put_nonterminal_head.Goals as goal

pub first_alternative-e-requires : goal.first_alternative-e-requires
first_alternative-e-requires c = search heading_level

pub put_named-q-requires : goal.put_named-q-requires
put_named-q-requires c = search heading_level

pub overflow_add-p : goal.overflow_add-p
overflow_add-p c = search heading_level

pub overflow_add-p-2 : goal.overflow_add-p-2
overflow_add-p-2 c = search heading_level

pub put_run-requires : goal.put_run-requires
put_run-requires c = (search beginning, search ending, search rooming)

pub returns : goal.returns
returns c = search heading_level
