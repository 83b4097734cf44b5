use Rattle.precedence.proofs.WriteWholeCode.{attributing, conditioning, parting, rooming, standing_behind, stopping}
use Rattle.precedence.proofs.write.put_parts.Goals as goal

pub whole_alternative-m-requires : goal.whole_alternative-m-requires
whole_alternative-m-requires c = search parting

pub overflow_add-a-2 : goal.overflow_add-a-2
overflow_add-a-2 c = search parting

pub put_head-q-requires : goal.put_head-q-requires
put_head-q-requires c = search parting

pub put_attributes-r-requires : goal.put_attributes-r-requires
put_attributes-r-requires c = (search attributing, search stopping, search rooming)

pub overflow_add-a-3 : goal.overflow_add-a-3
overflow_add-a-3 c = search parting

pub put_run-requires : goal.put_run-requires
put_run-requires c = (search conditioning, search standing_behind, search rooming)

pub returns : goal.returns
returns c = search parting
