use Rattle.expander.proofs.SlotsNumbered.{numbering}
use Rattle.expander.proofs.slots.number.Goals as goal

pub returns-in-Text : goal.returns-in-Text
returns-in-Text c = search numbering

pub mark-q-requires : goal.mark-q-requires
mark-q-requires c = search numbering

pub put_new-requires : goal.put_new-requires
put_new-requires c = (search numbering, search numbering, search numbering)

pub overflow_add-result : goal.overflow_add-result
overflow_add-result c = search numbering

pub overflow_add-result-in-Pushed : goal.overflow_add-result-in-Pushed
overflow_add-result-in-Pushed c = search numbering

pub returns-in-Pushed : goal.returns-in-Pushed
returns-in-Pushed c = search numbering

pub reference-requires : goal.reference-requires
reference-requires c = search numbering
