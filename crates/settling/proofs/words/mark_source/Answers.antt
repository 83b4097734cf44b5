use Rattle.settling.proofs.WordsCode.{marking}
use Rattle.settling.proofs.words.mark_source.Goals as goal

pub stand-requires : goal.stand-requires
stand-requires c = search marking

pub atom-requires : goal.atom-requires
atom-requires c = search marking

pub overflow_add-at : goal.overflow_add-at
overflow_add-at c = search marking

pub u16_at-requires : goal.u16_at-requires
u16_at-requires c = search marking

pub overflow_add-result : goal.overflow_add-result
overflow_add-result c = search marking

pub overflow_add-result-in-Work : goal.overflow_add-result-in-Work
overflow_add-result-in-Work c = search marking

pub overflow_add-result-in-Work-2 : goal.overflow_add-result-in-Work-2
overflow_add-result-in-Work-2 c = search marking

pub returns-in-Tape : goal.returns-in-Tape
returns-in-Tape c = search marking

pub returns-in-Work : goal.returns-in-Work
returns-in-Work c = search marking
