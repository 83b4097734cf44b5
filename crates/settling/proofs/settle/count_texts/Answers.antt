use Rattle.settling.proofs.CountCode.{counting}
use Rattle.settling.proofs.settle.count_texts.Goals as goal

pub loop-i-init : goal.loop-i-init
loop-i-init c = search counting

pub entry-x-requires : goal.entry-x-requires
entry-x-requires c = search counting

pub overflow_add-bytes : goal.overflow_add-bytes
overflow_add-bytes c = search counting

pub overflow_add-bytes-in-loop-i : goal.overflow_add-bytes-in-loop-i
overflow_add-bytes-in-loop-i c = search counting

pub returns-then-l-gt65535 : goal.returns-then-l-gt65535
returns-then-l-gt65535 c = search counting

pub loop-i-preserved : goal.loop-i-preserved
loop-i-preserved c = search counting

pub returns : goal.returns
returns c = search counting
