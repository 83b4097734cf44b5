use Rattle.settling.proofs.CopiedPutCode.{walking}
use Rattle.settling.proofs.copied.put_walked.Goals as goal

pub bounds-work-at : goal.bounds-work-at
bounds-work-at c = search walking

pub inside-requires : goal.inside-requires
inside-requires c = search walking

pub put_before-q-requires : goal.put_before-q-requires
put_before-q-requires c = search walking

pub put_behind-requires : goal.put_behind-requires
put_behind-requires c = search walking

pub returns-then-inside-eq0 : goal.returns-then-inside-eq0
returns-then-inside-eq0 c = search walking

pub print_symbol-requires : goal.print_symbol-requires
print_symbol-requires c = search walking

pub returns-else-inside-eq0 : goal.returns-else-inside-eq0
returns-else-inside-eq0 c = search walking

pub overflow_add-at : goal.overflow_add-at
overflow_add-at c = search walking
