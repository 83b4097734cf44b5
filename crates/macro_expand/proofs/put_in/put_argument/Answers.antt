use Rattle.macro_expand.proofs.PutInArgument.{putting_any}
use Rattle.macro_expand.proofs.put_in.put_argument.Goals as goal

pub bounds-work-p : goal.bounds-work-p
bounds-work-p c = search putting_any

pub put_named-requires : goal.put_named-requires
put_named-requires c = search putting_any

pub returns-then-is_expanded : goal.returns-then-is_expanded
returns-then-is_expanded c = search putting_any

pub put_plain-requires : goal.put_plain-requires
put_plain-requires c = search putting_any

pub returns-else-is_expanded : goal.returns-else-is_expanded
returns-else-is_expanded c = search putting_any
