use Rattle.macro_expand.proofs.PutInPlain.{plain-one}
use Rattle.macro_expand.proofs.put_in.put_plain.Goals as goal

pub bounds-work-p : goal.bounds-work-p
bounds-work-p c = search plain-one

pub inside_at-k-requires : goal.inside_at-k-requires
inside_at-k-requires c = search plain-one

pub put_spanned-to-requires : goal.put_spanned-to-requires
put_spanned-to-requires c = search plain-one

pub put_symbols-r-requires : goal.put_symbols-r-requires
put_symbols-r-requires c = search plain-one

pub returns : goal.returns
returns c = search plain-one

pub overflow_add-e : goal.overflow_add-e
overflow_add-e c = search plain-one

pub overflow_add-p : goal.overflow_add-p
overflow_add-p c = search plain-one
