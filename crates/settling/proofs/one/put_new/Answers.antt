use Rattle.settling.proofs.OnePutCode.{putting}
use Rattle.settling.proofs.one.put_new.Goals as goal

pub put_print-requires : goal.put_print-requires
put_print-requires c = search putting

pub put_built-requires : goal.put_built-requires
put_built-requires c = search putting

pub returns-in-Print : goal.returns-in-Print
returns-in-Print c = search putting

pub returns-in-BuiltIn : goal.returns-in-BuiltIn
returns-in-BuiltIn c = search putting
