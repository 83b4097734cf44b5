use Rattle.settling.proofs.OnePutCode.{printing}
use Rattle.settling.proofs.one.put_print.Goals as goal

pub mark-p-requires : goal.mark-p-requires
mark-p-requires c = search printing

pub hash-h-requires : goal.hash-h-requires
hash-h-requires c = search printing

pub put_atom_text-requires : goal.put_atom_text-requires
put_atom_text-requires c = search printing

pub returns : goal.returns
returns c = search printing
