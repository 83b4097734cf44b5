use Rattle.settling.proofs.AtomCode.{atoming}
use Rattle.settling.proofs.atom.put_atom_text.Goals as goal

pub put_symbol-requires : goal.put_symbol-requires
put_symbol-requires c = search atoming

pub returns : goal.returns
returns c = search atoming
