use Rattle.texts.proofs.AtomPutCode.{putting_atom}
use Rattle.texts.proofs.text.put_atom.Goals as goal

pub returns : goal.returns
returns c = search putting_atom
