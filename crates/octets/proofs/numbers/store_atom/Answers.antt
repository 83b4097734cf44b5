use Rattle.octets.proofs.StoreLaws.{putting_atom}
use Rattle.octets.proofs.numbers.store_atom.Goals as goal

pub returns-then-width-eq3 : goal.returns-then-width-eq3
returns-then-width-eq3 c = search putting_atom

pub returns-else-width-eq3 : goal.returns-else-width-eq3
returns-else-width-eq3 c = search putting_atom
