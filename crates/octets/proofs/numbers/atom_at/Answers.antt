use Rattle.std.proofs.Common.{arith}
use Rattle.octets.proofs.NumbersLaws.{read_atom_three}
use Rattle.octets.proofs.numbers.atom_at.Goals as goal

pub returns-else-width-eq2 : goal.returns-else-width-eq2
returns-else-width-eq2 c = read_atom_three c.args.s.now c.args.at c.from_le_bytes.result c.args.width.bytes (omega arith) (omega arith) c.if-width-eq2.false (omega (arith, c.from_le_bytes.ensures))
