use Rattle.std.proofs.Common.{◌∙◌, arith}
use Rattle.octets.proofs.NumbersLaws.{read_16, bytes_read}
use Rattle.octets.proofs.numbers.u16_at.Goals as goal

pub returns : goal.returns
returns c = read_16 c.bytes_at.result c.from_le_bytes.result (omega (arith, c.from_le_bytes.ensures))
    ∙ bytes_read c.args.s.now c.bytes_at.result c.args.at 2 c.bytes_at.ensures 2 (omega arith)
