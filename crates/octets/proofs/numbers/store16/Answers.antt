use Rattle.std.proofs.Common.{◌+◌, ◌-◌, ◌∙◌, arith}
use Rattle.octets.specs.Plain.Numbers.{le}
use Rattle.octets.proofs.NumbersLaws.{length-le, bytes-16}
use Rattle.octets.proofs.StoreLaws.{store-copied}
use Rattle.octets.proofs.numbers.store16.Goals as goal

pub returns : goal.returns
returns c = store-copied c.args.out.now c.copy_from_slice.new.self (le 2 c.args.v) c.args.at (c.args.at + 2 - c.args.at)
    (c.copy_from_slice.ensures.after ∙ c.to_le_bytes.ensures ∙ bytes-16 c.args.v) (omega arith) (omega (arith, length-le 2 c.args.v))
