use Rattle.std.proofs.Common.{rules}
use Rattle.grades.proofs.DecimalCode.{size_is_power}
use Rattle.grades.proofs.decimal.number_size.Goals as goal

pub returns : goal.returns
returns c =
    let power = c.checked_ilog10.ensures in
    size_is_power c.args.v c.checked_ilog10.result c.map_or.result power.none power.power_le power.next_power_gt power.bound (search rules)
