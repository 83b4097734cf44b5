use Rattle.std.proofs.Common.{◌≡◌, length, ap, sym, ◌∙◌, arith}
use Rattle.grades.specs.Grade.{level_digits}
use Rattle.grades.proofs.DecimalLaws.{level_number, digits-most}
use Rattle.grades.proofs.grade.decimal_size.Goals as goal

pub returns : goal.returns
returns c =
    let e : c.number_size.result ≡ length (level_digits c.args.v) = c.number_size.ensures.0 ∙ sym (ap length (level_number c.args.v c.ranges.v.fits)) in
    (e, c.number_size.ensures.1, omega (arith, digits-most c.args.v))
