use Rattle.grades.proofs.DecimalLaws.{level_number}
use Rattle.grades.proofs.grade.put_decimal.Goals as goal

pub put_digits-requires : goal.put_digits-requires
put_digits-requires c = rw (← level_number c.args.v c.ranges.v.fits) c.requires

pub returns : goal.returns
returns c = let e = level_number c.args.v c.ranges.v.fits in record { bytes = rw e c.put_digits.ensures.0; after = rw e c.put_digits.ensures.1 }
