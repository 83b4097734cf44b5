use Prim.Native.Nat.{◌-◌}
use Rattle.macro_expand.proofs.PutInCode.{Fitting}
use Rattle.macro_expand.proofs.put_in.fits.Given as goal

abbrev pub invariant-loop : goal.invariant-loop
invariant-loop l = Fitting l.width.bytes l.e l.work l.left l.p l.q (l.left - l.counter)
