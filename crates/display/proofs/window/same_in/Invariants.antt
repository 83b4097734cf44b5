use Prim.Native.Nat.{◌-◌, ◌*◌, ◌^◌}
use lib.ListN.{length}
use Rattle.display.proofs.WindowSame.{Comparing}
use Rattle.display.proofs.window.same_in.Given as goal

abbrev pub invariant-loop-skip : goal.invariant-loop-skip
invariant-loop-skip l = Comparing l.words.tape.now l.words.work.now l.words.m l.words.width.bytes l.left l.a l.b l.skip

abbrev pub decreases-loop-skip : goal.decreases-loop-skip
decreases-loop-skip l = 2 ^ 64 * length l.words.work.now - l.skip
