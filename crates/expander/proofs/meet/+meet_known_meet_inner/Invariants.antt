use Rattle.display.proofs.SinksLaws.{Holding}
use Rattle.expander.proofs.MeetCode.{Meeting}
use Prim.Native.Nat.{◌+◌, ◌*◌}
use Rattle.expander.proofs.meet.+meet_known_meet_inner.Given as goal

abbrev pub decreases-meet_known : goal.decreases-meet_known
decreases-meet_known l = 2 * l.left + 1

abbrev pub decreases-meet_inner : goal.decreases-meet_inner
decreases-meet_inner l = 2 * l.left

abbrev pub invariant-meet_inner-loop-k : goal.invariant-meet_inner-loop-k
invariant-meet_inner-loop-k l = record { meeting : Meeting l.tape l.work l.g l.left l.t l.fn.p l.c l.n l.q l.k; held : Holding l.t l.q.i l.held }
