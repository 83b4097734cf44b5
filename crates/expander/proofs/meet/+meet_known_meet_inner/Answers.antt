use Rattle.std.proofs.Common.{◌≡◌, ◌+◌, ◌-◌, ◌*◌, ◌<◌, rules, refl, arith}
use Rattle.display.proofs.SinksLaws.{holding_met, holding_next}
use Rattle.expander.proofs.MeetCode.{meeting_start, meeting_known, meeting_between, meeting_inside, meeting_next}
use Rattle.expander.proofs.MeetCode.{known_meeting, symbol_meeting}
use Rattle.expander.proofs.meet.+meet_known_meet_inner.Goals as goal

pub meet_known-known-requires : goal.meet_known-known-requires
meet_known-known-requires t c = search known_meeting

pub meet_known-text-requires : goal.meet_known-text-requires
meet_known-text-requires t c = search known_meeting

pub meet_known-returns-in_err-i-in-Some : goal.meet_known-returns-in_err-i-in-Some
meet_known-returns-in_err-i-in-Some t c = rw c.from_residual.ensures (search (known_meeting, c.in_err-i-in-Some.was))

pub meet_known-returns-in_ok-i-in-Some : goal.meet_known-returns-in_ok-i-in-Some
meet_known-returns-in_ok-i-in-Some t c = search (known_meeting, c.in_ok-i-in-Some.was)

pub meet_known-meet_inner-requires : goal.meet_known-meet_inner-requires
meet_known-meet_inner-requires t c = search known_meeting

pub meet_inner-bounds-work-at : goal.meet_inner-bounds-work-at
meet_inner-bounds-work-at t c = search symbol_meeting

pub meet_inner-inside-n-requires : goal.meet_inner-inside-n-requires
meet_inner-inside-n-requires t c = search symbol_meeting

pub meet_inner-before-requires : goal.meet_inner-before-requires
meet_inner-before-requires t c = let e = c.words.ensures in rw (e.1, e.3) (search symbol_meeting)

pub meet_inner-returns-in_err-held : goal.meet_inner-returns-in_err-held
meet_inner-returns-in_err-held t c =
    let e = c.words.ensures in
    let b = rw (e.0, e.1, e.2, e.3) at c.before-2.ensures in
    let d = holding_met (record { text = refl; at = refl }) b in
    rw c.from_residual.ensures (search (symbol_meeting, d, c.in_err-held.was))

pub meet_inner-loop-k-init : goal.meet_inner-loop-k-init
meet_inner-loop-k-init t c =
    let e = c.words.ensures in
    let b = rw (e.0, e.1, e.2, e.3) at c.before-2.ensures in
    let d = holding_met (record { text = refl; at = refl }) b in
    record {
      meeting = meeting_start _ _ _ _ _ _ _ _ _ _ _ c.requires.0 c.requires.1 refl c.inside-n.ensures c.long.ensures.0 d c.in_ok-held.was;
      held = holding_next (record { text = refl; at = refl }) b _ _ c.in_ok-held.was;
    }

pub meet_inner-returns-in_err-i : goal.meet_inner-returns-in_err-i
meet_inner-returns-in_err-i t c =
    let inv = c.loop-k.invariant in
    rw c.from_residual-in_err-i.ensures (meeting_between _ _ _ _ _ _ _ _ _ _ inv.meeting _ (search rules) (holding_met inv.held c.between.ensures) c.in_err-i.was)

pub meet_inner-meet_known-requires : goal.meet_inner-meet_known-requires
meet_inner-meet_known-requires t c =
    let deep = c.loop-k.invariant.meeting.going.deep in
    let measure : 2 * c.args.left ≡ t = c.decreases in
    (let less : 2 * (c.args.left - 1) + 1 < t = omega arith in less, (c.requires.0, meeting_known _ _ _ _ _ _ _ _ _ _ c.loop-k.invariant.meeting c.loop-k-test.true))

pub meet_inner-returns-in_err-q : goal.meet_inner-returns-in_err-q
meet_inner-returns-in_err-q t c =
    let inv = c.loop-k.invariant in
    rw c.from_residual-in_err-q.ensures (meeting_inside _ _ _ _ _ _ _ _ _ _ inv.meeting _ _ _ (search rules) (holding_met inv.held c.between.ensures) c.in_ok-i.was c.meet_known.ensures c.in_err-q.was)

pub meet_inner-loop-k-preserved : goal.meet_inner-loop-k-preserved
meet_inner-loop-k-preserved t c =
    let inv = c.loop-k.invariant in
    record {
      meeting = meeting_next _ _ _ _ _ _ _ _ _ _ inv.meeting _ _ _ _ (search rules) (holding_met inv.held c.between.ensures) c.in_ok-i.was c.meet_known.ensures c.in_ok-q.was;
      held = holding_next inv.held c.between.ensures _ _ refl;
    }

pub meet_inner-behind-requires : goal.meet_inner-behind-requires
meet_inner-behind-requires t c = search symbol_meeting

pub meet_inner-returns-in_err-e : goal.meet_inner-returns-in_err-e
meet_inner-returns-in_err-e t c = let d = holding_met c.loop-k.invariant.held c.behind.ensures in rw c.from_residual-in_err-e.ensures (search (symbol_meeting, d, c.in_err-e.was))

pub meet_inner-returns : goal.meet_inner-returns
meet_inner-returns t c = let d = holding_met c.loop-k.invariant.held c.behind.ensures in search (symbol_meeting, d, c.in_ok-e.was)

pub meet_inner-overflow_add-q : goal.meet_inner-overflow_add-q
meet_inner-overflow_add-q t c = search symbol_meeting
