use Rattle.std.proofs.Common.{◌≡◌}
use Rattle.settling.proofs.PutLaws.{puts_as}
use Rattle.listing.specs.Tree.{flags_line}
use Rattle.listing.proofs.HeadCode.{flagging}
use Rattle.listing.proofs.head.put_flags.Goals as goal
use Rattle.listing.proofs.head.put_flags.Goals.{in-0, in-1, in-2, in_default}

pub returns : goal.returns
returns c =
    let e : c.match-f.t.now ≡ flags_line c.args.f = elim c.match-f.branch [ in-0 w ↦ search flagging | in-1 w ↦ search flagging | in-2 w ↦ search flagging | in_default w ↦ search flagging ] in
    puts_as e c.put_slice.ensures
