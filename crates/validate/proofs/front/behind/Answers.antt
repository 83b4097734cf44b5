use Rattle.validate.proofs.FrontCode.{behinding}
use Rattle.validate.proofs.front.behind.Goals.{then-tape-at-via-then-tape-at, then-tape-at-via-else-tape-at+then-tape-at-ne1}
use Rattle.validate.proofs.front.behind.Goals as goal

pub returns-then-tape-at : goal.returns-then-tape-at
returns-then-tape-at c = elim c.then-tape-at.branch [ then-tape-at-via-then-tape-at w ↦ search behinding | then-tape-at-via-else-tape-at+then-tape-at-ne1 w ↦ search behinding ]

pub returns-in_err-n : goal.returns-in_err-n
returns-in_err-n c = search (behinding, c.in_err-n.was)

pub returns : goal.returns
returns c = search (behinding, c.in_ok-n.was)
