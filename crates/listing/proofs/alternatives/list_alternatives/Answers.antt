use Rattle.std.proofs.Common.{◌≡◌, ◌+◌, ◌-◌, ◌<◌, ◌≤◌, arith}
use Rattle.listing.proofs.WalkLaws.{walking}
use Rattle.listing.proofs.alternatives.list_alternatives.Goals as goal

pub loop-init : goal.loop-init
loop-init c = search walking

pub list_alternative-z-requires : goal.list_alternative-z-requires
list_alternative-z-requires c = let l : 0 < c.args.n - c.loop.counter = omega arith in search walking

pub loop-preserved : goal.loop-preserved
loop-preserved c = let e : c.args.n - c.loop.counter ≡ c.args.n - (c.loop.counter + 1) + 1 = omega arith in search walking

pub returns : goal.returns
returns c = let l : c.args.n - c.loop.counter ≤ 0 = omega arith in search walking
