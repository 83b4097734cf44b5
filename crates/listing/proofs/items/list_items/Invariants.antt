use Prim.Native.Nat.{◌-◌}
use Rattle.listing.specs.Walk.{ItemGood}
use Rattle.listing.specs.Listing.{listed_item}
use Rattle.parse_tree.specs.Working.Encode.{item_bytes}
use Rattle.listing.proofs.WalkLaws.{Going}
use Rattle.listing.proofs.items.list_items.Given as goal

abbrev pub invariant-loop : goal.invariant-loop
invariant-loop l = Going (ItemGood l.page.width.bytes) (item_bytes l.page.width.bytes) listed_item l.page.tape.now l.initial.work l.page.m l.page.width.bytes l.n l.at l.page.lim l.to l.work l.p (l.n - l.counter) l.q
