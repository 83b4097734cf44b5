use Prim.Native.Nat.{◌-◌}
use Rattle.listing.specs.Walk.{AlternativeGood}
use Rattle.listing.specs.Listing.{listed_alternative}
use Rattle.parse_tree.specs.Working.Encode.{alternative_bytes}
use Rattle.listing.proofs.WalkLaws.{Going}
use Rattle.listing.proofs.alternatives.list_alternatives.Given as goal

abbrev pub invariant-loop : goal.invariant-loop
invariant-loop l = Going (AlternativeGood l.page.width.bytes) (alternative_bytes l.page.width.bytes) listed_alternative l.page.tape.now l.initial.work l.page.m l.page.width.bytes l.n l.at l.page.lim l.to l.work l.p (l.n - l.counter) l.q
