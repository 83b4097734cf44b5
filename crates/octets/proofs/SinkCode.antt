-- The ways out of `put8`. Assumes nothing.
use mathlib.Core.List.{List, [], ◌∷◌}
use Prim.Native.Nat.{ℕ, ◌+◌, ◌<◌, ◌≤◌}
use native.Mathlib.Omega.{arith}
use borrow.Author.Rules.{rules}
use borrow.Author.Tests.{lt-ltb, le-ltb}
use lib.ListN.{set}
use Rattle.octets.specs.Working.Choice.{pick}
use Rattle.octets.specs.Working.Sink.{step, adv, lay1, lay, Laid}

module _ (w : List ℕ) (lim to b : ℕ) where
  pub put8_over : lim < to → Laid w lim to (b ∷ []) to w
  unfolding lay adv lay1 step pick
  put8_over h = record { bytes = cc (le-ltb to lim (omega arith)); after = cc (lt-ltb lim to h) }

  pub put8_in : to ≤ lim → to < lim → Laid w lim to (b ∷ []) (to + 1) (set w to b)
  unfolding lay adv lay1 step pick
  put8_in g h = record { bytes = cc (lt-ltb to lim h); after = cc (le-ltb lim to g) }

  pub put8_end : to ≤ lim → lim ≤ to → Laid w lim to (b ∷ []) (to + 1) w
  unfolding lay adv lay1 step pick
  put8_end g h = record { bytes = cc (le-ltb to lim h); after = cc (le-ltb lim to g) }

pub ruleset laying = (rules, put8_over, put8_in, put8_end)
