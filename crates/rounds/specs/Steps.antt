-- The expander's numbers from step to step. Assumes nothing: these are definitions.
use Rattle.std.specs.Prelude.{ℕ, ◌+◌}
use Rattle.rounds.specs.declared.Expander.{Expander}

-- so many items, and nothing is pending
abbrev pub numbers_at_start : ℕ → Expander
numbers_at_start n = record { height = 0; round = 0; items = n }

-- n symbols are pending
abbrev pub numbers_pending : Expander → ℕ → Expander
numbers_pending e n = record { height = n; round = e.round; items = e.items }

-- each of them became an item, in a round more
abbrev pub numbers_appended : Expander → Expander
numbers_appended e = record { height = 0; round = e.round + 1; items = e.items + e.height }
