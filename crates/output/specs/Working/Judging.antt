-- The sizes that are asked of a stage, and where levels are written. Assumes nothing: these are definitions.
use Rattle.std.specs.Prelude.{ℕ, ◌+◌, ◌-◌, ◌*◌, ◌/◌, ltb, Option, Some, None, Result, Ok, Err}
use Rattle.octets.specs.Working.Choice.{pick}
use Rattle.parse_tree.specs.Working.Refusals.{refusal_at}
use Rattle.levels.specs.declared.Room.{Room}
use Rattle.levels.specs.declared.Written.{Written}
use Rattle.parse_tree.specs.declared.refusal.Refusal.{Refusal}

-- 20 and 21 of a stage of so many atoms and n bytes
unfoldable pub sized : ℕ → ℕ → ℕ → Result (Unit {0}) Refusal
sized atoms n output = pick (ltb 65536 atoms) (Err (refusal_at 20 0)) (pick (ltb output n) (Err (refusal_at 21 0)) (Ok tt))

-- where levels are written, for a tape of T bytes of which n are its items', and an output of W
unfoldable pub room_of : ℕ → ℕ → ℕ → Room
room_of T n W = record { arrays = 8 * T + 2 * n; at = 8 * T + 6 * W - 2 * (W / 9); lim = 8 * T + 6 * W - 2 * (W / 9) + W }

-- 20 and 21 of the levelled stage, of which v is written; the tape's atoms have `at` bytes, the new ones so many, or one of them is too long
unfoldable pub sized_levels : Written → Room → ℕ → Option ℕ → ℕ → Result ℕ Refusal
sized_levels v room at None output = Err (refusal_at 20 0)
sized_levels v room at (Some bytes) output =
    let n = at + bytes + (v.to - room.at) in
    pick (ltb 65536 v.count) (Err (refusal_at 20 0)) (pick (ltb room.lim v.to) (Err (refusal_at 21 0)) (pick (ltb output n) (Err (refusal_at 21 0)) (Ok n)))
