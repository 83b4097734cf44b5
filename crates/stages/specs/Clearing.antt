-- What is asked of work before it is cleared. Assumes nothing: this is a definition.
use Rattle.std.specs.Prelude.{◌≡◌, List, ℕ, ◌<◌, ◌≤◌, slice_index}

-- only zeros stand from a place up to another
pub record Zeros (w : List ℕ) (from to : ℕ) : Type 0 where
  pub each : (i : ℕ) → from ≤ i → i < to → slice_index w i ≡ 0
