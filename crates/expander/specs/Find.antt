-- A printed form among those of the pushed symbols and among the texts, told by numbers. s is the tape, w is work. Assumes nothing: these are definitions.
use Rattle.std.specs.Prelude.{◌≡◌, false, List, ℕ, ◌<◌, Option, Some, None}
use Rattle.octets.specs.Plain.Runs.{same_as}
use Rattle.expander.specs.declared.Ground.{Ground}
use Rattle.expander.specs.Ground.{printed_at, key_at}

module _ (s w : List ℕ) (g : Ground) where
  -- none of the first n pushed symbols prints as the one at p
  abbrev pub NoneBefore : ℕ → ℕ → Type 0
  NoneBefore n p = (i : ℕ) → i < n → same_as (printed_at s w g (key_at w g i)) (printed_at s w g p) ≡ false

  -- it is one of n that prints so, or none does
  unfoldable pub FindsKey : ℕ → ℕ → Option ℕ → Type 0
  FindsKey n p (Some i) = (i < n) × (printed_at s w g (key_at w g i) ≡ printed_at s w g p)
  FindsKey n p None = NoneBefore n p
