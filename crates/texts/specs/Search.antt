-- A record looked for by its hash. A i r: r is a possible answer to whether record i is the one. Assumes nothing: these are definitions.
use Rattle.std.specs.Prelude.{◌≡◌, Bool, true, false, Option, Some, None, List, ℕ, ◌≤◌, ◌<◌}
use Rattle.texts.specs.Fields.{hash_at}
use Rattle.texts.specs.Table.{linked}

module _ (A : ℕ → Bool → Type 0) where
  -- among those of n records that are in no chain
  unfoldable pub Rested : ℕ → Option ℕ → Type 0
  Rested n (Some i) = (i < n) × A i true
  Rested n None = (i : ℕ) → linked n ≤ i → i < n → A i false

  -- what is told of record i, which is asked only where its hash is h
  unfoldable pub Asked : List ℕ → ℕ → ℕ → ℕ → Bool → Type 0
  Asked w b h i true = (hash_at w b i ≡ h) × A i true
  Asked w b h i false = hash_at w b i ≡ h → A i false

  -- among those of the first n records from b on whose hash is h
  unfoldable pub Searched : List ℕ → ℕ → ℕ → ℕ → Option ℕ → Type 0
  Searched w b n h (Some i) = (i < n) × Asked w b h i true
  Searched w b n h None = (i : ℕ) → i < n → Asked w b h i false
