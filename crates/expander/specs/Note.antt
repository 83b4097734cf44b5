-- A symbol pushed: what its record and the chains become. s is the tape, w is work. Assumes nothing: these are definitions.
use Rattle.std.specs.Prelude.{◌≡◌, ◌⊎◌, List, ℕ, ◌+◌, ◌<◌, ◌≤◌, length, get_or}
use Rattle.expander.specs.declared.Ground.{Ground}
use Rattle.expander.specs.Ground.{key_at, Records}

-- the symbol at p is the n-th; those before it stay, and nothing else changed
pub record Pushed (s w : List ℕ) (g : Ground) (n p : ℕ) (w' : List ℕ) : Type 0 where
  pub long : length w' ≡ length w
  pub here : key_at w' g n ≡ p
  pub before : (j : ℕ) → j < n → key_at w' g j ≡ key_at w g j
  pub records : Records s w' g (n + 1)
  pub others : (i : ℕ) → (i < g.keys) ⊎ (g.slots ≤ i) → get_or w' i 0 ≡ get_or w i 0
