-- A writer that counts what does not fit. Assumes nothing: these are definitions.
use Rattle.std.specs.Prelude.{◌≡◌, List, [], ◌∷◌, ℕ, zero, suc, ◌+◌, ltb, length, set}
use Rattle.octets.specs.Working.Choice.{pick}

-- the cursor after one byte: it stops at lim + 1
unfoldable pub step : ℕ → ℕ → ℕ
step lim to = pick (ltb lim to) to (to + 1)

-- and after n
unfoldable pub adv : ℕ → ℕ → ℕ → ℕ
adv lim to zero = to
adv lim to (suc n) = adv lim (step lim to) n

-- one byte, where it fits
unfoldable pub lay1 : List ℕ → ℕ → ℕ → ℕ → List ℕ
lay1 w lim to v = pick (ltb to lim) (set w to v) w

-- the bytes from `to` on, as far as they fit below lim
unfoldable pub lay : List ℕ → ℕ → ℕ → List ℕ → List ℕ
lay w lim to [] = w
lay w lim to (v ∷ vs) = lay (lay1 w lim to v) lim (step lim to) vs

-- xs written to w from `to` on, below lim, leaves w' and the cursor r
pub record Laid (w : List ℕ) (lim to : ℕ) (xs : List ℕ) (r : ℕ) (w' : List ℕ) : Type 0 where
  pub bytes : w' ≡ lay w lim to xs
  pub after : r ≡ adv lim to (length xs)
