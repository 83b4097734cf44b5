-- Little-endian numbers of any width in lists of bytes. Assumes nothing: these are definitions.
use Rattle.std.specs.Prelude.{ℕ, zero, suc, ◌+◌, ◌*◌, ◌/◌, ◌%◌, ◌<◌, List, [], ◌∷◌, get_or}

-- the number that the w bytes from `at` on say, low byte first
unfoldable pub le_at : ℕ → List ℕ → ℕ → ℕ
le_at zero s at = 0
le_at (suc w) s at = get_or s at 0 + 256 * le_at w s (at + 1)

-- a number in w bytes
unfoldable pub le : ℕ → ℕ → List ℕ
le zero v = []
le (suc w) v = v % 256 ∷ le w (v / 256)

-- a list of bytes: each is below 256
abbrev pub Bytes : List ℕ → Type 0
Bytes s = (i : ℕ) → get_or s i 0 < 256
