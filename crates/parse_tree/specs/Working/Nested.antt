-- How many symbols stand straight inside a symbol, as its command says. wd is the width of an atom's number in bytes. Assumes nothing: these are definitions.
use Rattle.std.specs.Prelude.{ℕ, ◌+◌, List, eqb, ltb, get_or}
use Rattle.octets.specs.Working.Choice.{pick}
use Rattle.octets.specs.Plain.Numbers.{le_at}

-- how many symbols stand straight inside one, by its code c
unfoldable pub inside_by : ℕ → List ℕ → ℕ → ℕ → ℕ
inside_by wd w at c = pick (eqb c 37) (get_or w (at + 9 + wd) 0) (pick (eqb c 41) (le_at 2 w (at + 9)) (pick (ltb c 38) 0 (pick (ltb 40 c) 0 1)))

-- inside the one at a place
unfoldable pub inside_at : ℕ → List ℕ → ℕ → ℕ
inside_at wd w at = inside_by wd w at (get_or w at 0)
