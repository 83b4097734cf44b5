-- The atoms at the front of a tape, by number. Assumes nothing: these are definitions.
use Rattle.std.specs.Prelude.{Bool, false, ◌||◌, ℕ, zero, suc, ◌+◌, List, [], ◌∷◌, ◌++◌, ltb, length}
use Rattle.octets.specs.Plain.Numbers.{le_at}
use Rattle.octets.specs.Plain.Runs.{part}
use Rattle.parse_tree.specs.Plain.Tree.{Text}

-- behind the atom whose command stands at a place
unfoldable pub atom_end : List ℕ → ℕ → ℕ
atom_end s at = at + 3 + le_at 2 s (at + 1)

-- its text
unfoldable pub atom_text : List ℕ → ℕ → Text
atom_text s at = part (at + 3) (atom_end s at) s

-- the place of the k-th atom, the first being 0
unfoldable pub place_of : List ℕ → ℕ → ℕ
place_of s zero = 0
place_of s (suc k) = atom_end s (place_of s k)

-- the first k atoms
unfoldable pub atoms_of : List ℕ → ℕ → List Text
atoms_of s zero = []
atoms_of s (suc k) = atoms_of s k ++ (atom_text s (place_of s k) ∷ [])

-- whether one of the texts is longer than an atom's can be
unfoldable pub some_long : List Text → Bool
some_long [] = false
some_long (t ∷ ts) = ltb 65535 (length t) || some_long ts
