-- What is known of a name, in the cell of its text's record. Assumes nothing: these are definitions.
use Rattle.std.specs.Prelude.{List, ℕ, ◌+◌, ◌-◌, ◌*◌, ◌≤◌, leb, eqb, Option, Some, None}
use Rattle.octets.specs.Working.Choice.{pick}
use Rattle.octets.specs.Plain.Numbers.{le}
use Rattle.octets.specs.Working.Stores.{store}
use Rattle.texts.specs.declared.Map.{Map}
use Rattle.texts.specs.Fields.{cell_at}
use Rattle.resolve.specs.declared.Definition.{Definition}

-- n bytes of work hold the records
abbrev pub Room : Map → ℕ → Type 0
Room m n = m.base + 24 * m.count ≤ n

-- the cell of the k-th text, 0 where there is none: 0 nothing, 1 a terminal, 2 and the number of its arguments a nonterminal; 512 more while
-- it is an argument of the item at hand
unfoldable pub known_at : Map → List ℕ → ℕ → ℕ
known_at m w k = pick (leb m.count k) 0 (cell_at w m.base k)

-- as a definition
unfoldable pub found_by : ℕ → Option Definition
found_by d = pick (eqb d 0) None (Some (pick (leb 512 d) (Definition.Argument (d - 512)) (pick (eqb d 1) Definition.Terminal (Definition.Nonterminal (d - 2)))))

unfoldable pub define_at : Map → List ℕ → ℕ → ℕ → List ℕ
define_at m w k d = pick (leb m.count k) w (store w (m.base + 24 * k + 20) (le 4 d))
