-- The names of levels, which have no bytes yet: how many bytes they will have, and those written. Assumes nothing: these are definitions.
use Rattle.std.specs.Prelude.{◌≡◌, List, ℕ, ◌+◌, ◌-◌, ◌<◌, length, Result, Ok, Err}
use Rattle.octets.specs.Working.Choice.{pick}
use Rattle.octets.specs.Working.Stores.{store}
use Rattle.parse_tree.specs.Plain.Tree.{Text}
use Rattle.parse_tree.specs.Plain.WriteTape.{bytes_of_each}
use Rattle.parse_tree.specs.Working.Encode.{atom_bytes}
use Rattle.texts.specs.declared.Map.{Map}
use Rattle.texts.specs.Atoms.{some_long}
use Rattle.precedence.specs.Names.{named_text, described_texts}

-- the texts described up to record n
abbrev pub new_texts : List ℕ → List ℕ → Map → ℕ → List Text
new_texts s w m n = described_texts s w m (n - m.count)

-- their bytes counted, as an error where one is too long
unfoldable pub fresh_of : List Text → Result ℕ ℕ
fresh_of ts = let n = length (bytes_of_each (atom_bytes 2) ts) in pick (some_long ts) (Err n) (Ok n)

-- name k is described, and how long it is
pub record NameLong (s w : List ℕ) (m : Map) (k r : ℕ) : Type 0 where
  pub is : r ≡ length (named_text s w m k)
  pub small : r < 65546

-- a name, or all from the k-th on, put to o from `to` on
pub record PutsNames (o : List ℕ) (to : ℕ) (xs : List ℕ) (r : ℕ) (o' : List ℕ) : Type 0 where
  pub bytes : o' ≡ store o to xs
  pub after : r ≡ to + length xs
