-- What `validate` says of a tape whose atoms' numbers have so many bytes; four says whether question 4 is asked. Assumes nothing: these are definitions.
use Rattle.std.specs.Prelude.{◌≡◌, Bool, List, [], ℕ, ◌+◌, ◌-◌, ◌*◌, ◌<◌, length, take, Result, Ok, Err}
use Rattle.octets.specs.Plain.Numbers.{le_at}
use Rattle.parse_tree.specs.Plain.Tree.{Item}
use Rattle.parse_tree.specs.Plain.Reading.{got}
use Rattle.parse_tree.specs.Plain.WriteTape.{bytes_of_each}
use Rattle.parse_tree.specs.Working.Decode.{decode_by, read_atoms, read_items}
use Rattle.parse_tree.specs.Working.Encode.{item_bytes}
use Rattle.parse_tree.specs.declared.refusal.Refusal.{Refusal}
use Rattle.texts.specs.Atoms.{atoms_of, place_of}
use Rattle.texts.specs.Table.{Above, linked}
use Rattle.validate.specs.Steps.{Refuses, Itemed, Listing}
use Rattle.validate.specs.declared.Atoms.{Atoms}
use Rattle.validate.specs.declared.Validated.{Validated}

-- the tape's atoms were read, and stand before `at`; their table stands where the items are read from
pub record Fronts (s w : List ℕ) (m : Atoms) (at : ℕ) : Type 0 where
  pub listing : Listing s w m at
  pub here : at ≡ place_of s m.texts.count
  pub buckets : m.texts.buckets ≡ linked m.texts.count
  pub read : read_atoms m.four m.width.bytes s (length s) [] 0 ≡ got (atoms_of s m.texts.count) at

-- the tape holds these atoms, and n items from a place on; the table stands from eight bytes for each of the items' bytes on, and from 48
-- on the places of the items, counted from the first
pub record Valid (four : Bool) (width : ℕ) (s w : List ℕ) (m : Atoms) (at n : ℕ) : Type 0 where
  pub items : List Item
  pub wide : m.width.bytes ≡ width
  pub here : at ≡ place_of s m.texts.count
  pub base : m.texts.base ≡ 8 * (length s - at)
  pub buckets : m.texts.buckets ≡ linked m.texts.count
  pub above : Above s w m.texts (length w)
  pub ready : Itemed s w m at
  pub read : read_items four width s (atoms_of s m.texts.count) (length s) at ≡ got items (length s)
  pub decoded : decode_by four width s ≡ got (record { atoms = atoms_of s m.texts.count; items = items }) (length s)
  pub many : n ≡ length items
  pub noted : (i : ℕ) → i < n → le_at 8 w (48 + 8 * i) ≡ length (bytes_of_each (item_bytes width (atoms_of s m.texts.count)) (take i items))

unfoldable pub Validates : Bool → ℕ → List ℕ → Result Validated Refusal → List ℕ → Type 0
Validates four width s (Ok v) w = Valid four width s w v.atoms v.at v.items
Validates four width s (Err z) w = Refuses (decode_by four width s) z
