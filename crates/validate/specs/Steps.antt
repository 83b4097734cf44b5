-- What the pass knows of the atoms, and how it answers. Assumes nothing: these are definitions.
use Rattle.std.specs.Prelude.{◌≡◌, true, List, ℕ, ◌+◌, ◌-◌, ◌*◌, ◌≤◌, ◌<◌, length, take, Result, Ok, Err}
use Rattle.octets.specs.Plain.Numbers.{le_at}
use Rattle.parse_tree.specs.Plain.Tree.{Item}
use Rattle.parse_tree.specs.Plain.Texts.{distinct}
use Rattle.parse_tree.specs.Plain.Reading.{Reading, got, refused}
use Rattle.parse_tree.specs.Plain.WriteTape.{bytes_of_each}
use Rattle.parse_tree.specs.Working.Decode.{read_items}
use Rattle.parse_tree.specs.Working.Encode.{item_bytes}
use Rattle.parse_tree.specs.Working.Refusals.{refusal_at}
use Rattle.parse_tree.specs.declared.refusal.Refusal.{Refusal}
use Rattle.parse_tree.specs.declared.syntax.Node.{Node}
use Rattle.texts.specs.Atoms.{atom_text, atoms_of, place_of}
use Rattle.texts.specs.Classes.{text_class}
use Rattle.texts.specs.Fields.{class_at, cell_at}
use Rattle.texts.specs.Table.{Table, Above, texts}
use Rattle.validate.specs.declared.Atoms.{Atoms}

-- w holds the table of the first atoms of s with the classes of their texts and blank cells
pub record Ready (s w : List ℕ) (m : Atoms) : Type 0 where
  pub table : Table s w m.texts
  pub same : texts s w m.texts ≡ atoms_of s m.texts.count
  pub classes : (i : ℕ) → i < m.texts.count → class_at w m.texts.base i ≡ text_class (atom_text s (place_of s i))
  pub blank : (i : ℕ) → i < m.texts.count → cell_at w m.texts.base i ≡ 0

-- a reading's answer, without what was read
unfoldable pub step_of : {A : Type 0} → Reading A → Result ℕ Refusal
step_of (got x e) = Ok e
step_of (refused k p) = Err (refusal_at k p)

unfoldable pub asked_of : Reading Node → Result (Node × ℕ) Refusal
asked_of (got n e) = Ok (n, e)
asked_of (refused k p) = Err (refusal_at k p)

-- a reading refuses so: the place is an offset, twice
pub record Refuses {A : Type 0} (r : Reading A) (z : Refusal) : Type 0 where
  pub is : r ≡ refused z.number z.from
  pub twice : z.to ≡ z.from

-- where the items are read from: behind atoms of which no two are equal
pub record Itemed (s w : List ℕ) (m : Atoms) (at : ℕ) : Type 0 where
  pub ready : Ready s w m
  pub apart : distinct (atoms_of s m.texts.count) ≡ true
  pub inside : at ≤ length s

-- what `items` asks: the table stands from eight bytes for each of the items' bytes on, and no text stands in work
pub record Listing (s w : List ℕ) (m : Atoms) (at : ℕ) : Type 0 where
  pub ready : Itemed s w m at
  pub above : Above s w m.texts (length w)
  pub base : m.texts.base ≡ 8 * (length s - at)

-- and what it leaves: n items were read, and the place of each is noted
pub record Noted (s w : List ℕ) (m : Atoms) (at n : ℕ) : Type 0 where
  pub items : List Item
  pub end : ℕ
  pub tabled : Listing s w m at
  pub read : read_items m.four m.width.bytes s (atoms_of s m.texts.count) (length s) at ≡ got items end
  pub many : n ≡ length items
  pub noted : (i : ℕ) → i < n → le_at 8 w (48 + 8 * i) ≡ length (bytes_of_each (item_bytes m.width.bytes (atoms_of s m.texts.count)) (take i items))

unfoldable pub Lists : List ℕ → Atoms → ℕ → Result ℕ Refusal → List ℕ → Type 0
Lists s m at (Ok n) w = Noted s w m at n
Lists s m at (Err z) w = Refuses (read_items m.four m.width.bytes s (atoms_of s m.texts.count) (length s) at) z
