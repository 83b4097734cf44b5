-- The ground of a round: where the records of pushed symbols and the slots stand, and that no symbol is pushed yet. s is the tape, w is work. Assumes nothing: these are definitions.
use Rattle.std.specs.Prelude.{◌≡◌, true, ◌⊎◌, List, ℕ, ◌+◌, ◌-◌, ◌*◌, ◌/◌, ◌^◌, ◌≤◌, ◌<◌, ltb, length, get_or}
use Rattle.octets.specs.Working.Choice.{pick}
use Rattle.parse_tree.specs.Plain.Texts.{distinct}
use Rattle.texts.specs.declared.Map.{Map}
use Rattle.texts.specs.Fields.{Chained}
use Rattle.texts.specs.Table.{Table, Above, texts}
use Rattle.resolve.specs.Whole.{Apart}
use Rattle.expander.specs.declared.Ground.{Ground}
use Rattle.expander.specs.Ground.{Grounded}

-- one for each 64 bytes, and one
unfoldable pub buckets_of : ℕ → ℕ
buckets_of size = pick (ltb (size / 64 + 1) 4294967295) (size / 64 + 1) 4294967295

-- 32 bytes for each nine of the items stand below `top`, behind the table's records
pub record Groundable (s w : List ℕ) (m : Map) (width from end top : ℕ) : Type 0 where
  pub table : Table s w m
  pub some : 0 < m.buckets
  pub apart : distinct (texts s w m) ≡ true
  pub narrow : 2 ≤ width
  pub wide : width ≤ 3
  pub ordered : from ≤ end
  pub long : 9 ≤ end - from
  pub inside : end ≤ length w
  pub room : m.base + 24 * m.count + 32 * ((end - from) / 9) ≤ top
  pub narrower : m.buckets ≤ m.count
  pub top_inside : top ≤ length w
  pub above : Above s w m top
  pub off : Apart from end m.base top
  pub short : length w < 256 ^ 8

pub record Grounds (s w : List ℕ) (m : Map) (width from end top : ℕ) (r : Ground) (w' : List ℕ) : Type 0 where
  pub map : r.m ≡ m
  pub width_is : r.width.bytes ≡ width
  pub from_is : r.from ≡ from
  pub end_is : r.end ≡ end
  pub slots : r.slots ≡ top - 8 * ((end - from) / 9)
  pub keys : r.keys ≡ top - 8 * ((end - from) / 9) - 24 * ((end - from) / 9)
  pub buckets : r.buckets ≡ buckets_of (end - from)
  pub ground : Grounded s w' r
  pub empty : Chained w' r.keys r.buckets 0
  pub long : length w' ≡ length w
  pub others : (i : ℕ) → (i < r.keys) ⊎ (r.slots ≤ i) → get_or w' i 0 ≡ get_or w i 0
