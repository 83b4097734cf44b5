-- One pushed symbol whose text is of the table: that text counts as pushed. s is the tape, w is work before and w' after. Assumes nothing: these are definitions.
use Rattle.std.specs.Prelude.{◌≡◌, Bool, false, ◌||◌, List, ℕ, ◌+◌, ◌*◌, ◌/◌, ◌%◌, ◌≤◌, ◌<◌, eqb, ltb, length}
use Rattle.octets.specs.Working.Choice.{pick}
use Rattle.texts.specs.Fields.{cell_at}
use Rattle.texts.specs.Table.{Recelled}
use Rattle.expander.specs.declared.Ground.{Ground}
use Rattle.expander.specs.Ground.{slot_place, slot_at, key_at, pushed_text, Grounded}

-- whether a slot v is that of text k, of m texts
unfoldable pub slot_text : ℕ → ℕ → ℕ → Bool
slot_text m v k = pick (eqb (v % 2) 0) (pick (ltb (v / 2) m) (eqb (v / 2) k) false) false

-- the j-th pushed symbol and its slot can be read
pub record Markable (s w : List ℕ) (g : Ground) (j : ℕ) : Type 0 where
  pub ground : Grounded s w g
  pub record_room : g.keys + 24 * j + 24 ≤ length w
  pub slot_room : slot_place g (key_at w g j) + 8 ≤ length w

-- its text counts as pushed; nothing else changed
pub record MarksOne (s w : List ℕ) (g : Ground) (j : ℕ) (w' : List ℕ) : Type 0 where
  pub cells : Recelled s w g.m w'
  pub pushed : (k : ℕ) → k < g.m.count → pushed_text w' g k ≡ (pushed_text w g k || slot_text g.m.count (slot_at w g (key_at w g j)) k)
  pub rest : (k : ℕ) → k < g.m.count → cell_at w' g.m.base k % 2147483648 ≡ cell_at w g.m.base k % 2147483648
