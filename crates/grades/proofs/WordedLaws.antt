-- The texts of the table can be read in a table, and stay where neither their records nor their bytes are written. Assumes nothing.
use mathlib.Core.Path.{◌≡◌}
use mathlib.Core.List.{List}
use Prim.Native.Nat.{ℕ, ◌+◌, ◌*◌, ◌<◌}
use native.Mathlib.Omega.{arith}
use lib.ListN.{length}
use Rattle.texts.specs.declared.Map.{Map}
use Rattle.texts.specs.Fields.{mark_at}
use Rattle.texts.specs.Table.{Table, Above, Agree, texts}
use Rattle.texts.proofs.TableStays.{le_at-agree, whole_stays, texts-stay}
use Rattle.grades.specs.Grading.{Worded}

-- theorem: the texts of a table can be read
pub table-worded : (s w : List ℕ) (m : Map) → Table s w m → Worded s w m
table-worded s w m g = record { room = g.room; whole = g.whole }

module _ (s w w1 : List ℕ) (m : Map) (z : ℕ) (g : Worded s w m) (a : Above s w m z) (l : length w1 ≡ length w) (far : Agree w w1 z (length w))
    (records : Agree w w1 m.base (m.base + 24 * m.count)) where
  mark_stays : (i : ℕ) → i < m.count → mark_at w1 m.base i ≡ mark_at w m.base i
  unfolding mark_at
  mark_stays i h = le_at-agree 8 w w1 (m.base + 24 * i) (λ j x y. records.agree j (omega arith) (omega arith))

  same : texts s w1 m ≡ texts s w m
  unfolding texts
  same = texts-stay s w w1 m.base m.count z g.whole a.above l far.agree mark_stays m.count (omega arith)

  -- theorem: they stay where the records and the texts behind z are as they were
  pub worded_stays : Worded s w1 m × (texts s w1 m ≡ texts s w m) × Above s w1 m z
  worded_stays = (
    record { room = rw l g.room; whole = whole_stays s w w1 m.base m.count z g.whole a.above l far.agree mark_stays },
    same,
    record { above = λ i h. rw (mark_stays i h) (a.above i h) },
  )
