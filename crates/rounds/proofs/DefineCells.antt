-- Cells written one after another, and the ways out of the function that makes them all 0. Assumes nothing.
use mathlib.Core.Path.{◌≡◌, refl, ap, ◌∙◌}
use mathlib.Core.Bool.{Bool, true, false}
use mathlib.Core.List.{List}
use Prim.Native.Nat.{ℕ, ◌+◌, ◌*◌, ◌≤◌, ◌<◌}
use native.Mathlib.Omega.{arith}
use borrow.Author.Rules.{rules}
use borrow.Author.Tests.{eqb-true, eqb-false}
use lib.Dec.{eqb}
use lib.ListN.{length}
use Rattle.octets.specs.Plain.Numbers.{le}
use Rattle.octets.specs.Working.Stores.{store}
use Rattle.octets.proofs.StoreLaws.{length_store}
use Rattle.texts.specs.declared.Map.{Map}
use Rattle.texts.specs.Fields.{mark_at, cell_at}
use Rattle.texts.specs.Texts.{Behind}
use Rattle.texts.specs.Table.{Celled, Recelled}
use Rattle.texts.proofs.TableStays.{celled, recelled_same, recelled_trans, recelled_celled}
use Rattle.rounds.specs.Define.{Cells, Forgot}

-- no text comes to stand in the records
pub cells_stay : (s w w' : List ℕ) (m : Map) → Cells s w m → Recelled s w m w' → Cells s w' m
cells_stay s w w' m h r = record { table = r.table; above = record { above = λ i l. go i l } }
  where
    go : (i : ℕ) → i < m.count → Behind s (m.base + 24 * m.count) (mark_at w' m.base i)
    go i l = rw (r.marks i l) (h.above.above i l)

-- one cell more
module _ (s w w' : List ℕ) (m : Map) (h : Cells s w m) (k v : ℕ) (l : k < m.count) (f : v < 4294967296) (o : w' ≡ store w (m.base + 24 * k + 20) (le 4 v)) where
  pub celled_one : Celled s w m k v w'
  celled_one = celled s w w' m (m.base + 24 * m.count) k v h.table h.above (omega arith) l f o

  pub recelled_one : Recelled s w m w'
  recelled_one = recelled_celled s w m k v w' (ap length o ∙ length_store w (m.base + 24 * k + 20) (le 4 v)) l celled_one

-- ---- forget: the first k cells are 0
pub record Forgetting (s w : List ℕ) (m : Map) (w' : List ℕ) (k : ℕ) : Type 0 where
  pub ask : Cells s w m
  pub upto : k ≤ m.count
  pub kept : Recelled s w m w'
  pub none : (j : ℕ) → j < k → cell_at w' m.base j ≡ 0

pub forgetting_start : (s w : List ℕ) (m : Map) → Cells s w m → Forgetting s w m w 0
forgetting_start s w m h = record { ask = h; upto = omega arith; kept = recelled_same s w m h.table; none = λ j l. absurd (omega (arith, l)) }

module _ (s w w' : List ℕ) (m : Map) (k : ℕ) (g : Forgetting s w m w' k) where
  pub forgetting_same : length w' ≡ length w
  forgetting_same = g.kept.long

  pub forgetting_done : m.count ≤ k → Forgot s w m w'
  forgetting_done h = record { cells = g.kept; none = λ j l. g.none j (omega arith) }

  module _ (h : k < m.count) where
    pub forgetting_room : m.base + 24 * k + 24 ≤ length w'
    forgetting_room = omega (arith, g.kept.table.room)

    pub forgetting_next : (w'' : List ℕ) → w'' ≡ store w' (m.base + 24 * k + 20) (le 4 0) → Forgetting s w m w'' (k + 1)
    forgetting_next w'' e =
        let a = cells_stay s w w' m g.ask g.kept in
        let c = celled_one s w' w'' m a k 0 h (omega arith) e in
        record {
          ask = g.ask;
          upto = omega arith;
          kept = recelled_trans s w w' w'' m g.kept (recelled_one s w' w'' m a k 0 h (omega arith) e);
          none = λ j l. go c j l (eqb j k) refl;
        }
      where
        go : Celled s w' m k 0 w'' → (j : ℕ) → j < k + 1 → (b : Bool) → eqb j k ≡ b → cell_at w'' m.base j ≡ 0
        go c j l true z = ap (cell_at w'' m.base) (eqb-true j k z) ∙ c.cell
        go c j l false z = let y = eqb-false j k z in c.cells j y ∙ g.none j (omega arith)

pub ruleset forgetting = (rules, forgetting_start, forgetting_same, forgetting_done, forgetting_room, forgetting_next)
