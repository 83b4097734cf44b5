-- The texts in more buckets: the ways out of widen, and that what was settled is settled still. Assumes nothing.
use mathlib.Core.Path.{◌≡◌, refl, ◌∙◌}
use mathlib.Core.Logic.{◌⊎◌, inl, inr}
use mathlib.Core.List.{List}
use Prim.Native.Nat.{ℕ, ◌+◌, ◌*◌, ◌/◌, ◌<◌, ◌≤◌}
use native.Mathlib.Omega.{arith}
use borrow.Author.Rules.{rules}
use lib.ListN.{length, get_or}
use Rattle.texts.specs.declared.Map.{Map}
use Rattle.texts.specs.Table.{Spreading, Spread, linked}
use Rattle.texts.proofs.TableStays.{linked-le}
use Rattle.resolve.proofs.CellsLaws.{lies_agree}
use Rattle.texts.specs.Fields.{mark_at, cell_at}
use Rattle.texts.specs.Texts.{Behind}
use Rattle.expander.specs.declared.Ground.{Ground}
use Rattle.expander.specs.Ground.{top_of}
use Rattle.settling.specs.Settle.{new_bytes, Settling, Widens, Settles}
use Rattle.settling.proofs.SettleLaws.{keys_top}

module _ (s w : List ℕ) (m : Map) (g : Spreading s w m) where
  pub widen_same : Widens s w m m w
  widen_same = record {
    long = refl;
    some = λ p. p;
    narrower = λ p. p;
    stays = record { base = refl; count = refl; table = g.table; same = refl; marks = λ i p. refl; cells = λ i p. refl };
    before = λ i p. refl;
    after = λ i p. refl;
  }

  pub widen_spread : m.buckets < m.count / 2 → (m' : Map) (w' : List ℕ) → length w' ≡ length w → Spread s w m m' w' → Widens s w m m' w'
  unfolding linked
  widen_spread l m' w' k d = record {
    long = k;
    some = λ p. omega (arith, d.buckets);
    narrower = λ p. omega (arith, d.buckets, d.stays.count, linked-le m.count);
    stays = d.stays;
    before = d.before;
    after = d.after;
  }

pub ruleset widening = (rules, widen_same, widen_spread)

-- ---- what was settled is settled still
module _ (s w : List ℕ) (g : Ground) (n c end : ℕ) (h : Settling s w g n c end) (m : Map) (q : ℕ) (w2 : List ℕ) (x : Settles s w g c end (record { m = m; at = q }) w2) (upto : top_of g ≤ q) where
  records : m.base + 24 * m.count ≤ g.keys
  records = omega (arith, h.records, x.base, x.count)

  pub settled_spreading : Spreading s w2 m
  settled_spreading = record { low = q; table = x.table; above = x.above; roof = omega (arith, records, keys_top s w g n c end h, upto) }

  pub settled_widened : (m' : Map) (w3 : List ℕ) → Widens s w2 m m' w3 → Settles s w g c end (record { m = m'; at = q }) w3
  settled_widened m' w3 d = record {
    long = d.long ∙ x.long;
    base = d.stays.base ∙ x.base;
    count = d.stays.count ∙ x.count;
    some = d.some x.some;
    narrower = d.narrower x.narrower;
    table = d.stays.table;
    texts-are = d.stays.same ∙ x.texts-are;
    first = x.first;
    lies = lies_agree w2 w3 q end (new_bytes s w g c) d.long (omega (arith, x.long, h.inside)) (λ i l k. behind i (omega (arith, keys_top s w g n c end h, upto))) x.lies;
    above = record { above = λ i l. marks i (omega (arith, d.stays.count)) };
    cells = λ k l. cells k (omega (arith, x.count)) ∙ x.cells k l;
    new = λ i l. cells (g.m.count + i) (omega (arith, x.count)) ∙ x.new i l;
    others = others;
  }
    where
      behind : (i : ℕ) → g.keys ≤ i → get_or w3 i 0 ≡ get_or w2 i 0
      behind i l = d.after i (omega (arith, records))

      marks : (i : ℕ) → i < m.count → Behind s q (mark_at w3 m'.base i)
      marks i l = let z = d.stays.base in rw (z, d.stays.marks i l) (x.above.above i l)

      cells : (k : ℕ) → k < m.count → cell_at w3 g.m.base k ≡ cell_at w2 g.m.base k
      cells k l = let z = x.base in rw (← z) (d.stays.cells k l)

      others : (i : ℕ) → (i < g.m.base) ⊎ ((g.keys ≤ i) × (i < q)) ⊎ (end ≤ i) → get_or w3 i 0 ≡ get_or w i 0
      others i (inl p) = d.before i (omega (arith, x.base)) ∙ x.others i (inl p)
      others i (inr (inl p)) = behind i p.0 ∙ x.others i (inr (inl p))
      others i (inr (inr p)) = behind i (omega (arith, keys_top s w g n c end h, upto, h.top, p)) ∙ x.others i (inr (inr p))
