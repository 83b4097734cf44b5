-- The records of pushed symbols stay where their bytes do. Assumes nothing.
use mathlib.Core.Path.{◌≡◌, ◌∙◌}
use mathlib.Core.List.{List}
use Prim.Native.Nat.{ℕ, ◌+◌, ◌*◌, ◌/◌, ◌<◌, ◌≤◌}
use native.Mathlib.Omega.{arith}
use lib.ListN.{get_or}
use Rattle.texts.specs.Fields.{mark_at, hash_at, link_at, head_at, cell_at}
use Rattle.texts.specs.Table.{texts, linked}
use Rattle.texts.proofs.ChainCode.{chained_same}
use Rattle.texts.proofs.TableStays.{le_at-agree, linked-le}
use Rattle.expander.specs.declared.Ground.{Ground}
use Rattle.expander.specs.Ground.{size_in, stage_in, key_at, Records}

pub key_stays : (w w1 : List ℕ) (g : Ground) → g.keys + 24 * (size_in g / 9) ≤ g.slots → ((i : ℕ) → g.keys ≤ i → i < g.slots → get_or w1 i 0 ≡ get_or w i 0)
    → (j : ℕ) → j < size_in g / 9 → key_at w1 g j ≡ key_at w g j
unfolding key_at mark_at
key_stays w w1 g fits agree j h = le_at-agree 8 w w1 (g.keys + 24 * j) (λ i a b. agree i (omega arith) (omega arith))

module _ (s w w1 : List ℕ) (g : Ground) (n : ℕ) (few : g.buckets ≤ size_in g / 9) (fits : g.keys + 24 * (size_in g / 9) ≤ g.slots)
    (agree : (i : ℕ) → g.keys ≤ i → i < g.slots → get_or w1 i 0 ≡ get_or w i 0) (st : stage_in w1 g ≡ stage_in w g) (te : texts s w1 g.m ≡ texts s w g.m) (r : Records s w g n) where
  same : (j : ℕ) → j < n → key_at w1 g j ≡ key_at w g j
  same j h = key_stays w w1 g fits agree j (omega (arith, r.few))

  hash_stays : (j : ℕ) → j < n → hash_at w1 g.keys j ≡ hash_at w g.keys j
  unfolding hash_at
  hash_stays j h = le_at-agree 4 w w1 (g.keys + 24 * j + 8) (λ i a b. agree i (omega arith) (omega (arith, r.few)))

  link_stays : (j : ℕ) → j < n → link_at w1 g.keys j ≡ link_at w g.keys j
  unfolding link_at
  link_stays j h = le_at-agree 4 w w1 (g.keys + 24 * j + 12) (λ i a b. agree i (omega arith) (omega (arith, r.few)))

  cell_stays : (j : ℕ) → j < n → cell_at w1 g.keys j ≡ cell_at w g.keys j
  unfolding cell_at
  cell_stays j h = le_at-agree 4 w w1 (g.keys + 24 * j + 20) (λ i a b. agree i (omega arith) (omega (arith, r.few)))

  head_stays : (y : ℕ) → y < g.buckets → head_at w1 g.keys y ≡ head_at w g.keys y
  unfolding head_at
  head_stays y h = le_at-agree 4 w w1 (g.keys + 24 * y + 16) (λ i a b. agree i (omega arith) (omega arith))

  pub records_stay : Records s w1 g n
  records_stay =
      let l = linked-le n in
      record {
        few = r.few;
        chained = chained_same w w1 g.keys g.buckets (linked n) (λ i h. hash_stays i (omega arith)) (λ i h. link_stays i (omega arith)) head_stays r.chained;
        keys = λ j h. rw (st, te, same j h) (r.keys j h);
        hashes = λ j h. rw (st, te, same j h) (hash_stays j h ∙ r.hashes j h);
        lengths = λ j h. rw (st, te, same j h) (cell_stays j h ∙ r.lengths j h);
      }
