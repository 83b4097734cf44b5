-- What stays where bytes change in the list of new texts and in the words of built-in texts only: records of pushed symbols. Assumes nothing.
use mathlib.Core.Path.{◌≡◌, ◌∙◌}
use mathlib.Core.List.{List}
use Prim.Native.Nat.{ℕ, ◌+◌, ◌-◌, ◌*◌, ◌/◌, ◌<◌, ◌≤◌}
use native.Mathlib.Omega.{arith}
use lib.ListN.{get_or}
use Rattle.texts.specs.Fields.{mark_at, hash_at, link_at, head_at, cell_at}
use Rattle.texts.specs.Table.{texts, linked}
use Rattle.texts.proofs.ChainCode.{chained_same}
use Rattle.texts.proofs.TableStays.{le_at-agree, linked-le}
use Rattle.expander.specs.declared.Ground.{Ground}
use Rattle.expander.specs.Ground.{size_in, stage_in, key_at, Records}

-- ---- records: the last three are none of a pushed symbol and hold no head
module _ (w w' : List ℕ) (g : Ground) (n : ℕ) (fits : g.keys + 24 * (size_in g / 9) ≤ g.slots) (room : n + 3 ≤ size_in g / 9)
    (agree : (i : ℕ) → g.keys ≤ i → i < g.slots - 72 → get_or w' i 0 ≡ get_or w i 0) where
  pub key_kept : (j : ℕ) → j < n → key_at w' g j ≡ key_at w g j
  unfolding key_at mark_at
  key_kept j h = le_at-agree 8 w w' (g.keys + 24 * j) (λ i a b. agree i (omega arith) (omega arith))

  hash_kept : (j : ℕ) → j < n → hash_at w' g.keys j ≡ hash_at w g.keys j
  unfolding hash_at
  hash_kept j h = le_at-agree 4 w w' (g.keys + 24 * j + 8) (λ i a b. agree i (omega arith) (omega arith))

  link_kept : (j : ℕ) → j < n → link_at w' g.keys j ≡ link_at w g.keys j
  unfolding link_at
  link_kept j h = le_at-agree 4 w w' (g.keys + 24 * j + 12) (λ i a b. agree i (omega arith) (omega arith))

  cell_kept : (j : ℕ) → j < n → cell_at w' g.keys j ≡ cell_at w g.keys j
  unfolding cell_at
  cell_kept j h = le_at-agree 4 w w' (g.keys + 24 * j + 20) (λ i a b. agree i (omega arith) (omega arith))

  module _ (s : List ℕ) (heads : g.buckets + 3 ≤ size_in g / 9) (st : stage_in w' g ≡ stage_in w g) (te : texts s w' g.m ≡ texts s w g.m) (r : Records s w g n) where
    head_kept : (y : ℕ) → y < g.buckets → head_at w' g.keys y ≡ head_at w g.keys y
    unfolding head_at
    head_kept y h = le_at-agree 4 w w' (g.keys + 24 * y + 16) (λ i a b. agree i (omega arith) (omega arith))

    pub records_kept : Records s w' g n
    records_kept =
        let l = linked-le n in
        record {
          few = r.few;
          chained = chained_same w w' g.keys g.buckets (linked n) (λ i h. hash_kept i (omega arith)) (λ i h. link_kept i (omega arith)) head_kept r.chained;
          keys = λ j h. rw (st, te, key_kept j h) (r.keys j h);
          hashes = λ j h. rw (st, te, key_kept j h) (hash_kept j h ∙ r.hashes j h);
          lengths = λ j h. rw (st, te, key_kept j h) (cell_kept j h ∙ r.lengths j h);
        }
