-- The loop of settle: the new texts from the i-th on are written, and their records say so. Assumes nothing.
use mathlib.Core.Path.{◌≡◌, refl, sym, ap, ◌∙◌}
use mathlib.Core.List.{List, [], ◌++◌, append-nil}
use Prim.Native.Nat.{ℕ, ◌+◌, ◌-◌, ◌*◌, ◌<◌, ◌≤◌}
use native.Mathlib.Omega.{arith}
use lib.ListN.{length, length-append}
use Rattle.octets.specs.Plain.Runs.{Lies}
use Rattle.octets.proofs.LiesLaws.{lies_none}
use Rattle.parse_tree.specs.Plain.Tree.{Text}
use Rattle.texts.specs.Fields.{mark_at, hash_at, cell_at}
use Rattle.texts.specs.Hash.{hash_of}
use Rattle.texts.specs.Texts.{marked_text, Whole, Behind}
use Rattle.expander.specs.declared.Ground.{Ground}
use Rattle.expander.specs.Ground.{top_of, list_at, Grounded}
use Rattle.expander.specs.Names.{described_by}
use Rattle.expander.proofs.GroundLaws.{keys_slots, slots_top}
use Rattle.settling.specs.One.{new_cell, Entry}
use Rattle.settling.specs.Settle.{new_bytes, Settling}
use Rattle.settling.proofs.NewLaws.{size_next, each-short, names_entry}
use Rattle.settling.proofs.SettleStays.{PlacedText, placed_ground, placed_list, placed_entry, placed_text}

-- record k of the new ones says the text t, which stands from z on, and its cell u
pub record Told (s w : List ℕ) (g : Ground) (k : ℕ) (t : Text) (u z : ℕ) : Type 0 where
  pub whole : Whole s w (mark_at w g.m.base (g.m.count + k))
  pub behind : Behind s z (mark_at w g.m.base (g.m.count + k))
  pub text : marked_text s w (mark_at w g.m.base (g.m.count + k)) ≡ t
  pub hash : hash_at w g.m.base (g.m.count + k) ≡ hash_of t
  pub cell : cell_at w g.m.base (g.m.count + k) ≡ u

-- the texts from the i-th on stand from q up to `end` in w'
pub record Going (s w : List ℕ) (g : Ground) (c end i q : ℕ) (w' : List ℕ) : Type 0 where
  pub upto : i ≤ c
  pub place : q + length (new_bytes s w g c) ≡ end + length (new_bytes s w g i)
  pub rest : List ℕ
  pub split : new_bytes s w g c ≡ new_bytes s w g i ++ rest
  pub lies : Lies w' q rest end
  pub placed : PlacedText g (g.m.count + i) q end w w'
  pub told : (k : ℕ) → i ≤ k → k < c → Told s w' g k (described_by s w g (list_at w g k)) (new_cell (list_at w g k)) q

module _ (s w : List ℕ) (g : Ground) (n c end : ℕ) (h : Settling s w g n c end) where
  -- theorem: none yet
  pub going_start : Going s w g c end c end w
  going_start = record {
    upto = omega arith;
    place = refl;
    rest = [];
    split = sym (append-nil (new_bytes s w g c));
    lies = lies_none w end;
    placed = record { long = refl; others = λ j d. refl };
    told = λ k a b. absurd (omega arith);
  }

  pub keys_top : g.keys ≤ top_of g
  keys_top = omega (arith, keys_slots s w g h.ground, slots_top s w g h.ground)

  module _ (i q : ℕ) (w1 : List ℕ) (r : Going s w g c end i q w1) where
    pub going_top : top_of g + length (new_bytes s w g i) ≤ q
    going_top = omega (arith, h.top, r.place)

    pub going_items : g.end + length (new_bytes s w g i) ≤ q
    going_items = omega (arith, h.items, r.place)

    pub going_far : 8 * length s + length (new_bytes s w g i) ≤ q
    going_far = omega (arith, h.far, r.place)

    pub going_upto : q ≤ end
    going_upto = omega (arith, r.place, ap length r.split, length-append (new_bytes s w g i) r.rest)

    pub going_ground : Grounded s w1 g
    going_ground = placed_ground s w w1 g (g.m.count + i) q end h.ground (omega arith) (omega (arith, going_top)) (omega (arith, going_items)) h.above r.placed

    -- ---- the one before
    module _ (j : ℕ) (e : i ≡ j + 1) where
      entry_old : Entry s w g (list_at w g j)
      entry_old = names_entry s w g n c h.places h.names j (omega (arith, r.upto))

      pub list_old : list_at w1 g j ≡ list_at w g j
      list_old = placed_list s w w1 g (g.m.count + i) q end h.ground (omega arith) (omega (arith, going_top)) (omega (arith, going_items)) h.above r.placed j (omega arith)

      pub text_old : described_by s w1 g (list_at w1 g j) ≡ described_by s w g (list_at w g j)
      text_old =
          ap (described_by s w1 g) list_old
          ∙ placed_text s w w1 g (g.m.count + i) q end h.ground (omega arith) (omega (arith, going_top)) (omega (arith, going_items)) h.above r.placed (list_at w g j) entry_old

      pub entry_new : Entry s w1 g (list_at w1 g j)
      entry_new = rw list_old (placed_entry s w w1 g (g.m.count + i) q end h.ground (omega arith) (omega (arith, going_top)) (omega (arith, going_items)) h.above r.placed (list_at w g j) entry_old)

      pub going_short : length (described_by s w g (list_at w g j)) < 65536
      going_short =
          let z : c ≡ j + 1 + (c - (j + 1)) = omega (arith, r.upto) in
          each-short s w g j (c - (j + 1)) (rw z at h.short)

      pub going_size : length (new_bytes s w g i) ≡ length (new_bytes s w g j) + (3 + length (described_by s w g (list_at w g j)))
      going_size = ap (λ (k : ℕ). length (new_bytes s w g k)) e ∙ size_next s w g j
