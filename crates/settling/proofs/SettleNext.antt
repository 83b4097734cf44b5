-- A turn of settle: one text more is written before the others. Assumes nothing.
use mathlib.Core.Path.{◌≡◌, refl, ap, ◌∙◌, subst}
use mathlib.Core.Bool.{Bool, true, false}
use mathlib.Core.Logic.{◌⊎◌, inl, inr}
use mathlib.Core.List.{List, ◌++◌, append_assoc}
use Prim.Native.Nat.{ℕ, ◌+◌, ◌*◌, ◌<◌, ◌≤◌}
use native.Mathlib.Omega.{arith}
use borrow.Author.Tests.{eqb-true, eqb-false}
use lib.Dec.{eqb}
use lib.ListN.{length, get_or}
use Rattle.octets.specs.Plain.Numbers.{le_at}
use Rattle.octets.specs.Plain.Runs.{Lies}
use Rattle.octets.proofs.LiesLaws.{lies_append}
use Rattle.parse_tree.specs.Plain.Tree.{Text}
use Rattle.parse_tree.specs.Working.Nodes.{node_bytes}
use Rattle.parse_tree.specs.Working.Encode.{atom_bytes}
use Rattle.resolve.proofs.CellsLaws.{lies_agree}
use Rattle.texts.specs.Fields.{mark_at, hash_at, cell_at}
use Rattle.texts.specs.Texts.{marked_text, Behind}
use Rattle.texts.proofs.TableStays.{le_at-agree, whole_agree, text_agree}
use Rattle.texts.proofs.TableMarks.{atom_lies_text, atom_lies_inside, work_mark_whole, work_mark_text, work_mark_behind}
use Rattle.expander.specs.declared.Ground.{Ground}
use Rattle.expander.specs.Ground.{top_of, list_at}
use Rattle.expander.specs.Names.{described_by}
use Rattle.settling.specs.One.{new_cell, Written}
use Rattle.settling.specs.Settle.{new_bytes, Settling}
use Rattle.settling.proofs.NewLaws.{bytes_next}
use Rattle.settling.proofs.SettleStays.{PlacedText}
use Rattle.settling.proofs.SettleLaws.{Told, Going, keys_top, going_upto, list_old, text_old, going_short, going_size}

-- a bound may be lower
behind_lower : (s : List ℕ) (z y x : ℕ) → y ≤ z → Behind s z x → Behind s y x
behind_lower s z y x h (inl p) = inl p
behind_lower s z y x h (inr p) = inr (omega arith)

-- ---- the record that was written says its text
module _ (s w : List ℕ) (g : Ground) (j : ℕ) (t : Text) (q r : ℕ) (w1 : List ℕ) (k : Written s w g j t q r w1) (short : length t < 65536) (far : 8 * length s ≤ r) where
  pub written-told : Told s w1 g j t (new_cell (list_at w g j)) r
  unfolding atom_bytes node_bytes
  written-told = record {
    whole = rw k.mark (work_mark_whole s w1 r far (atom_lies_inside w1 r q t short k.lies));
    behind = rw k.mark (work_mark_behind s w1 r far r (omega arith));
    text = ap (marked_text s w1) k.mark ∙ work_mark_text s w1 r far ∙ atom_lies_text w1 r q t short k.lies;
    hash = k.hash;
    cell = k.cell;
  }

-- ---- and the others say theirs
module _ (s w : List ℕ) (g : Ground) (j : ℕ) (t : Text) (q r : ℕ) (w1 : List ℕ) (k : Written s w g j t q r w1) (i : ℕ) (u : Text) (v : ℕ) (o : Told s w g i u v q) (behind : j < i) (low : g.m.base + 24 * (g.m.count + i) + 24 ≤ r) where
  field : (n a : ℕ) → g.m.base + 24 * (g.m.count + i) ≤ a → a + n ≤ g.m.base + 24 * (g.m.count + i) + 24 → le_at n w1 a ≡ le_at n w a
  field n a h l = le_at-agree n w w1 a (λ d x y. k.others d (inr (inl (omega arith, omega arith))))

  mark_same : mark_at w1 g.m.base (g.m.count + i) ≡ mark_at w g.m.base (g.m.count + i)
  unfolding mark_at
  mark_same = field 8 (g.m.base + 24 * (g.m.count + i)) (omega arith) (omega arith)

  hash_same : hash_at w1 g.m.base (g.m.count + i) ≡ hash_at w g.m.base (g.m.count + i)
  unfolding hash_at
  hash_same = field 4 (g.m.base + 24 * (g.m.count + i) + 8) (omega arith) (omega arith)

  cell_same : cell_at w1 g.m.base (g.m.count + i) ≡ cell_at w g.m.base (g.m.count + i)
  unfolding cell_at
  cell_same = field 4 (g.m.base + 24 * (g.m.count + i) + 20) (omega arith) (omega arith)

  beyond : (d : ℕ) → q ≤ d → d < length w → get_or w1 d 0 ≡ get_or w d 0
  beyond d a b = k.others d (inr (inr a))

  pub told_next : Told s w1 g i u v r
  told_next =
      let m = mark_at w g.m.base (g.m.count + i) in
      record {
        whole = rw mark_same (whole_agree s w w1 q m k.long o.whole o.behind beyond);
        behind = rw mark_same (behind_lower s q r m (omega (arith, k.place)) o.behind);
        text = ap (marked_text s w1) mark_same ∙ text_agree s w w1 q m k.long o.whole o.behind beyond ∙ o.text;
        hash = hash_same ∙ o.hash;
        cell = cell_same ∙ o.cell;
      }

-- ---- a turn
module _ (s w : List ℕ) (g : Ground) (n c end : ℕ) (h : Settling s w g n c end) (i q : ℕ) (w1 : List ℕ) (x : Going s w g c end i q w1) (j : ℕ) (e : i ≡ j + 1)
    (r : ℕ) (w2 : List ℕ) (k : Written s w1 g j (described_by s w1 g (list_at w1 g j)) q r w2) where
  abbrev t : Text
  t = described_by s w g (list_at w g j)

  written : Written s w1 g j t q r w2
  written = subst (λ (u : Text). Written s w1 g j u q r w2) (text_old s w g n c end h i q w1 x j e) k

  next_place : r + length (new_bytes s w g c) ≡ end + length (new_bytes s w g j)
  next_place = omega (arith, written.place, x.place, going_size s w g n c end h i q w1 x j e)

  r_far : 8 * length s ≤ r
  r_far = omega (arith, next_place, h.far)

  r_top : top_of g ≤ r
  r_top = omega (arith, next_place, h.top)

  next_split : new_bytes s w g c ≡ new_bytes s w g j ++ (atom_bytes 2 t ++ x.rest)
  next_split =
      x.split ∙ ap (λ (d : ℕ). new_bytes s w g d ++ x.rest) e ∙ ap (λ (l : List ℕ). l ++ x.rest) (bytes_next s w g j) ∙ append_assoc (new_bytes s w g j) (atom_bytes 2 t) x.rest

  next_lies : Lies w2 r (atom_bytes 2 t ++ x.rest) end
  next_lies =
      lies_append written.lies
      (lies_agree w1 w2 q end x.rest written.long (omega (arith, x.placed.long, h.inside)) (λ d a b. written.others d (inr (inr a))) x.lies)

  next_placed : PlacedText g (g.m.count + j) r end w w2
  next_placed = record { long = written.long ∙ x.placed.long; others = go }
    where
      go : (d : ℕ) → (d < g.m.base + 24 * (g.m.count + j)) ⊎ ((g.keys ≤ d) × (d < r)) ⊎ (end ≤ d) → get_or w2 d 0 ≡ get_or w d 0
      go d (inl p) = written.others d (inl p) ∙ x.placed.others d (inl (omega arith))
      go d (inr (inl p)) =
          written.others d (inr (inl (omega (arith, p.0, h.records, x.upto), p.1))) ∙ x.placed.others d (inr (inl (p.0, omega (arith, p.1, written.place))))
      go d (inr (inr p)) = written.others d (inr (inr (omega (arith, going_upto s w g n c end h i q w1 x)))) ∙ x.placed.others d (inr (inr p))

  next_told : (d : ℕ) → j ≤ d → d < c → Told s w2 g d (described_by s w g (list_at w g d)) (new_cell (list_at w g d)) r
  next_told d a b = go (eqb j d) refl
    where
      go : (f : Bool) → eqb j d ≡ f → Told s w2 g d (described_by s w g (list_at w g d)) (new_cell (list_at w g d)) r
      go true z =
          subst (λ (y : ℕ). Told s w2 g y (described_by s w g (list_at w g y)) (new_cell (list_at w g y)) r) (eqb-true j d z)
          (subst (λ (v : ℕ). Told s w2 g j t (new_cell v) r) (list_old s w g n c end h i q w1 x j e)
          (written-told s w1 g j t q r w2 written (going_short s w g n c end h i q w1 x j e) r_far))
      go false z =
          let y = eqb-false j d z in
          let l : i ≤ d = omega arith in
          told_next s w1 g j t q r w2 written d (described_by s w g (list_at w g d)) (new_cell (list_at w g d)) (x.told d l b) (omega arith) (omega (arith, h.records, keys_top s w g n c end h, r_top))

  -- theorem: the texts from the one before on stand there
  pub going_next : Going s w g c end j r w2
  going_next = record {
    upto = omega (arith, x.upto);
    place = next_place;
    rest = atom_bytes 2 t ++ x.rest;
    split = next_split;
    lies = next_lies;
    placed = next_placed;
    told = next_told;
  }
