-- The ways out of write_text. Assumes nothing.
use mathlib.Core.Path.{◌≡◌, sym, ap, ◌∙◌}
use mathlib.Core.Logic.{◌⊎◌, inl, inr}
use mathlib.Core.List.{List}
use Prim.Native.Nat.{ℕ, ◌+◌, ◌-◌, ◌*◌, ◌%◌, ◌<◌, ◌≤◌}
use native.Mathlib.Omega.{arith}
use mir.Syntax.{w64}
use mir.Val.{Fits}
use borrow.Author.Rules.{rules}
use borrow.Author.Tests.{ne_eqb}
use lib.ListN.{length, get_or}
use Rattle.octets.specs.Plain.Runs.{Lies}
use Rattle.octets.specs.Working.Choice.{pick}
use Rattle.octets.specs.Working.Stores.{store}
use Rattle.octets.proofs.LiesLaws.{lies_to}
use Rattle.octets.proofs.StoreLaws.{lies_store, length_store, get_d_store_before, get_d_store_after}
use Rattle.parse_tree.specs.Plain.Tree.{Text}
use Rattle.parse_tree.specs.Working.Encode.{atom_bytes}
use Rattle.parse_tree.proofs.ReadBack.{atom_size}
use Rattle.resolve.proofs.CellsLaws.{lies_agree}
use Rattle.texts.specs.Fields.{RecordWritten}
use Rattle.texts.specs.Forms.{stop}
use Rattle.texts.specs.Hash.{hash_of}
use Rattle.expander.specs.declared.Ground.{Ground}
use Rattle.expander.specs.declared.entries.NewText.{NewText}
use Rattle.expander.specs.Ground.{top_of, list_place, list_at, Grounded}
use Rattle.expander.specs.Entries.{entry_code}
use Rattle.expander.specs.Names.{described_by}
use Rattle.expander.proofs.GroundLaws.{keys_slots, slots_top}
use Rattle.settling.specs.One.{new_cell, TextPut, Entry, Puttable, TextReady, Written}
use Rattle.settling.proofs.OneCode.{print_even, built_odd, stop-less}

-- ---- new_cell
pub cell_print : (x : NewText) (j k : ℕ) → x ≡ NewText.Print j → k ≡ 0 % 2147483648 + 2147483648 → k ≡ new_cell (entry_code x)
unfolding new_cell pick
cell_print x j k i f = cc (print_even x j i, f)

pub cell_built : (x : NewText) (k : ℕ) → x ≡ NewText.BuiltIn k → 0 ≡ new_cell (entry_code x)
unfolding new_cell pick
cell_built x k i = let z : entry_code x % 2 ≡ 0 → ⊥ = λ e. omega (arith, e, built_odd x k i) in cc (ne_eqb (entry_code x % 2) 0 z)

pub ruleset celling = (rules, cell_print, cell_built)

module _ (s w : List ℕ) (g : Ground) (i end : ℕ) (h : TextReady s w g i end) where
  abbrev t : Text
  t = described_by s w g (list_at w g i)

  keys_top : g.keys ≤ top_of g
  keys_top = omega (arith, keys_slots s w g h.ground, slots_top s w g h.ground)

  pub ready_place : list_place g i + 8 ≤ length w
  ready_place = omega (arith, h.place, keys_top, h.ground.top)

  pub record_room : (w1 : List ℕ) → length w1 ≡ length w → g.m.base + 24 * (g.m.count + i) + 24 ≤ length w1
  record_room w1 e = omega (arith, h.record_place, keys_top, h.ground.top)

  pub first_fits : (k : ℕ) → k ≤ 1 → Fits w64 (g.m.count + i + k)
  first_fits k l = record { fits = omega (arith, h.record_place, keys_top, h.ground.top, h.ground.short) }

  pub count_fits : Fits w64 (g.m.count + i)
  count_fits = record { fits = omega (arith, h.record_place, keys_top, h.ground.top, h.ground.short) }

  pub ready_ground : Grounded s w g
  ready_ground = h.ground

  pub ready_entry : (v : ℕ) → v ≡ list_at w g i → Entry s w g v
  ready_entry v e = rw e h.entry

  module _ (v : ℕ) (e : v ≡ list_at w g i) (len : ℕ) (f : len ≡ stop (length (described_by s w g v))) where
    len_is : len ≡ length t
    len_is = f ∙ ap (λ (u : ℕ). stop (length (described_by s w g u))) e ∙ stop-less (length t) h.short

    pub ready_put : Puttable s w g (g.m.count + i + 1) v len end
    ready_put = record {
      ground = h.ground;
      entry = ready_entry v e;
      is = len_is ∙ ap (λ (u : ℕ). length (described_by s w g u)) (sym e);
      short = omega (arith, len_is, h.short);
      items = omega (arith, len_is, h.items);
      top = omega (arith, len_is, h.top);
      inside = h.inside;
      above = h.above;
      behind = h.behind;
      said = λ z. rw e (h.said (rw e at z));
    }

    pub len_fits : Fits w64 (len + 3)
    len_fits = record { fits = omega (arith, len_is, h.short) }

    pub len_room : len + 3 ≤ end
    len_room = omega (arith, len_is, h.top)

    module _ (to : ℕ) (k : to ≡ end - (len + 3)) where
      pub far_room : 4 * length s ≤ to
      far_room = omega (arith, len_is, h.far)

      module _ (x : ℕ) (w1 : List ℕ) (p : TextPut w (described_by s w g v) end x w1) where
        text_is_lem : described_by s w g v ≡ t
        text_is_lem = ap (described_by s w g) e

        put_is : w1 ≡ store w to (atom_bytes 2 t)
        put_is =
            let z : end - (length (described_by s w g v) + 3) ≡ to = ap (λ (u : Text). end - (length u + 3)) text_is_lem ∙ (omega (arith, len_is)) in
            p.bytes ∙ ap (λ (q : ℕ). store w q (atom_bytes 2 (described_by s w g v))) z ∙ ap (λ (u : Text). store w to (atom_bytes 2 u)) text_is_lem

        put_long : length w1 ≡ length w
        put_long = ap length put_is ∙ length_store w to (atom_bytes 2 t)

        to_end : to + (length t + 3) ≡ end
        to_end = omega (arith, len_is, h.top)

        bytes_end : to + length (atom_bytes 2 t) ≡ end
        bytes_end = omega (arith, to_end, atom_size 2 t)

        put_lies : Lies w1 to (atom_bytes 2 t) end
        put_lies = rw put_is (lies_to bytes_end (lies_store w to (atom_bytes 2 t) (omega (arith, bytes_end, h.inside))))

        beside : (j : ℕ) → (j < to) ⊎ (end ≤ j) → get_or w1 j 0 ≡ get_or w j 0
        beside j (inl d) = ap (λ (u : List ℕ). get_or u j 0) put_is ∙ get_d_store_before w to (atom_bytes 2 t) j d
        beside j (inr d) = ap (λ (u : List ℕ). get_or u j 0) put_is ∙ get_d_store_after w to (atom_bytes 2 t) j (omega (arith, bytes_end))

        low : g.m.base + 24 * (g.m.count + i) + 24 ≤ to
        low = omega (arith, h.record_place, keys_top, h.top, to_end)

        pub text_written : (z u : ℕ) → z ≡ to - 4 * length s → u ≡ new_cell v → (w2 : List ℕ) → RecordWritten w1 g.m.base (g.m.count + i) z x u w2 → Written s w g i t end to w2
        text_written z u m y w2 r = record {
          long = r.long ∙ put_long;
          place = to_end;
          lies = lies_agree w1 w2 to end (atom_bytes 2 t) r.long (omega (arith, put_long, h.inside)) (λ j a b. r.after j (omega (arith, low))) put_lies;
          mark = r.mark ∙ m;
          hash = r.hash ∙ p.hash ∙ ap hash_of text_is_lem;
          cell = r.cell ∙ y ∙ ap new_cell e;
          others = go;
        }
          where
            go : (j : ℕ) → (j < g.m.base + 24 * (g.m.count + i)) ⊎ ((g.m.base + 24 * (g.m.count + i) + 24 ≤ j) × (j < to)) ⊎ (end ≤ j) → get_or w2 j 0 ≡ get_or w j 0
            go j (inl d) = r.before j d ∙ beside j (inl (omega (arith, low)))
            go j (inr (inl d)) = r.after j d.0 ∙ beside j (inl d.1)
            go j (inr (inr d)) = r.after j (omega (arith, low, to_end)) ∙ beside j (inr d)

pub ruleset writing = (rules, first_fits, count_fits, ready_place, ready_ground, ready_entry, ready_put, len_fits, len_room, far_room, record_room, text_written)
