-- The new texts of a round one by one: their entries, their bytes, and whether one is too long. Assumes nothing.
use mathlib.Core.Path.{◌≡◌, refl, sym, ap, ◌∙◌}
use mathlib.Core.Bool.{false}
use mathlib.Core.List.{List, [], ◌∷◌, ◌++◌}
use Prim.Native.Nat.{ℕ, zero, suc, ◌+◌, ◌/◌, ◌<◌, ◌≤◌}
use native.Mathlib.Omega.{arith}
use lib.ListN.{length, length-append}
use Rattle.parse_tree.specs.Plain.WriteTape.{bytes_of_each}
use Rattle.parse_tree.specs.Working.Encode.{atom_bytes}
use Rattle.parse_tree.proofs.ReadingLaws.{bytes_more}
use Rattle.parse_tree.proofs.ReadBack.{atom_size}
use Rattle.texts.specs.Atoms.{some_long}
use Rattle.texts.proofs.AtomsLaws.{long_no, long_last}
use Rattle.expander.specs.declared.Ground.{Ground}
use Rattle.expander.specs.Ground.{list_at}
use Rattle.expander.specs.Names.{described_by, listed_texts, Names}
use Rattle.settling.specs.One.{Entry}
use Rattle.settling.specs.Settle.{new_bytes}

-- ---- one new text more
module _ (s w : List ℕ) (g : Ground) where
  pub new_more : (i : ℕ) → listed_texts s w g (i + 1) ≡ listed_texts s w g i ++ (described_by s w g (list_at w g i) ∷ [])
  unfolding listed_texts
  new_more i = let z : i + 1 ≡ suc i = omega arith in ap (listed_texts s w g) z

  pub bytes_next : (i : ℕ) → new_bytes s w g (i + 1) ≡ new_bytes s w g i ++ atom_bytes 2 (described_by s w g (list_at w g i))
  unfolding new_bytes
  bytes_next i = ap (bytes_of_each (atom_bytes 2)) (new_more i) ∙ bytes_more (atom_bytes 2) (listed_texts s w g i) (described_by s w g (list_at w g i))

  pub bytes_none : new_bytes s w g 0 ≡ []
  unfolding new_bytes listed_texts bytes_of_each
  bytes_none = refl

  pub size_next : (i : ℕ) → length (new_bytes s w g (i + 1)) ≡ length (new_bytes s w g i) + (3 + length (described_by s w g (list_at w g i)))
  size_next i =
      ap length (bytes_next i) ∙ length-append (new_bytes s w g i) (atom_bytes 2 (described_by s w g (list_at w g i)))
      ∙ ap (λ (k : ℕ). length (new_bytes s w g i) + k) (atom_size 2 (described_by s w g (list_at w g i)))

  new_short : (i : ℕ) → some_long (listed_texts s w g (i + 1)) ≡ false → length (described_by s w g (list_at w g i)) ≤ 65535
  new_short i e = long_last (listed_texts s w g i) (described_by s w g (list_at w g i)) (ap some_long (sym (new_more i)) ∙ e)

  pub new_rest : (i : ℕ) → some_long (listed_texts s w g (i + 1)) ≡ false → some_long (listed_texts s w g i) ≡ false
  new_rest i e = sym (long_no (listed_texts s w g i) (described_by s w g (list_at w g i)) (new_short i e)) ∙ ap some_long (sym (new_more i)) ∙ e

  short_first : (i d : ℕ) → some_long (listed_texts s w g (i + d)) ≡ false → some_long (listed_texts s w g i) ≡ false
  short_first i zero e = let z : i + 0 ≡ i = omega arith in rw z at e
  short_first i (suc d) e = let z : i + suc d ≡ i + d + 1 = omega arith in short_first i d (new_rest (i + d) (rw z at e))

  -- theorem: each is short if none is too long
  pub each-short : (i d : ℕ) → some_long (listed_texts s w g (i + 1 + d)) ≡ false → length (described_by s w g (list_at w g i)) < 65536
  each-short i d e = omega (arith, new_short i (short_first (i + 1) d e))

  -- theorem: each has an entry that says it
  pub names_entry : (n c : ℕ) (ps : List ℕ) → Names s w g n c ps → (i : ℕ) → i < c → Entry s w g (list_at w g i)
  names_entry n c ps h i l =
      let v = list_at w g i in
      let r = h.records in
      record {
        room = λ e. omega (arith, (h.entries i l).0 e, r.few);
        key = λ e. r.keys (v / 2) ((h.entries i l).0 e);
        hash = λ e. r.hashes (v / 2) ((h.entries i l).0 e);
        size = λ e. r.lengths (v / 2) ((h.entries i l).0 e);
        built = λ e. (h.entries i l).1 e;
      }
