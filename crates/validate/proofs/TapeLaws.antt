-- A tape that was validated: its atoms and its items in its bytes, and its items copied to work. Assumes nothing.
use mathlib.Core.Path.{◌≡◌, refl, sym, ap, ◌∙◌}
use mathlib.Core.Bool.{Bool, true, false}
use mathlib.Core.List.{List, [], ◌∷◌, ◌++◌}
use Prim.Native.Nat.{ℕ, zero, suc, ◌+◌, ◌-◌, ◌*◌, ◌≤◌}
use native.Mathlib.Omega.{arith}
use lib.ListN.{length, take, drop, get_or, length-append}
use lib.Dec.{leb}
use lib.Seq.{take-append_seam, drop-append_seam, take_all}
use mir.Syntax.{w8}
use mir.Val as Bound
use Rattle.octets.specs.Plain.Runs.{Lies, part}
use Rattle.octets.specs.Working.Stores.{store}
use Rattle.octets.proofs.PartLaws.{part_length}
use Rattle.octets.proofs.LiesLaws.{lies_to}
use Rattle.octets.proofs.StoreLaws.{length_store, lies_store}
use Rattle.parse_tree.specs.Plain.Tree.{Text, Item, Stage}
use Rattle.parse_tree.specs.Plain.Reading.{got, then}
use Rattle.parse_tree.specs.Plain.WriteTape.{bytes_of_each}
use Rattle.parse_tree.specs.Working.Decode.{read_item, read_items}
use Rattle.parse_tree.specs.Working.Encode.{stage_bytes, atom_bytes, item_bytes}
use Rattle.parse_tree.specs.Working.Nodes.{node_bytes, size_of}
use Rattle.parse_tree.specs.Working.Within.{StageWithin}
use Rattle.parse_tree.specs.declared.syntax.Node.{Node}
use Rattle.parse_tree.proofs.SizeLaws.{text_size}
use Rattle.parse_tree.proofs.Written.{written}
use Rattle.parse_tree.proofs.ReadingLaws.{then-got, got_as}
use Rattle.parse_tree.proofs.ItemFound.{item_finds}
use Rattle.texts.specs.Atoms.{atoms_of}
use Rattle.validate.specs.Whole.{Valid}
use Rattle.validate.specs.declared.Atoms.{Atoms}

-- ---- an atom has three bytes or more
pub atoms_long : (ts : List Text) → 3 * length ts ≤ length (bytes_of_each (atom_bytes 2) ts)
unfolding bytes_of_each atom_bytes size_of
atoms_long [] = omega arith
atoms_long (t ∷ ts) =
    let n = Node.Text (length t) in
    omega (arith, atoms_long ts, length-append (atom_bytes 2 t) (bytes_of_each (atom_bytes 2) ts), length-append (node_bytes 2 n) t, text_size 2 n (length t) refl)

-- ---- s is the tape of ts and is, and the items begin at at
pub record TapeOf (four : Bool) (s : List ℕ) (at : ℕ) (ts : List Text) (is : List Item) : Type 0 where
  pub within : StageWithin four 2 (record { atoms = ts; items = is })
  pub begins : at ≡ length (bytes_of_each (atom_bytes 2) ts)
  pub ends : length s ≡ at + length (bytes_of_each (item_bytes 2 ts) is)
  pub atoms_part : part 0 at s ≡ bytes_of_each (atom_bytes 2) ts
  pub items_part : part at (length s) s ≡ bytes_of_each (item_bytes 2 ts) is

module _ (four : Bool) (s w : List ℕ) (a : Atoms) (at n : ℕ) (v : Valid four 2 s w a at n) (b : (j : ℕ) → Bound.Fits w8 (get_or s j 0)) where
  abbrev ts : List Text
  ts = atoms_of s a.texts.count

  abbrev tape : Stage
  tape = record { atoms = ts; items = v.items }

  abbrev atoms : List ℕ
  atoms = bytes_of_each (atom_bytes 2) ts

  abbrev each : List Item → List ℕ
  each is = bytes_of_each (item_bytes 2 ts) is

  stage : stage_bytes 2 tape ≡ s
  stage = (written four 2 s tape (length s) (λ j. (b j).fits) v.decoded).bytes

  -- where the tape's atoms end, its items begin
  items_end : (k p : ℕ) (is : List Item) (e : ℕ) → read_items four 2 s ts k p ≡ got is e → e ≡ p + length (each is)
  unfolding read_items bytes_of_each
  items_end zero p is e q = got_as (λ js d. d ≡ p + length (each js)) q (omega arith)
  items_end (suc k) p is e q = go (leb (length s) p) q (λ m js f. items_end k m js f)
    where
      go : (t : Bool) → elim t [ true ↦ got [] p | false ↦ then (read_item four 2 s ts p) (λ i m. then (read_items four 2 s ts k m) (λ js f. got (i ∷ js) f)) ] ≡ got is e
          → ((m : ℕ) (js : List Item) (f : ℕ) → read_items four 2 s ts k m ≡ got js f → f ≡ m + length (each js)) → e ≡ p + length (each is)
      go true q f = got_as (λ js d. d ≡ p + length (each js)) q (omega arith)
      go false q f =
          let r₁ = then-got (read_item four 2 s ts p) _ q in
          let r₂ = then-got (read_items four 2 s ts k r₁.mid) _ r₁.second in
          let l = (item_finds four 2 s ts (λ j. (b j).fits) v.ready.apart p r₁.value r₁.mid r₁.first).lies in
          got_as (λ js d. d ≡ p + length (each js)) r₂.second
          (omega (arith, l.end, f r₁.mid r₂.value r₂.mid r₂.first, length-append (item_bytes 2 ts r₁.value) (each r₂.value)))

  ends : length s ≡ at + length (each v.items)
  ends = items_end (length s) at v.items (length s) v.read

  begins : at ≡ length atoms
  unfolding stage_bytes
  begins = omega (arith, ends, length-append atoms (each v.items), ap length stage)

  atoms_part : part 0 at s ≡ atoms
  unfolding part stage_bytes
  atoms_part =
      let z : at - 0 ≡ at = omega arith in
      ap (λ (i : ℕ). take i (drop 0 s)) z ∙ ap (λ (x : List ℕ). take at (drop 0 x)) (sym stage) ∙ ap (λ (i : ℕ). take i (atoms ++ each v.items)) begins ∙ take-append_seam atoms (each v.items)

  items_part : part at (length s) s ≡ each v.items
  unfolding part stage_bytes
  items_part =
      ap (λ (x : List ℕ). take (length s - at) (drop at x)) (sym stage) ∙ ap (λ (i : ℕ). take (length s - at) (drop i (atoms ++ each v.items))) begins
      ∙ ap (take (length s - at)) (drop-append_seam atoms (each v.items)) ∙ take_all (length s - at) (each v.items) (omega (arith, ends))

  -- theorem: what was validated is a tape
  pub tape_of : TapeOf four s at ts v.items
  tape_of = record {
    within = (written four 2 s tape (length s) (λ j. (b j).fits) v.decoded).within;
    begins = begins;
    ends = ends;
    atoms_part = atoms_part;
    items_part = items_part;
  }

-- ---- w₁ is w with the items of s
module _ (s w : List ℕ) (at : ℕ) (inside : at ≤ length s) (w₁ : List ℕ) (copied : w₁ ≡ store w (7 * (length s - at)) (part at (length s) s)) where
  pub copied_long : length (part at (length s) s) ≡ length s - at
  copied_long = part_length at (length s) s (omega arith)

  pub copied_kept : length w₁ ≡ length w
  copied_kept = ap length copied ∙ length_store w (7 * (length s - at)) (part at (length s) s)

  pub copied_lies : 8 * length s ≤ length w → Lies w₁ (7 * (length s - at)) (part at (length s) s) (7 * (length s - at) + (length s - at))
  copied_lies room =
      let y : 7 * (length s - at) + length (part at (length s) s) ≡ 7 * (length s - at) + (length s - at) = omega (arith, copied_long) in
      rw copied (lies_to y (lies_store w (7 * (length s - at)) (part at (length s) s) (omega (arith, copied_long))))
