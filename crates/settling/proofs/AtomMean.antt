-- An atom that was put is read as its text, by its mark too. Assumes nothing.
use mathlib.Core.Path.{◌≡◌, ap, ◌∙◌}
use mathlib.Core.List.{List, ◌∷◌, ◌++◌}
use Prim.Native.Nat.{ℕ, ◌+◌, ◌-◌, ◌*◌, ◌≤◌, ◌<◌}
use native.Mathlib.Omega.{arith}
use lib.ListN.{length, length-append}
use Rattle.octets.specs.Plain.Numbers.{le}
use Rattle.octets.specs.Plain.Runs.{part, Lies}
use Rattle.octets.specs.Working.Stores.{store}
use Rattle.octets.proofs.NumbersLaws.{length-le}
use Rattle.octets.proofs.LiesLaws.{lies_first, lies_split, lies_from, lies_to, lies_part, le_read}
use Rattle.octets.proofs.StoreLaws.{lies_store, length_store}
use Rattle.parse_tree.specs.Plain.Tree.{Text}
use Rattle.parse_tree.specs.Working.Nodes.{node_bytes}
use Rattle.parse_tree.specs.Working.Encode.{atom_bytes}
use Rattle.texts.specs.Atoms.{atom_end, atom_text}
use Rattle.texts.specs.Texts.{marked_text, Whole}
use Rattle.texts.proofs.TableMarks.{work_mark_whole, work_mark_text}

module _ (w w1 : List ℕ) (p : ℕ) (t : Text) (o : w1 ≡ store w p (atom_bytes 2 t)) (room : p + 3 + length t ≤ length w) (short : length t < 65536) where
  bytes_long : length (atom_bytes 2 t) ≡ 3 + length t
  unfolding atom_bytes node_bytes
  bytes_long = length-append (1 ∷ le 2 (length t)) t ∙ omega (arith, length-le 2 (length t))

  lies : Lies w1 p (atom_bytes 2 t) (p + length (atom_bytes 2 t))
  lies = rw o (lies_store w p (atom_bytes 2 t) (omega (arith, bytes_long)))

  parts : Lies w1 (p + 1) (le 2 (length t)) (p + 1 + 2) × Lies w1 (p + 3) t (p + 3 + length t)
  unfolding atom_bytes node_bytes
  parts =
      let a = (lies_first w1 p 1 (le 2 (length t) ++ t) _ lies).2 in
      let b = lies_split w1 (p + 1) _ (le 2 (length t)) t a in
      let n = length-le 2 (length t) in
      (lies_to (omega arith) b.0, lies_from (omega arith) (lies_to (omega (arith, bytes_long)) b.1))

  -- theorem: where the atom ends
  pub atom_ends : atom_end w1 p ≡ p + 3 + length t
  unfolding atom_end
  atom_ends = ap (λ (n : ℕ). p + 3 + n) (le_read 2 w1 (p + 1) (length t) (p + 1 + 2) (omega arith) parts.0)

  -- theorem: its text
  pub atom_reads : atom_text w1 p ≡ t
  unfolding atom_text
  atom_reads = ap (λ (e : ℕ). part (p + 3) e w1) atom_ends ∙ lies_part w1 (p + 3) (p + 3 + length t) t parts.1

  -- theorem: it is whole
  pub atom_inside : atom_end w1 p ≤ length w1
  atom_inside = omega (arith, atom_ends, ap length o, length_store w p (atom_bytes 2 t))

  module _ (s : List ℕ) (far : 8 * length s ≤ p) where
    -- theorem: so is the text of the atom's mark
    pub mark_inside : Whole s w1 (p - 4 * length s)
    mark_inside = work_mark_whole s w1 p far atom_inside

    pub mark_reads : marked_text s w1 (p - 4 * length s) ≡ t
    mark_reads = work_mark_text s w1 p far ∙ atom_reads
