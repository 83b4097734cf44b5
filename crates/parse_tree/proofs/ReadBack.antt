-- The tape of a stage within its limits is read back to that stage. Assumes nothing.
use mathlib.Core.Path.{◌≡◌, refl, sym, ap, ◌∙◌}
use mathlib.Core.Bool.{Bool, true}
use mathlib.Core.List.{List, [], ◌∷◌, ◌++◌, append-nil}
use Prim.Native.Nat.{ℕ, zero, suc, ◌+◌, ◌<◌, ◌≤◌}
use native.Mathlib.Omega.{arith}
use borrow.Author.Tests.{le-leb, lt-leb}
use lib.ListN.{length, length-append}
use lib.Seq.{drop-length, append_snoc}
use Rattle.std.specs.Prelude.{None}
use Rattle.octets.specs.Working.Choice.{pick}
use Rattle.octets.specs.Plain.Runs.{Lies}
use Rattle.octets.proofs.LiesLaws.{lies_split, lies_from, lies_to, lies_inside, lies_part}
use Rattle.octets.proofs.NumbersLaws.{length-le}
use Rattle.parse_tree.specs.Plain.Tree.{Text, Item, Stage, item, terminal}
use Rattle.parse_tree.specs.Plain.Texts.{distinct}
use Rattle.parse_tree.specs.Working.Nodes.{node_bytes, node_at}
use Rattle.parse_tree.specs.Plain.Reading.{got, then}
use Rattle.parse_tree.specs.Working.Decode.{read_items, read_atoms, decode_by}
use Rattle.parse_tree.specs.Working.Encode.{atom_bytes, nonterminal_node, item_bytes, stage_bytes}
use Rattle.parse_tree.specs.Plain.WriteTape.{bytes_of_each}
use Rattle.parse_tree.specs.Working.Within.{Each, ItemWithin, StageWithin}
use Rattle.parse_tree.specs.declared.syntax.Node.{Node}
use Rattle.parse_tree.proofs.NodeBack.{node_back}
use Rattle.parse_tree.proofs.TextLaws.{distinct_apart}
use Rattle.parse_tree.proofs.ReadingLaws.{bytes_many}
use Rattle.parse_tree.proofs.ToCommands.{nonterminal_passes, terminal_passes}
use Rattle.parse_tree.proofs.ItemBack.{item_reads}

lies_whole : (s : List ℕ) → Lies s 0 s (length s)
lies_whole s = record { is = sym (append-nil s) ∙ ap (λ (l : List ℕ). s ++ l) (sym (drop-length s)); end = omega arith }

-- ---- each command has a byte
pub item_size : (w : ℕ) (ts : List Text) (i : Item) → 1 ≤ length (item_bytes w ts i)
unfolding item_bytes node_bytes nonterminal_node
item_size w ts (item d) = omega arith
item_size w ts (terminal s o x) = omega arith

pub atom_size : (w : ℕ) (t : Text) → length (atom_bytes w t) ≡ 3 + length t
unfolding atom_bytes node_bytes
atom_size w t = omega (arith, length-append (node_bytes w (Node.Text (length t))) t, length-le 2 (length t))

-- an atom's command, its text, and that both stand in s
atom_parts : (w : ℕ) (s : List ℕ) (t : Text) (a : ℕ) → Lies s a (atom_bytes w t) (a + length (atom_bytes w t))
    → Lies s a (node_bytes w (Node.Text (length t))) (a + 3) × Lies s (a + 3) t (a + 3 + length t) × (a + 3 + length t ≤ length s)
unfolding atom_bytes node_bytes
atom_parts w s t a l =
    let k = atom_size w t in
    let m = lies_split s a _ (node_bytes w (Node.Text (length t))) t l in
    let i : a + length (node_bytes w (Node.Text (length t))) ≡ a + 3 = omega (arith, length-le 2 (length t)) in
    let j : a + length (atom_bytes w t) ≡ a + 3 + length t = omega arith in
    (lies_to i m.0, lies_to j (lies_from i m.1), omega (arith, lies_inside s a _ (atom_bytes w t) (omega arith) l))

module _ (four : Bool) (w : ℕ) (s : List ℕ) where
  items_read : (ts : List Text) (is : List Item) → Each (ItemWithin four w ts) is → (n a e : ℕ) → length is ≤ n → e ≡ length s → Lies s a (bytes_of_each (item_bytes w ts) is) e → read_items four w s ts n a ≡ got is e
  unfolding read_items then bytes_of_each
  items_read ts [] h zero a e k z l = let y : e ≡ a = omega (arith, l.end) in cc
  items_read ts [] h (suc n) a e k z l =
      let y : e ≡ a = omega (arith, l.end) in
      cc (le-leb (length s) a (omega arith))
  items_read ts (i ∷ is) h zero a e k z l = absurd (omega arith)
  items_read ts (i ∷ is) h (suc n) a e k z l =
      let m = lies_split s a e (item_bytes w ts i) (bytes_of_each (item_bytes w ts) is) l in
      let x = item_size w ts i in
      let y = lies_inside s a (a + length (item_bytes w ts i)) (item_bytes w ts i) x m.0 in
      cc (
        lt-leb (length s) a (omega arith),
        item_reads four w s ts i h.0 a (a + length (item_bytes w ts i)) m.0,
        items_read ts is h.1 n (a + length (item_bytes w ts i)) e (omega arith) z m.1,
      )

  -- where items begin, or the tape ends, no atom stands
  node_none : (a : ℕ) → length s ≤ a → node_at w s a ≡ None
  unfolding node_at pick
  node_none a h = cc (le-leb (length s) a h)

  atoms_end : (ts : List Text) (is : List Item) → Each (ItemWithin four w ts) is → (a : ℕ) → Lies s a (bytes_of_each (item_bytes w ts) is) (length s) → (n : ℕ) (us : List Text) → read_atoms four w s (suc n) us a ≡ got us a
  unfolding read_atoms bytes_of_each item_bytes nonterminal_node
  atoms_end ts [] h a l n us = cc (node_none a (omega (arith, l.end)))
  atoms_end ts (item d ∷ is) h a l n us =
      let m = lies_split s a (length s) (item_bytes w ts (item d)) (bytes_of_each (item_bytes w ts) is) l in
      let k = lies_split s a _ (node_bytes w (nonterminal_node ts d)) _ m.0 in
      cc (node_back w s a _ (nonterminal_node ts d) (nonterminal_passes four w ts d h.0).fits tt k.0)
  atoms_end ts (terminal sp o x ∷ is) h a l n us =
      let m = lies_split s a (length s) (item_bytes w ts (terminal sp o x)) (bytes_of_each (item_bytes w ts) is) l in
      cc (node_back w s a _ _ (terminal_passes four w ts sp o x h.0.0 h.0.1).fits tt m.0)

  -- the atoms us stand before, and the atoms end at e
  atoms_read : (ts us : List Text) → distinct (us ++ ts) ≡ true → Each (λ (t : Text). length t < 65536) ts → (n a e : ℕ) → length ts ≤ n
      → ((k : ℕ) (vs : List Text) → read_atoms four w s (suc k) vs e ≡ got vs e) → Lies s a (bytes_of_each (atom_bytes w) ts) e → read_atoms four w s n us a ≡ got (us ++ ts) e
  unfolding read_atoms bytes_of_each
  atoms_read [] us d h zero a e k z l = let y : e ≡ a = omega (arith, l.end) in cc (append-nil us)
  atoms_read [] us d h (suc n) a e k z l =
      let y : e ≡ a = omega (arith, l.end) in
      cc (append-nil us, z n us)
  atoms_read (t ∷ ts) us d h zero a e k z l = absurd (omega arith)
  atoms_read (t ∷ ts) us d h (suc n) a e k z l =
      let m = lies_split s a e (atom_bytes w t) (bytes_of_each (atom_bytes w) ts) l in
      let (c, x, f) = atom_parts w s t a m.0 in
      let i : a + length (atom_bytes w t) ≡ a + 3 + length t = omega (arith, atom_size w t) in
      cc (
        node_back w s a (a + 3) (Node.Text (length t)) h.0 f c,
        lies_part s (a + 3) (a + 3 + length t) t x,
        distinct_apart us t ts d,
        atoms_read ts (us ++ (t ∷ [])) (rw (append_snoc us t ts) d) h.1 n (a + 3 + length t) e (omega arith) z (lies_from i m.1),
        append_snoc us t ts,
      )

pub read_back : (four : Bool) (w : ℕ) (g : Stage) → StageWithin four w g → decode_by four w (stage_bytes w g) ≡ got g (length (stage_bytes w g))
unfolding decode_by then stage_bytes
read_back four w g h =
    let s = stage_bytes w g in
    let as' = bytes_of_each (atom_bytes w) g.atoms in
    let is' = bytes_of_each (item_bytes w g.atoms) g.items in
    let m = lies_split s 0 (length s) as' is' (lies_whole s) in
    let n = length-append as' is' in
    let x = bytes_many (atom_bytes w) (λ t. omega (arith, atom_size w t)) g.atoms in
    let y = bytes_many (item_bytes w g.atoms) (item_size w g.atoms) g.items in
    cc (
      atoms_read four w s g.atoms [] h.apart h.short (length s) 0 (0 + length as') (omega arith) (atoms_end four w s g.atoms g.items h.items (0 + length as') m.1) m.0,
      items_read four w s g.atoms g.items h.items (length s) (0 + length as') (length s) (omega arith) refl m.1,
    )
