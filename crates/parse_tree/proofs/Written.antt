-- What is read of a tape is a stage within its limits, and the tape is that stage's. Assumes nothing.
use mathlib.Core.Path.{◌≡◌, refl, sym, ap, ◌∙◌}
use mathlib.Core.Bool.{Bool, true, false}
use mathlib.Core.List.{List, [], ◌∷◌, ◌++◌, append-nil}
use Prim.Native.Nat.{ℕ, zero, suc, ◌+◌, ◌<◌, ◌≤◌}
use native.Mathlib.Omega.{arith}
use borrow.Author.Tests.{leb-true}
use lib.Dec.{leb}
use lib.ListN.{length}
use lib.Seq.{drop-length}
use Rattle.std.specs.Prelude.{Option, Some, None}
use Rattle.octets.specs.Plain.Numbers.{Bytes}
use Rattle.octets.specs.Plain.Runs.{part, Lies}
use Rattle.octets.proofs.LiesLaws.{lies_none, lies_append, lies_to, lies_inside, part_lies}
use Rattle.octets.proofs.NumbersLaws.{length-le}
use Rattle.octets.proofs.PartLaws.{part_length}
use Rattle.parse_tree.specs.Plain.Tree.{Text, Item, Stage}
use Rattle.parse_tree.specs.Plain.Texts.{has, distinct}
use Rattle.parse_tree.specs.Working.Nodes.{node_bytes, size_of, node_at}
use Rattle.parse_tree.specs.Plain.Reading.{got, refused, then}
use Rattle.parse_tree.specs.Working.Decode.{read_item, read_items, read_atoms, decode_by}
use Rattle.parse_tree.specs.Working.Encode.{atom_bytes, item_bytes, stage_bytes}
use Rattle.parse_tree.specs.Plain.WriteTape.{bytes_of_each}
use Rattle.parse_tree.specs.Working.Within.{Each, ItemWithin, StageWithin}
use Rattle.parse_tree.specs.declared.syntax.Node.{Node}
use Rattle.parse_tree.proofs.NodeFits.{NodeSays, Stands}
use Rattle.parse_tree.proofs.NodeSays.{node_says}
use Rattle.parse_tree.proofs.TextLaws.{distinct_more}
use Rattle.parse_tree.proofs.ReadingLaws.{never, then-got, got_as, Found, each_append, bytes_more}
use Rattle.parse_tree.proofs.ReadBack.{item_size}
use Rattle.parse_tree.proofs.ItemFound.{item_finds}

-- ---- items: they end where the tape ends
module _ (four : Bool) (w : ℕ) (s : List ℕ) (ts : List Text) (b : Bytes s) (d : distinct ts ≡ true) where
  pub record Ended (a : ℕ) (is : List Item) (e : ℕ) : Type 0 where
    pub found : Found s (bytes_of_each (item_bytes w ts)) (Each (ItemWithin four w ts)) a is e
    pub end : e ≡ length s

  ended : (a : ℕ) → a ≡ length s → Ended a [] a
  unfolding bytes_of_each
  ended a h = record { found = record { lies = lies_none s a; within = tt }; end = h }

  item_ended : (i : Item) (is : List Item) (a m e : ℕ) → Found s (item_bytes w ts) (ItemWithin four w ts) a i m → Ended m is e → Ended a (i ∷ is) e
  unfolding bytes_of_each
  item_ended i is a m e x y = record { found = record { lies = lies_append x.lies y.found.lies; within = (x.within, y.found.within) }; end = y.end }

  items_found : (n a : ℕ) (is : List Item) (e : ℕ) → read_items four w s ts n a ≡ got is e → length s ≤ a + n → a ≤ length s → Ended a is e
  unfolding read_items
  items_found zero a is e p h k = got_as (Ended a) p (ended a (omega arith))
  items_found (suc n) a is e p h k = go (leb (length s) a) refl p (λ m js f. items_found n m js f)
    where
      go : (t : Bool) → leb (length s) a ≡ t
          → elim t [ true ↦ got [] a | false ↦ then (read_item four w s ts a) (λ i m. then (read_items four w s ts n m) (λ js f. got (i ∷ js) f)) ] ≡ got is e
          → ((m : ℕ) (js : List Item) (f : ℕ) → read_items four w s ts n m ≡ got js f → length s ≤ m + n → m ≤ length s → Ended m js f)
          → Ended a is e
      go true q p' f = got_as (Ended a) p' (ended a (omega (arith, leb-true (length s) a q)))
      go false q p' f =
          let r₁ = then-got (read_item four w s ts a) _ p' in
          let r₂ = then-got (read_items four w s ts n r₁.mid) _ r₁.second in
          let i = item_finds four w s ts b d a r₁.value r₁.mid r₁.first in
          let z = item_size w ts r₁.value in
          let l = lies_inside s a r₁.mid (item_bytes w ts r₁.value) z i.lies in
          let j = f r₁.mid r₂.value r₂.mid r₂.first (omega (arith, i.lies.end)) l in
          got_as (Ended a) r₂.second (item_ended r₁.value r₂.value a r₁.mid r₂.mid i j)

-- ---- atoms: ts lie from the start of the tape up to a
module _ (four : Bool) (w : ℕ) (s : List ℕ) (b : Bytes s) where
  pub record Atoms (ts : List Text) (a : ℕ) : Type 0 where
    pub apart : distinct ts ≡ true
    pub short : Each (λ (t : Text). length t < 65536) ts
    pub lies : Lies s 0 (bytes_of_each (atom_bytes w) ts) a
    pub inside : a ≤ length s

  -- one more, of k bytes
  atoms_more : (ts : List Text) (a k : ℕ) → Atoms ts a → Stands w s a (Node.Text k) → has (part (a + 3) (a + 3 + k) s) ts ≡ false
      → Atoms (ts ++ (part (a + 3) (a + 3 + k) s ∷ [])) (a + 3 + k)
  unfolding atom_bytes node_bytes size_of
  atoms_more ts a k h x p =
      let t = part (a + 3) (a + 3 + k) s in
      let n : length (part (a + 3) (a + 3 + k) s) ≡ k = part_length (a + 3) (a + 3 + k) s x.text ∙ (omega arith) in
      let c : Lies s a (node_bytes w (Node.Text k)) (a + 3) = lies_to (omega (arith, length-le 2 k)) x.lies in
      let l : Lies s a (atom_bytes w t) (a + 3 + k) = rw n (lies_append c (part_lies s (a + 3) (a + 3 + k) (omega arith) x.text)) in
      record {
        apart = distinct_more ts t h.apart p;
        short = each_append (λ (u : Text). length u < 65536) ts (t ∷ []) h.short (rw n x.fits, tt);
        lies = rw (bytes_more (atom_bytes w) ts t) (lies_append h.lies l);
        inside = x.text;
      }

  atoms_found : (n : ℕ) (ts : List Text) (a : ℕ) (us : List Text) (e : ℕ) → Atoms ts a → read_atoms four w s n ts a ≡ got us e → Atoms us e
  unfolding read_atoms
  atoms_found zero ts a us e h p = got_as Atoms p h
  atoms_found (suc n) ts a us e h p = go (node_at w s a) (node_says w s a b) p (λ vs m. atoms_found n vs m us e)
    where
      new : (k : ℕ) (t : Bool) → has (part (a + 3) (a + 3 + k) s) ts ≡ t → Stands w s a (Node.Text k)
          → elim t [ true ↦ refused 3 a | false ↦ read_atoms four w s n (ts ++ (part (a + 3) (a + 3 + k) s ∷ [])) (a + 3 + k) ] ≡ got us e
          → ((vs : List Text) (m : ℕ) → Atoms vs m → read_atoms four w s n vs m ≡ got us e → Atoms us e) → Atoms us e
      new k true q x y f = absurd (never y)
      new k false q x y f = f (ts ++ (part (a + 3) (a + 3 + k) s ∷ [])) (a + 3 + k) (atoms_more ts a k h x q) y

      go : (c : Option Node) → NodeSays w s a c
          → elim c [
            | None ↦ got ts a
            | Some (Node.Text k) ↦ elim (has (part (a + 3) (a + 3 + k) s) ts) [
              | true ↦ refused 3 a
              | false ↦ read_atoms four w s n (ts ++ (part (a + 3) (a + 3 + k) s ∷ [])) (a + 3 + k)
            ]
            | Some (Node.Nonterminal k) ↦ got ts a
            | Some (Node.Terminal k) ↦ got ts a
            | Some (Node.Argument k) ↦ got ts a
            | Some (Node.Alternative k) ↦ got ts a
            | Some (Node.Attribute k) ↦ got ts a
            | Some (Node.Condition k) ↦ got ts a
            | Some (Node.Symbol sp k) ↦ got ts a
          ] ≡ got us e
          → ((vs : List Text) (m : ℕ) → Atoms vs m → read_atoms four w s n vs m ≡ got us e → Atoms us e) → Atoms us e
      go (Some (Node.Text k)) x y f = new k (has (part (a + 3) (a + 3 + k) s) ts) refl x y f
      go (Some (Node.Nonterminal k)) x y f = got_as Atoms y h
      go (Some (Node.Terminal k)) x y f = got_as Atoms y h
      go (Some (Node.Argument k)) x y f = got_as Atoms y h
      go (Some (Node.Alternative k)) x y f = got_as Atoms y h
      go (Some (Node.Attribute k)) x y f = got_as Atoms y h
      go (Some (Node.Condition k)) x y f = got_as Atoms y h
      go (Some (Node.Symbol sp k)) x y f = got_as Atoms y h
      go None x y f = got_as Atoms y h

  atoms_none : Atoms [] 0
  unfolding bytes_of_each distinct
  atoms_none = record { apart = refl; short = tt; lies = lies_none s 0; inside = omega arith }

-- ---- the whole
lies_all : (s xs : List ℕ) → Lies s 0 xs (length s) → xs ≡ s
lies_all s xs l = sym (append-nil xs) ∙ ap (λ (z : List ℕ). xs ++ z) (sym (drop-length s)) ∙ sym l.is

pub record Written (four : Bool) (w : ℕ) (s : List ℕ) (g : Stage) (e : ℕ) : Type 0 where
  pub bytes : stage_bytes w g ≡ s
  pub end : e ≡ length s
  pub within : StageWithin four w g

pub written : (four : Bool) (w : ℕ) (s : List ℕ) (g : Stage) (e : ℕ) → Bytes s → decode_by four w s ≡ got g e → Written four w s g e
unfolding decode_by stage_bytes
written four w s g e b p =
    let r₁ = then-got (read_atoms four w s (length s) [] 0) _ p in
    let r₂ = then-got (read_items four w s r₁.value (length s) r₁.mid) _ r₁.second in
    let x = atoms_found four w s b (length s) [] 0 r₁.value r₁.mid (atoms_none four w s b) r₁.first in
    let y = items_found four w s r₁.value b x.apart (length s) r₁.mid r₂.value r₂.mid r₂.first (omega arith) x.inside in
    got_as (Written four w s) r₂.second (record {
      bytes = lies_all s _ (lies_to y.end (lies_append x.lies y.found.lies));
      end = y.end;
      within = record { apart = x.apart; short = x.short; items = y.found.within };
    })
