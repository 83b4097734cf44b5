-- The atoms that were counted are those that are read. Assumes nothing.
use mathlib.Core.Path.{◌≡◌, refl, sym, ap, ◌∙◌}
use mathlib.Core.Bool.{Bool, true, false, not, and-eq-true_iff}
use mathlib.Core.List.{List, [], ◌∷◌, ◌++◌}
use Prim.Native.Nat.{ℕ, zero, suc, ◌+◌, ◌-◌, ◌<◌, ◌≤◌}
use native.Mathlib.Omega.{arith}
use native.Mathlib.Nat.{zero-add}
use borrow.Author.Tests.{le-leb, lt-leb, le-ltb, ltb-true, ltb-false, eqb-true, not-true}
use lib.Dec.{eqb, ltb}
use lib.ListN.{length, get_or}
use Rattle.std.specs.Prelude.{Option, Some, None}
use Rattle.octets.specs.Plain.Numbers.{le_at, le, Bytes}
use Rattle.octets.specs.Plain.Runs.{same_as}
use Rattle.octets.specs.Working.Choice.{pick}
use Rattle.octets.proofs.ChoiceLaws.{by_pick}
use Rattle.octets.proofs.LiesLaws.{lies_first, le_read}
use Rattle.parse_tree.specs.Plain.Tree.{Text}
use Rattle.parse_tree.specs.Plain.Texts.{has, distinct}
use Rattle.parse_tree.specs.Plain.Reading.{got, refused}
use Rattle.parse_tree.specs.Working.Nodes.{node_at, node_by, text_node, if_whole, node_bytes, size_of}
use Rattle.parse_tree.specs.Working.Decode.{read_atoms}
use Rattle.parse_tree.specs.declared.syntax.Node.{Node}
use Rattle.parse_tree.proofs.NodeFits.{Stands}
use Rattle.parse_tree.proofs.NodeSays.{node_says}
use Rattle.parse_tree.proofs.TextLaws.{distinct_apart}
use Rattle.texts.specs.Atoms.{atom_end, atom_text, atoms_of, place_of}
use Rattle.validate.specs.Front.{next_at, Counted, Again}
use Rattle.validate.proofs.FrontCode.{place_three}

-- ---- no two of the first texts are equal either
has-front : (x : Text) (ts us : List Text) → has x (ts ++ us) ≡ false → has x ts ≡ false
unfolding has
has-front x [] us h = refl
has-front x (t ∷ ts) us h = go (same_as t x) h (has-front x ts us)
  where
    go : (b : Bool) → elim b [ true ↦ true | false ↦ has x (ts ++ us) ] ≡ false → (has x (ts ++ us) ≡ false → has x ts ≡ false) → elim b [ true ↦ true | false ↦ has x ts ] ≡ false
    go true e f = e
    go false e f = f e

distinct-front : (ts us : List Text) → distinct (ts ++ us) ≡ true → distinct ts ≡ true
unfolding distinct
distinct-front [] us d = refl
distinct-front (t ∷ ts) us d =
    let p = (and-eq-true_iff (not (has t (ts ++ us))) (distinct (ts ++ us))).0 d in
    let h = has-front t ts us (not-true (has t (ts ++ us)) p.0) in
    let i = distinct-front ts us p.1 in
    cc

module _ (four : Bool) (w : ℕ) (s : List ℕ) where
  -- ---- one command: a whole atom
  abbrev Reads : ℕ → ℕ → Type 0
  Reads at r = at < r → node_at w s at ≡ Some (Node.Text (le_at 2 s (at + 1)))

  whole_is : (at : ℕ) → get_or s at 0 ≡ 1 → 3 ≤ length s - at → 3 + le_at 2 s (at + 1) ≤ length s - at → node_at w s at ≡ Some (Node.Text (le_at 2 s (at + 1)))
  unfolding node_at node_by text_node if_whole pick
  whole_is at c h k = rw (lt-leb (length s) at (omega arith), c, le-ltb (length s - at) 3 h, le-ltb (length s - at) (3 + le_at 2 s (at + 1)) k)

  text_there : (at : ℕ) → Reads at (next_at s at)
  unfolding next_at
  text_there at =
      by_pick (Reads at) (eqb (get_or s at 0) 1)
      (λ c. by_pick (Reads at) (ltb (length s - at) 3) (λ _ h. absurd (omega arith))
      (λ e. by_pick (Reads at) (ltb (length s - at) (3 + le_at 2 s (at + 1))) (λ _ h. absurd (omega arith))
      (λ f h. whole_is at (eqb-true (get_or s at 0) 1 c) (ltb-false (length s - at) 3 e) (ltb-false (length s - at) (3 + le_at 2 s (at + 1)) f))))
      (λ _ h. absurd (omega arith))

  -- and any other
  text_moves : (at l : ℕ) → Bytes s → node_at w s at ≡ Some (Node.Text l) → at < next_at s at
  unfolding node_bytes next_at atom_end pick
  text_moves at l b e =
      let h : Stands w s at (Node.Text l) = rw e at (node_says w s at b) in
      let f = lies_first s at 1 (le 2 l) (at + size_of w (Node.Text l)) h.lies in
      let n : l ≡ le_at 2 s (at + 1) = sym (le_read 2 s (at + 1) l (at + size_of w (Node.Text l)) h.fits f.2) in
      let i : at + 3 + l ≤ length s = h.text in
      rw (f.1, le-ltb (length s - at) 3 (omega arith), le-ltb (length s - at) (3 + le_at 2 s (at + 1)) (omega arith)) (omega arith)

  module _ (ts : List Text) (at m : ℕ) where
    stops_at : (n : Option Node) → node_at w s at ≡ n → ((l : ℕ) → n ≡ Some (Node.Text l) → ⊥) → read_atoms four w s (suc m) ts at ≡ got ts at
    unfolding read_atoms
    stops_at (Some (Node.Text k)) e h = absurd (h k refl)
    stops_at (Some (Node.Nonterminal d)) e h = cc
    stops_at (Some (Node.Terminal t)) e h = cc
    stops_at (Some (Node.Argument a)) e h = cc
    stops_at (Some (Node.Alternative a)) e h = cc
    stops_at (Some (Node.Attribute a)) e h = cc
    stops_at (Some (Node.Condition c)) e h = cc
    stops_at (Some (Node.Symbol sp k)) e h = cc
    stops_at None e h = cc

    stopped : Bytes s → next_at s at ≡ at → read_atoms four w s (suc m) ts at ≡ got ts at
    stopped b p = stops_at (node_at w s at) refl (λ l e. absurd (let h = text_moves at l b e in omega arith))

    known_at : at < next_at s at → has (atom_text s at) ts ≡ true → read_atoms four w s (suc m) ts at ≡ refused 3 at
    unfolding read_atoms atom_text atom_end
    known_at h k = let e = text_there at h in cc

    goes_on : at < next_at s at → has (atom_text s at) ts ≡ false → read_atoms four w s (suc m) ts at ≡ read_atoms four w s m (ts ++ (atom_text s at ∷ [])) (atom_end s at)
    unfolding read_atoms atom_text atom_end
    goes_on h k = let e = text_there at h in cc

  ended : (ts : List Text) (at n : ℕ) → length s ≤ at → read_atoms four w s n ts at ≡ got ts at
  unfolding read_atoms node_at pick
  ended ts at zero h = refl
  ended ts at (suc n) h = cc (le-leb (length s) at h)

  -- ---- all that were counted
  module _ (end n : ℕ) (g : Counted s end n) where
    moves : (k : ℕ) → k < n → place_of s k < next_at s (place_of s k)
    unfolding place_of atom_end
    moves k h = omega (arith, g.each k h)

    upto : (k m : ℕ) → k ≤ n → distinct (atoms_of s k) ≡ true → read_atoms four w s (k + m) [] 0 ≡ read_atoms four w s m (atoms_of s k) (place_of s k)
    unfolding atoms_of place_of
    upto zero m h d = rw (zero-add m)
    upto (suc k) m h d =
        let z : suc k + m ≡ k + suc m = omega arith in
        let f : distinct (atoms_of s k) ≡ true = distinct-front (atoms_of s k) (atom_text s (place_of s k) ∷ []) d in
        let x : has (atom_text s (place_of s k)) (atoms_of s k) ≡ false = distinct_apart (atoms_of s k) (atom_text s (place_of s k)) [] d in
        ap (λ (i : ℕ). read_atoms four w s i [] 0) z ∙ upto k (suc m) (omega arith) f ∙ goes_on (atoms_of s k) (place_of s k) m (moves k (omega arith)) x

    fuel : (k : ℕ) → k ≤ n → k + (length s - k) ≡ length s
    fuel k h = omega (arith, g.here, g.inside, place_three s n)

    pub reads_all : Bytes s → distinct (atoms_of s n) ≡ true → read_atoms four w s (length s) [] 0 ≡ got (atoms_of s n) end
    reads_all b d =
        let o : read_atoms four w s (length s) [] 0 ≡ read_atoms four w s (length s - n) (atoms_of s n) end
        = ap (λ (i : ℕ). read_atoms four w s i [] 0) (sym (fuel n (omega arith))) ∙ upto n (length s - n) (omega arith) d ∙ ap (read_atoms four w s (length s - n) (atoms_of s n)) (sym g.here) in
        o ∙ go (ltb end (length s)) refl
      where
        go : (t : Bool) → ltb end (length s) ≡ t → read_atoms four w s (length s - n) (atoms_of s n) end ≡ got (atoms_of s n) end
        go true e =
            let h = ltb-true end (length s) e in
            let z : length s - n ≡ suc (length s - n - 1) = omega (arith, g.here, place_three s n) in
            ap (λ (i : ℕ). read_atoms four w s i (atoms_of s n) end) z ∙ stopped (atoms_of s n) end (length s - n - 1) b (g.stop h)
        go false e = ended (atoms_of s n) end (length s - n) (ltb-false end (length s) e)

    pub reads_again : (p : ℕ) → Again s n p → read_atoms four w s (length s) [] 0 ≡ refused 3 p
    reads_again p a =
        let k = a.before in
        let h = a.few in
        let z : length s - k ≡ suc (length s - k - 1) = omega (arith, g.here, g.inside, place_three s n) in
        ap (λ (i : ℕ). read_atoms four w s i [] 0) (sym (fuel k (omega arith))) ∙ upto k (length s - k) (omega arith) a.apart
        ∙ ap (λ (i : ℕ). read_atoms four w s i (atoms_of s k) (place_of s k)) z ∙ ap (read_atoms four w s (suc (length s - k - 1)) (atoms_of s k)) (sym a.here)
        ∙ known_at (atoms_of s k) p (length s - k - 1) (rw a.here (moves k h)) a.known
