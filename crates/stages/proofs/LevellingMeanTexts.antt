-- The texts and the items of a levelled tree: how long they are, and how many. Assumes nothing.
use mathlib.Core.Path.{◌≡◌, refl, sym, ap, ◌∙◌}
use mathlib.Core.Bool.{Bool, true, false, not, cond}
use mathlib.Core.List.{List, [], ◌∷◌, ◌++◌, map, append_assoc}
use mathlib.Core.Option.{none}
use Prim.Native.Nat.{ℕ, zero, suc, ◌+◌, ◌*◌, ◌/◌, ◌%◌, ◌≤◌, ◌<◌}
use native.Mathlib.Omega.{arith}
use borrow.Author.Tests.{lt-ltb}
use lib.Dec.{ltb}
use lib.ListN.{length, get_or, length-append, length-map}
use Rattle.parse_tree.specs.Plain.Tree.{Text, Alternative, Nonterminal, Item, item, terminal}
use Rattle.parse_tree.specs.Plain.WriteTape.{bytes_of_each}
use Rattle.parse_tree.specs.Working.Nodes.{node_bytes, size_of}
use Rattle.parse_tree.specs.Working.Encode.{atom_bytes}
use Rattle.parse_tree.specs.Working.Within.{Each}
use Rattle.parse_tree.specs.declared.syntax.Node.{Node}
use Rattle.parse_tree.proofs.SizeLaws.{text_size}
use Rattle.parse_tree.proofs.ReadingLaws.{bytes_more}
use Rattle.texts.specs.Atoms.{some_long}
use Rattle.texts.specs.declared.Map.{Map}
use Rattle.texts.specs.Fields.{mark_at}
use Rattle.texts.specs.Table.{texts}
use Rattle.passes.specs.Grades.{Graded, starts_annotated, annotated, graded}
use Rattle.passes.specs.Levels.{decimal_from, Group, groups_of, levels_of, substituted, with_fall_through, level_items, levelled}
use Rattle.passes.specs.Sizes.{each}
use Rattle.grades.specs.Grade.{level_digits}
use Rattle.precedence.specs.Names.{level_text, described_text, described_texts}
use Rattle.levels.specs.Names.{group_names}
use Rattle.levels.proofs.Few.{group_names_head}
use Rattle.rounds.proofs.JudgeMeans.{short, each_two, none_long}

-- ---- bytes of two lists
pub bytes_both : {A : Type 0} (f : A → List ℕ) (xs ys : List A) → bytes_of_each f (xs ++ ys) ≡ bytes_of_each f xs ++ bytes_of_each f ys
unfolding bytes_of_each
bytes_both f [] ys = refl
bytes_both f (x ∷ xs) ys = ap (λ (l : List ℕ). f x ++ l) (bytes_both f xs ys) ∙ sym (append_assoc (f x) (bytes_of_each f xs) (bytes_of_each f ys))

-- ---- texts that are short
old_short : (ts : List Text) → Each (λ (t : Text). length t < 65536) ts → each short ts ≡ true
old_short [] h = refl
old_short (t ∷ ts) h = rw (lt-ltb (length t) 65536 h.0) (old_short ts h.1)

-- theorem: whether short texts and others are all short
pub all_short : (ts us : List Text) → Each (λ (t : Text). length t < 65536) ts → each short (ts ++ us) ≡ not (some_long us)
all_short ts us h = each_two short ts us ∙ rw (old_short ts h) (none_long us)

-- ---- described texts
decimal-few : (k n : ℕ) (r : Text) → length (decimal_from k n r) ≤ k + length r
decimal-few zero n r = omega arith
decimal-few (suc k) n r = go (ltb n 10) (decimal-few k (n / 10) ((0x30 + n % 10) ∷ r))
  where
    go : (b : Bool) → length (decimal_from k (n / 10) ((0x30 + n % 10) ∷ r)) ≤ k + suc (length r) → length (cond b ((0x30 + n % 10) ∷ r) (decimal_from k (n / 10) ((0x30 + n % 10) ∷ r))) ≤ suc k + length r
    go true e = omega arith
    go false e = omega arith

digits-few : (v : ℕ) → length (level_digits v) ≤ 10
unfolding level_digits
digits-few v = omega (arith, decimal-few 10 v [])

get_d_short : (ts : List Text) (k : ℕ) → Each (λ (t : Text). length t < 65536) ts → length (get_or ts k []) < 65536
get_d_short [] k h = omega arith
get_d_short (t ∷ ts) zero h = h.0
get_d_short (t ∷ ts) (suc k) h = get_d_short ts k h.1

atom_size : (t : Text) → length (atom_bytes 2 t) ≡ 3 + length t
unfolding atom_bytes size_of
atom_size t =
    let z : 3 ≡ length (node_bytes 2 (Node.Text (length t))) = text_size 2 (Node.Text (length t)) (length t) refl in
    omega (arith, length-append (node_bytes 2 (Node.Text (length t))) t)

no_bytes : length (bytes_of_each (atom_bytes 2) []) ≡ 0
unfolding bytes_of_each
no_bytes = refl

module _ (s w : List ℕ) (m : Map) where
  pub described_length : (d : ℕ) → length (described_texts s w m d) ≡ d
  unfolding described_texts
  described_length zero = refl
  described_length (suc d) = omega (arith, described_length d, length-append (described_texts s w m d) (described_text s w m (mark_at w m.base (m.count + d)) ∷ []))

  module _ (h : Each (λ (t : Text). length t < 65536) (texts s w m)) where
    described_short : (x : ℕ) → length (described_text s w m x) ≤ 65545
    unfolding described_text level_text
    described_short x =
        let b = x / 4294967296 in
        let v = x % 4294967296 in
        omega (arith, get_d_short (texts s w m) b h, digits-few v, length-append (get_or (texts s w m) b []) (level_digits v))

    -- theorem: a name has at most 65,545 bytes, and 3 before it
    pub described_bytes : (d : ℕ) → length (bytes_of_each (atom_bytes 2) (described_texts s w m d)) ≤ 65548 * d
    unfolding described_texts
    described_bytes zero = omega (arith, no_bytes)
    described_bytes (suc d) =
        let x = described_text s w m (mark_at w m.base (m.count + d)) in
        omega (arith, described_bytes d, ap length (bytes_more (atom_bytes 2) (described_texts s w m d) x), length-append (bytes_of_each (atom_bytes 2) (described_texts s w m d)) (atom_bytes 2 x), atom_size x, described_short (mark_at w m.base (m.count + d)))

-- ---- a tree that has items has levels
annotated-some : (cs : List Alternative) → starts_annotated cs ≡ true → 1 ≤ length cs
annotated-some [] e = absurd (let z : ◌≡◌ {A = ℕ} 0 1 = cc in omega arith)
annotated-some (c ∷ cs) e = omega arith

group_some : (d : Nonterminal) → annotated d ≡ true → 1 ≤ length (level_items d)
unfolding level_items group_names
group_some d e =
    let gs = groups_of d.name (graded d) none (levels_of (graded d)) in
    let n = group_names_head d (annotated-some d.alternatives e) in
    omega (arith, ap length n.is, length-append n.front (d.name ∷ []), length-map gs (λ (g : Group Graded). g.name), length-map gs (substituted d.name), length-map (map (substituted d.name) gs) (with_fall_through d))

-- theorem: it has an item
pub levelled-some : (R : List Item) → 0 < length R → 0 < length (levelled R)
unfolding levelled
levelled-some [] h = absurd (omega arith)
levelled-some (item d ∷ rest) h = go (annotated d) refl
  where
    go : (b : Bool) → annotated d ≡ b → 0 < length (cond b (level_items d) (item d ∷ []) ++ levelled rest)
    go true e = omega (arith, group_some d e, length-append (level_items d) (levelled rest))
    go false e = omega arith
levelled-some (terminal s o x ∷ rest) h = omega arith
