-- How long a printed form is: less than 2^64 times the bytes of the symbol in work. Assumes nothing.
use mathlib.Core.Path.{◌≡◌, refl}
use mathlib.Core.Bool.{Bool, true, false, cond, ◌||◌}
use mathlib.Core.List.{List, [], ◌∷◌}
use Prim.Native.Nat.{ℕ, zero, suc, ◌+◌, ◌-◌, ◌*◌, ◌^◌, ◌<◌, ◌≤◌}
use native.Mathlib.Omega.{arith}
use lib.Dec.{eqb, ltb}
use borrow.Author.Tests.{ltb-true, ltb-false}
use lib.ListN.{length, get_or, take, drop, length-append, length-drop, get_or-eq_default}
use Rattle.octets.specs.Plain.Runs.{part}
use Rattle.octets.proofs.ChoiceLaws.{by_pick}
use Rattle.octets.proofs.LiesLaws.{lies_inside}
use Rattle.parse_tree.specs.Plain.Tree.{Text, Leaf, Around, Over, Sym, Syms, ambiguous, bare, quoted, regex, nonterminal, lookahead, lookbehind, error, repeat, choose, name, macro, group, leaf, around, over, nil, cons}
use Rattle.parse_tree.specs.Plain.Texts.{has, number}
use Rattle.parse_tree.specs.Plain.Display.{escaped, shown_leaf, shown_before, shown_behind, opening, separator, closing, shown, shown_all, shown_more, print}
use Rattle.parse_tree.specs.Working.Nodes.{node_bytes, size_of}
use Rattle.parse_tree.specs.Working.Encode.{sym_bytes, syms_bytes}
use Rattle.parse_tree.specs.Working.Within.{LeafWithin, AroundWithin, OverWithin, SymWithin, SymsWithin}
use Rattle.parse_tree.proofs.TextLaws.{text_number}
use Rattle.laws.specs.Flat.{sym_node, children}
use Rattle.laws.proofs.Flat.{sym_bytes_lem, node_size}
use Rattle.texts.specs.declared.Map.{Map}
use Rattle.texts.specs.Table.{texts}
use Rattle.texts.specs.Texts.{holder, place_at, marked_text}
use Rattle.texts.specs.Atoms.{atom_text, atom_end}
use Rattle.texts.specs.Fields.{mark_at}
use Rattle.texts.proofs.TextCode.{length_texts, texts-at}
use Rattle.display.specs.Standing.{SymStands}

-- ---- texts are parts of slices
take_short : (n : ℕ) (xs : List ℕ) → length (take n xs) ≤ length xs
take_short zero xs = omega arith
take_short (suc n) [] = omega arith
take_short (suc n) (x ∷ xs) = omega (arith, take_short n xs)

part-short : (a e : ℕ) (xs : List ℕ) → length (part a e xs) ≤ length xs
unfolding part
part-short a e xs = omega (arith, take_short (e - a) (drop a xs), length-drop a xs)

module _ (s w : List ℕ) (bs : length s < 2 ^ 64) (bw : length w < 2 ^ 64) where
  marked_short : (x : ℕ) → length (marked_text s w x) < 2 ^ 64
  unfolding marked_text atom_text holder
  marked_short x =
      let h : length (holder s w x) < 2 ^ 64 = by_pick (λ (r : List ℕ). length r < 2 ^ 64) (ltb x (4 * length s)) (λ _. bs) (λ _. bw) in
      omega (arith, h, part-short (place_at s x + 3) (atom_end (holder s w x) (place_at s x)) (holder s w x))

  text_short : (m : Map) (k : ℕ) → length (get_or (texts s w m) k []) < 2 ^ 64
  unfolding texts
  text_short m k = go (ltb k m.count) refl
    where
      go : (b : Bool) → ltb k m.count ≡ b → length (get_or (texts s w m) k []) < 2 ^ 64
      go true e = let z = texts-at s w m.base m.count k (ltb-true k m.count e) in rw z (marked_short (mark_at w m.base k))
      go false e =
          let j = ltb-false k m.count e in
          let z : get_or (texts s w m) k [] ≡ [] = get_or-eq_default (texts s w m) [] {n = k} (omega (arith, length_texts s w m.base m.count)) in
          rw z (omega arith)

  used_short : (m : Map) (x : Text) → has x (texts s w m) ≡ true → length x < 2 ^ 64
  used_short m x h = let z = text_number (texts s w m) x h in rw z at (text_short m (number (texts s w m) x))

escaped-short : (t r : Text) → length (escaped t r) ≤ 2 * length t + length r
unfolding escaped
escaped-short [] r = omega arith
escaped-short (b ∷ bs) r = go (eqb b 34 || eqb b 92) (escaped-short bs r)
  where
    go : (c : Bool) → length (escaped bs r) ≤ 2 * length bs + length r → length (cond {A = Text} c (92 ∷ b ∷ escaped bs r) (b ∷ escaped bs r)) ≤ 2 * length (b ∷ bs) + length r
    go true h = omega (arith, h)
    go false h = omega (arith, h)

-- ---- ts are texts that are shorter than 2^64 bytes
module _ (four : Bool) (wd : ℕ) (ts : List Text) (short : (x : Text) → has x ts ≡ true → length x < 2 ^ 64) where
  leaf_short : (l : Leaf) (r : Text) → LeafWithin four wd ts l → length (shown_leaf l r) + 2 ≤ length r + 2 ^ 64 * 9
  unfolding shown_leaf
  leaf_short (ambiguous x) r h = omega (arith, length-append x r, short x h.0)
  leaf_short (bare x) r h = omega (arith, length-append x r, short x h.0)
  leaf_short (quoted x) r h = omega (arith, escaped-short x (34 ∷ r), short x h.0)
  leaf_short (regex x) r h = omega (arith, escaped-short x (34 ∷ 35 ∷ r), short x h.0)
  leaf_short (nonterminal x) r h = omega (arith, length-append x r, short x h.0)
  leaf_short lookahead r h = omega arith
  leaf_short lookbehind r h = omega arith
  leaf_short error r h = omega arith

  around_short : (a : Around) (r : Text) → AroundWithin four wd ts a → length (shown_before a r) ≤ length r + 2 ^ 64 + 5
  unfolding shown_before
  around_short (repeat o) r h = omega arith
  around_short choose r h = omega arith
  around_short (name true x) r h = omega (arith, length-append x (58 ∷ r), short x h.0)
  around_short (name false x) r h = omega (arith, length-append x (58 ∷ r), short x h.0)

  behind_short : (a : Around) (r : Text) → length (shown_behind a r) ≤ length r + 1
  unfolding shown_behind
  behind_short (repeat o) r = omega arith
  behind_short choose r = omega arith
  behind_short (name m x) r = omega arith

  opening-short : (o : Over) (n : ℕ) (r : Text) → OverWithin four wd ts o n → length (opening o r) ≤ length r + 2 ^ 64 + 1
  unfolding opening
  opening-short (macro x) n r h = omega (arith, length-append x (60 ∷ r), short x h.0.0)
  opening-short group n r h = omega arith

  separator-short : (o : Over) → length (separator o) ≤ 2
  separator-short (macro x) = omega arith
  separator-short group = omega arith

  -- the bytes of a symbol: nine and those of what stands inside
  nine : (x : Sym) → 9 + length (syms_bytes wd ts (children x)) ≤ length (sym_bytes wd ts x)
  unfolding size_of
  nine x = let z = sym_bytes_lem wd ts x in rw z (omega (arith, length-append (node_bytes wd (sym_node ts x)) (syms_bytes wd ts (children x)), node_size wd ts x))

  one : (x : Sym) → length (syms_bytes wd ts (cons x nil)) ≡ length (sym_bytes wd ts x)
  unfolding syms_bytes
  one x = omega (arith, length-append (sym_bytes wd ts x) [])

  more : (x : Sym) (xs : Syms) → length (syms_bytes wd ts (cons x xs)) ≡ length (sym_bytes wd ts x) + length (syms_bytes wd ts xs)
  unfolding syms_bytes
  more x xs = length-append (sym_bytes wd ts x) (syms_bytes wd ts xs)

  mutual
    unfolding shown shown_all shown_more children

    shown_short : (x : Sym) (left : ℕ) (r : Text) → SymWithin four wd ts x left → length (shown x r) + 2 ≤ length r + 2 ^ 64 * length (sym_bytes wd ts x)
    shown_short (leaf s l) zero r h = absurd h
    shown_short (leaf s l) (suc left) r h = omega (arith, leaf_short l r h.1, nine (leaf s l))
    shown_short (around s a x) zero r h = absurd h
    shown_short (around s a x) (suc left) r h =
        omega (arith, around_short a (shown x (shown_behind a r)) h.1, shown_short x left (shown_behind a r) h.2, behind_short a r, nine (around s a x), one x)
    shown_short (over s o xs) zero r h = absurd h
    shown_short (over s o xs) (suc left) r h =
        omega (arith, opening-short o _ (shown_all xs (separator o) (closing o ∷ r)) h.1, all_short xs left (separator o) (closing o ∷ r) (separator-short o) h.2, nine (over s o xs))

    all_short : (xs : Syms) (left : ℕ) (sep r : Text) → length sep ≤ 2 → SymsWithin four wd ts xs left → length (shown_all xs sep r) ≤ length r + 2 ^ 64 * length (syms_bytes wd ts xs)
    all_short nil left sep r k h = omega arith
    all_short (cons x xs) left sep r k h = omega (arith, shown_short x left (shown_more xs sep r) h.0, more_short xs left sep r k h.1, more x xs)

    more_short : (xs : Syms) (left : ℕ) (sep r : Text) → length sep ≤ 2 → SymsWithin four wd ts xs left → length (shown_more xs sep r) ≤ length r + 2 ^ 64 * length (syms_bytes wd ts xs)
    more_short nil left sep r k h = omega arith
    more_short (cons x xs) left sep r k h =
        omega (arith, length-append sep (shown x (shown_more xs sep r)), shown_short x left (shown_more xs sep r) h.0, more_short xs left sep r k h.1, more x xs)

-- theorem: a printed form has less than 2^64 bytes for each byte of work
pub print-short : (s w : List ℕ) (m : Map) (wd : ℕ) (four : Bool) (left at e : ℕ) (x : Sym) → length s < 2 ^ 64 → length w < 2 ^ 64 → SymStands s w m wd four left at e x → length (print x) < 2 ^ 64 * length w
unfolding print
print-short s w m wd four left at e x bs bw h =
    let ts = texts s w m in
    let a = shown_short four wd (texts s w m) (used_short s w bs bw m) x left [] h.within in
    let n = nine four wd (texts s w m) (used_short s w bs bw m) x in
    let b = lies_inside w at e (sym_bytes wd (texts s w m) x) (omega (arith, n)) h.lies in
    let c = h.lies.end in
    omega (arith, a, b, c)
