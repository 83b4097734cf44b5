-- Items that stand in work one behind another, each at its listed place; and what the first bytes of a command with a name, and of an item, say. Assumes nothing.
use mathlib.Core.Path.{◌≡◌, refl, sym, ap, ◌∙◌}
use mathlib.Core.Bool.{Bool, true, false}
use mathlib.Core.List.{List, [], ◌∷◌, ◌++◌, append_assoc, append-nil}
use Prim.Native.Nat.{ℕ, ◌+◌, ◌-◌, ◌*◌, ◌^◌, ◌<◌, ◌≤◌}
use native.Mathlib.Omega.{arith}
use borrow.Author.Tests.{lt-leb, le-leb, le-ltb, leb-false}
use lib.Dec.{leb, ltb}
use lib.ListN.{length, take, get_or, length-append}
use lib.Seq.{take-append_seam}
use Rattle.octets.specs.Working.Choice.{pick}
use Rattle.octets.specs.Plain.Numbers.{le_at, le}
use Rattle.octets.specs.Plain.Runs.{Lies}
use Rattle.octets.proofs.NumbersLaws.{length-le}
use Rattle.octets.proofs.LiesLaws.{lies_split, lies_first, lies_to, lies_append, le_read}
use Rattle.parse_tree.specs.Plain.Tree.{Text, Item, Nonterminal, Source, item, terminal}
use Rattle.parse_tree.specs.Plain.Texts.{number}
use Rattle.parse_tree.specs.Plain.WriteTape.{bytes_of_each, bit}
use Rattle.parse_tree.specs.Working.Nodes.{span_bytes, span_in, node_bytes}
use Rattle.parse_tree.specs.Working.Encode.{item_bytes, nonterminal_node, argument_bytes, alternative_bytes, source_code}
use Rattle.parse_tree.specs.Working.Within.{SpanWithin, NonterminalWithin}
use Rattle.parse_tree.specs.declared.syntax.Span.{Span}
use Rattle.parse_tree.proofs.FieldLaws.{le-read_then, span_read}
use Rattle.parse_tree.proofs.ReadingLaws.{bytes_more}
use Rattle.texts.proofs.TableStays.{le_at-agree}
use Rattle.resolve.specs.declared.Grammar.{Grammar}
use Rattle.resolve.specs.Items.{item_place, item_place_in, Row}
use Rattle.resolve.proofs.CellsLaws.{lies_agree}

-- ---- a command with a span and a name
pub record Named (w : List ℕ) (wd at c : ℕ) (sp : Span) (k : ℕ) (ys : List ℕ) (e : ℕ) : Type 0 where
  pub code : get_or w at 0 ≡ c
  pub span : span_in w (at + 1) ≡ sp
  pub name : le_at wd w (at + 9) ≡ k
  pub rest : Lies w (at + 9 + wd) ys e

pub named : (w : List ℕ) (wd at c : ℕ) (sp : Span) (k : ℕ) (ys : List ℕ) (e : ℕ) → SpanWithin sp → k < 256 ^ wd → Lies w at (c ∷ (span_bytes sp ++ (le wd k ++ ys))) e → Named w wd at c sp k ys e
named w wd at c sp k ys e f g l =
    let a = lies_first w at c (span_bytes sp ++ (le wd k ++ ys)) e l in
    let b = span_read w e (at + 1) (at + 9) (omega arith) f a.2 in
    let d = le-read_then w e (at + 9) (at + 9 + wd) wd refl g b.1 in
    record { code = a.1; span = b.0; name = d.0; rest = d.1 }

-- the same with nothing behind it
pub named-last : (w : List ℕ) (wd at c : ℕ) (sp : Span) (k e : ℕ) → SpanWithin sp → k < 256 ^ wd → Lies w at (c ∷ (span_bytes sp ++ le wd k)) e → Named w wd at c sp k [] e
named-last w wd at c sp k e f g l = named w wd at c sp k [] e f g (rw (append-nil (le wd k)) l)

-- ---- items at their places
module _ (t : Grammar) (ts : List Text) where
  abbrev pub bytes_of : Item → List ℕ
  bytes_of x = item_bytes t.width.bytes ts x

  pub row_place : (w : List ℕ) (i p : ℕ) (xs : List Item) → Row t ts w i p xs → item_place_in t w i ≡ p
  row_place w i p [] h = h.0
  row_place w i p (x ∷ xs) h = h.0

  pub row_below : (w : List ℕ) (i p : ℕ) (xs : List Item) → Row t ts w i p xs → p ≤ t.end
  row_below w i p [] h = omega (arith, h.1)
  row_below w i p (x ∷ xs) h = let z = row_below w (i + 1) (p + length (bytes_of x)) xs h.2 in omega arith

  -- ---- where the places are listed
  place_last : (w : List ℕ) (i : ℕ) → t.count ≤ i → item_place_in t w i ≡ t.end
  unfolding item_place pick
  place_last w i h = rw (le-leb t.count i h) refl

  place_listed : (w : List ℕ) (i v : ℕ) → i < t.count → le_at 8 w (t.list + 8 * i) ≡ v → t.at + v ≤ t.end → item_place_in t w i ≡ t.at + v
  unfolding item_place pick
  place_listed w i v h e l = rw (lt-leb t.count i h, e, le-ltb (t.end - t.at) v (omega arith)) refl

  module _ (w : List ℕ) (is : List Item) (many : t.count ≡ length is)
      (places : (i : ℕ) → i < t.count → le_at 8 w (t.list + 8 * i) ≡ length (bytes_of_each (item_bytes t.width.bytes ts) (take i is))) where
    abbrev size : List Item → ℕ
    size xs = length (bytes_of_each (item_bytes t.width.bytes ts) xs)

    rows : (front rest : List Item) → is ≡ front ++ rest → (p : ℕ) → p ≡ t.at + size front → Lies w p (bytes_of_each (item_bytes t.width.bytes ts) rest) t.end → Row t ts w (length front) p rest
    unfolding bytes_of_each
    rows front [] e p z l =
        let n : List Item = [] in
        let q : t.end ≡ p = l.end ∙ (omega arith) in
        (place_last w (length front) (omega (arith, many, ap length e, length-append front n)) ∙ q, sym q)
    rows front (x ∷ rest) e p z l =
        let s = lies_split w p t.end (bytes_of x) (bytes_of_each (item_bytes t.width.bytes ts) rest) l in
        let b : length front < t.count = omega (arith, many, ap length e, length-append front (x ∷ rest)) in
        let v : le_at 8 w (t.list + 8 * length front) ≡ size front = places (length front) b ∙ ap size (ap (take (length front)) e ∙ take-append_seam front (x ∷ rest)) in
        let n = bytes_more (item_bytes t.width.bytes ts) front x in
        let q : length (front ++ (x ∷ [])) ≡ length front + 1 = omega (arith, length-append front (x ∷ [])) in
        let o : p + length (bytes_of x) ≡ t.at + size (front ++ (x ∷ [])) = omega (arith, ap length n, length-append (bytes_of_each (item_bytes t.width.bytes ts) front) (bytes_of x)) in (
          place_listed w (length front) (size front) b v (omega (arith, s.1.end, z)) ∙ sym z,
          s.0,
          rw (← q) (rows (front ++ (x ∷ [])) rest (e ∙ sym (append_assoc front (x ∷ []) rest)) (p + length (bytes_of x)) o s.1),
        )

    pub row_start : Lies w t.at (bytes_of_each (item_bytes t.width.bytes ts) is) t.end → Row t ts w 0 t.at is
    unfolding bytes_of_each
    row_start l = rows [] is refl t.at (omega arith) l

  -- ---- where the bytes from p on and the list are as they were
  module _ (w w' : List ℕ) (long : length w' ≡ length w) (inside : t.end ≤ length w) (list : (i : ℕ) → t.list ≤ i → i < t.list + 8 * t.count → get_or w' i 0 ≡ get_or w i 0) where
    pub place_same : (i : ℕ) → item_place_in t w' i ≡ item_place_in t w i
    unfolding item_place pick
    place_same i = go (leb t.count i) refl
      where
        go : (b : Bool) → leb t.count i ≡ b
            → pick b t.end (pick (ltb (t.end - t.at) (le_at 8 w' (t.list + 8 * i))) t.end (t.at + le_at 8 w' (t.list + 8 * i)))
            ≡ pick b t.end (pick (ltb (t.end - t.at) (le_at 8 w (t.list + 8 * i))) t.end (t.at + le_at 8 w (t.list + 8 * i)))
        go true e = refl
        go false e =
            let h = leb-false t.count i e in
            ap (λ (v : ℕ). pick (ltb (t.end - t.at) v) t.end (t.at + v)) (le_at-agree 8 w w' (t.list + 8 * i) (λ j k l. list j (omega arith) (omega arith)))

    pub row_same : (i p : ℕ) (xs : List Item) → ((j : ℕ) → p ≤ j → j < t.end → get_or w' j 0 ≡ get_or w j 0) → Row t ts w i p xs → Row t ts w' i p xs
    row_same i p [] f h = (place_same i ∙ h.0, h.1)
    row_same i p (x ∷ xs) f h =
        let e = p + length (bytes_of x) in
        let b = row_below w (i + 1) e xs h.2 in
        (place_same i ∙ h.0, lies_agree w w' p e (bytes_of x) long (omega arith) (λ j k l. f j k (omega arith)) h.1, row_same (i + 1) e xs (λ j k l. f j (omega arith) l) h.2)

-- ---- the head of an item
pub record Headed (w : List ℕ) (wd : ℕ) (ts : List Text) (at : ℕ) (d : Nonterminal) (e : ℕ) : Type 0 where
  pub code : get_or w at 0 ≡ 16
  pub span : span_in w (at + 1) ≡ d.span
  pub name : le_at wd w (at + 9) ≡ number ts d.name
  pub args : get_or w (at + 10 + wd) 0 ≡ length d.args
  pub many : le_at 2 w (at + 11 + wd) ≡ length d.alternatives
  pub front : Lies w at (node_bytes wd (nonterminal_node ts d) ++ bytes_of_each (argument_bytes wd ts) d.args) (at + 13 + wd + length (bytes_of_each (argument_bytes wd ts) d.args))
  pub arguments : Lies w (at + 13 + wd) (bytes_of_each (argument_bytes wd ts) d.args) (at + 13 + wd + length (bytes_of_each (argument_bytes wd ts) d.args))
  pub alternatives : Lies w (at + 13 + wd + length (bytes_of_each (argument_bytes wd ts) d.args)) (bytes_of_each (alternative_bytes wd ts) d.alternatives) e

module _ (four : Bool) (w : List ℕ) (wd : ℕ) (ts : List Text) where
  pub headed : (at : ℕ) (d : Nonterminal) (e : ℕ) → NonterminalWithin four wd ts d → Lies w at (item_bytes wd ts (item d)) e → Headed w wd ts at d e
  unfolding item_bytes node_bytes nonterminal_node
  headed at d e h l =
      let ps = bytes_of_each (argument_bytes wd ts) d.args in
      let bs = bytes_of_each (alternative_bytes wd ts) d.alternatives in
      let fs : ℕ = bit d.inline + (bit d.public + bit d.public) in
      let ys : List ℕ = fs ∷ length d.args ∷ le 2 (length d.alternatives) in
      let n : List ℕ = 16 ∷ (span_bytes d.span ++ (le wd (number ts d.name) ++ (fs ∷ length d.args ∷ le 2 (length d.alternatives)))) in
      let s = lies_split w at e n (ps ++ bs) l in
      let a = named w wd at 16 d.span (number ts d.name) ys (at + length n) h.span h.name.1 s.0 in
      let b = lies_first w (at + 9 + wd) fs (length d.args ∷ le 2 (length d.alternatives)) (at + length n) a.rest in
      let c = lies_first w (at + 9 + wd + 1) (length d.args) (le 2 (length d.alternatives)) (at + length n) b.2 in
      let x : at + 9 + wd + 1 ≡ at + 10 + wd = omega arith in
      let z : at + 9 + wd + 1 + 1 ≡ at + 11 + wd = omega arith in
      let y : at + length n ≡ at + 13 + wd = omega (arith, c.2.end, length-le 2 (length d.alternatives)) in
      let m = lies_split w (at + length n) e ps bs s.1 in
      let q : at + length n + length ps ≡ at + 13 + wd + length ps = omega arith in
      record {
        code = a.code;
        span = a.span;
        name = a.name;
        args = ap (λ (i : ℕ). get_or w i 0) (sym x) ∙ c.1;
        many = ap (le_at 2 w) (sym z) ∙ le_read 2 w (at + 9 + wd + 1 + 1) (length d.alternatives) (at + length n) h.fewer c.2;
        front = lies_append s.0 (lies_to q m.0);
        arguments = rw (← y) m.0;
        alternatives = rw (← y) m.1;
      }

  -- of a terminal
  pub terminal_headed : (at : ℕ) (sp : Span) (o : Source) (x : Text) (e : ℕ) → SpanWithin sp → number ts x < 256 ^ wd → Lies w at (item_bytes wd ts (terminal sp o x)) e
      → Named w wd at (source_code o) sp (number ts x) [] e
  unfolding item_bytes node_bytes
  terminal_headed at sp o x e f g l = named-last w wd at (source_code o) sp (number ts x) e f g l
