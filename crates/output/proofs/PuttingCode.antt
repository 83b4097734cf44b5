-- Texts of a table put to an output, one behind the other: put_text, put_texts. Assumes nothing.
use mathlib.Core.Path.{◌≡◌, refl, sym, ap, subst, ◌∙◌}
use mathlib.Core.List.{List, [], ◌∷◌, ◌++◌}
use Prim.Native.Nat.{ℕ, suc, ◌+◌, ◌≤◌, ◌<◌}
use native.Mathlib.Omega.{arith}
use borrow.Author.Rules.{rules}
use lib.ListN.{length, drop, length-append, drop_of_length-le}
use lib.Seq.{drop-cons}
use mir.Syntax.{w16}
use mir.Val.{Fits}
use Rattle.octets.specs.Plain.Numbers.{le}
use Rattle.octets.specs.Working.Stores.{store}
use Rattle.octets.proofs.StoreLaws.{store-none, store-append, length_store}
use Rattle.parse_tree.specs.Plain.Tree.{Text}
use Rattle.parse_tree.specs.Plain.WriteTape.{bytes_of_each}
use Rattle.parse_tree.specs.Working.Nodes.{node_bytes}
use Rattle.parse_tree.specs.Working.Encode.{atom_bytes}
use Rattle.parse_tree.specs.Working.Within.{Each}
use Rattle.parse_tree.proofs.ReadBack.{atom_size}
use Rattle.texts.specs.declared.Map.{Map}
use Rattle.texts.specs.Table.{texts}
use Rattle.texts.proofs.TextCode.{length_texts}
use Rattle.levels.specs.Fresh.{PutsNames}
use Rattle.output.specs.Working.Putting.{numbered_text, TextsFit}

-- ---- put_text: a byte, the length and the text, each behind the one before
module _ (t u : Text) (e : t ≡ u) where
  pub put_cast : length u < 65536 → Fits w16 (length t)
  put_cast h = record { fits = omega (arith, ap length e) }

  pub put_room : (o : List ℕ) (to : ℕ) → to + 3 + length u ≤ length o → to + 3 + length t ≤ length o
  put_room o to h = omega (arith, ap length e)

  -- the place behind is a premise, since `search` does not find t from a sum
  pub put_text_done : (o r : List ℕ) (to q : ℕ) → r ≡ store o to ((1 ∷ le 2 (length t)) ++ t) → q ≡ to + 3 + length t → PutsNames o to (atom_bytes 2 u) q r
  unfolding atom_bytes node_bytes
  put_text_done o r to q g p = record { bytes = g ∙ ap (λ (x : Text). store o to (atom_bytes 2 x)) e; after = omega (arith, p, ap length e, atom_size 2 u) }

pub ruleset text_putting = (rules, put_cast, put_room, put_text_done)

-- ---- the texts from the k-th on: that one, and those behind it
module _ (s w : List ℕ) (m : Map) (k : ℕ) where
  rest_cons : k < m.count → drop k (texts s w m) ≡ numbered_text s w m k ∷ drop (k + 1) (texts s w m)
  unfolding texts
  rest_cons h =
      let z : suc k ≡ k + 1 = omega arith in
      drop-cons (texts s w m) k [] (omega (arith, length_texts s w m.base m.count)) ∙ ap (λ (i : ℕ). numbered_text s w m k ∷ drop i (texts s w m)) z

  rest_bytes : k < m.count
      → bytes_of_each (atom_bytes 2) (drop k (texts s w m)) ≡ atom_bytes 2 (numbered_text s w m k) ++ bytes_of_each (atom_bytes 2) (drop (k + 1) (texts s w m))
  unfolding bytes_of_each
  rest_bytes h = ap (bytes_of_each (atom_bytes 2)) (rest_cons h)

  rest_size : k < m.count
      → length (bytes_of_each (atom_bytes 2) (drop k (texts s w m))) ≡ 3 + length (numbered_text s w m k) + length (bytes_of_each (atom_bytes 2) (drop (k + 1) (texts s w m)))
  rest_size h =
      ap length (rest_bytes h) ∙ length-append (atom_bytes 2 (numbered_text s w m k)) (bytes_of_each (atom_bytes 2) (drop (k + 1) (texts s w m)))
      ∙ ap (λ (i : ℕ). i + length (bytes_of_each (atom_bytes 2) (drop (k + 1) (texts s w m)))) (atom_size 2 (numbered_text s w m k))

  rest_short : k < m.count → Each (λ (t : Text). length t < 65536) (drop k (texts s w m))
      → (length (numbered_text s w m k) < 65536) × Each (λ (t : Text). length t < 65536) (drop (k + 1) (texts s w m))
  rest_short h x = subst (λ (ts : List Text). Each (λ (t : Text). length t < 65536) ts) (rest_cons h) x

  rest_none : m.count ≤ k → bytes_of_each (atom_bytes 2) (drop k (texts s w m)) ≡ []
  unfolding texts bytes_of_each
  rest_none h = ap (bytes_of_each (atom_bytes 2)) (drop_of_length-le (texts s w m) {i = k} (omega (arith, length_texts s w m.base m.count)))

-- ---- put_texts: o' with those from k on put from q on is o with all from n on put from `to` on
pub record TextsPut (s w : List ℕ) (m : Map) (n to : ℕ) (o o' : List ℕ) (k q : ℕ) : Type 0 where
  pub left : TextsFit s w m k (length o') q
  pub same : length o' ≡ length o
  pub bytes : store o' q (bytes_of_each (atom_bytes 2) (drop k (texts s w m))) ≡ store o to (bytes_of_each (atom_bytes 2) (drop n (texts s w m)))
  pub place : q + length (bytes_of_each (atom_bytes 2) (drop k (texts s w m))) ≡ to + length (bytes_of_each (atom_bytes 2) (drop n (texts s w m)))

pub texts-start : (s w : List ℕ) (m : Map) (n to : ℕ) (o : List ℕ) → TextsFit s w m n (length o) to → TextsPut s w m n to o o n to
texts-start s w m n to o h = record { left = h; same = refl; bytes = refl; place = refl }

module _ (s w : List ℕ) (m : Map) (n to : ℕ) (o o' : List ℕ) (k q : ℕ) (c : TextsPut s w m n to o o' k q) where
  module _ (h : k < m.count) where
    pub texts-short : length (numbered_text s w m k) < 65536
    texts-short = (rest_short s w m k h c.left.short).0

    pub texts-room : q + 3 + length (numbered_text s w m k) ≤ length o'
    texts-room = omega (arith, c.left.fits, rest_size s w m k h)

    pub texts-next : (r : List ℕ) (p : ℕ) → PutsNames o' q (atom_bytes 2 (numbered_text s w m k)) p r → TextsPut s w m n to o r (k + 1) p
    texts-next r p u =
        let a = atom_bytes 2 (numbered_text s w m k) in
        let b = bytes_of_each (atom_bytes 2) (drop (k + 1) (texts s w m)) in
        let l : length r ≡ length o' = ap length u.bytes ∙ length_store o' q a in
        let e : p + length b ≡ q + length (bytes_of_each (atom_bytes 2) (drop k (texts s w m))) = omega (arith, u.after, rest_size s w m k h, atom_size 2 (numbered_text s w m k)) in
        record {
          left = record { table = c.left.table; upto = omega arith; short = (rest_short s w m k h c.left.short).1; fits = omega (arith, c.left.fits, l, e) };
          same = l ∙ c.same;
          bytes = ap (λ (i : List ℕ). store i p b) u.bytes ∙ store-append o' q p a b u.after ∙ ap (store o' q) (sym (rest_bytes s w m k h)) ∙ c.bytes;
          place = e ∙ c.place;
        }

  pub texts-done : m.count ≤ k → PutsNames o to (bytes_of_each (atom_bytes 2) (drop n (texts s w m))) q o'
  texts-done h =
      let z = rest_none s w m k h in
      record {
        bytes = sym (store-none o' q) ∙ ap (store o' q) (sym z) ∙ c.bytes;
        after = omega (arith, c.place, ap length z);
      }

pub ruleset texts_putting = (rules, texts-start, texts-short, texts-room, texts-next, texts-done)
