-- Items written one behind another: nothing, two runs joined, and where the cursor then is. Assumes nothing.
use mathlib.Core.Path.{◌≡◌, refl, sym, ap, ◌∙◌}
use mathlib.Core.Logic.{◌⊎◌, inl, inr}
use mathlib.Core.List.{List, [], ◌∷◌, ◌++◌}
use Prim.Native.Nat.{ℕ, ◌+◌, ◌*◌, ◌≤◌, ◌<◌}
use native.Mathlib.Omega.{arith}
use lib.ListN.{length, length-append, get_or}
use Rattle.octets.specs.Plain.Runs.{Lies}
use Rattle.octets.proofs.LiesLaws.{lies_none, lies_append, lies_to, lies_inside}
use Rattle.parse_tree.specs.Plain.Tree.{Text, Item}
use Rattle.parse_tree.specs.Plain.Texts.{with_new}
use Rattle.parse_tree.specs.Plain.References.{texts_of_each, item_texts}
use Rattle.parse_tree.specs.Plain.WriteTape.{bytes_of_each}
use Rattle.parse_tree.specs.Working.Encode.{item_bytes}
use Rattle.texts.specs.declared.Map.{Map}
use Rattle.texts.specs.Fields.{mark_at}
use Rattle.texts.specs.Table.{Agree}
use Rattle.texts.proofs.TableStays.{le_at-agree}
use Rattle.grades.specs.declared.Ids.{Ids}
use Rattle.precedence.proofs.WriteLaws.{fits_or_not}
use Rattle.resolve.proofs.CellsLaws.{lies_agree}
use Rattle.replacing.proofs.Growing.{Extends, new_append, new_extends}
use Rattle.parse_tree.proofs.NothingNew.{There}
use Rattle.precedence.specs.Names.{named_texts}
use Rattle.levels.specs.declared.Room.{Room}
use Rattle.levels.specs.declared.Written.{Written}
use Rattle.levels.specs.Expand.{NamesAt, Kept, Wrote}
use Rattle.levels.proofs.There.{texts-append}
use Rattle.replacing.proofs.ThereBytes.{bytes_both, new_all, there_bytes_each}

-- theorem: a run stays where its bytes do; an empty one lies anywhere
pub lies_stay : (w w' : List ℕ) (a e : ℕ) (xs : List ℕ) → length w' ≡ length w → ((i : ℕ) → a ≤ i → i < e → get_or w' i 0 ≡ get_or w i 0) → Lies w a xs e → Lies w' a xs e
lies_stay w w' a e [] n f l = lies_to (omega (arith, l.end)) (lies_none w' a)
lies_stay w w' a e (x ∷ xs) n f l = lies_agree w w' a e (x ∷ xs) n (lies_inside w a e (x ∷ xs) (omega arith) l) f l

-- theorem: marks stay where the bytes of the records do
pub marks_stay : (w w1 : List ℕ) (m : Map) → Agree w w1 m.base (m.base + 24 * m.count) → (i : ℕ) → i < m.count → mark_at w1 m.base i ≡ mark_at w m.base i
unfolding mark_at
marks_stay w w1 m f i h = le_at-agree 8 w w1 (m.base + 24 * i) (λ j a b. f.agree j (omega arith) (omega arith))

module _ (s : List ℕ) (m : Map) (room : Room) (wd : ℕ) (ids : Ids) where
  -- theorem: nothing is written
  pub wrote_none : (w : List ℕ) (v : Written) → NamesAt s w m room ids v.count → v.to ≤ room.lim + 1 → Wrote s m room wd ids w v 0 [] v w
  unfolding with_new texts_of_each bytes_of_each
  wrote_none w v g u = record {
    long = refl;
    named = refl;
    least = omega arith;
    most = omega arith;
    names = g;
    same = refl;
    marks = λ i h. refl;
    whole = λ h. lies_none w v.to;
    over = λ h. omega arith;
    kept = λ i h. refl;
  }

  -- theorem: the bound of new texts may be higher
  pub wrote_more : (w : List ℕ) (v : Written) (k : ℕ) (is : List Item) (v1 : Written) (w1 : List ℕ) (k2 : ℕ) → k ≤ k2 → Wrote s m room wd ids w v k is v1 w1 → Wrote s m room wd ids w v k2 is v1 w1
  wrote_more w v k is v1 w1 k2 h x = record {
    long = x.long;
    named = x.named;
    least = x.least;
    most = omega (arith, x.most);
    names = x.names;
    same = x.same;
    marks = x.marks;
    whole = x.whole;
    over = x.over;
    kept = x.kept;
  }

  module _ (w : List ℕ) (v : Written) (k : ℕ) (is : List Item) (v1 : Written) (w1 : List ℕ) (x : Wrote s m room wd ids w v k is v1 w1) where
    abbrev U1 : List Text
    U1 = named_texts s w1 m v1.count

    abbrev B1 : List ℕ
    B1 = bytes_of_each (item_bytes wd U1) is

    -- the cursor is behind the bytes, or says that they don't fit
    cursor : ((v.to + length B1 ≤ room.lim) × (v1.to ≡ v.to + length B1)) ⊎ ((room.lim < v.to + length B1) × (v1.to ≡ room.lim + 1))
    cursor = go (fits_or_not (v.to + length B1) room.lim)
      where
        go : (v.to + length B1 ≤ room.lim) ⊎ (room.lim < v.to + length B1)
            → ((v.to + length B1 ≤ room.lim) × (v1.to ≡ v.to + length B1)) ⊎ ((room.lim < v.to + length B1) × (v1.to ≡ room.lim + 1))
        go (inl h) = inl (h, (x.whole h).end)
        go (inr h) = inr (h, x.over h)

    -- theorem: the cursor doesn't go back
    pub wrote_on : v.to ≤ room.lim + 1 → v.to ≤ v1.to
    wrote_on u = go cursor
      where
        go : ((v.to + length B1 ≤ room.lim) × (v1.to ≡ v.to + length B1)) ⊎ ((room.lim < v.to + length B1) × (v1.to ≡ room.lim + 1)) → v.to ≤ v1.to
        go (inl h) = omega (arith, h.1)
        go (inr h) = omega (arith, h.1)

    -- theorem: nor beyond the place behind the room
    pub wrote_upto : v1.to ≤ room.lim + 1
    wrote_upto = go cursor
      where
        go : ((v.to + length B1 ≤ room.lim) × (v1.to ≡ v.to + length B1)) ⊎ ((room.lim < v.to + length B1) × (v1.to ≡ room.lim + 1)) → v1.to ≤ room.lim + 1
        go (inl h) = omega (arith, h.0, h.1)
        go (inr h) = omega (arith, h.1)

    module _ (from : room.at ≤ v.to) (upto : v.to ≤ room.lim + 1) (k2 : ℕ) (is2 : List Item) (v2 : Written) (w2 : List ℕ) (y : Wrote s m room wd ids w1 v1 k2 is2 v2 w2) where
      abbrev U2 : List Text
      U2 = named_texts s w2 m v2.count

      abbrev B2 : List ℕ
      B2 = bytes_of_each (item_bytes wd U2) is2

      later : Extends U1 U2
      later = rw y.named (new_extends U1 (texts_of_each item_texts is2))

      known : There U1 (texts_of_each item_texts is)
      known = rw x.named (new_all (named_texts s w m v.count) (texts_of_each item_texts is))

      -- the bytes of both runs
      both : bytes_of_each (item_bytes wd U2) (is ++ is2) ≡ B1 ++ B2
      both = bytes_both (item_bytes wd U2) is is2 ∙ ap (λ (l : List ℕ). l ++ B2) (there_bytes_each wd U1 U2 later is known)

      both_long : length (bytes_of_each (item_bytes wd U2) (is ++ is2)) ≡ length B1 + length B2
      both_long = ap length both ∙ length-append B1 B2

      kept-later : (i : ℕ) → Kept m room v.to i → Kept m room v1.to i
      kept-later i (inl h) = inl h
      kept-later i (inr (inl h)) = let on = wrote_on upto in inr (inl (h.0, omega (arith, h.1)))
      kept-later i (inr (inr h)) = inr (inr h)

      whole_both : v.to + (length B1 + length B2) ≤ room.lim → Lies w2 v.to (B1 ++ B2) v2.to
      whole_both h =
          let l = x.whole (omega arith) in
          let r = y.whole (omega (arith, l.end)) in
          lies_append (lies_stay w1 w2 v.to v1.to B1 y.long (λ i a b. y.kept i (inr (inl (omega arith, b)))) l) r

      over_both : room.lim < v.to + (length B1 + length B2) → v2.to ≡ room.lim + 1
      over_both h = y.over (go cursor)
        where
          go : ((v.to + length B1 ≤ room.lim) × (v1.to ≡ v.to + length B1)) ⊎ ((room.lim < v.to + length B1) × (v1.to ≡ room.lim + 1)) → room.lim < v1.to + length B2
          go (inl c) = omega (arith, c.1)
          go (inr c) = omega (arith, c.1)

      joined : Wrote s m room wd ids w v (k + k2) (is ++ is2) v2 w2
      joined = record {
        long = y.long ∙ x.long;
        named =
            y.named ∙ ap (λ (l : List Text). with_new l (texts_of_each item_texts is2)) x.named
            ∙ sym (new_append (named_texts s w m v.count) (texts_of_each item_texts is) (texts_of_each item_texts is2))
            ∙ ap (with_new (named_texts s w m v.count)) (sym (texts-append item_texts is is2));
        least = omega (arith, x.least, y.least);
        most = omega (arith, x.most, y.most);
        names = y.names;
        same = y.same ∙ x.same;
        marks = λ i h. y.marks i h ∙ x.marks i h;
        whole = λ h. rw both (whole_both (omega (arith, both_long)));
        over = λ h. over_both (omega (arith, both_long));
        kept = λ i h. y.kept i (kept-later i h) ∙ x.kept i h;
      }

  -- theorem: what is written behind a run, and the run, are written as one
  pub wrote_append : (w : List ℕ) (v : Written) (k : ℕ) (is : List Item) (v1 : Written) (w1 : List ℕ) (k2 : ℕ) (is2 : List Item) (v2 : Written) (w2 : List ℕ) → room.at ≤ v.to → v.to ≤ room.lim + 1
      → Wrote s m room wd ids w v k is v1 w1 → Wrote s m room wd ids w1 v1 k2 is2 v2 w2 → Wrote s m room wd ids w v (k + k2) (is ++ is2) v2 w2
  wrote_append w v k is v1 w1 k2 is2 v2 w2 from upto x y = joined w v k is v1 w1 x from upto k2 is2 v2 w2 y
