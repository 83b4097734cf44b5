-- The first of the items that are left is written, as it stands or level by level, and the others are left then. Assumes nothing.
use mathlib.Core.Path.{◌≡◌, refl, sym, ap, ◌∙◌}
use mathlib.Core.Bool.{Bool, true, false, false≢true}
use mathlib.Core.Logic.{◌⊎◌, inl, inr}
use mathlib.Core.List.{List, [], ◌∷◌, append-nil}
use Prim.Native.Nat.{ℕ, ◌+◌, ◌-◌, ◌*◌, ◌≤◌, ◌<◌}
use native.Mathlib.Omega.{arith}
use borrow.Author.Rules.{rules}
use lib.ListN.{length, get_or}
use Rattle.std.specs.Prelude.{Result, Ok}
use Rattle.octets.specs.Plain.Runs.{Lies, part}
use Rattle.octets.proofs.LiesLaws.{lies_part}
use Rattle.octets.proofs.StoreLaws.{lies_store}
use Rattle.parse_tree.specs.Plain.Tree.{Text, Nonterminal, Item, item}
use Rattle.parse_tree.specs.Plain.Texts.{distinct, with_new}
use Rattle.parse_tree.specs.Plain.References.{texts_of_each, item_texts}
use Rattle.parse_tree.specs.Plain.WriteTape.{bytes_of_each}
use Rattle.parse_tree.specs.Working.Encode.{item_bytes}
use Rattle.parse_tree.specs.declared.refusal.Refusal.{Refusal}
use Rattle.texts.specs.declared.Map.{Map}
use Rattle.texts.specs.Table.{Above, Agree, texts}
use Rattle.passes.specs.Outcome.{Outcome, yes, no, after}
use Rattle.passes.specs.Grades.{annotated, graded}
use Rattle.passes.specs.Levels.{grouped, level_items, levelled, check_attributes, check_lowest, check_levels}
use Rattle.resolve.specs.declared.Grammar.{Grammar}
use Rattle.resolve.specs.Items.{item_place_in, Row}
use Rattle.resolve.proofs.GrammarLaws.{row_place, row_same}
use Rattle.replacing.proofs.Growing.{Extends}
use Rattle.grades.specs.declared.Ids.{Ids}
use Rattle.grades.specs.Ids.{ids_in}
use Rattle.grades.specs.Annotations.{has_prec_attr}
use Rattle.grades.specs.Grading.{Worded}
use Rattle.grades.proofs.WordedLaws.{worded_stays}
use Rattle.precedence.specs.Names.{Naming, described_texts, named_texts}
use Rattle.precedence.specs.Write.{Puts}
use Rattle.precedence.proofs.WriteLaws.{puts_beside}
use Rattle.precedence.proofs.NamesStays.{names_same, naming-stays}
use Rattle.precedence.proofs.NamesMean.{named-split, naming-worded}
use Rattle.levels.specs.declared.Room.{Room}
use Rattle.levels.specs.declared.Written.{Written}
use Rattle.levels.specs.Expand.{LevelsFit, NamesAt, Kept, Wrote, ExpandedBy, ExpandsOne}
use Rattle.levels.specs.Whole.{alternatives_in, ItemsLeft, SteppedBy, ItemSteps}
use Rattle.levels.proofs.Extend.{bytes_extend}
use Rattle.levels.proofs.Texts.{plain-texts}
use Rattle.levels.proofs.WroteLaws.{wrote_on, wrote_upto, wrote_more, marks_stay}
use Rattle.levels.proofs.WholeMean.{has_levels, alternatives_split, laid_fewer, base_before, next_place, first_lies, first_annotated, first_stands, items_head, items_forward, items_behind}

-- ---- bytes put to the room for the items
module _ (s : List ℕ) (m : Map) (room : Room) (wd : ℕ) (ids : Ids) (w : List ℕ) (v : Written) (most n : ℕ) (laid : LevelsFit m room most n (length w)) (many : v.count ≤ most)
    (names : NamesAt s w m room ids v.count) (from : room.at ≤ v.to) (xs : List ℕ) (r : ℕ) (w1 : List ℕ) (p : Puts w room.lim v.to xs r w1) where
  beside : (i : ℕ) → (i < v.to) ⊎ (room.lim ≤ i) → get_or w1 i 0 ≡ get_or w i 0
  beside = puts_beside w w1 room.lim v.to xs r p

  far : Agree w w1 (room.lim + 16) (length w)
  far = record { agree = λ i h k. beside i (inr (omega arith)) }

  records : Agree w w1 m.base (m.base + 24 * v.count)
  records = record { agree = λ i h k. beside i (inl (omega (arith, laid.names, laid.arrays))) }

  heads : Agree w w1 m.base (m.base + 24 * m.buckets)
  heads = record { agree = λ i h k. beside i (inl (omega (arith, laid.heads, laid.arrays))) }

  table : Agree w w1 m.base (m.base + 24 * m.count)
  table = record { agree = λ i h k. records.agree i h (omega (arith, names.naming.upto)) }

  words : Worded s w1 m × (texts s w1 m ≡ texts s w m) × Above s w1 m (room.lim + 16)
  words =
      worded_stays s w w1 m (room.lim + 16) (naming-worded s w m v.count names.naming) names.above p.long far table

  named_put : named_texts s w1 m v.count ≡ named_texts s w m v.count
  named_put = names_same s w w1 m v.count (room.lim + 16) names.naming names.above p.long far records heads

  names_put : NamesAt s w1 m room ids v.count
  names_put = record {
    naming = naming-stays s w w1 m v.count (room.lim + 16) names.naming names.above p.long far records heads;
    above = words.2;
    apart = ap distinct named_put ∙ names.apart;
    ids_are = names.ids_are ∙ ap (λ (ts : List Text). ids_in ts) (sym named_put);
    ids_table = names.ids_table ∙ ap (λ (ts : List Text). ids_in ts) (sym words.1);
  }

  kept_put : m.base ≤ room.at → (i : ℕ) → Kept m room v.to i → get_or w1 i 0 ≡ get_or w i 0
  kept_put b i (inl h) = beside i (inl (omega arith))
  kept_put b i (inr (inl h)) = beside i (inl h.1)
  kept_put b i (inr (inr h)) = beside i (inr (omega arith))

  -- theorem: items that have no new text were written, if their bytes were put
  pub wrote_put : (k : ℕ) (is : List Item) → with_new (named_texts s w m v.count) (texts_of_each item_texts is) ≡ named_texts s w m v.count → bytes_of_each (item_bytes wd (named_texts s w m v.count)) is ≡ xs
      → Wrote s m room wd ids w v k is (record { to = r; count = v.count }) w1
  wrote_put k is old bytes =
      let b : bytes_of_each (item_bytes wd (named_texts s w1 m v.count)) is ≡ xs = ap (λ (us : List Text). bytes_of_each (item_bytes wd us) is) named_put ∙ bytes in
      record {
        long = p.long;
        named = named_put ∙ sym old;
        least = omega arith;
        most = omega arith;
        names = names_put;
        same = words.1;
        marks = marks_stay w w1 m table;
        whole = λ h. rw b (lies (rw b at h));
        over = λ h. p.over (rw b at h);
        kept = kept_put (omega (arith, laid.heads, laid.arrays));
      }
    where
      lies : v.to + length xs ≤ room.lim → Lies w1 v.to xs r
      lies h = rw (p.whole h, p.after h) (lies_store w v.to xs (omega (arith, laid.inside)))

-- theorem: the texts known now begin with the table's
pub named-extends : (s w : List ℕ) (m : Map) (n : ℕ) → Naming s w m n → Extends (texts s w m) (named_texts s w m n)
named-extends s w m n g =
    let z : n ≡ m.count + (n - m.count) = omega (arith, g.upto) in
    record { more = described_texts s w m (n - m.count); is = ap (named_texts s w m) z ∙ named-split s w m (n - m.count) }

-- ---- the items behind the one that was written
module _ (s : List ℕ) (m : Map) (t : Grammar) (room : Room) (ids : Ids) (i : ℕ) (v : Written) (w : List ℕ) (four : Bool) (x : Item) (rest : List Item)
    (L : ItemsLeft s m t room ids i v w four (x ∷ rest)) where
  abbrev ts : List Text
  ts = texts s w m

  abbrev us : List Text
  us = named_texts s w m v.count

  extends : Extends ts us
  extends = named-extends s w m v.count L.names.naming

  module _ (v' : Written) (w' : List ℕ) (js : List Item) (x' : Wrote s m room t.width.bytes ids w v (alternatives_in (x ∷ [])) js v' w') where
    before-kept : (j : ℕ) → j < m.base → get_or w' j 0 ≡ get_or w j 0
    before-kept j h = x'.kept j (inl h)

    row_later : Row t ts w' (i + 1) (item_place_in t w (i + 1)) rest
    row_later =
        row_same t ts w w' x'.long (omega (arith, L.before.items, base_before s m t room ids i v w four x rest L, L.laid.ordered, L.laid.inside))
        (λ j h k. before-kept j (omega (arith, L.before.list))) (i + 1) (item_place_in t w (i + 1)) rest (λ j h k. before-kept j (omega (arith, L.before.items)))
        (rw (next_place s m t room ids i v w four x rest L) L.row.2)

    -- theorem: they are left
    pub rest_left : ItemsLeft s m t room ids (i + 1) v' w' four rest
    rest_left =
        let a = alternatives_split x rest in
        record {
          laid =
              rw x'.long
              (laid_fewer m room (v.count + alternatives_in (x ∷ rest)) (alternatives_in (x ∷ rest)) (length w) (v'.count + alternatives_in rest) (alternatives_in rest) (omega (arith, a, x'.most)) (omega (arith, a)) L.laid);
          before = L.before;
          row = rw (x'.same, row_place t ts w' (i + 1) (item_place_in t w (i + 1)) rest row_later) row_later;
          within = rw x'.same L.within.1;
          names = x'.names;
          from = omega (arith, L.from, wrote_on s m room t.width.bytes ids w v (alternatives_in (x ∷ [])) js v' w' x' L.upto);
          upto = wrote_upto s m room t.width.bytes ids w v (alternatives_in (x ∷ [])) js v' w' x';
          many = omega (arith, L.many);
        }

  -- ---- as it stands
  module _ (p e r : ℕ) (w1 : List ℕ) (pp : p ≡ item_place_in t w i) (pe : e ≡ item_place_in t w (i + 1)) (put : Puts w room.lim v.to (part p e w) r w1) where
    item_part : bytes_of_each (item_bytes t.width.bytes us) (x ∷ []) ≡ part p e w
    unfolding bytes_of_each
    item_part =
        append-nil (item_bytes t.width.bytes us x) ∙ bytes_extend four t.width.bytes ts us extends x L.within.0
        ∙ sym (lies_part w p e (item_bytes t.width.bytes ts x) (rw (pp, pe) (first_lies s m t room ids i v w four x rest L)))

    -- theorem: its bytes, copied, are its item written
    pub wrote_copy : Wrote s m room t.width.bytes ids w v (alternatives_in (x ∷ [])) (x ∷ []) (record { to = r; count = v.count }) w1
    wrote_copy =
        wrote_put s m room t.width.bytes ids w v (v.count + alternatives_in (x ∷ rest)) (alternatives_in (x ∷ rest)) L.laid (omega arith) L.names L.from (part p e w) r w1 put (alternatives_in (x ∷ [])) (x ∷ [])
        (plain-texts four t.width.bytes ts us x extends L.within.0) item_part

-- ---- what the tree says of one item
plain-check : (x : Item) → has_levels x ≡ false → check_levels (x ∷ []) ≡ yes tt
unfolding check_levels
plain-check (item d) h = rw h refl
plain-check (Item.terminal sp o y) h = refl

plain-levelled : (x : Item) → has_levels x ≡ false → levelled (x ∷ []) ≡ x ∷ []
unfolding levelled
plain-levelled (item d) h = rw h refl
plain-levelled (Item.terminal sp o y) h = refl

annotated-check : (d : Nonterminal) → annotated d ≡ true → check_levels (item d ∷ []) ≡ after (after (check_attributes d.alternatives) (λ u. check_lowest (grouped d.name (graded d)))) (λ u. yes tt)
unfolding check_levels
annotated-check d h = rw h refl

annotated-levelled : (d : Nonterminal) → annotated d ≡ true → levelled (item d ∷ []) ≡ level_items d
unfolding levelled
annotated-levelled d h = rw h (append-nil (level_items d))

-- ---- the ways out of `expand_item`
module _ (s : List ℕ) (m : Map) (t : Grammar) (room : Room) (ids : Ids) (i : ℕ) (v : Written) (w : List ℕ) where
  stepped_copy : (four : Bool) (x : Item) (rest : List Item) → ItemsLeft s m t room ids i v w four (x ∷ rest) → (p e r : ℕ) (w1 : List ℕ) → p ≡ item_place_in t w i → e ≡ item_place_in t w (i + 1)
      → Puts w room.lim v.to (part p e w) r w1 → has_levels x ≡ false → SteppedBy s m t room ids (check_levels (x ∷ [])) i v w four x rest (Ok (record { to = r; count = v.count })) w1
  unfolding SteppedBy
  stepped_copy four x rest L p e r w1 pp pe put h =
      let c = wrote_copy s m t room ids i v w four x rest L p e r w1 pp pe put in
      rw (plain-check x h) (record { to = r; count = v.count }, refl, rw (plain-levelled x h) c, rest_left s m t room ids i v w four x rest L (record { to = r; count = v.count }) w1 (x ∷ []) c)

  stepped_levels : (four : Bool) (d : Nonterminal) (rest : List Item) → ItemsLeft s m t room ids i v w four (item d ∷ rest) → annotated d ≡ true → (p e : ℕ) (o : Outcome (Unit {0})) (r : Result Written Refusal) (w1 : List ℕ)
      → ExpandedBy s m room t.width.bytes ids o d v w r w1 → SteppedBy s m t room ids (after o (λ u. yes tt)) i v w four (item d) rest r w1
  unfolding SteppedBy ExpandedBy alternatives_in
  stepped_levels four d rest L h p e (yes u) r w1 g =
      let c = wrote_more s m room t.width.bytes ids w v (length d.alternatives) (level_items d) g.0 w1 (alternatives_in (item d ∷ [])) (omega arith) g.2 in
      (g.0, g.1, rw (annotated-levelled d h) c, rest_left s m t room ids i v w four (item d) rest L g.0 w1 (level_items d) c)
  stepped_levels four d rest L h p e (no q sp) r w1 g = g

  module _ (narrow : t.width.bytes ≤ 3) (p e : ℕ) (pp : p ≡ item_place_in t w i) (pe : e ≡ item_place_in t w (i + 1)) (b : Bool) (z : b ≡ has_prec_attr t.width.bytes ids w p) where
    tells : (four : Bool) (x : Item) (rest : List Item) → ItemsLeft s m t room ids i v w four (x ∷ rest) → has_levels x ≡ b
    tells four x rest L = sym (first_annotated s m t room ids i v w four x rest L narrow) ∙ ap (has_prec_attr t.width.bytes ids w) (sym pp) ∙ sym z

    -- theorem: an item that isn't annotated is copied
    pub item_copied : b ≡ false → (r : ℕ) (w1 : List ℕ) → Puts w room.lim v.to (part p e w) r w1 → ItemSteps s m t room ids i v w (Ok (record { to = r; count = v.count })) w1
    unfolding ItemSteps
    item_copied y r w1 put four x rest L = stepped_copy four x rest L p e r w1 pp pe put (tells four x rest L ∙ y)

    -- theorem: an annotated one is written level by level
    pub item_levelled : b ≡ true → (r : Result Written Refusal) (w1 : List ℕ) → ExpandsOne s m room t.width.bytes ids p e v w r w1 → ItemSteps s m t room ids i v w r w1
    unfolding ItemSteps ExpandsOne
    item_levelled y r w1 g four (item d) rest L =
        let a : annotated d ≡ true = tells four (item d) rest L ∙ y in
        rw (annotated-check d a)
        (stepped_levels four d rest L a p e (after (check_attributes d.alternatives) (λ u. check_lowest (grouped d.name (graded d)))) r w1 (g four d (rw (pp, pe) (first_stands s m t room ids i v w four d rest L))))
    item_levelled y r w1 g four (Item.terminal sp o x) rest L = absurd (false≢true (tells four (Item.terminal sp o x) rest L ∙ y))

pub ruleset stepping = (rules, items_head, items_forward, items_behind, item_copied, item_levelled)
