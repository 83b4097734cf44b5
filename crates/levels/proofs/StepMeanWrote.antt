-- One level written: its item stands behind those before it, its name is known, and the levels above it are left. Assumes nothing.
use mathlib.Core.Path.{◌≡◌, refl, sym, ap, ◌∙◌}
use mathlib.Core.Bool.{Bool}
use mathlib.Core.Logic.{◌⊎◌, inl, inr}
use mathlib.Core.List.{List, [], ◌∷◌, append-nil}
use mathlib.Core.Option.{Option, none, some}
use Prim.Native.Nat.{ℕ, suc, ◌+◌, ◌-◌, ◌*◌, ◌≤◌, ◌<◌}
use native.Mathlib.Omega.{arith}
use Rattle.std.specs.Prelude.{Option as Maybe, Some}
use lib.ListN.{length, get_or}
use Rattle.octets.specs.Plain.Runs.{Lies}
use Rattle.octets.proofs.LiesLaws.{lies_to}
use Rattle.octets.proofs.StoreLaws.{lies_store}
use Rattle.parse_tree.specs.Plain.Tree.{Text, Nonterminal, item}
use Rattle.parse_tree.specs.Plain.Texts.{with_new}
use Rattle.parse_tree.specs.Plain.References.{texts_of_each, item_texts}
use Rattle.parse_tree.specs.Plain.WriteTape.{bytes_of_each}
use Rattle.parse_tree.specs.Working.Encode.{item_bytes}
use Rattle.texts.specs.declared.Map.{Map}
use Rattle.texts.specs.Fields.{mark_at}
use Rattle.texts.specs.Table.{Above, Agree, texts}
use Rattle.passes.specs.Grades.{Graded, graded}
use Rattle.passes.specs.Levels.{Group, level_name, of_level}
use Rattle.resolve.proofs.CellsLaws.{lies_agree}
use Rattle.grades.specs.declared.Ids.{Ids}
use Rattle.grades.specs.Ids.{ids_in}
use Rattle.grades.specs.Grading.{Worded}
use Rattle.grades.specs.Sort.{keys_at, GroupEnd}
use Rattle.grades.proofs.WordedLaws.{worded_stays}
use Rattle.precedence.specs.declared.names.LevelName.{LevelName}
use Rattle.precedence.specs.Names.{named_texts}
use Rattle.precedence.specs.Write.{Puts}
use Rattle.precedence.proofs.NamesStays.{naming-stays, names_same}
use Rattle.precedence.proofs.NamesMean.{naming-worded}
use Rattle.precedence.proofs.WriteLaws.{puts_beside, puts_on, puts_upto}
use Rattle.levels.specs.declared.Room.{Room}
use Rattle.levels.specs.declared.Written.{Written}
use Rattle.levels.specs.Expand.{NamesAt, Kept, Wrote, Stood, places_of, alternatives_at, LowerIs, level_item, Left, Stepped}
use Rattle.levels.proofs.Graded.{GradedWithin, graded-within, of_level_each}
use Rattle.levels.proofs.There.{LowerIn}
use Rattle.levels.proofs.Texts.{level_texts}
use Rattle.levels.proofs.StepMeanNames.{named-extends, LevelKnown, name_has}
use Rattle.levels.proofs.WroteLaws.{marks_stay}
use Rattle.levels.proofs.StepMean.{keys_agree, before-arrays, group_is}

-- ---- what is put behind the records leaves the names
module _ (s : List ℕ) (m : Map) (room : Room) (ids : Ids) (w : List ℕ) (n : ℕ) (g : NamesAt s w m room ids n) (to : ℕ) (xs : List ℕ) (r : ℕ) (w1 : List ℕ) (q : Puts w room.lim to xs r w1)
    (records : m.base + 24 * n ≤ to) (heads : m.base + 24 * m.buckets ≤ to) where
  far : Agree w w1 (room.lim + 16) (length w)
  far = record { agree = λ i a b. puts_beside w w1 room.lim to xs r q i (inr (omega arith)) }

  below-to : (a e : ℕ) → e ≤ to → Agree w w1 a e
  below-to a e h = record { agree = λ i x y. puts_beside w w1 room.lim to xs r q i (inl (omega arith)) }

  -- theorem: the texts are the same
  pub put_named : named_texts s w1 m n ≡ named_texts s w m n
  put_named = names_same s w w1 m n (room.lim + 16) g.naming g.above q.long far (below-to m.base (m.base + 24 * n) records) (below-to m.base (m.base + 24 * m.buckets) heads)

  table : Agree w w1 m.base (m.base + 24 * m.count)
  table = below-to m.base (m.base + 24 * m.count) (omega (arith, g.naming.upto))

  worded : Worded s w1 m × (texts s w1 m ≡ texts s w m) × Above s w1 m (room.lim + 16)
  worded =
      worded_stays s w w1 m (room.lim + 16) (naming-worded s w m n g.naming) g.above q.long far table

  pub put_texts : texts s w1 m ≡ texts s w m
  put_texts = worded.1

  pub put_marks : (i : ℕ) → i < m.count → mark_at w1 m.base i ≡ mark_at w m.base i
  put_marks = marks_stay w w1 m table

  -- theorem: and can be found
  pub put_names : NamesAt s w1 m room ids n
  put_names =
      let z = put_named in
      record {
        naming = naming-stays s w w1 m n (room.lim + 16) g.naming g.above q.long far (below-to m.base (m.base + 24 * n) records) (below-to m.base (m.base + 24 * m.buckets) heads);
        above = worded.2;
        apart = rw z g.apart;
        ids_are = g.ids_are ∙ ap ids_in (sym z);
        ids_table = g.ids_table ∙ ap ids_in (sym put_texts);
      }

-- ---- a run that is put lies there, if it fits
put_lies : (w w1 : List ℕ) (lim to : ℕ) (xs : List ℕ) (r : ℕ) → Puts w lim to xs r w1 → lim ≤ length w → to + length xs ≤ lim → Lies w1 to xs r
put_lies w w1 lim to xs r q l h =
    let z = q.whole h in
    rw z (lies_to (sym (q.after h)) (lies_store w to xs (omega arith)))

-- ---- a nonterminal stands where its bytes and the table's texts are as they were
stood_stays : (s w : List ℕ) (m : Map) (wd p e : ℕ) (four : Bool) (d : Nonterminal) (w1 : List ℕ) → Stood s w m wd p e four d → texts s w1 m ≡ texts s w m → length w1 ≡ length w → m.base ≤ length w
    → ((i : ℕ) → i < m.base → get_or w1 i 0 ≡ get_or w i 0) → Stood s w1 m wd p e four d
stood_stays s w m wd p e four d w1 f same long inside kept = record {
  within = rw same f.within;
  lies = rw same (lies_agree w w1 p e (item_bytes wd (texts s w m) (item d)) long (omega (arith, f.before)) (λ i a b. kept i (omega (arith, f.before))) f.lies);
  before = f.before;
}

lower_in : (us : List Text) (b : Maybe ℕ) (o : Option Text) → LowerIs us b o → LowerIn us o
lower_in us b none h = tt
lower_in us b (some t) h = h.0

-- ---- a level
module _ (s : List ℕ) (m : Map) (room : Room) (wd : ℕ) (ids : Ids) (p e places keys n i : ℕ) (below : Maybe ℕ) (v : Written) (w : List ℕ) (four : Bool) (d : Nonterminal) (o : Option Text) (v0 : ℕ) (above : List ℕ)
    (L : Left s m room wd ids p e places keys n i below v w four d o (v0 ∷ above)) (j : ℕ) (g : GroupEnd w keys n i j) (x : LevelName) (w1 : List ℕ) (long : length w1 ≡ length w)
    (k : LevelKnown s m room ids w v.count (level_name d.name v0 above) x w1) (r : ℕ) (w2 : List ℕ)
    (q : Puts w1 room.lim v.to (item_bytes wd (named_texts s w1 m x.count) (level_item d o v0 above)) r w2) where
  abbrev after : Written
  after = record { to = r; count = x.count }

  abbrev Bytes1 : List ℕ
  Bytes1 = item_bytes wd (named_texts s w1 m x.count) (level_item d o v0 above)

  records : m.base + 24 * (v.count + suc (length above)) ≤ room.arrays
  records = L.laid.names

  ordered : (room.arrays ≤ room.at) × (room.at ≤ v.to)
  ordered = ((before-arrays s m room wd ids p e places keys n i below v w four d o v0 above L).1, L.from)

  records_in : m.base + 24 * x.count ≤ v.to
  records_in = omega (arith, k.most, records, ordered.0, ordered.1)

  heads-in : m.base + 24 * m.buckets ≤ v.to
  heads-in = omega (arith, L.laid.heads, ordered.0, ordered.1)

  same_names : named_texts s w2 m x.count ≡ named_texts s w1 m x.count
  same_names = put_named s m room ids w1 x.count k.names v.to Bytes1 r w2 q records_in heads-in

  same_texts : texts s w2 m ≡ texts s w m
  same_texts = put_texts s m room ids w1 x.count k.names v.to Bytes1 r w2 q records_in heads-in ∙ k.same

  same_marks : (h : ℕ) → h < m.count → mark_at w2 m.base h ≡ mark_at w m.base h
  same_marks h a = put_marks s m room ids w1 x.count k.names v.to Bytes1 r w2 q records_in heads-in h a ∙ k.marks h a

  names : NamesAt s w2 m room ids x.count
  names = put_names s m room ids w1 x.count k.names v.to Bytes1 r w2 q records_in heads-in

  beside : (h : ℕ) → (h < v.to) ⊎ (room.lim ≤ h) → get_or w2 h 0 ≡ get_or w1 h 0
  beside = puts_beside w1 w2 room.lim v.to Bytes1 r q

  -- before the records, and in the arrays
  front_kept : (h : ℕ) → h < m.base → get_or w2 h 0 ≡ get_or w h 0
  front_kept h a = beside h (inl (omega (arith, heads-in))) ∙ k.before h a

  array_kept : (h : ℕ) → room.arrays ≤ h → h < room.at → get_or w2 h 0 ≡ get_or w h 0
  array_kept h a b = beside h (inl (omega (arith, ordered.1))) ∙ k.after h a

  kept : (h : ℕ) → Kept m room v.to h → get_or w2 h 0 ≡ get_or w h 0
  kept h (inl a) = front_kept h a
  kept h (inr (inl a)) = beside h (inl a.1) ∙ k.after h (omega (arith, a.0, ordered.0))
  kept h (inr (inr a)) = beside h (inr (omega arith)) ∙ k.after h (omega (arith, ordered.0, L.laid.ordered))

  -- ---- the item
  new_texts_lem : with_new (named_texts s w m v.count) (texts_of_each item_texts (level_item d o v0 above ∷ [])) ≡ with_new (named_texts s w m v.count) (level_name d.name v0 above ∷ [])
  unfolding texts_of_each level_item
  new_texts_lem =
      let ts = texts s w m in
      let us = named_texts s w m v.count in
      let group : Group Graded = record { name = level_name d.name v0 above; lower = o; alternatives = of_level v0 (graded d) } in
      let h = L.stood.within in
      ap (with_new us) (append-nil (item_texts (level_item d o v0 above)))
      ∙ level_texts four wd ts us d group (named-extends s w m v.count L.names.naming.upto) h (of_level_each (GradedWithin four wd ts) v0 (graded d) (graded-within four wd ts d h)) (lower_in us below o L.lower)

  one_bytes : bytes_of_each (item_bytes wd (named_texts s w2 m x.count)) (level_item d o v0 above ∷ []) ≡ Bytes1
  unfolding bytes_of_each
  one_bytes = append-nil (item_bytes wd (named_texts s w2 m x.count) (level_item d o v0 above)) ∙ ap (λ (us : List Text). item_bytes wd us (level_item d o v0 above)) same_names

  step-wrote : Wrote s m room wd ids w v 1 (level_item d o v0 above ∷ []) after w2
  step-wrote =
      let z = one_bytes in
      record {
        long = q.long ∙ long;
        named = same_names ∙ k.named ∙ sym new_texts_lem;
        least = k.least;
        most = k.most;
        names = names;
        same = same_texts;
        marks = same_marks;
        whole = λ h. rw z (put_lies w1 w2 room.lim v.to Bytes1 r q (omega (arith, L.laid.inside)) (rw z at h));
        over = λ h. q.over (rw z at h);
        kept = kept;
      }

  -- ---- what is left
  noted : keys_at w2 places (suc n) ≡ places_of wd (texts s w2 m) (alternatives_at wd (texts s w2 m) p d) d.alternatives
  noted =
      let z = same_texts in
      rw z (keys_agree w w2 places (suc n) (λ h a b. array_kept h (omega (arith, L.places-in.0)) (omega (arith, L.places-in.1))) ∙ L.noted)

  keyed : keys_at w2 (keys + 8 * j) (n - j) ≡ keys_at w (keys + 8 * j) (n - j)
  keyed = keys_agree w w2 (keys + 8 * j) (n - j) (λ h a b. array_kept h (omega (arith, L.keys_in.0)) (omega (arith, L.keys_in.1, g.upto)))

  step_left : Left s m room wd ids p e places keys n j (Some x.name) after w2 four d (some (level_name d.name v0 above)) above
  step_left =
      let a = L.laid in
      let z = same_names in
      let most : v.count + suc (length above) ≤ 4294967296 = a.few in
      record {
        laid = record {
          heads = a.heads;
          names = omega (arith, records, k.most);
          few = omega (arith, k.most);
          arrays = a.arrays;
          ordered = a.ordered;
          inside = omega (arith, a.inside, q.long, long);
          narrow = let l : length w2 ≡ length w = q.long ∙ long in rw l a.narrow;
        };
        stood = stood_stays s w m wd p e four d w2 L.stood same_texts (q.long ∙ long) (omega (arith, a.heads, ordered.0, a.ordered, a.inside)) front_kept;
        names = names;
        from = omega (arith, L.from, puts_on w1 w2 room.lim v.to Bytes1 r q L.upto);
        upto = puts_upto w1 w2 room.lim v.to Bytes1 r q;
        many = L.many;
        places-in = L.places-in;
        keys_in = L.keys_in;
        noted = noted;
        below-n = g.upto;
        keyed = keyed ∙ (group_is s m room wd ids p e places keys n i below v w four d o v0 above L j g).rest;
        ascends = L.ascends.1;
        some = L.some.1;
        small = L.small.1;
        lower = (rw z (name_has s m room ids w v.count (level_name d.name v0 above) x w1 k), rw z (ap Some k.name));
      }

  -- theorem: a level whose item is put is written, and those above it are left
  pub level_steps : Stepped s m room wd ids p e places keys n i v w four d o (v0 ∷ above) (record { last = j; name = x.name; count = x.count; to = r }) w2
  level_steps = record { level = v0; above = above; first = refl; on = g.behind; left = step_left; wrote = step-wrote }
