-- An annotated nonterminal whose keys are sorted is left to `write_levels`, with all levels; and what that writes is its levels. Assumes nothing.
use mathlib.Core.Path.{◌≡◌, refl, sym, ap, ◌∙◌}
use mathlib.Core.Bool.{Bool}
use mathlib.Core.Logic.{◌⊎◌, inl, inr}
use mathlib.Core.List.{List, [], ◌∷◌}
use mathlib.Core.Option.{none}
use Prim.Native.Nat.{ℕ, suc, ◌+◌, ◌-◌, ◌*◌, ◌≤◌, ◌<◌}
use native.Mathlib.Omega.{arith}
use Rattle.std.specs.Prelude.{None}
use lib.ListN.{length}
use Rattle.parse_tree.specs.Plain.Tree.{Text, Alternative, Nonterminal, Item, item}
use Rattle.parse_tree.specs.Plain.Texts.{with_new}
use Rattle.parse_tree.specs.Plain.References.{texts_of_each, item_texts}
use Rattle.parse_tree.specs.Working.Encode.{item_bytes, alternative_bytes}
use Rattle.texts.specs.declared.Map.{Map}
use Rattle.texts.specs.Table.{Above, Agree, texts}
use Rattle.passes.specs.Grades.{graded}
use Rattle.passes.specs.Levels.{levels_of, level_items}
use Rattle.laws.specs.Sort.{by_levels}
use Rattle.laws.proofs.Levels.{levels-ascend}
use Rattle.resolve.proofs.CellsLaws.{lies_agree}
use Rattle.grades.specs.declared.Ids.{Ids}
use Rattle.grades.specs.Grading.{Worded}
use Rattle.grades.specs.Ids.{ids_in}
use Rattle.grades.specs.Sort.{keys_at}
use Rattle.grades.specs.Key.{code_of}
use Rattle.grades.proofs.AlternativesStored.{places_from}
use Rattle.grades.proofs.WordedLaws.{worded_stays}
use Rattle.precedence.specs.Names.{named_texts}
use Rattle.precedence.proofs.GroupMean.{levels-some}
use Rattle.precedence.proofs.LeadMean.{levels-of_small}
use Rattle.precedence.proofs.NamesStays.{names_same, naming-stays}
use Rattle.precedence.proofs.NamesMean.{naming-worded}
use Rattle.levels.specs.declared.Room.{Room}
use Rattle.levels.specs.declared.Written.{Written}
use Rattle.levels.specs.Expand.{LevelsFit, NamesAt, Kept, Wrote, Stood, places_of, alternatives_at, items_left, Left, Finishes, Expandable}
use Rattle.levels.proofs.WroteLaws.{marks_stay}
use Rattle.laws.proofs.LevelsMany.{graded-length, levels-few}
use Rattle.levels.proofs.ExpandMean.{keys_place, stands_before}
use Rattle.levels.proofs.ExpandMeanSorted.{Ordered}

-- the places that are noted, in both words
places_same : (four : Bool) (wd : ℕ) (ts : List Text) (s : List ℕ) (m : Map) (places keys n e p : ℕ) (cs : List Alternative) → places_from four wd ts s m places keys n e p cs ≡ places_of wd ts p cs
unfolding places_from places_of
places_same four wd ts s m places keys n e p [] = refl
places_same four wd ts s m places keys n e p (a ∷ rest) = ap (λ (xs : List ℕ). p ∷ xs) (places_same four wd ts s m places keys n e (p + length (alternative_bytes wd ts a)) rest)

module _ (s : List ℕ) (m : Map) (room : Room) (wd : ℕ) (ids : Ids) (p e : ℕ) (v : Written) (w : List ℕ) (four : Bool) (d : Nonterminal) (S : Expandable s m room wd ids p e v w four d) (n : ℕ) (many : n ≡ length d.alternatives)
    (k : ℕ) (w2 : List ℕ) (O : Ordered s m room wd p e w four d n k w2) where
  fewer : length (levels_of (graded d)) ≤ length d.alternatives
  fewer = omega (arith, levels-few (graded d), graded-length d)

  -- ---- the texts stay
  far : Agree w w2 (room.lim + 16) (length w)
  far = record { agree = λ i h l. O.others i (inr (omega (arith, S.laid.ordered))) }

  records : Agree w w2 m.base (m.base + 24 * v.count)
  records = record { agree = λ i h l. O.others i (inl (omega (arith, S.laid.names))) }

  table : Agree w w2 m.base (m.base + 24 * m.count)
  table = record { agree = λ i h l. O.others i (inl (omega (arith, S.names.naming.upto, S.laid.names))) }

  heads : Agree w w2 m.base (m.base + 24 * m.buckets)
  heads = record { agree = λ i h l. O.others i (inl (omega (arith, S.laid.heads))) }

  worded : Worded s w2 m × (texts s w2 m ≡ texts s w m) × Above s w2 m (room.lim + 16)
  worded = worded_stays s w w2 m (room.lim + 16) (naming-worded s w m v.count S.names.naming) S.names.above O.long far table

  texts-same : texts s w2 m ≡ texts s w m
  texts-same = worded.1

  named-same : named_texts s w2 m v.count ≡ named_texts s w m v.count
  named-same = names_same s w w2 m v.count (room.lim + 16) S.names.naming S.names.above O.long far records heads

  names : NamesAt s w2 m room ids v.count
  names =
      let x = S.names in
      record {
        naming = naming-stays s w w2 m v.count (room.lim + 16) x.naming x.above O.long far records heads;
        above = worded.2;
        apart = rw named-same x.apart;
        ids_are = x.ids_are ∙ ap ids_in (sym named-same);
        ids_table = x.ids_table ∙ ap ids_in (sym texts-same);
      }

  -- ---- and so does the nonterminal
  stood : Stood s w2 m wd p e four d
  stood =
      let x = S.stood in
      let h = stands_before s m room wd ids p e v w four d S in
      record {
        within = rw texts-same x.within;
        lies = rw texts-same (lies_agree w w2 p e (item_bytes wd (texts s w m) (item d)) O.long (omega (arith, h.2)) (λ j a b. O.others j (inl (omega (arith, h.1)))) x.lies);
        before = x.before;
      }

  laid : LevelsFit m room (v.count + length (levels_of (graded d))) n (length w2)
  laid =
      let x = S.laid in
      record {
        heads = x.heads;
        names = omega (arith, x.names, fewer);
        few = omega (arith, x.few, fewer);
        arrays = rw many x.arrays;
        ordered = x.ordered;
        inside = rw O.long x.inside;
        narrow = rw O.long x.narrow;
      }

  noted : keys_at w2 room.arrays (suc n) ≡ places_of wd (texts s w2 m) (alternatives_at wd (texts s w2 m) p d) d.alternatives
  noted = rw texts-same (O.noted ∙ places_same four wd (texts s w m) s m room.arrays (keys_place room n) n e (alternatives_at wd (texts s w m) p d) d.alternatives)

  keyed : keys_at w2 (k + 8 * 0) (n - 0) ≡ by_levels code_of (levels_of (graded d)) 0 (graded d)
  keyed = let y : k + 8 * 0 ≡ k = omega arith in let z : n - 0 ≡ n = omega arith in rw (y, z) O.keyed

  -- theorem: all levels are left
  pub all_left : Left s m room wd ids p e room.arrays k n 0 None v w2 four d none (levels_of (graded d))
  all_left = record {
    laid = laid;
    stood = stood;
    names = names;
    from = S.from;
    upto = S.upto;
    many = many;
    places-in = (omega arith, omega (arith, many, S.laid.arrays));
    keys_in = (O.from, O.upto);
    noted = noted;
    below-n = omega arith;
    keyed = keyed;
    ascends = levels-ascend (graded d);
    some = levels-some (graded d);
    small = levels-of_small d.alternatives;
    lower = refl;
  }

  -- what is kept is not of the arrays
  kept-beside : (i : ℕ) → Kept m room v.to i → (i < room.arrays) ⊎ (room.at ≤ i)
  kept-beside i (inl h) = inl (omega (arith, S.laid.heads))
  kept-beside i (inr (inl h)) = inr h.0
  kept-beside i (inr (inr h)) = inr (omega (arith, S.laid.ordered))

  module _ (r : Written) (w3 : List ℕ) where
    -- what was written since the keys were sorted was written since before
    written : (is : List Item) → Wrote s m room wd ids w2 v (length (levels_of (graded d))) is r w3 → Wrote s m room wd ids w v (length d.alternatives) is r w3
    written is f = record {
      long = f.long ∙ O.long;
      named = f.named ∙ ap (λ (ts : List Text). with_new ts (texts_of_each item_texts is)) named-same;
      least = f.least;
      most = omega (arith, f.most, fewer);
      names = f.names;
      same = f.same ∙ texts-same;
      marks = λ i h. f.marks i h ∙ marks_stay w w2 m table i h;
      whole = f.whole;
      over = f.over;
      kept = λ i h. f.kept i h ∙ O.others i (kept-beside i h);
    }

    -- theorem: what `write_levels` writes are the nonterminal's levels
    pub all_written : Finishes s m room wd ids p e room.arrays k n 0 None v w2 r w3 → Wrote s m room wd ids w v (length d.alternatives) (level_items d) r w3
    unfolding Finishes items_left level_items
    all_written f = written (level_items d) (f four d none (levels_of (graded d)) all_left)
