-- One annotated nonterminal written level by level: what stands before it, what a step and the whole leave. s is the tape, w work; wd is the width of an atom's
-- number in bytes. A contract speaks of every tree that stands so in work; that there is one makes the code safe. Assumes nothing: these are definitions.
use Rattle.std.specs.Prelude.{◌≡◌, Bool, true, false, ◌⊎◌, List, [], ◌∷◌, map, ℕ, suc, ◌+◌, ◌-◌, ◌*◌, ◌^◌, ◌≤◌, ◌<◌, length, get_or, Option as Maybe, Some, None, Result, Ok, Err}
use Rattle.std.proofs.Math.Option.{Option, none, some}
use Rattle.octets.specs.Plain.Runs.{Lies}
use Rattle.parse_tree.specs.Plain.Tree.{Text, Alternative, Nonterminal, Item, item}
use Rattle.parse_tree.specs.Plain.Texts.{has, number, distinct, with_new}
use Rattle.parse_tree.specs.Plain.References.{texts_of_each, item_texts}
use Rattle.parse_tree.specs.Plain.WriteTape.{bytes_of_each}
use Rattle.parse_tree.specs.Working.Encode.{item_bytes, argument_bytes, alternative_bytes}
use Rattle.parse_tree.specs.Working.Refusals.{refusal_over}
use Rattle.parse_tree.specs.declared.refusal.Refusal.{Refusal}
use Rattle.parse_tree.specs.Working.Within.{Each, NonterminalWithin}
use Rattle.texts.specs.declared.Map.{Map}
use Rattle.texts.specs.Fields.{mark_at}
use Rattle.texts.specs.Table.{Above, texts}
use Rattle.passes.specs.Outcome.{Outcome, yes, no, after}
use Rattle.passes.specs.Grades.{graded}
use Rattle.passes.specs.Levels.{grouped, groups_of, level_name, of_level, substituted, with_fall_through, level_items, check_attributes, check_lowest}
use Rattle.laws.specs.Sort.{Ascends, by_levels}
use Rattle.grades.specs.declared.Ids.{Ids}
use Rattle.grades.specs.Ids.{ids_in}
use Rattle.grades.specs.Sort.{keys_at, Sorted}
use Rattle.grades.specs.Key.{code_of}
use Rattle.precedence.specs.declared.names.LevelName.{LevelName}
use Rattle.precedence.specs.Names.{Naming, LevelNamed, named_texts}
use Rattle.levels.specs.declared.Room.{Room}
use Rattle.levels.specs.declared.Written.{Written}
use Rattle.levels.specs.declared.expand.Next.{Next}

-- ---- the small functions

-- the highest level keeps the name, another one is described
unfoldable pub NamesLevel : List ℕ → List ℕ → Map → ℕ → ℕ → ℕ → Bool → LevelName → List ℕ → Type 0
NamesLevel s w m n base level true r w' = (r ≡ record { name = base; count = n }) × (w' ≡ w)
NamesLevel s w m n base level false r w' = LevelNamed s w m n base level r w'

-- keys that ascend stay where they are
unfoldable pub SortsKeys : List ℕ → ℕ → ℕ → ℕ → Bool → ℕ → List ℕ → Type 0
SortsKeys w keys other n true r w' = (r ≡ keys) × (w' ≡ w)
SortsKeys w keys other n false r w' = Sorted w keys other n r w'

-- ---- where the pass writes

-- in work of so many bytes: records up to `most`, then the arrays of n alternatives, then the items
pub record LevelsFit (m : Map) (room : Room) (most n long : ℕ) : Type 0 where
  pub heads : m.base + 24 * m.buckets ≤ room.arrays
  pub names : m.base + 24 * most ≤ room.arrays
  pub few : most ≤ 4294967296
  pub arrays : room.arrays + (24 * n + 8) ≤ room.at
  pub ordered : room.at ≤ room.lim
  pub inside : room.lim + 16 ≤ long
  pub narrow : long < 256 ^ 8

-- n texts are known, no two equal; `precedence` and `assoc` have the numbers ids, and had them before any name was described
pub record NamesAt (s w : List ℕ) (m : Map) (room : Room) (ids : Ids) (n : ℕ) : Type 0 where
  pub naming : Naming s w m n
  pub above : Above s w m (room.lim + 16)
  pub apart : distinct (named_texts s w m n) ≡ true
  pub ids_are : ids ≡ ids_in (named_texts s w m n)
  pub ids_table : ids ≡ ids_in (texts s w m)

-- a byte that writing from `to` on keeps: before the records, of the items so far, behind the room
abbrev pub Kept : Map → Room → ℕ → ℕ → Type 0
Kept m room to i = (i < m.base) ⊎ ((room.at ≤ i) × (i < to)) ⊎ (room.lim + 16 ≤ i)

-- from w to w' the items `is` were written behind what was written so far, and their new texts came to the texts, at most k: all of it, or the cursor says that it doesn't fit
pub record Wrote (s : List ℕ) (m : Map) (room : Room) (wd : ℕ) (ids : Ids) (w : List ℕ) (v : Written) (k : ℕ) (is : List Item) (v' : Written) (w' : List ℕ) : Type 0 where
  pub long : length w' ≡ length w
  pub named : named_texts s w' m v'.count ≡ with_new (named_texts s w m v.count) (texts_of_each item_texts is)
  pub least : v.count ≤ v'.count
  pub most : v'.count ≤ v.count + k
  pub names : NamesAt s w' m room ids v'.count
  pub same : texts s w' m ≡ texts s w m
  pub marks : (i : ℕ) → i < m.count → mark_at w' m.base i ≡ mark_at w m.base i
  pub whole : v.to + length (bytes_of_each (item_bytes wd (named_texts s w' m v'.count)) is) ≤ room.lim
      → Lies w' v.to (bytes_of_each (item_bytes wd (named_texts s w' m v'.count)) is) v'.to
  pub over : room.lim < v.to + length (bytes_of_each (item_bytes wd (named_texts s w' m v'.count)) is) → v'.to ≡ room.lim + 1
  pub kept : (i : ℕ) → Kept m room v.to i → get_or w' i 0 ≡ get_or w i 0

-- ---- one nonterminal

-- d stands from p up to e, before the records
pub record Stood (s w : List ℕ) (m : Map) (wd p e : ℕ) (four : Bool) (d : Nonterminal) : Type 0 where
  pub within : NonterminalWithin four wd (texts s w m) d
  pub lies : Lies w p (item_bytes wd (texts s w m) (item d)) e
  pub before : e ≤ m.base

-- the places of alternatives that stand from p on, and the one behind the last
unfoldable pub places_of : ℕ → List Text → ℕ → List Alternative → List ℕ
places_of wd ts p [] = p ∷ []
places_of wd ts p (a ∷ rest) = p ∷ places_of wd ts (p + length (alternative_bytes wd ts a)) rest

-- where the alternatives of d begin, if it stands at p
abbrev pub alternatives_at : ℕ → List Text → ℕ → Nonterminal → ℕ
alternatives_at wd ts p d = p + 13 + wd + length (bytes_of_each (argument_bytes wd ts) d.args)

-- o is the name of the next lower level, if there is one, and b the number of that text
abbrev pub LowerIs : List Text → Maybe ℕ → Option Text → Type 0
LowerIs us b none = b ≡ None
LowerIs us b (some t) = (has t us ≡ true) × (b ≡ Some (number us t))

-- the items of the levels vs of d, the lowest above one named o
unfoldable pub items_left : Nonterminal → Option Text → List ℕ → List Item
items_left d o vs = map (with_fall_through d) (map (substituted d.name) (groups_of d.name (graded d) o vs))

-- the first of them
unfoldable pub level_item : Nonterminal → Option Text → ℕ → List ℕ → Item
level_item d o v vs = with_fall_through d (substituted d.name (record { name = level_name d.name v vs; lower = o; alternatives = of_level v (graded d) }))

module _ (s : List ℕ) (m : Map) (room : Room) (wd : ℕ) (ids : Ids) where
  -- the levels of d are written, or it is refused
  unfoldable pub ExpandedBy : Outcome (Unit {0}) → Nonterminal → Written → List ℕ → Result Written Refusal → List ℕ → Type 0
  ExpandedBy (yes u) d v w r w' = (v' : Written) × (r ≡ Ok v') × Wrote s m room wd ids w v (length d.alternatives) (level_items d) v' w'
  ExpandedBy (no q sp) d v w r w' = r ≡ Err (refusal_over q sp)

module _ (s : List ℕ) (m : Map) (room : Room) (wd : ℕ) (ids : Ids) (p e : ℕ) where
  module _ (places keys n : ℕ) where
    -- d stands there, its n keys are sorted, and the levels vs are left: their keys begin at the i-th
    pub record Left (i : ℕ) (below : Maybe ℕ) (v : Written) (w : List ℕ) (four : Bool) (d : Nonterminal) (o : Option Text) (vs : List ℕ) : Type 0 where
      pub laid : LevelsFit m room (v.count + length vs) n (length w)
      pub stood : Stood s w m wd p e four d
      pub names : NamesAt s w m room ids v.count
      pub from : room.at ≤ v.to
      pub upto : v.to ≤ room.lim + 1
      pub many : n ≡ length d.alternatives
      pub places-in : (room.arrays ≤ places) × (places + 8 * n + 8 ≤ room.at)
      pub keys_in : (room.arrays ≤ keys) × (keys + 8 * n ≤ room.at)
      pub noted : keys_at w places (suc n) ≡ places_of wd (texts s w m) (alternatives_at wd (texts s w m) p d) d.alternatives
      pub below-n : i ≤ n
      pub keyed : keys_at w (keys + 8 * i) (n - i) ≡ by_levels code_of vs 0 (graded d)
      pub ascends : Ascends vs
      pub some : Each (λ (u : ℕ). 1 ≤ length (of_level u (graded d))) vs
      pub small : Each (λ (u : ℕ). u < 4294967296) vs
      pub lower : LowerIs (named_texts s w m v.count) below o

    -- there is such a nonterminal
    pub record SomeLeft (i : ℕ) (below : Maybe ℕ) (v : Written) (w : List ℕ) : Type 0 where
      pub four : Bool
      pub nonterminal : Nonterminal
      pub lower : Option Text
      pub levels : List ℕ
      pub left : Left i below v w four nonterminal lower levels

    -- one level was written, and one less is left
    pub record Stepped (i : ℕ) (v : Written) (w : List ℕ) (four : Bool) (d : Nonterminal) (o : Option Text) (vs : List ℕ) (r : Next) (w' : List ℕ) : Type 0 where
      pub level : ℕ
      pub above : List ℕ
      pub first : vs ≡ level ∷ above
      pub on : i < r.last
      pub left : Left r.last (Some r.name) (record { to = r.to; count = r.count }) w' four d (some (level_name d.name level above)) above
      pub wrote : Wrote s m room wd ids w v 1 (level_item d o level above ∷ []) (record { to = r.to; count = r.count }) w'

    unfoldable pub Steps : ℕ → Maybe ℕ → Written → List ℕ → Next → List ℕ → Type 0
    Steps i below v w r w' = (four : Bool) (d : Nonterminal) (o : Option Text) (vs : List ℕ) → Left i below v w four d o vs → Stepped i v w four d o vs r w'

    -- all levels were written
    unfoldable pub Finishes : ℕ → Maybe ℕ → Written → List ℕ → Written → List ℕ → Type 0
    Finishes i below v w r w' = (four : Bool) (d : Nonterminal) (o : Option Text) (vs : List ℕ) → Left i below v w four d o vs → Wrote s m room wd ids w v (length vs) (items_left d o vs) r w'

  -- d stands there, and there is room for its names and arrays
  pub record Expandable (v : Written) (w : List ℕ) (four : Bool) (d : Nonterminal) : Type 0 where
    pub laid : LevelsFit m room (v.count + length d.alternatives) (length d.alternatives) (length w)
    pub stood : Stood s w m wd p e four d
    pub names : NamesAt s w m room ids v.count
    pub from : room.at ≤ v.to
    pub upto : v.to ≤ room.lim + 1

  pub record SomeExpandable (v : Written) (w : List ℕ) : Type 0 where
    pub four : Bool
    pub nonterminal : Nonterminal
    pub standing : Expandable v w four nonterminal

  -- "level readable? 14. Side one of left, right, none, all? 15. Then: lowest level only `all`? 16"
  unfoldable pub ExpandsOne : Written → List ℕ → Result Written Refusal → List ℕ → Type 0
  ExpandsOne v w r w' = (four : Bool) (d : Nonterminal) → Expandable v w four d
      → ExpandedBy s m room wd ids (after (check_attributes d.alternatives) (λ u. check_lowest (grouped d.name (graded d)))) d v w r w'
