-- The pass over a grammar that stands in work: what it says of its tree, and what it writes. Assumes nothing: these are definitions.
use Rattle.std.specs.Prelude.{◌≡◌, Bool, true, List, [], ◌∷◌, ℕ, ◌+◌, ◌*◌, ◌≤◌, ◌<◌, length, Result, Ok, Err}
use Rattle.parse_tree.specs.Plain.Tree.{Item, item}
use Rattle.parse_tree.specs.Plain.Texts.{distinct}
use Rattle.parse_tree.specs.Working.Refusals.{refusal_over}
use Rattle.parse_tree.specs.declared.refusal.Refusal.{Refusal}
use Rattle.parse_tree.specs.Working.Within.{Each, ItemWithin}
use Rattle.texts.specs.declared.Map.{Map}
use Rattle.texts.specs.Table.{Table, Above, texts}
use Rattle.passes.specs.Outcome.{Outcome, yes, no}
use Rattle.passes.specs.Levels.{levelled, check_levels}
use Rattle.resolve.specs.declared.Grammar.{Grammar}
use Rattle.resolve.specs.Items.{item_place_in, Row}
use Rattle.grades.specs.declared.Ids.{Ids}
use Rattle.grades.specs.Ids.{ids_in}
use Rattle.levels.specs.declared.Room.{Room}
use Rattle.levels.specs.declared.Written.{Written}
use Rattle.levels.specs.Expand.{LevelsFit, NamesAt, Wrote}

-- how many alternatives the items have
unfoldable pub alternatives_in : List Item → ℕ
alternatives_in [] = 0
alternatives_in (item d ∷ rest) = length d.alternatives + alternatives_in rest
alternatives_in (Item.terminal s o x ∷ rest) = alternatives_in rest

-- the items and the list of their places stand before the records
pub record Before (m : Map) (t : Grammar) : Type 0 where
  pub ordered : t.at ≤ t.end
  pub items : t.end ≤ m.base
  pub list : t.list + 8 * t.count ≤ m.base

-- what the pass begins with
abbrev pub at_first : Map → Room → Written
at_first m room = record { to = room.at; count = m.count }

module _ (s : List ℕ) (m : Map) (t : Grammar) (room : Room) where
  module _ (ids : Ids) where
    -- the items `is` are left, the first of which is the i-th
    pub record ItemsLeft (i : ℕ) (v : Written) (w : List ℕ) (four : Bool) (is : List Item) : Type 0 where
      pub laid : LevelsFit m room (v.count + alternatives_in is) (alternatives_in is) (length w)
      pub before : Before m t
      pub row : Row t (texts s w m) w i (item_place_in t w i) is
      pub within : Each (ItemWithin four t.width.bytes (texts s w m)) is
      pub names : NamesAt s w m room ids v.count
      pub from : room.at ≤ v.to
      pub upto : v.to ≤ room.lim + 1
      pub many : t.count ≡ i + length is

    pub record SomeItems (i : ℕ) (v : Written) (w : List ℕ) : Type 0 where
      pub four : Bool
      pub items : List Item
      pub left : ItemsLeft i v w four items

    -- one item was written, or refused
    unfoldable pub SteppedBy : Outcome (Unit {0}) → ℕ → Written → List ℕ → Bool → Item → List Item → Result Written Refusal → List ℕ → Type 0
    SteppedBy (yes u) i v w four x rest r w' =
        (v' : Written) × (r ≡ Ok v') × Wrote s m room t.width.bytes ids w v (alternatives_in (x ∷ [])) (levelled (x ∷ [])) v' w' × ItemsLeft (i + 1) v' w' four rest
    SteppedBy (no q sp) i v w four x rest r w' = r ≡ Err (refusal_over q sp)

    unfoldable pub ItemSteps : ℕ → Written → List ℕ → Result Written Refusal → List ℕ → Type 0
    ItemSteps i v w r w' = (four : Bool) (x : Item) (rest : List Item) → ItemsLeft i v w four (x ∷ rest) → SteppedBy (check_levels (x ∷ [])) i v w four x rest r w'

  -- the table's texts are different, and the items R stand there
  pub record GrammarStands (w : List ℕ) (four : Bool) (R : List Item) : Type 0 where
    pub laid : LevelsFit m room (m.count + alternatives_in R) (alternatives_in R) (length w)
    pub before : Before m t
    pub table : Table s w m
    pub above : Above s w m (room.lim + 16)
    pub some : 0 < m.buckets
    pub few : m.count ≤ 4294967295
    pub apart : distinct (texts s w m) ≡ true
    pub row : Row t (texts s w m) w 0 t.at R
    pub within : Each (ItemWithin four t.width.bytes (texts s w m)) R
    pub many : t.count ≡ length R

  pub record SomeGrammar (w : List ℕ) : Type 0 where
    pub four : Bool
    pub items : List Item
    pub stands : GrammarStands w four items

  -- a yes leaves the levels, a no gives the question's number and the span
  unfoldable pub LevelledBy : Outcome (Unit {0}) → List ℕ → List Item → Result Written Refusal → List ℕ → Type 0
  LevelledBy (yes u) w R r w' = (v' : Written) × (r ≡ Ok v') × Wrote s m room t.width.bytes (ids_in (texts s w m)) w (at_first m room) (alternatives_in R) (levelled R) v' w'
  LevelledBy (no q sp) w R r w' = r ≡ Err (refusal_over q sp)

  -- "14, 15, 16" of every tree that stands so, and its levels
  unfoldable pub Levels : List ℕ → Result Written Refusal → List ℕ → Type 0
  Levels w r w' = (four : Bool) (R : List Item) → GrammarStands w four R → LevelledBy (check_levels R) w R r w'
