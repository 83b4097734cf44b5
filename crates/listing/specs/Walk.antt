-- Alternatives and items that stand in work w, and their text. s is the tape; `good` says what is within limits and `bytes` how one is written, both by the texts.
-- Assumes nothing: these are definitions.
use Rattle.std.specs.Prelude.{◌≡◌, false, List, ℕ, ◌*◌, ◌≤◌, length}
use Rattle.octets.specs.Plain.Runs.{Lies}
use Rattle.parse_tree.specs.Plain.Tree.{Text, Alternative, Item, Stage}
use Rattle.parse_tree.specs.Plain.Reading.{Reading, got, refused}
use Rattle.parse_tree.specs.Plain.WriteTape.{bytes_of_each}
use Rattle.parse_tree.specs.Working.Decode.{decode_any}
use Rattle.parse_tree.specs.Working.Within.{Each, AlternativeWithin, ItemWithin}
use Rattle.texts.specs.declared.Map.{Map}
use Rattle.texts.specs.Table.{texts}
use Rattle.passes.specs.Outcome.{yes}
use Rattle.precedence.specs.Write.{Puts}
use Rattle.settling.specs.declared.Printed.{Printed}
use Rattle.settling.specs.Print.{Printable}
use Rattle.listing.specs.Listing.{listed}
use Rattle.listing.specs.Tree.{head_text}

unfoldable pub AlternativeGood : ℕ → List Text → Alternative → Type 0
AlternativeGood wd ts a = AlternativeWithin false wd ts a

unfoldable pub ItemGood : ℕ → List Text → Item → Type 0
ItemGood wd ts x = ItemWithin false wd ts x

module _ {A : Type 0} (good : List Text → A → Type 0) (bytes : List Text → A → List ℕ) (s w : List ℕ) (m : Map) where
  -- x stands from `at` up to e
  pub record OneStands (at e : ℕ) (x : A) : Type 0 where
    pub within : good (texts s w m) x
    pub lies : Lies w at (bytes (texts s w m) x) e

  -- some, one behind another
  pub record AllStand (at e : ℕ) (xs : List A) : Type 0 where
    pub within : Each (good (texts s w m)) xs
    pub lies : Lies w at (bytes_of_each (bytes (texts s w m)) xs) e

  -- there is one, which ends at z or before
  pub record SomeOne (at z : ℕ) : Type 0 where
    pub end : ℕ
    pub element : A
    pub stands : OneStands at end element
    pub below : end ≤ z

  -- there are n of them
  pub record SomeAll (n at z : ℕ) : Type 0 where
    pub end : ℕ
    pub elements : List A
    pub many : length elements ≡ n
    pub stand : AllStand at end elements
    pub below : end ≤ z

  -- whatever stands there, its text was put; r is the place behind it, and behind what was put
  pub record ShowsOne (shows : A → Text) (at lim to : ℕ) (r : Printed) (w' : List ℕ) : Type 0 where
    pub put : List ℕ
    pub puts : Puts w lim to put r.to w'
    pub each : (e : ℕ) (x : A) → OneStands at e x → e ≤ to → (r.at ≡ e) × (put ≡ shows x)

  -- whatever n stand there
  pub record ShowsAll (shows : A → Text) (n at lim to : ℕ) (r : Printed) (w' : List ℕ) : Type 0 where
    pub put : List ℕ
    pub puts : Puts w lim to put r.to w'
    pub each : (e : ℕ) (xs : List A) → length xs ≡ n → AllStand at e xs → e ≤ to → (r.at ≡ e) × (put ≡ bytes_of_each shows xs)

-- the line of the nonterminal at a place was put, and one may print on
pub record PutsHead (s w : List ℕ) (m : Map) (wd at lim to r : ℕ) (w' : List ℕ) : Type 0 where
  pub puts : Puts w lim to (head_text wd (texts s w m) w at) r w'
  pub printable : Printable s w' m wd lim r

-- ---- the tape of a tree
-- xs was put to some work of n bytes from `to` on; r is the cursor, w' what is left
pub record PutsFrom (n to : ℕ) (xs : List ℕ) (r : ℕ) (w' : List ℕ) : Type 0 where
  pub work : List ℕ
  pub long : length work ≡ n
  pub puts : Puts work n to xs r w'

-- by what was read of the tape of t bytes: its listing, behind eight bytes for each of the tape's; nothing, if it is none of a tree
unfoldable pub ListsRead : Reading Stage → ℕ → ℕ → ℕ → List ℕ → Type 0
ListsRead (got g e) t n r w' = PutsFrom n (8 * t) (listed (yes g)) r w'
ListsRead (refused k p) t n r w' = r ≡ 8 * t

-- work has n bytes
unfoldable pub ListsTree : List ℕ → ℕ → ℕ → List ℕ → Type 0
ListsTree s n r w' = ListsRead (decode_any s) (length s) n r w'
