-- Items that stand one behind another in work, and the list of their places. w is work before and w' after, wd the width of an atom's number in bytes. Assumes nothing: these are definitions.
use Rattle.std.specs.Prelude.{◌≡◌, Bool, ◌⊎◌, List, ℕ, ◌+◌, ◌*◌, ◌^◌, ◌≤◌, ◌<◌, length, take, get_or}
use Rattle.octets.specs.Plain.Numbers.{le_at}
use Rattle.octets.specs.Plain.Runs.{Lies}
use Rattle.parse_tree.specs.Plain.Tree.{Text, Item}
use Rattle.parse_tree.specs.Plain.WriteTape.{bytes_of_each}
use Rattle.parse_tree.specs.Working.Encode.{item_bytes}
use Rattle.parse_tree.specs.Working.Within.{Each, ItemWithin}

-- the items `is`, whose names are numbers in ts, stand from `at` up to `end`, and the list of their places fits before them
pub record Listable (w : List ℕ) (wd at end list : ℕ) (four : Bool) (ts : List Text) (is : List Item) : Type 0 where
  pub narrow : 2 ≤ wd
  pub wide : wd ≤ 3
  pub lies : Lies w at (bytes_of_each (item_bytes wd ts) is) end
  pub within : Each (ItemWithin four wd ts) is
  pub fits : list + 8 * length is ≤ at
  pub inside : end + 16 ≤ length w
  pub short : length w < 256 ^ 8

pub record SomeListed (w : List ℕ) (wd at end list : ℕ) : Type 0 where
  pub four : Bool
  pub texts : List Text
  pub items : List Item
  pub listable : Listable w wd at end list four texts items

-- r is how many they are, and their places are listed; nothing else changed
pub record ListedItems (w : List ℕ) (wd list : ℕ) (ts : List Text) (is : List Item) (r : ℕ) (w' : List ℕ) : Type 0 where
  pub many : r ≡ length is
  pub places : (i : ℕ) → i < length is → le_at 8 w' (list + 8 * i) ≡ length (bytes_of_each (item_bytes wd ts) (take i is))
  pub long : length w' ≡ length w
  pub others : (i : ℕ) → (i < list) ⊎ (list + 8 * length is ≤ i) → get_or w' i 0 ≡ get_or w i 0

-- whatever items stand there
unfoldable pub ListsItems : List ℕ → ℕ → ℕ → ℕ → ℕ → ℕ → List ℕ → Type 0
ListsItems w wd at end list r w' = (four : Bool) (ts : List Text) (is : List Item) → Listable w wd at end list four ts is → ListedItems w wd list ts is r w'
