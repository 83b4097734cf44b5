-- The cells of the texts' records before the rounds: for the name of a macro the index of its definition, and one. s is the tape, w is work; t are the items. Assumes nothing: these are definitions.
use Rattle.std.specs.Prelude.{◌≡◌, Bool, List, ℕ, ◌+◌, ◌*◌, ◌≤◌, ◌<◌, eqb, length, get_or}
use Rattle.std.proofs.Math.Option.{some}
use Rattle.octets.specs.Working.Choice.{pick}
use Rattle.octets.specs.Plain.Numbers.{le_at, le}
use Rattle.octets.specs.Working.Stores.{store}
use Rattle.parse_tree.specs.Plain.Tree.{Text, Nonterminal, item}
use Rattle.parse_tree.specs.Plain.Texts.{number}
use Rattle.parse_tree.specs.Working.Within.{Each, ItemWithin}
use Rattle.texts.specs.declared.Map.{Map}
use Rattle.texts.specs.Fields.{cell_at}
use Rattle.texts.specs.Table.{Table, Above, Recelled, texts}
use Rattle.passes.specs.Outcome.{Tree}
use Rattle.passes.specs.Macros.{macro_in}
use Rattle.resolve.specs.declared.Grammar.{Grammar}
use Rattle.resolve.specs.Items.{item_place_in, Row}
use Rattle.resolve.specs.Whole.{Apart}
use Rattle.macro_expand.specs.Drain.{item_of}

-- ---- cells written

-- no text stands in the records
pub record Cells (s w : List ℕ) (m : Map) : Type 0 where
  pub table : Table s w m
  pub above : Above s w m (m.base + 24 * m.count)

-- what `forget` does
pub record Forgot (s w : List ℕ) (m : Map) (w' : List ℕ) : Type 0 where
  pub cells : Recelled s w m w'
  pub none : (k : ℕ) → k < m.count → cell_at w' m.base k ≡ 0

-- ---- the items

-- the items G stand in work, beside the records
pub record Items (s w : List ℕ) (m : Map) (t : Grammar) (four : Bool) (G : Tree) : Type 0 where
  pub cells : Cells s w m
  pub row : Row t (texts s w m) w 0 t.at G
  pub within : Each (ItemWithin four t.width.bytes (texts s w m)) G
  pub many : t.count ≡ length G
  pub few : t.count < 2147483647
  pub narrow : 2 ≤ t.width.bytes
  pub wide : t.width.bytes ≤ 3
  pub off : Apart t.at t.end m.base (m.base + 24 * m.count)
  pub list : t.list + 8 * t.count ≤ m.base
  pub inside : t.end ≤ length w

pub record SomeDeclared (s w : List ℕ) (m : Map) (t : Grammar) : Type 0 where
  pub four : Bool
  pub tree : Tree
  pub items : Items s w m t four tree

-- the cell of n's number has the index of its macro's definition, and one
pub record FoundAt (ts : List Text) (m : Map) (w' : List ℕ) (G : Tree) (n : Text) (D : Nonterminal) : Type 0 where
  pub index : ℕ
  pub there : item_of G index ≡ some (item D)
  pub below : number ts n < m.count
  pub cell : cell_at w' m.base (number ts n) ≡ index + 1

-- what `define` does
pub record Defined (s w : List ℕ) (m : Map) (t : Grammar) (w' : List ℕ) : Type 0 where
  pub cells : Recelled s w m w'
  pub low : (k : ℕ) → k < m.count → cell_at w' m.base k < 2147483648
  pub found : (four : Bool) (G : Tree) → Items s w m t four G → (n : Text) (D : Nonterminal) → macro_in G n ≡ some D → FoundAt (texts s w m) m w' G n D

-- what `define_items` asks: every cell is below 2^31
pub record Definable (s w : List ℕ) (m : Map) (t : Grammar) : Type 0 where
  pub some : SomeDeclared s w m t
  pub low : (k : ℕ) → k < m.count → cell_at w m.base k < 2147483648

-- ---- one item

-- the head of a nonterminal at p can be read, and its name has a record
pub record HeadAt (w : List ℕ) (m : Map) (wd p i : ℕ) : Type 0 where
  pub narrow : 2 ≤ wd
  pub wide : wd ≤ 3
  pub few : i < 2147483647
  pub head : p + 13 + wd ≤ length w
  pub name : m.base + 24 * le_at wd w (p + 9) + 24 ≤ length w

-- the same of the i-th item, where it is a nonterminal
pub record Headable (w : List ℕ) (m : Map) (t : Grammar) (i : ℕ) : Type 0 where
  pub list : t.list + 8 * t.count ≤ length w
  pub ordered : t.at ≤ t.end
  pub inside : item_place_in t w i < length w
  pub head : get_or w (item_place_in t w i) 0 ≡ 16 → HeadAt w m t.width.bytes (item_place_in t w i) i

-- work, with the cell of the name of the nonterminal at p told where it is a macro
unfoldable pub told_at : Map → ℕ → List ℕ → ℕ → ℕ → List ℕ
told_at m wd w p i = pick (eqb (get_or w (p + 10 + wd) 0) 0) w (store w (m.base + 24 * le_at wd w (p + 9) + 20) (le 4 (i + 1)))

-- the same of any item
unfoldable pub defined_at : Map → ℕ → List ℕ → ℕ → ℕ → List ℕ
defined_at m wd w p i = pick (eqb (get_or w p 0) 16) (told_at m wd w p i) w
