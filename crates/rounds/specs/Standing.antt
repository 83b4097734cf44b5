-- What stands in work where a round begins. s is the tape, w is work. Assumes nothing: these are definitions.
use Rattle.std.specs.Prelude.{◌≡◌, true, false, ◌⊎◌, List, [], ◌++◌, ℕ, ◌+◌, ◌-◌, ◌*◌, ◌/◌, ◌^◌, ◌≤◌, ◌<◌, leb, length, get_or}
use Rattle.std.proofs.Math.Option.{some}
use Rattle.octets.specs.Plain.Runs.{Lies}
use Rattle.parse_tree.specs.Plain.Tree.{Text, Nonterminal, Item, Stage}
use Rattle.parse_tree.specs.Plain.Texts.{has}
use Rattle.parse_tree.specs.Plain.WriteTape.{bytes_of_each}
use Rattle.parse_tree.specs.Working.Encode.{atom_bytes, item_bytes, stage_bytes}
use Rattle.parse_tree.specs.Working.Within.{Each, ItemWithin}
use Rattle.texts.specs.declared.Map.{Map}
use Rattle.texts.specs.Fields.{cell_at}
use Rattle.texts.specs.Table.{Table, Above, texts}
use Rattle.passes.specs.Outcome.{Tree}
use Rattle.passes.specs.Macros.{macro_in, without_macros}
use Rattle.passes.specs.Sizes.{stage_fits}
use Rattle.resolve.specs.declared.Grammar.{Grammar}
use Rattle.resolve.specs.Items.{Row}
use Rattle.replacing.specs.Sound.{Key}
use Rattle.macro_expand.specs.Drain.{DefinedAt}
use Rattle.rounds.specs.declared.Expander.{Expander}
use Rattle.rounds.specs.declared.Room.{Room}
use Rattle.rounds.specs.declared.State.{State}
use Rattle.rounds.specs.Begins.{BeginsRound}
use Rattle.rounds.specs.Step.{RoundInput}

-- the map of work, of so many bytes: the records of texts stand from `base` on, behind eight times the items' bytes; x, y and the end behind one another
pub record Mapped (s : List ℕ) (size : ℕ) (room : Room) (base : ℕ) : Type 0 where
  pub items : ℕ
  pub tape : room.first + items ≡ length s
  pub base_is : base ≡ 8 * items
  pub x_is : room.x ≡ 8 * length s + (5 * room.cap - 2 * (room.cap / 9))
  pub y_is : room.y ≡ room.x + 2 * room.cap
  pub end_is : room.end ≡ room.y + (room.cap + 2 * (room.cap / 9))
  pub inside : room.end ≤ size
  pub short : size < 256 ^ 8

-- the items with the definitions of macros; the tape's texts, and those that no tape had; the items already replaced, and those to be replaced, in the first round with the definitions; the keys met so far
pub record RoundTrees : Type 0 where
  pub definitions : Tree
  pub first : List Text
  pub past : List Text
  pub old : List Item
  pub items : List Item
  pub keys : List Text
  -- how many names of macros' levels are among the texts that no tape had
  pub owed : ℕ
  -- how many rounds are done
  pub rounds : ℕ

abbrev pub round_atoms : RoundTrees → List Text
round_atoms T = T.first ++ T.past

-- what the round begins with
abbrev pub input_of : RoundTrees → RoundInput
input_of T = record { atoms = round_atoms T; old = T.old; fresh = without_macros T.items; keys = T.keys }

-- the stage before
abbrev pub stage_before : RoundTrees → Stage
stage_before T = record { atoms = round_atoms T; items = T.old ++ T.items }

-- the trees of a round, whose stage before was admitted
pub record GrownTrees (cap : ℕ) (T : RoundTrees) : Type 0 where
  pub begins : BeginsRound 2 T.definitions T.old (without_macros T.items) T.keys (round_atoms T) T.past T.owed
  pub within : Each (ItemWithin false 2 (round_atoms T)) T.items
  pub fits : stage_fits 2 (stage_before T) ≡ true
  pub size : length (stage_bytes 2 (stage_before T)) ≤ cap
  -- an item of a macro's level has 36 bytes at least
  pub owed_cap : 36 * T.owed ≤ cap
  -- a name is among the tape's texts
  pub name : Text
  pub named : has name T.first ≡ true
  pub long : 1 ≤ length name

-- the definitions of macros: where they stand nothing is written, and the cell of a macro's name has the index of its definition, and one
pub record DefinesMacros (w : List ℕ) (room : Room) (t : Grammar) (m : Map) (ts : List Text) (G : Tree) : Type 0 where
  pub row : Row t ts w 0 t.at G
  pub within : Each (ItemWithin false 2 ts) G
  pub many : t.count ≡ length G
  pub width : t.width.bytes ≡ 2
  pub off : (t.end ≤ m.base) ⊎ ((room.x + room.cap ≤ t.at) × (t.end ≤ room.y))
  pub list : t.list + 8 * t.count ≤ m.base
  pub found : (n : Text) (D : Nonterminal) → macro_in G n ≡ some D → DefinedAt ts m w G n D

-- the texts of a stage, with the keys K met so far
pub record Tabled (s w : List ℕ) (m : Map) (low : ℕ) (ts K : List Text) : Type 0 where
  pub table : Table s w m
  pub some : 0 < m.buckets
  pub narrower : m.buckets ≤ m.count
  pub texts-are : texts s w m ≡ ts
  pub above : Above s w m low
  -- of the print of a symbol that is expanded, the cell's highest bit says whether it was met
  pub marks : (k : ℕ) → k < m.count → Key (get_or ts k []) → leb 2147483648 (cell_at w m.base k) ≡ has (get_or ts k []) K

-- items already replaced stand from y on; new texts, the last first, fill the bytes up to the end
pub record Stored (w : List ℕ) (room : Room) (z : State) (ts past : List Text) (old : List Item) : Type 0 where
  pub old_lie : Lies w room.y (bytes_of_each (item_bytes 2 ts) old) z.done
  pub past_fills : room.end ≡ z.low + length (bytes_of_each (atom_bytes 2) past)

-- the expander's numbers: nothing is pending; the items are those that the rounds began with, the definitions of macros among them, and those appended
pub record Tallied (e : Expander) (T : RoundTrees) : Type 0 where
  pub height : e.height ≡ 0
  pub round : e.round ≡ T.rounds
  pub items : e.items + length (without_macros T.definitions) ≡ length T.definitions + (length T.old + length (without_macros T.items))
  -- each round appended one at least
  pub few : e.round ≤ e.items

-- THE INVARIANT of rounds
pub record RoundStands (s w : List ℕ) (room : Room) (t : Grammar) (z : State) (T : RoundTrees) : Type 0 where
  pub numbers : Tallied z.expander T
  pub map : Mapped s (length w) room z.m.base
  pub first : room.first ≡ length (bytes_of_each (atom_bytes 2) T.first)
  pub grown : GrownTrees room.cap T
  pub tabled : Tabled s w z.m z.low (round_atoms T) T.keys
  pub defines : DefinesMacros w room t z.m (round_atoms T) T.definitions
  pub stored : Stored w room z (round_atoms T) T.past T.old
  pub items_lie : Lies w z.from (bytes_of_each (item_bytes 2 (round_atoms T)) T.items) z.end
  -- an item stands there
  pub long : 9 ≤ z.end - z.from
  pub off : (z.end ≤ z.m.base) ⊎ ((room.x ≤ z.from) × (z.end ≤ room.y))
