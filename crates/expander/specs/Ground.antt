-- A round's ground in work w: the unreplaced items, the records of pushed symbols, the slots, the list of new texts. s is the tape. Assumes nothing: these are definitions.
use Rattle.std.specs.Prelude.{◌≡◌, Bool, true, false, ◌⊎◌, List, ℕ, ◌+◌, ◌-◌, ◌*◌, ◌/◌, ◌^◌, ◌≤◌, ◌<◌, leb, length, get_or}
use Rattle.std.proofs.Math.Option.{Option}
use Rattle.octets.specs.Plain.Numbers.{le_at}
use Rattle.octets.specs.Plain.Runs.{part}
use Rattle.parse_tree.specs.Plain.Tree.{Text, Sym}
use Rattle.parse_tree.specs.Plain.Texts.{distinct}
use Rattle.texts.specs.Fields.{mark_at, hash_at, cell_at, Chained}
use Rattle.texts.specs.Forms.{stop}
use Rattle.texts.specs.Hash.{hash_of}
use Rattle.texts.specs.Table.{Table, Above, texts, linked}
use Rattle.resolve.specs.Whole.{Apart}
use Rattle.replacing.specs.Prints.{sym_at, print_at, same_print, text_is}
use Rattle.replacing.specs.Sound.{Firm}
use Rattle.expander.specs.declared.Ground.{Ground}
use Rattle.expander.specs.declared.slots.Noted.{Noted}

-- ---- where things stand

-- how many bytes the items have
unfoldable pub size_in : Ground → ℕ
size_in g = g.end - g.from

unfoldable pub stage_in : List ℕ → Ground → List ℕ
stage_in w g = part g.from g.end w

-- a slot as it stands in work: twice the number of a text, or twice that of a record, and one
abbrev pub slot_code : Noted → ℕ
slot_code (Noted.Text k) = 2 * k
slot_code (Noted.Pushed j) = 2 * j + 1

-- the slot of the symbol at a place
abbrev pub slot_place : Ground → ℕ → ℕ
slot_place g p = g.slots + 8 * (p / 9)

abbrev pub slot_at : List ℕ → Ground → ℕ → ℕ
slot_at w g p = le_at 8 w (slot_place g p)

-- behind the slots
unfoldable pub top_of : Ground → ℕ
top_of g = g.slots + 8 * (size_in g / 9)

-- the place of the j-th symbol that was pushed
unfoldable pub key_at : List ℕ → Ground → ℕ → ℕ
key_at w g j = mark_at w g.keys j

-- where the entry of the i-th new text stands in the list; what it says: Entries
abbrev pub list_place : Ground → ℕ → ℕ
list_place g i = g.m.base + 24 * g.m.count + 8 * i

abbrev pub list_at : List ℕ → Ground → ℕ → ℕ
list_at w g i = le_at 8 w (list_place g i)

-- if it is a print: the place of its symbol
unfoldable pub new_at : List ℕ → Ground → ℕ → ℕ
new_at w g i = key_at w g (list_at w g i / 2)

-- whether text k was pushed in an earlier round
unfoldable pub pushed_text : List ℕ → Ground → ℕ → Bool
pushed_text w g k = leb 2147483648 (cell_at w g.m.base k)

-- ---- symbols by their places
module _ (s w : List ℕ) (g : Ground) where
  abbrev pub symbol_in : ℕ → Sym
  symbol_in p = sym_at false g.width.bytes (stage_in w g) (texts s w g.m) p

  abbrev pub printed_at : ℕ → Text
  printed_at p = print_at false g.width.bytes (stage_in w g) (texts s w g.m) p

  -- a symbol that is expanded stands there
  abbrev pub KeyAt : ℕ → Type 0
  KeyAt p = Firm false g.width.bytes (stage_in w g) (texts s w g.m) p

  abbrev pub same_at : ℕ → ℕ → Bool
  same_at p q = same_print false g.width.bytes (stage_in w g) (texts s w g.m) p q

  abbrev pub text_in : ℕ → Option ℕ
  text_in p = text_is false g.width.bytes (stage_in w g) (texts s w g.m) p

  -- ---- the regions are apart, and the texts can be read and found
  pub record Grounded : Type 0 where
    pub table : Table s w g.m
    pub some : 0 < g.m.buckets
    pub distinct-texts : distinct (texts s w g.m) ≡ true
    pub narrow : 2 ≤ g.width.bytes
    pub wide : g.width.bytes ≤ 3
    pub ordered : g.from ≤ g.end
    pub inside : g.end ≤ length w
    pub records : g.m.base + 24 * g.m.count ≤ g.keys
    pub heads : g.m.base + 24 * g.m.buckets ≤ g.keys
    pub narrower : g.m.buckets ≤ g.m.count
    pub above : Above s w g.m (top_of g)
    pub off : Apart g.from g.end g.m.base (top_of g)
    pub fits : g.keys + 24 * (size_in g / 9) ≤ g.slots
    pub top : top_of g ≤ length w
    pub filled : 0 < g.buckets
    pub few : g.buckets ≤ size_in g / 9
    pub linkable : g.buckets ≤ 4294967295
    pub short : length w < 256 ^ 8

  -- n symbols were pushed: where they stand, hash and length of their prints, the chains of their buckets
  pub record Records (n : ℕ) : Type 0 where
    pub few : n ≤ size_in g / 9
    pub chained : Chained w g.keys g.buckets (linked n)
    pub keys : (j : ℕ) → j < n → KeyAt (key_at w g j)
    pub hashes : (j : ℕ) → j < n → hash_at w g.keys j ≡ hash_of (printed_at (key_at w g j))
    pub lengths : (j : ℕ) → j < n → cell_at w g.keys j ≡ stop (length (printed_at (key_at w g j)))

-- from w to w' nothing changed but records of pushed symbols and slots
pub record KeptAround (g : Ground) (w w' : List ℕ) : Type 0 where
  pub long : length w' ≡ length w
  pub others : (i : ℕ) → (i < g.keys) ⊎ (top_of g ≤ i) → get_or w' i 0 ≡ get_or w i 0

-- nor the list of new texts
pub record Around (g : Ground) (w w' : List ℕ) : Type 0 where
  pub long : length w' ≡ length w
  pub others : (i : ℕ) → (i < list_place g 0) ⊎ (top_of g ≤ i) → get_or w' i 0 ≡ get_or w i 0
