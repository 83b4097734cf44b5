-- The new texts of a round, once their stage is admitted: how many bytes they have, their atoms written behind one another up to a place, and their records. s is the tape, w is work; n symbols
-- were pushed, c texts are new. Assumes nothing: these are definitions.
use Rattle.std.specs.Prelude.{◌≡◌, true, false, cond, ◌||◌, ◌⊎◌, List, ℕ, ◌+◌, ◌-◌, ◌*◌, ◌%◌, ◌≤◌, ◌<◌, length, get_or, Option, Some, None}
use Rattle.octets.specs.Plain.Runs.{Lies}
use Rattle.parse_tree.specs.Plain.WriteTape.{bytes_of_each}
use Rattle.parse_tree.specs.Working.Encode.{atom_bytes}
use Rattle.parse_tree.specs.Working.Within.{Each}
use Rattle.texts.specs.Atoms.{some_long}
use Rattle.texts.specs.Fields.{cell_at}
use Rattle.texts.specs.declared.Map.{Map}
use Rattle.texts.specs.Table.{Table, Above, Stays, Recelled, texts}
use Rattle.replacing.specs.Slots.{among}
use Rattle.expander.specs.declared.Ground.{Ground}
use Rattle.expander.specs.Ground.{top_of, list_at, key_at, symbol_in, pushed_text, Grounded}
use Rattle.expander.specs.Held.{down, any_of, ref_in, is_text}
use Rattle.expander.specs.Replace.{keys_of}
use Rattle.expander.specs.Names.{listed_texts, named_in, Names}
use Rattle.settling.specs.One.{new_cell}
use Rattle.settling.specs.declared.settle.Settled.{Settled}

-- the bytes of the new texts with their commands
unfoldable pub new_bytes : List ℕ → List ℕ → Ground → ℕ → List ℕ
new_bytes s w g c = bytes_of_each (atom_bytes 2) (listed_texts s w g c)

-- ---- counted
pub record SomeNew (s w : List ℕ) (g : Ground) (n c : ℕ) : Type 0 where
  pub places : List ℕ
  pub ground : Grounded s w g
  pub names : Names s w g n c places
  pub few : c ≤ 65536

unfoldable pub Counts : List ℕ → List ℕ → Ground → ℕ → Option ℕ → Type 0
Counts s w g c r = r ≡ cond (some_long (listed_texts s w g c)) None (Some (length (new_bytes s w g c)))

-- ---- written and entered

-- the new texts can be written so that they end at `end`
pub record Settling (s w : List ℕ) (g : Ground) (n c end : ℕ) : Type 0 where
  pub places : List ℕ
  pub ground : Grounded s w g
  pub names : Names s w g n c places
  pub few : g.m.count + c ≤ 65536
  pub short : some_long (listed_texts s w g c) ≡ false
  pub records : g.m.base + 24 * (g.m.count + c) ≤ g.keys
  pub items : g.end + length (new_bytes s w g c) ≤ end
  pub top : top_of g + length (new_bytes s w g c) ≤ end
  pub far : 8 * length s + length (new_bytes s w g c) ≤ end
  pub inside : end ≤ length w
  pub above : Above s w g.m end
  pub behind : g.end + 16 ≤ length w
  -- the symbols in those that were pushed have references
  pub referred : (j : ℕ) → j < n → Each (λ q. among q places ≡ true) (keys_of g.width.bytes (texts s w g.m) (symbol_in s w g (key_at w g j)) (key_at w g j))

-- m' has the same texts, perhaps in other buckets
pub record Widens (s w : List ℕ) (m m' : Map) (w' : List ℕ) : Type 0 where
  pub long : length w' ≡ length w
  pub some : 0 < m.buckets → 0 < m'.buckets
  pub narrower : m.buckets ≤ m.count → m'.buckets ≤ m'.count
  pub stays : Stays s w m w' m'
  pub before : (i : ℕ) → i < m.base → get_or w' i 0 ≡ get_or w i 0
  pub after : (i : ℕ) → m.base + 24 * m.count ≤ i → get_or w' i 0 ≡ get_or w i 0

-- r has the table with them, and the place of the first
pub record Settles (s w : List ℕ) (g : Ground) (c end : ℕ) (r : Settled) (w' : List ℕ) : Type 0 where
  pub long : length w' ≡ length w
  pub base : r.m.base ≡ g.m.base
  pub count : r.m.count ≡ g.m.count + c
  pub some : 0 < r.m.buckets
  pub narrower : r.m.buckets ≤ r.m.count
  pub table : Table s w' r.m
  pub texts-are : texts s w' r.m ≡ named_in s w g c
  pub first : r.at ≡ end - length (new_bytes s w g c)
  pub lies : Lies w' r.at (new_bytes s w g c) end
  pub above : Above s w' r.m r.at
  -- the cells of the texts before stay, and of the new ones the prints count as pushed
  pub cells : (k : ℕ) → k < g.m.count → cell_at w' g.m.base k ≡ cell_at w g.m.base k
  pub new : (i : ℕ) → i < c → cell_at w' g.m.base (g.m.count + i) ≡ new_cell (list_at w g i)
  pub others : (i : ℕ) → (i < g.m.base) ⊎ ((g.keys ≤ i) × (i < r.at)) ⊎ (end ≤ i) → get_or w' i 0 ≡ get_or w i 0

-- ---- marked: the texts that pushed symbols have, of those that were there before

-- n symbols were pushed
pub record SomePushed (s w : List ℕ) (g : Ground) (n : ℕ) : Type 0 where
  pub count : ℕ
  pub places : List ℕ
  pub ground : Grounded s w g
  pub names : Names s w g n count places

pub record MarkedPushed (s w : List ℕ) (g : Ground) (n : ℕ) (w' : List ℕ) : Type 0 where
  pub cells : Recelled s w g.m w'
  pub pushed : (k : ℕ) → k < g.m.count → pushed_text w' g k ≡ (pushed_text w g k || any_of (λ q. is_text k (ref_in w g q)) (down (key_at w g) n))
  pub rest : (k : ℕ) → k < g.m.count → cell_at w' g.m.base k % 2147483648 ≡ cell_at w g.m.base k % 2147483648
