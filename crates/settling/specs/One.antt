-- One new text of a round: the entry of the list that describes it, its length, its atom and its record. s is the tape, w is work before and w' after.
-- Assumes nothing: these are definitions.
use Rattle.std.specs.Prelude.{◌≡◌, ◌⊎◌, List, ℕ, ◌+◌, ◌-◌, ◌*◌, ◌/◌, ◌%◌, ◌≤◌, ◌<◌, eqb, length, get_or}
use Rattle.octets.specs.Plain.Runs.{Lies}
use Rattle.octets.specs.Working.Choice.{pick}
use Rattle.octets.specs.Working.Stores.{store}
use Rattle.parse_tree.specs.Plain.Tree.{Text}
use Rattle.parse_tree.specs.Working.Encode.{atom_bytes}
use Rattle.texts.specs.Fields.{mark_at, hash_at, cell_at}
use Rattle.texts.specs.Forms.{stop}
use Rattle.texts.specs.Hash.{hash_of}
use Rattle.texts.specs.Table.{Above}
use Rattle.expander.specs.declared.Ground.{Ground}
use Rattle.expander.specs.Ground.{size_in, top_of, key_at, list_place, list_at, printed_at, KeyAt, Grounded}
use Rattle.expander.specs.Names.{described_by}
use Rattle.settling.specs.Copied.{SaidIn}

-- t was put as an atom that ends at `end`, and r is its hash
pub record TextPut (w : List ℕ) (t : Text) (end r : ℕ) (w' : List ℕ) : Type 0 where
  pub bytes : w' ≡ store w (end - (length t + 3)) (atom_bytes 2 t)
  pub hash : r ≡ hash_of t

-- an entry v of the list: a pushed symbol whose record says the hash and the length of its print, or a built-in text
pub record Entry (s w : List ℕ) (g : Ground) (v : ℕ) : Type 0 where
  pub room : v % 2 ≡ 0 → v / 2 < size_in g / 9
  pub key : v % 2 ≡ 0 → KeyAt s w g (key_at w g (v / 2))
  pub hash : v % 2 ≡ 0 → hash_at w g.keys (v / 2) ≡ hash_of (printed_at s w g (key_at w g (v / 2)))
  pub size : v % 2 ≡ 0 → cell_at w g.keys (v / 2) ≡ stop (length (printed_at s w g (key_at w g (v / 2))))
  pub built : v % 2 ≡ 1 → v / 2 < 9

-- its text has len bytes, and can be put so that it ends at `end`; new texts are written from number `first` on
pub record Puttable (s w : List ℕ) (g : Ground) (first v len end : ℕ) : Type 0 where
  pub ground : Grounded s w g
  pub entry : Entry s w g v
  pub is : len ≡ length (described_by s w g v)
  pub short : len < 65536
  pub items : g.end + (len + 3) ≤ end
  pub top : top_of g + (len + 3) ≤ end
  pub inside : end ≤ length w
  pub above : Above s w g.m end
  pub behind : g.end + 16 ≤ length w
  pub said : v % 2 ≡ 0 → SaidIn s w (record { g = g; first = first; lim = end }) (key_at w g (v / 2))

-- the text of the i-th entry can be put so that it ends at `end`, and its record can be written
pub record TextReady (s w : List ℕ) (g : Ground) (i end : ℕ) : Type 0 where
  pub ground : Grounded s w g
  pub entry : Entry s w g (list_at w g i)
  pub short : length (described_by s w g (list_at w g i)) < 65536
  pub place : list_place g i + 8 ≤ g.keys
  pub record_place : g.m.base + 24 * (g.m.count + i) + 24 ≤ g.keys
  pub items : g.end + (length (described_by s w g (list_at w g i)) + 3) ≤ end
  pub top : top_of g + (length (described_by s w g (list_at w g i)) + 3) ≤ end
  pub far : 8 * length s + (length (described_by s w g (list_at w g i)) + 3) ≤ end
  pub inside : end ≤ length w
  pub above : Above s w g.m end
  pub behind : g.end + 16 ≤ length w
  pub said : list_at w g i % 2 ≡ 0 → SaidIn s w (record { g = g; first = g.m.count + i + 1; lim = end }) (key_at w g (list_at w g i / 2))

-- the cell of the text that an entry v describes: a print counts as pushed, a built-in text doesn't
unfoldable pub new_cell : ℕ → ℕ
new_cell v = pick (eqb (v % 2) 0) 2147483648 0

-- t was put so, from r on, and its record says so; nothing else changed
pub record Written (s w : List ℕ) (g : Ground) (i : ℕ) (t : Text) (end r : ℕ) (w' : List ℕ) : Type 0 where
  pub long : length w' ≡ length w
  pub place : r + (length t + 3) ≡ end
  pub lies : Lies w' r (atom_bytes 2 t) end
  pub mark : mark_at w' g.m.base (g.m.count + i) ≡ r - 4 * length s
  pub hash : hash_at w' g.m.base (g.m.count + i) ≡ hash_of t
  pub cell : cell_at w' g.m.base (g.m.count + i) ≡ new_cell (list_at w g i)
  pub others : (j : ℕ) → (j < g.m.base + 24 * (g.m.count + i)) ⊎ ((g.m.base + 24 * (g.m.count + i) + 24 ≤ j) × (j < r)) ⊎ (end ≤ j) → get_or w' j 0 ≡ get_or w j 0
