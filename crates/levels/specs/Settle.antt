-- The names of levels settled in work: their atoms written so that they end at a place, and their records told. s is the tape, w is work before and w' after. Assumes nothing: these are definitions.
use Rattle.std.specs.Prelude.{◌≡◌, false, ◌⊎◌, List, ℕ, ◌+◌, ◌-◌, ◌*◌, ◌/◌, ◌≤◌, ◌<◌, length, get_or}
use Rattle.octets.specs.Plain.Runs.{Lies}
use Rattle.octets.specs.Working.Stores.{store}
use Rattle.parse_tree.specs.Plain.Tree.{Text}
use Rattle.parse_tree.specs.Plain.WriteTape.{bytes_of_each}
use Rattle.parse_tree.specs.Working.Encode.{atom_bytes}
use Rattle.texts.specs.Atoms.{some_long}
use Rattle.texts.specs.declared.Map.{Map}
use Rattle.texts.specs.Fields.{mark_at}
use Rattle.texts.specs.Texts.{Whole}
use Rattle.texts.specs.Table.{Table, Above, texts}
use Rattle.precedence.specs.Names.{Naming, named_text, named_texts}
use Rattle.levels.specs.Fresh.{new_texts}

-- the bytes of the names described up to n, with their commands
unfoldable pub name_bytes : List ℕ → List ℕ → Map → ℕ → List ℕ
name_bytes s w m n = bytes_of_each (atom_bytes 2) (new_texts s w m n)

-- ---- one name

-- the number of the text that name k begins with
abbrev pub base_of : List ℕ → Map → ℕ → ℕ
base_of w m k = mark_at w m.base k / 4294967296

-- that text stands on the tape, and the name can be written so that it ends at q, behind its record
pub record NameReady (s w : List ℕ) (m : Map) (k q : ℕ) : Type 0 where
  pub new : m.count ≤ k
  pub base : base_of w m k < m.count
  pub on_tape : mark_at w m.base (base_of w m k) < 4 * length s
  pub whole : Whole s w (mark_at w m.base (base_of w m k))
  pub short : length (named_text s w m k) < 65536
  pub behind : m.base + 24 * k + 24 + (length (named_text s w m k) + 3) ≤ q
  pub far : 8 * length s + (length (named_text s w m k) + 3) ≤ q
  pub inside : q ≤ length w

-- t was put as an atom from r up to q
pub record NamePut (w : List ℕ) (t : Text) (q r : ℕ) (w' : List ℕ) : Type 0 where
  pub bytes : w' ≡ store w r (atom_bytes 2 t)
  pub place : r + (length t + 3) ≡ q

-- t stands so, and the mark of record k says so; nothing else changed
pub record NameSettled (s w : List ℕ) (m : Map) (k : ℕ) (t : Text) (q r : ℕ) (w' : List ℕ) : Type 0 where
  pub long : length w' ≡ length w
  pub place : r + (length t + 3) ≡ q
  pub lies : Lies w' r (atom_bytes 2 t) q
  pub mark : mark_at w' m.base k ≡ r - 4 * length s
  pub others : (i : ℕ) → (i < m.base + 24 * k) ⊎ ((m.base + 24 * k + 8 ≤ i) × (i < r)) ⊎ (q ≤ i) → get_or w' i 0 ≡ get_or w i 0

-- ---- all names

-- all texts of the table stand on the tape, and the names can be written so that they end at `end`
pub record SettlingNames (s w : List ℕ) (m : Map) (n end : ℕ) : Type 0 where
  pub naming : Naming s w m n
  pub on_tape : (z : ℕ) → Above s w m z
  pub narrower : m.buckets ≤ m.count
  pub short : some_long (new_texts s w m n) ≡ false
  pub records : m.base + 24 * n + length (name_bytes s w m n) ≤ end
  pub far : 8 * length s + length (name_bytes s w m n) ≤ end
  pub inside : end ≤ length w

-- the table with the names
abbrev pub with_names : Map → ℕ → Map
with_names m n = record { base = m.base; count = n; buckets = m.buckets }

-- r is where the first stands; the names are texts of the table; what stands outside of the records and the names is as it was
pub record SettledNames (s w : List ℕ) (m : Map) (n end r : ℕ) (w' : List ℕ) : Type 0 where
  pub long : length w' ≡ length w
  pub table : Table s w' (with_names m n)
  pub texts-are : texts s w' (with_names m n) ≡ named_texts s w m n
  pub first : r + length (name_bytes s w m n) ≡ end
  pub lies : Lies w' r (name_bytes s w m n) end
  pub above : Above s w' (with_names m n) r
  pub others : (i : ℕ) → (i < m.base) ⊎ ((m.base + 24 * n ≤ i) × (i < r)) ⊎ (end ≤ i) → get_or w' i 0 ≡ get_or w i 0
