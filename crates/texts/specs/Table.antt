-- The table of texts in work w over the tape s, and what its functions do. Assumes nothing: these are definitions.
use Rattle.std.specs.Prelude.{◌≡◌, false, ◌⊎◌, List, [], ◌∷◌, ◌++◌, ℕ, ◌+◌, ◌*◌, ◌≤◌, ◌<◌, min, length, get_or, Option, Some, None}
use Rattle.octets.specs.Working.Choice.{pick}
use Rattle.parse_tree.specs.Plain.Tree.{Text}
use Rattle.parse_tree.specs.Plain.Texts.{has, number}
use Rattle.texts.specs.declared.Map.{Map}
use Rattle.texts.specs.Hash.{hash_of}
use Rattle.texts.specs.Fields.{mark_at, hash_at, cell_at, Chained, RecordsKept, RecordWritten}
use Rattle.texts.specs.Texts.{marked_text, Whole, Behind, texts_of}

-- the texts by number
unfoldable pub texts : List ℕ → List ℕ → Map → List Text
texts s w m = texts_of s w m.base m.count

-- how many of k texts are in chains: a link has four bytes
unfoldable pub linked : ℕ → ℕ
linked k = min k 4294967295

-- what `put_record` does: the k-th record is written, and then comes to the chains if they can hold it
pub record RecordPut (w : List ℕ) (b n k x h c : ℕ) (w' : List ℕ) : Type 0 where
  pub between : List ℕ
  pub written : RecordWritten w b k x h c between
  pub kept : RecordsKept between w' b (k + 1) n
  pub chained : Chained w' b n (linked (k + 1))

-- THE INVARIANT: the records say texts that stand whole, and from the buckets' heads the links pass just those whose hash falls there
pub record Table (s w : List ℕ) (m : Map) : Type 0 where
  pub narrow : m.buckets ≤ 4294967295
  pub room : m.base + 24 * m.count ≤ length w
  pub wide : m.base + 24 * m.buckets ≤ length w
  pub whole : (i : ℕ) → i < m.count → Whole s w (mark_at w m.base i)
  pub hashes : (i : ℕ) → i < m.count → hash_at w m.base i ≡ hash_of (marked_text s w (mark_at w m.base i))
  pub chained : Chained w m.base m.buckets (linked m.count)

-- the texts that stand in work stand from z on
pub record Above (s w : List ℕ) (m : Map) (z : ℕ) : Type 0 where
  pub above : (i : ℕ) → i < m.count → Behind s z (mark_at w m.base i)

-- w and w' are the same from a up to e
pub record Agree (w w' : List ℕ) (a e : ℕ) : Type 0 where
  pub agree : (i : ℕ) → a ≤ i → i < e → get_or w' i 0 ≡ get_or w i 0

-- the same texts, with the same marks and cells
pub record Stays (s w : List ℕ) (m : Map) (w' : List ℕ) (m' : Map) : Type 0 where
  pub base : m'.base ≡ m.base
  pub count : m'.count ≡ m.count
  pub table : Table s w' m'
  pub same : texts s w' m' ≡ texts s w m
  pub marks : (i : ℕ) → i < m.count → mark_at w' m.base i ≡ mark_at w m.base i
  pub cells : (i : ℕ) → i < m.count → cell_at w' m.base i ≡ cell_at w m.base i

-- a cell more is told, and nothing else changed
pub record Celled (s w : List ℕ) (m : Map) (k v : ℕ) (w' : List ℕ) : Type 0 where
  pub table : Table s w' m
  pub same : texts s w' m ≡ texts s w m
  pub marks : (i : ℕ) → i < m.count → mark_at w' m.base i ≡ mark_at w m.base i
  pub cell : cell_at w' m.base k ≡ v
  pub cells : (i : ℕ) → (i ≡ k → ⊥) → cell_at w' m.base i ≡ cell_at w m.base i
  pub before : (i : ℕ) → i < m.base + 24 * k → get_or w' i 0 ≡ get_or w i 0
  pub after : (i : ℕ) → m.base + 24 * k + 24 ≤ i → get_or w' i 0 ≡ get_or w i 0

-- from w to w' nothing changed but cells
pub record Recelled (s w : List ℕ) (m : Map) (w' : List ℕ) : Type 0 where
  pub long : length w' ≡ length w
  pub table : Table s w' m
  pub same : texts s w' m ≡ texts s w m
  pub marks : (k : ℕ) → k < m.count → mark_at w' m.base k ≡ mark_at w m.base k
  pub others : (i : ℕ) → (i < m.base) ⊎ (m.base + 24 * m.count ≤ i) → get_or w' i 0 ≡ get_or w i 0

-- ---- `find`
pub record Is (ts : List Text) (t : Text) (k : ℕ) : Type 0 where
  pub below : k < length ts
  pub text : get_or ts k [] ≡ t

unfoldable pub Finds : List Text → Text → Option ℕ → Type 0
Finds ts t (Some k) = Is ts t k
Finds ts t None = has t ts ≡ false

-- the answer where no two texts are equal
unfoldable pub found_in : List Text → Text → Option ℕ
found_in ts t = pick (has t ts) (Some (number ts t)) None

-- ---- `enter`: what it asks, with a bound of the records from which on all texts in work stand
pub record Entering (s w : List ℕ) (m : Map) (x h : ℕ) : Type 0 where
  pub low : ℕ
  pub table : Table s w m
  pub above : Above s w m low
  pub some : 0 < m.buckets
  pub room : m.base + 24 * m.count + 24 ≤ length w
  pub roof : m.base + 24 * m.count + 24 ≤ low
  pub wide : m.base + 24 * m.buckets ≤ low
  pub whole : Whole s w x
  pub behind : Behind s low x
  pub hash : h ≡ hash_of (marked_text s w x)

-- and what it leaves
pub record Entered (s w : List ℕ) (m : Map) (x c : ℕ) (m' : Map) (w' : List ℕ) : Type 0 where
  pub base : m'.base ≡ m.base
  pub count : m'.count ≡ m.count + 1
  pub buckets : m'.buckets ≡ m.buckets
  pub table : Table s w' m'
  pub more : texts s w' m' ≡ texts s w m ++ (marked_text s w x ∷ [])
  pub mark : mark_at w' m.base m.count ≡ x
  pub marks : (i : ℕ) → i < m.count → mark_at w' m.base i ≡ mark_at w m.base i
  pub cell : cell_at w' m.base m.count ≡ c
  pub cells : (i : ℕ) → i < m.count → cell_at w' m.base i ≡ cell_at w m.base i
  pub before : (i : ℕ) → i < m.base → get_or w' i 0 ≡ get_or w i 0
  pub after : (i : ℕ) → m.base + 24 * m.count + 24 ≤ i → m.base + 24 * m.buckets ≤ i → get_or w' i 0 ≡ get_or w i 0

-- ---- `start`: no texts yet
pub record Started (s w : List ℕ) (b n : ℕ) (m : Map) (w' : List ℕ) : Type 0 where
  pub base : m.base ≡ b
  pub count : m.count ≡ 0
  pub buckets : m.buckets ≡ linked n
  pub table : Table s w' m
  pub before : (i : ℕ) → i < b → get_or w' i 0 ≡ get_or w i 0
  pub after : (i : ℕ) → b + 24 * n ≤ i → get_or w' i 0 ≡ get_or w i 0

-- ---- `spread`: a bucket for each text
pub record Spreading (s w : List ℕ) (m : Map) : Type 0 where
  pub low : ℕ
  pub table : Table s w m
  pub above : Above s w m low
  pub roof : m.base + 24 * m.count ≤ low

pub record Spread (s w : List ℕ) (m m' : Map) (w' : List ℕ) : Type 0 where
  pub buckets : m'.buckets ≡ linked m.count
  pub stays : Stays s w m w' m'
  pub before : (i : ℕ) → i < m.base → get_or w' i 0 ≡ get_or w i 0
  pub after : (i : ℕ) → m.base + 24 * m.count ≤ i → get_or w' i 0 ≡ get_or w i 0

-- ---- `grow`: the records up to n are written, and come to the texts
pub record Growing (s w : List ℕ) (m : Map) (n : ℕ) : Type 0 where
  pub low : ℕ
  pub table : Table s w m
  pub upto : m.count ≤ n
  pub some : 0 < m.buckets
  pub room : m.base + 24 * n ≤ length w
  pub roof : m.base + 24 * n ≤ low
  pub wide : m.base + 24 * m.buckets ≤ low
  pub whole : (i : ℕ) → i < n → Whole s w (mark_at w m.base i)
  pub behind : (i : ℕ) → i < n → Behind s low (mark_at w m.base i)
  pub hashes : (i : ℕ) → i < n → hash_at w m.base i ≡ hash_of (marked_text s w (mark_at w m.base i))

pub record Grown (s w : List ℕ) (m : Map) (n : ℕ) (m' : Map) (w' : List ℕ) : Type 0 where
  pub base : m'.base ≡ m.base
  pub count : m'.count ≡ n
  pub buckets : m'.buckets ≡ m.buckets
  pub table : Table s w' m'
  pub same : texts s w' m' ≡ texts_of s w m.base n
  pub marks : (i : ℕ) → mark_at w' m.base i ≡ mark_at w m.base i
  pub cells : (i : ℕ) → cell_at w' m.base i ≡ cell_at w m.base i
  pub before : (i : ℕ) → i < m.base → get_or w' i 0 ≡ get_or w i 0
  pub after : (i : ℕ) → m.base + 24 * n ≤ i → m.base + 24 * m.buckets ≤ i → get_or w' i 0 ≡ get_or w i 0
