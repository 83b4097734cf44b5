-- The names of levels: texts that have no bytes yet, in the table of texts. Assumes nothing: these are definitions.
use Rattle.std.specs.Prelude.{◌≡◌, true, Option, Some, None, List, [], ◌∷◌, ◌++◌, ℕ, zero, suc, ◌+◌, ◌*◌, ◌/◌, ◌%◌, ◌≤◌, ◌<◌, ltb, length, get_or}
use Rattle.octets.specs.Working.Choice.{pick}
use Rattle.parse_tree.specs.Plain.Tree.{Text}
use Rattle.parse_tree.specs.Plain.Texts.{number, distinct, with_new}
use Rattle.texts.specs.declared.Map.{Map}
use Rattle.texts.specs.Hash.{hash_of}
use Rattle.texts.specs.Fields.{mark_at, hash_at, cell_at, Chained}
use Rattle.texts.specs.Texts.{marked_text, Whole}
use Rattle.texts.specs.Table.{texts, Above, Is}
use Rattle.grades.specs.Grade.{level_digits}
use Rattle.precedence.specs.declared.names.LevelName.{LevelName}

-- a text, with a level's digits behind it where there is a level
abbrev pub spelt : Text → Option ℕ → Text
spelt t (Some v) = t ++ level_digits v
spelt t None = t

-- the name of a level: the text of number b, then the level's digits
unfoldable pub level_text : List ℕ → List ℕ → Map → ℕ → ℕ → Text
level_text s w m b v = get_or (texts s w m) b [] ++ level_digits v

-- the text that a description tells
unfoldable pub described_text : List ℕ → List ℕ → Map → ℕ → Text
described_text s w m x = level_text s w m (x / 4294967296) (x % 4294967296)

-- the text of record i: one of the table, or described
unfoldable pub named_text : List ℕ → List ℕ → Map → ℕ → Text
named_text s w m i = pick (ltb i m.count) (marked_text s w (mark_at w m.base i)) (described_text s w m (mark_at w m.base i))

-- the texts of the first n records
unfoldable pub named_texts : List ℕ → List ℕ → Map → ℕ → List Text
named_texts s w m zero = []
named_texts s w m (suc n) = named_texts s w m n ++ (named_text s w m n ∷ [])

-- the texts of d records behind the table's
unfoldable pub described_texts : List ℕ → List ℕ → Map → ℕ → List Text
described_texts s w m zero = []
described_texts s w m (suc d) = described_texts s w m d ++ (described_text s w m (mark_at w m.base (m.count + d)) ∷ [])

-- THE INVARIANT: the table's texts, and names described up to record n, all in the chains
pub record Naming (s w : List ℕ) (m : Map) (n : ℕ) : Type 0 where
  pub narrow : m.buckets ≤ 4294967295
  pub some : 0 < m.buckets
  pub upto : m.count ≤ n
  pub few : n ≤ 4294967295
  pub room : m.base + 24 * n ≤ length w
  pub wide : m.base + 24 * m.buckets ≤ length w
  pub whole : (i : ℕ) → i < m.count → Whole s w (mark_at w m.base i)
  pub bases : (i : ℕ) → m.count ≤ i → i < n → mark_at w m.base i / 4294967296 < m.count
  pub hashes : (i : ℕ) → i < n → hash_at w m.base i ≡ hash_of (named_text s w m i)
  pub chained : Chained w m.base m.buckets n

-- text k of the table can be read
pub record Based (s w : List ℕ) (m : Map) (k : ℕ) : Type 0 where
  pub below : k < m.count
  pub room : m.base + 24 * k + 24 ≤ length w
  pub whole : Whole s w (mark_at w m.base k)
  pub hash : hash_at w m.base k ≡ hash_of (marked_text s w (mark_at w m.base k))

-- and text k of the table or described
pub record Spelled (s w : List ℕ) (m : Map) (k : ℕ) : Type 0 where
  pub room : m.base + 24 * k + 24 ≤ length w
  pub whole : k < m.count → Whole s w (mark_at w m.base k)
  pub base : m.count ≤ k → Based s w m (mark_at w m.base k / 4294967296)
  pub hash : hash_at w m.base k ≡ hash_of (named_text s w m k)

-- t is text k of the table, and not longer than a text can be
pub record BaseText (s w : List ℕ) (m : Map) (k : ℕ) (t : Text) : Type 0 where
  pub text : t ≡ get_or (texts s w m) k []
  pub short : length t < 65536

-- ---- `level_name`: what it asks, with a bound of the records from which on all texts in work stand
pub record Describing (s w : List ℕ) (m : Map) (n b v : ℕ) : Type 0 where
  pub low : ℕ
  pub naming : Naming s w m n
  pub above : Above s w m low
  pub base : b < m.count
  pub level : v < 4294967296
  pub few : n < 4294967295
  pub room : m.base + 24 * n + 24 ≤ length w
  pub roof : m.base + 24 * n + 24 ≤ low
  pub wide : m.base + 24 * m.buckets ≤ low

-- nothing changed but record n, links of the records and the buckets' heads
pub record NamesKept (s w : List ℕ) (m : Map) (n : ℕ) (w' : List ℕ) : Type 0 where
  pub same : texts s w' m ≡ texts s w m
  pub marks : (i : ℕ) → i < n → mark_at w' m.base i ≡ mark_at w m.base i
  pub cells : (i : ℕ) → i < n → cell_at w' m.base i ≡ cell_at w m.base i
  pub before : (i : ℕ) → i < m.base → get_or w' i 0 ≡ get_or w i 0
  pub after : (i : ℕ) → m.base + 24 * n + 24 ≤ i → m.base + 24 * m.buckets ≤ i → get_or w' i 0 ≡ get_or w i 0

-- record n describes the name of level v
pub record Described (s w : List ℕ) (m : Map) (n b v : ℕ) (w' : List ℕ) : Type 0 where
  pub naming : Naming s w' m (n + 1)
  pub more : named_texts s w' m (n + 1) ≡ named_texts s w m n ++ (level_text s w m b v ∷ [])
  pub mark : mark_at w' m.base n ≡ b * 4294967296 + v
  pub cell : cell_at w' m.base n ≡ 0
  pub kept : NamesKept s w m n w'

-- and what it leaves: the name is the number of the text, which stands behind the others if it is new
pub record LevelNamed (s w : List ℕ) (m : Map) (n b v : ℕ) (r : LevelName) (w' : List ℕ) : Type 0 where
  pub naming : Naming s w' m r.count
  pub named : named_texts s w' m r.count ≡ with_new (named_texts s w m n) (level_text s w m b v ∷ [])
  pub least : n ≤ r.count
  pub most : r.count ≤ n + 1
  pub name : Is (named_texts s w' m r.count) (level_text s w m b v) r.name
  pub number : distinct (named_texts s w m n) ≡ true → r.name ≡ number (named_texts s w' m r.count) (level_text s w m b v)
  pub apart : distinct (named_texts s w m n) ≡ true → distinct (named_texts s w' m r.count) ≡ true
  pub mark : n < r.count → mark_at w' m.base n ≡ b * 4294967296 + v
  pub cell : n < r.count → cell_at w' m.base n ≡ 0
  pub kept : NamesKept s w m n w'
