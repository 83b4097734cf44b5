-- Pieces of items that are appended: what is written of a piece, and which texts come to the texts by number. s is the tape, w is work; wd is the width of an atom's number in bytes.
-- Assumes nothing: these are definitions.
use Rattle.std.specs.Prelude.{◌≡◌, Bool, true, ◌&&◌, ◌||◌, not, ◌⊎◌, List, [], ◌∷◌, ◌++◌, ℕ, ◌+◌, ◌≤◌, ◌<◌, length, get_or}
use Rattle.octets.specs.Plain.Numbers.{le}
use Rattle.octets.specs.Plain.Runs.{Lies}
use Rattle.parse_tree.specs.Plain.Tree.{Text, Syms, Item}
use Rattle.parse_tree.specs.Plain.Texts.{has, number, with_new}
use Rattle.parse_tree.specs.Plain.References.{syms_texts, item_texts}
use Rattle.parse_tree.specs.Working.Encode.{syms_bytes, item_bytes}
use Rattle.parse_tree.specs.Working.Within.{Each}
use Rattle.texts.specs.Table.{Above}
use Rattle.passes.specs.Sizes.{item_fits}
use Rattle.replacing.specs.Trees.{renamed_all}
use Rattle.expander.specs.declared.Ground.{Ground}
use Rattle.expander.specs.Ground.{top_of, key_at, list_place, Grounded}
use Rattle.expander.specs.Names.{named_in, Names}
use Rattle.appending.specs.declared.Appended.{Appended}
use Rattle.appending.specs.Built.{Built}

-- the texts that it refers to, in order; its bytes by the numbers of texts; whether its symbols are nested within bounds
pub record Piece : Type 0 where
  pub texts : List Text
  pub bytes : List Text → List ℕ
  pub fits : Bool

-- texts that are referred to, and nothing written
abbrev pub all_named : List Text → Piece
all_named us = record { texts = us; bytes = λ ts. []; fits = true }

-- one
abbrev pub naming : Text → Piece
naming t = all_named (t ∷ [])

-- bytes that are written
abbrev pub plainly : List ℕ → Piece
plainly xs = record { texts = []; bytes = λ ts. xs; fits = true }

-- whether something is nested within bounds
abbrev pub nested : Bool → Piece
nested b = record { texts = []; bytes = λ ts. []; fits = b }

-- one behind another
abbrev pub then_piece : Piece → Piece → Piece
then_piece x y = record { texts = x.texts ++ y.texts; bytes = λ ts. x.bytes ts ++ y.bytes ts; fits = x.fits && y.fits }

-- symbols, the outermost that are expanded as the names of their prints
abbrev pub symbols_piece : ℕ → Syms → Piece
symbols_piece wd ys = record { texts = syms_texts (renamed_all ys); bytes = λ ts. syms_bytes wd ts (renamed_all ys); fits = true }

-- the name of a text, as a nonterminal without arguments whose span is a number
abbrev pub name_piece : ℕ → ℕ → Text → Piece
name_piece wd span t = record { texts = t ∷ []; bytes = λ ts. 36 ∷ (le 8 span ++ le wd (number ts t)); fits = true }

-- an item
abbrev pub item_piece : ℕ → Item → Piece
item_piece wd d = record { texts = item_texts d; bytes = λ ts. item_bytes wd ts d; fits = item_fits d }

-- with more texts the bytes stay, if its own are there
pub record Steady (x : Piece) : Type 0 where
  pub same : (ts us : List Text) → Each (λ (t : Text). has t ts ≡ true) x.texts → x.bytes (ts ++ us) ≡ x.bytes ts

-- n symbols were pushed, which have references with those at ps; items are appended before lim
module _ (s : List ℕ) (g : Ground) (n lim : ℕ) (ps : List ℕ) where
  pub record Appending (w : List ℕ) (v : Appended) : Type 0 where
    pub ground : Grounded s w g
    pub names : Names s w g n v.count ps
    pub built : Built s w g n v.count
    pub top : top_of g ≤ v.to
    pub items : g.end ≤ v.to
    pub upto : v.to ≤ lim + 1
    pub low : top_of g ≤ lim
    pub behind : g.end + 16 ≤ length w
    pub inside : lim ≤ length w
    pub above : Above s w g.m lim

  -- from w to w' a piece was appended: all of it, or the cursor says that it doesn't fit
  pub record Appends (w : List ℕ) (v : Appended) (x : Piece) (v' : Appended) (w' : List ℕ) : Type 0 where
    pub going : Appending w' v'
    pub long : length w' ≡ length w
    pub texts-are : named_in s w' g v'.count ≡ with_new (named_in s w g v.count) x.texts
    pub whole : v.to + length (x.bytes (named_in s w' g v'.count)) ≤ lim → Lies w' v.to (x.bytes (named_in s w' g v'.count)) v'.to
    pub over : lim < v.to + length (x.bytes (named_in s w' g v'.count)) → v'.to ≡ lim + 1
    pub deep : v'.deep ≡ v.deep || not x.fits
    pub pile : (j : ℕ) → j < n → key_at w' g j ≡ key_at w g j
    pub kept : (i : ℕ) → (i < list_place g 0) ⊎ ((top_of g ≤ i) × (i < v.to)) ⊎ (lim ≤ i) → get_or w' i 0 ≡ get_or w i 0

-- there are such places
pub record SomeAppending (s w : List ℕ) (g : Ground) (n lim : ℕ) (v : Appended) : Type 0 where
  pub places : List ℕ
  pub going : Appending s g n lim places w v
