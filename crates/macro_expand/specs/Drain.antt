-- The whole pile, last in first out: an item for each symbol on it. s is the tape, w is work; t are the items with the macros' definitions. Assumes nothing: these are definitions.
use Rattle.std.specs.Prelude.{◌≡◌, Bool, true, false, ◌⊎◌, List, [], ◌∷◌, map, ℕ, zero, suc, ◌+◌, ◌*◌, ◌%◌, ◌≤◌, ◌<◌, length, get_or, Result, Ok, Err}
use Rattle.std.proofs.Math.Option.{Option, none, some}
use Rattle.octets.specs.Plain.Numbers.{le_at}
use Rattle.parse_tree.specs.Plain.Tree.{Text, Over, Sym, Syms, count, macro, group, leaf, around, over, Nonterminal, Item, item}
use Rattle.parse_tree.specs.Plain.Texts.{number}
use Rattle.parse_tree.specs.Plain.References.{texts_of_each, item_texts}
use Rattle.parse_tree.specs.Plain.WriteTape.{bytes_of_each}
use Rattle.parse_tree.specs.Working.Encode.{item_bytes}
use Rattle.parse_tree.specs.Working.Within.{Each, ItemWithin}
use Rattle.parse_tree.specs.Working.Refusals.{refusal_over}
use Rattle.texts.specs.declared.Map.{Map}
use Rattle.texts.specs.Fields.{cell_at}
use Rattle.texts.specs.Table.{texts}
use Rattle.passes.specs.Outcome.{Tree, Outcome, yes, no}
use Rattle.passes.specs.Macros.{macro_in, expand_symbol, drain}
use Rattle.passes.specs.Sizes.{each, item_fits}
use Rattle.laws.specs.Keys.{Expands}
use Rattle.resolve.specs.declared.Grammar.{Grammar}
use Rattle.resolve.specs.Items.{item_place_in, Row}
use Rattle.replacing.specs.Trees.{inner}
use Rattle.replacing.specs.Slots.{among}
use Rattle.expander.specs.declared.Ground.{Ground}
use Rattle.expander.specs.Ground.{size_in, top_of, key_at, list_place, symbol_in}
use Rattle.expander.specs.Held.{down}
use Rattle.expander.specs.Replace.{keys_of, StandsAt}
use Rattle.appending.specs.declared.Appended.{Appended}
use Rattle.appending.specs.Pieces.{Piece, Appending, Appends}
use Rattle.parse_tree.specs.declared.refusal.Refusal.{Refusal}
use Rattle.macro_expand.specs.Expand.{ExpandsTo}

-- ---- the definitions

-- the i-th item
unfoldable pub item_of : List Item → ℕ → Option Item
item_of [] i = none
item_of (x ∷ xs) zero = some x
item_of (x ∷ xs) (suc i) = item_of xs i

-- the cell of the number of a macro's name n has, but for its highest bit, the index of the definition D, and one
pub record DefinedAt (ts : List Text) (m : Map) (w : List ℕ) (G : Tree) (n : Text) (D : Nonterminal) : Type 0 where
  pub index : ℕ
  pub there : item_of G index ≡ some (item D)
  pub below : number ts n < m.count
  pub cell : cell_at w m.base (number ts n) % 2147483648 ≡ index + 1

-- the items G stand where nothing is written, and the cell of each macro's name says where its definition is
pub record Declares (s w : List ℕ) (g : Ground) (t : Grammar) (v : Appended) (four : Bool) (G : Tree) : Type 0 where
  pub row : Row t (texts s w g.m) w 0 t.at G
  pub within : Each (ItemWithin four g.width.bytes (texts s w g.m)) G
  pub many : t.count ≡ length G
  pub width : t.width.bytes ≡ g.width.bytes
  pub off : (t.end ≤ list_place g 0) ⊎ ((top_of g ≤ t.at) × (t.end ≤ v.to))
  pub before : t.end ≤ v.to
  pub behind : t.end + 16 ≤ length w
  pub list : t.list + 8 * t.count ≤ g.m.base
  pub found : (m : Text) (D : Nonterminal) → macro_in G m ≡ some D → DefinedAt (texts s w g.m) g.m w G m D

-- ---- what is on the pile

-- a macro call names a macro, with as many arguments
abbrev pub OverCalls : Tree → Over → Syms → Type 0
OverCalls G (macro m) xs = (D : Nonterminal) × (macro_in G m ≡ some D) × (length D.args ≡ count xs)
OverCalls G group xs = Unit {0}

abbrev pub CallsMacro : Tree → Sym → Type 0
CallsMacro G (leaf s l) = Unit {0}
CallsMacro G (around s a x) = Unit {0}
CallsMacro G (over s o xs) = OverCalls G o xs

-- the symbol at p can be expanded
pub record OnPile (s w : List ℕ) (g : Ground) (ps : List ℕ) (G : Tree) (p : ℕ) : Type 0 where
  pub end : ℕ
  pub stands : StandsAt s w g false 64 p end (symbol_in s w g p)
  pub inside : end ≤ size_in g
  pub referred : Each (λ (q : ℕ). among q ps ≡ true) (keys_of g.width.bytes (texts s w g.m) (symbol_in s w g p) p)
  pub expands : Expands (symbol_in s w g p)
  pub calls : CallsMacro G (symbol_in s w g p)

-- n symbols are on it
pub record Pile (s w : List ℕ) (g : Ground) (n lim : ℕ) (t : Grammar) (v : Appended) (ps : List ℕ) (four : Bool) (G : Tree) : Type 0 where
  pub going : Appending s g n lim ps w v
  pub declares : Declares s w g t v four G
  pub piled : (j : ℕ) → j < n → OnPile s w g ps G (key_at w g j)

pub record SomePile (s w : List ℕ) (g : Ground) (n lim : ℕ) (t : Grammar) (v : Appended) : Type 0 where
  pub places : List ℕ
  pub four : Bool
  pub tree : Tree
  pub pile : Pile s w g n lim t v places four tree

-- ---- one of them

-- the j-th, which stands at q with the code c, is no macro call
pub record SomeOther (s w : List ℕ) (g : Ground) (n lim : ℕ) (t : Grammar) (v : Appended) (j q c : ℕ) : Type 0 where
  pub pile : SomePile s w g n lim t v
  pub less : j < n
  pub place : q ≡ key_at w g j
  pub code : c ≡ get_or w (g.from + q) 0
  pub other : c ≡ 37 → ⊥

unfoldable pub ExpandsPushed : List ℕ → List ℕ → Ground → ℕ → ℕ → Grammar → ℕ → Appended → Result Appended Refusal → List ℕ → Type 0
ExpandsPushed s w g n lim t j v r w' = (ps : List ℕ) (four : Bool) (G : Tree) → Pile s w g n lim t v ps four G → ExpandsTo s w g n lim v ps (expand_symbol G (inner (symbol_in s w g (key_at w g j)))) r w'

-- ---- all
abbrev pub items_piece : ℕ → List Item → Piece
items_piece wd is = record { texts = texts_of_each item_texts is; bytes = λ ts. bytes_of_each (item_bytes wd ts) is; fits = each item_fits is }

unfoldable pub DrainedBy : List ℕ → List ℕ → Ground → ℕ → ℕ → Appended → List ℕ → Outcome (List Item) → Result Appended Refusal → List ℕ → Type 0
DrainedBy s w g n lim v ps (yes is) r w' = (v' : Appended) × (r ≡ Ok v') × Appends s g n lim ps w v (items_piece g.width.bytes is) v' w'
DrainedBy s w g n lim v ps (no k sp) r w' = r ≡ Err (refusal_over k sp)

-- "New items are appended in the order they leave the pile, last in first out"
unfoldable pub Drains : List ℕ → List ℕ → Ground → ℕ → ℕ → Grammar → Appended → Result Appended Refusal → List ℕ → Type 0
Drains s w g n lim t v r w' = (ps : List ℕ) (four : Bool) (G : Tree) → Pile s w g n lim t v ps four G
    → DrainedBy s w g n lim v ps (drain G (map (λ p. inner (symbol_in s w g p)) (down (key_at w g) n))) r w'

-- ---- the definition of a macro that is called

-- a call of m stands at q, whose number and cell are such that its definition is the i-th item
pub record Definition (w : List ℕ) (g : Ground) (t : Grammar) (q : ℕ) (i : ℕ) : Type 0 where
  pub narrow : 2 ≤ g.width.bytes
  pub wide : g.width.bytes ≤ 3
  pub call : g.from + q + 9 + g.width.bytes ≤ length w
  pub name : g.m.base + 24 * le_at g.width.bytes w (g.from + q + 9) + 24 ≤ length w
  pub cell : cell_at w g.m.base (le_at g.width.bytes w (g.from + q + 9)) % 2147483648 ≡ i + 1
  pub list : t.list + 8 * t.count ≤ length w
  pub ordered : t.at ≤ t.end

pub record SomeDefinition (w : List ℕ) (g : Ground) (t : Grammar) (q : ℕ) : Type 0 where
  pub index : ℕ
  pub definition : Definition w g t q index

unfoldable pub IsDefinition : List ℕ → Ground → Grammar → ℕ → ℕ → Type 0
IsDefinition w g t q r = (i : ℕ) → Definition w g t q i → r ≡ item_place_in t w i
