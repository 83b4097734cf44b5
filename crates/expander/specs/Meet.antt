-- Symbols inside which all that are expanded were noted, so that some are known to print as a text. s is the tape, w is work. Assumes nothing: these are definitions.
use Rattle.std.specs.Prelude.{◌≡◌, Bool, Option, Some, None, List, ℕ, ◌+◌, ◌-◌, ◌/◌, ◌%◌, ◌≤◌, ◌<◌, eqb, ltb, length, get_or}
use Rattle.octets.specs.Working.Choice.{pick}
use Rattle.octets.specs.Plain.Runs.{Lies}
use Rattle.parse_tree.specs.Plain.Tree.{Text, Sym}
use Rattle.parse_tree.specs.Plain.Display.{print}
use Rattle.parse_tree.specs.Working.Nodes.{size_of}
use Rattle.parse_tree.specs.Working.Encode.{sym_bytes}
use Rattle.parse_tree.specs.Working.Within.{Each, SymWithin}
use Rattle.laws.specs.Flat.{sym_node, children}
use Rattle.texts.specs.Table.{texts}
use Rattle.display.specs.declared.Met.{Met}
use Rattle.display.specs.Standing.{SymStands}
use Rattle.display.specs.Follow.{met_by}
use Rattle.replacing.specs.Slots.{Slots}
use Rattle.replacing.specs.Sound.{HasRef}
use Rattle.expander.specs.declared.Ground.{Ground}
use Rattle.expander.specs.declared.meet.Compared.{Compared}
use Rattle.expander.specs.Ground.{size_in, slot_place, slot_at, symbol_in, KeyAt}
use Rattle.expander.specs.Held.{Held, Off}
use Rattle.expander.specs.Replace.{expanded_code, keys_of, keys_of_all, StandsAt}

-- a symbol lies in w from `at` up to e, by whatever texts; wd is the width of an atom's number in bytes
pub record SymbolLies (w : List ℕ) (wd at e : ℕ) : Type 0 where
  pub texts : List Text
  pub four : Bool
  pub left : ℕ
  pub symbol : Sym
  pub within : SymWithin four wd texts symbol left
  pub lies : Lies w at (sym_bytes wd texts symbol) e

-- there is such a symbol
pub record SomeEnd (w : List ℕ) (wd at : ℕ) : Type 0 where
  pub end : ℕ
  pub lies : SymbolLies w wd at end

-- r is the place behind it
unfoldable pub EndsAt : List ℕ → ℕ → ℕ → ℕ → Type 0
EndsAt w wd at r = (e : ℕ) → SymbolLies w wd at e → r ≡ e

-- a place of work that is one of the stage's, and may have a slot
pub record SlotAt (w : List ℕ) (g : Ground) (at : ℕ) : Type 0 where
  pub from : g.from ≤ at
  pub within : at < length w
  pub room : slot_place g (at - g.from) + 8 ≤ length w

-- k, if it is the number of a text of the table
unfoldable pub table_text : Ground → ℕ → Option ℕ
table_text g k = pick (ltb k g.m.count) (Some k) None

-- the number of the text of the table that the slot of a symbol tells of; none if the symbol is not expanded, or its slot tells of none
unfoldable pub text_known_at : List ℕ → Ground → ℕ → Option ℕ
text_known_at w g at =
    pick (expanded_code (get_or w at 0)) (pick (eqb (slot_at w g (at - g.from) % 2) 0) (table_text g (slot_at w g (at - g.from) / 2)) None) None

module _ (s w : List ℕ) (g : Ground) where
  -- the places of the symbols that are expanded inside y, which stands at p
  abbrev pub inner_keys : Sym → ℕ → List ℕ
  inner_keys y p = keys_of_all g.width.bytes (texts s w g.m) (children y) (p + size_of g.width.bytes (sym_node (texts s w g.m) y))

  -- all these places have references in what is held
  pub record NotedAt (ps : List ℕ) : Type 0 where
    pub pushed : ℕ
    pub new : ℕ
    pub slots : Slots
    pub held : Held s w g pushed new slots
    pub noted : Each (λ q. HasRef q slots) ps

  -- a symbol stands at a place of work, and all that are expanded in it were noted
  pub record SomeKnown (left at : ℕ) : Type 0 where
    pub four : Bool
    pub place : ℕ
    pub end : ℕ
    pub symbol : Sym
    pub is : at ≡ g.from + place
    pub levels : left ≤ 64
    pub stands : StandsAt s w g four left place end symbol
    pub inside : end ≤ size_in g
    pub noted : NotedAt (keys_of g.width.bytes (texts s w g.m) symbol place)

  -- and all inside it, whether or not itself was
  pub record SomeInner (left at : ℕ) : Type 0 where
    pub four : Bool
    pub place : ℕ
    pub end : ℕ
    pub symbol : Sym
    pub is : at ≡ g.from + place
    pub levels : left ≤ 64
    pub stands : StandsAt s w g four left place end symbol
    pub inside : end ≤ size_in g
    pub noted : NotedAt (inner_keys symbol place)

  -- all that are expanded inside the symbol at p were noted
  abbrev pub InnerNoted : ℕ → Type 0
  InnerNoted p = NotedAt (inner_keys (symbol_in s w g p) p)

  -- the symbol at p can be noted: those inside it were
  pub record Notable (n p : ℕ) : Type 0 where
    pub key : KeyAt s w g p
    pub inside : p + 9 ≤ size_in g
    pub room : n < size_in g / 9
    pub count : ℕ
    pub slots : Slots
    pub held : Held s w g n count slots
    pub off : Off p slots
    pub inner : Each (λ q. HasRef q slots) (inner_keys (symbol_in s w g p) p)

  -- from p on, the printed form of each symbol that stands there was held against t: r has the place behind it, after a difference too, and the place in t
  pub record Compares (left : ℕ) (t : Text) (p : Met) (r : Compared) : Type 0 where
    pub place : (four : Bool) (e : ℕ) (x : Sym) → SymStands s w g.m g.width.bytes four left p.at e x → r.at ≡ e
    pub met : (four : Bool) (e : ℕ) (x : Sym) → SymStands s w g.m g.width.bytes four left p.at e x → r.i ≡ met_by t (Some p.i) (print x)
