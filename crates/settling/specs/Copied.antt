-- Printed forms of pushed symbols, in which the texts of inner symbols are copied that stand already. s is the tape, w is work before and w' after. Assumes nothing: these are definitions.
use Rattle.std.specs.Prelude.{◌≡◌, Bool, ◌⊎◌, List, [], ℕ, ◌+◌, ◌*◌, ◌/◌, ◌%◌, ◌≤◌, ◌<◌, length, get_or, Option, Some}
use Rattle.parse_tree.specs.Plain.Tree.{Sym, Syms, count}
use Rattle.parse_tree.specs.Plain.Display.{shown_all}
use Rattle.parse_tree.specs.Working.Within.{Each}
use Rattle.texts.specs.Fields.{mark_at}
use Rattle.texts.specs.Table.{texts}
use Rattle.texts.specs.Texts.{marked_text, Whole, Behind}
use Rattle.display.specs.Follow.{between_by}
use Rattle.precedence.specs.Write.{Puts}
use Rattle.expander.specs.Ground.{size_in, top_of, slot_at, key_at, symbol_in, printed_at, Grounded}
use Rattle.expander.specs.Held.{followed}
use Rattle.expander.specs.Replace.{keys_of, keys_of_all, StandsAt, StandAt}
use Rattle.settling.specs.declared.copied.Print.{Print}
use Rattle.settling.specs.Print.{Printable}

-- the text of record k stands whole, at x.lim or behind if in work
pub record TextStands (s w : List ℕ) (x : Print) (k : ℕ) : Type 0 where
  pub low : x.g.m.base + 24 * k + 24 ≤ x.g.keys
  pub whole : Whole s w (mark_at w x.g.m.base k)
  pub behind : Behind s x.lim (mark_at w x.g.m.base k)

-- k is the number of a text that stands: one of the table, or a new one that is written
abbrev pub Numbered : Print → ℕ → Type 0
Numbered x k = (k < x.g.m.count) ⊎ (x.first ≤ k)

-- the reference of the symbol at p can be followed; if it is such a number, that text is the symbol's print
pub record Said (s w : List ℕ) (x : Print) (p : ℕ) : Type 0 where
  pub room : p + 9 ≤ size_in x.g
  pub pushed : slot_at w x.g p % 2 ≡ 1 → slot_at w x.g p / 2 < size_in x.g / 9
  pub place : slot_at w x.g p % 2 ≡ 1 → key_at w x.g (slot_at w x.g p / 2) + 9 ≤ size_in x.g
  pub stands : followed w x.g (slot_at w x.g p) % 2 ≡ 0 → Numbered x (followed w x.g (slot_at w x.g p) / 2) → TextStands s w x (followed w x.g (slot_at w x.g p) / 2)
  pub is : followed w x.g (slot_at w x.g p) % 2 ≡ 0 → Numbered x (followed w x.g (slot_at w x.g p) / 2)
      → marked_text s w (mark_at w x.g.m.base (followed w x.g (slot_at w x.g p) / 2)) ≡ printed_at s w x.g p

-- this holds of each that is expanded in the symbol at p
abbrev pub SaidIn : List ℕ → List ℕ → Print → ℕ → Type 0
SaidIn s w x p = Each (Said s w x) (keys_of x.g.width.bytes (texts s w x.g.m) (symbol_in s w x.g p) p)

-- texts can be read, and the stage and the slots, while bytes from `to` on are written
pub record Copying (s w : List ℕ) (x : Print) (to : ℕ) : Type 0 where
  pub ground : Grounded s w x.g
  pub printable : Printable s w x.g.m x.g.width.bytes x.lim to
  pub items : x.g.end ≤ to
  pub top : top_of x.g ≤ to
  pub behind : x.g.end + 16 ≤ length w

-- a symbol stands at p of the stage
pub record SaidSymbol (s w : List ℕ) (x : Print) (left p : ℕ) : Type 0 where
  pub four : Bool
  pub end : ℕ
  pub symbol : Sym
  pub levels : left ≤ 64
  pub stands : StandsAt s w x.g four left p end symbol
  pub inside : end ≤ size_in x.g
  pub said : Each (Said s w x) (keys_of x.g.width.bytes (texts s w x.g.m) symbol p)

-- n of them do
pub record SaidSymbols (s w : List ℕ) (x : Print) (n left p : ℕ) : Type 0 where
  pub four : Bool
  pub end : ℕ
  pub symbols : Syms
  pub many : count symbols ≡ n
  pub levels : left ≤ 64
  pub stand : StandAt s w x.g four left p end symbols
  pub inside : end ≤ size_in x.g
  pub said : Each (Said s w x) (keys_of_all x.g.width.bytes (texts s w x.g.m) symbols p)

-- if r is the number of a text, that stands: the print of the symbol at p
pub record KnownText (s w : List ℕ) (x : Print) (p : ℕ) (r : Option ℕ) : Type 0 where
  pub stands : (k : ℕ) → r ≡ Some k → TextStands s w x k
  pub is : (k : ℕ) → r ≡ Some k → marked_text s w (mark_at w x.g.m.base k) ≡ printed_at s w x.g p

-- a symbol around one other stands at p with the code c
pub record SaidAround (s w : List ℕ) (x : Print) (left p c : ℕ) : Type 0 where
  pub symbol : SaidSymbol s w x left p
  pub code : c ≡ get_or w (x.g.from + p) 0
  pub from : 39 ≤ c
  pub upto : c ≤ 40

-- r is the place behind the symbol at p, if k says that more than one is to come
unfoldable pub Behinds : List ℕ → List ℕ → Print → ℕ → ℕ → ℕ → ℕ → Type 0
Behinds s w x left p k r = 1 < k → (four : Bool) (e : ℕ) (y : Sym) → StandsAt s w x.g four left p e y → e ≤ size_in x.g → r ≡ e

-- the printed forms were put of whatever n symbols stand at p, straight inside a command of the code c
pub record PutsAll (s w : List ℕ) (x : Print) (n left p c to r : ℕ) (w' : List ℕ) : Type 0 where
  pub bytes : List ℕ
  pub puts : Puts w x.lim to bytes r w'
  pub each : (four : Bool) (e : ℕ) (ys : Syms) → count ys ≡ n → StandAt s w x.g four left p e ys → e ≤ size_in x.g → bytes ≡ shown_all ys (between_by c 1) []
