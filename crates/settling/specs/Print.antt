-- Printed forms of symbols that stand in work, written to another place of it. s is the tape, w is work before and w' after, wd the width of an atom's number in bytes.
-- Assumes nothing: these are definitions.
use Rattle.std.specs.Prelude.{◌≡◌, Bool, List, [], ℕ, ◌+◌, ◌*◌, ◌≤◌, ◌<◌, length, get_or}
use Rattle.parse_tree.specs.Plain.Tree.{Sym, Syms, count}
use Rattle.parse_tree.specs.Plain.Display.{shown_all, print}
use Rattle.parse_tree.specs.Working.Nodes.{long_of}
use Rattle.parse_tree.specs.Working.Nested.{inside_by}
use Rattle.texts.specs.declared.Map.{Map}
use Rattle.texts.specs.Table.{Above, texts}
use Rattle.display.specs.Standing.{Readable, SymStands, SymsStand}
use Rattle.display.specs.Follow.{before_by, between_by}
use Rattle.precedence.specs.Write.{Puts}
use Rattle.settling.specs.declared.Printed.{Printed}
use Rattle.settling.specs.declared.print.Opened.{Opened}

-- texts can be read, also while bytes from `to` up to lim are written
pub record Printable (s w : List ℕ) (m : Map) (wd lim to : ℕ) : Type 0 where
  pub readable : Readable s w m wd
  pub above : Above s w m lim
  pub records : m.base + 24 * m.count ≤ to
  pub inside : lim ≤ length w
  pub stop : to ≤ lim + 1

-- the command at a place is whole, and is a symbol's
pub record Opening (w : List ℕ) (wd at : ℕ) : Type 0 where
  pub within : at < length w
  pub room : at + long_of wd (get_or w at 0) ≤ length w
  pub high : 32 ≤ get_or w at 0

-- the command of the code c at a place is whole, and one may write on
pub record Closing (w : List ℕ) (wd at c lim to : ℕ) : Type 0 where
  pub room : at + long_of wd c ≤ length w
  pub inside : lim ≤ length w
  pub stop : to ≤ lim + 1

module _ (s w : List ℕ) (m : Map) (wd : ℕ) where
  -- a symbol stands there, and ends at z or before
  pub record OneBelow (left at z : ℕ) : Type 0 where
    pub four : Bool
    pub end : ℕ
    pub symbol : Sym
    pub stands : SymStands s w m wd four left at end symbol
    pub below : end ≤ z

  -- n symbols do
  pub record SomeBelow (n left at z : ℕ) : Type 0 where
    pub four : Bool
    pub end : ℕ
    pub symbols : Syms
    pub many : count symbols ≡ n
    pub stand : SymsStand s w m wd four left at end symbols
    pub below : end ≤ z

  -- what the symbol at a place begins with is put
  pub record OpensPrint (at lim to : ℕ) (r : Opened) (w' : List ℕ) : Type 0 where
    pub code : r.code ≡ get_or w at 0
    pub end : r.at ≡ at + long_of wd r.code
    pub long : at < r.at
    pub room : r.at ≤ length w
    pub inside : r.inside ≡ inside_by wd w at r.code
    pub before : Puts w lim to (before_by wd (texts s w m) w at r.code) r.to w'

  -- r is the place behind whatever n symbols stand there, straight inside a command of the code c, and behind what was put: their printed forms
  pub record PrintsList (n left at c lim to : ℕ) (r : Printed) (w' : List ℕ) : Type 0 where
    pub bytes : List ℕ
    pub puts : Puts w lim to bytes r.to w'
    pub printable : Printable s w' m wd lim r.to
    pub each : (four : Bool) (e : ℕ) (xs : Syms) → count xs ≡ n → SymsStand s w m wd four left at e xs → e ≤ to → (r.at ≡ e) × (bytes ≡ shown_all xs (between_by c 1) [])

  -- the same of whatever symbol stands there
  pub record PrintsSymbol (left at lim to : ℕ) (r : Printed) (w' : List ℕ) : Type 0 where
    pub bytes : List ℕ
    pub puts : Puts w lim to bytes r.to w'
    pub printable : Printable s w' m wd lim r.to
    pub each : (four : Bool) (e : ℕ) (x : Sym) → SymStands s w m wd four left at e x → e ≤ to → (r.at ≡ e) × (bytes ≡ print x)
