-- Symbols that stand in work w, whose names are numbers of the table's texts. s is the tape, wd the width of an atom's number in bytes; `left` levels of nesting are left.
-- Assumes nothing: these are definitions.
use Rattle.std.specs.Prelude.{◌≡◌, Bool, List, ℕ, ◌≤◌}
use Rattle.octets.specs.Plain.Runs.{Lies}
use Rattle.parse_tree.specs.Plain.Tree.{Sym, Syms, count}
use Rattle.parse_tree.specs.Working.Encode.{sym_bytes, syms_bytes}
use Rattle.parse_tree.specs.Working.Within.{SymWithin, SymsWithin}
use Rattle.texts.specs.declared.Map.{Map}
use Rattle.texts.specs.Table.{texts}
use Rattle.grades.specs.Grading.{Worded}

-- texts can be read, and numbers have two or three bytes
pub record Readable (s w : List ℕ) (m : Map) (wd : ℕ) : Type 0 where
  pub worded : Worded s w m
  pub narrow : 2 ≤ wd
  pub wide : wd ≤ 3

module _ (s w : List ℕ) (m : Map) (wd : ℕ) where
  -- x stands from `at` up to e
  pub record SymStands (four : Bool) (left at e : ℕ) (x : Sym) : Type 0 where
    pub within : SymWithin four wd (texts s w m) x left
    pub lies : Lies w at (sym_bytes wd (texts s w m) x) e

  -- and symbols one behind another
  pub record SymsStand (four : Bool) (left at e : ℕ) (xs : Syms) : Type 0 where
    pub within : SymsWithin four wd (texts s w m) xs left
    pub lies : Lies w at (syms_bytes wd (texts s w m) xs) e

  -- there is such a symbol
  pub record SomeSym (left at : ℕ) : Type 0 where
    pub four : Bool
    pub end : ℕ
    pub symbol : Sym
    pub stands : SymStands four left at end symbol

  -- there are n of them
  pub record SomeSyms (n left at : ℕ) : Type 0 where
    pub four : Bool
    pub end : ℕ
    pub symbols : Syms
    pub many : count symbols ≡ n
    pub stand : SymsStand four left at end symbols
