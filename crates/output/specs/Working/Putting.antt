-- Texts of a table put to an output. Assumes nothing: these are definitions.
use Rattle.std.specs.Prelude.{List, [], ℕ, ◌+◌, ◌≤◌, ◌<◌, length, drop, get_or}
use Rattle.parse_tree.specs.Plain.Tree.{Text}
use Rattle.parse_tree.specs.Plain.WriteTape.{bytes_of_each}
use Rattle.parse_tree.specs.Working.Encode.{atom_bytes}
use Rattle.parse_tree.specs.Working.Within.{Each}
use Rattle.texts.specs.declared.Map.{Map}
use Rattle.texts.specs.Table.{Table, texts}

-- text k of the table
abbrev pub numbered_text : List ℕ → List ℕ → Map → ℕ → Text
numbered_text s w m k = get_or (texts s w m) k []

-- the texts from the n-th on: each is short enough for an atom, and all fit from `to` on in an output of cap bytes
pub record TextsFit (s w : List ℕ) (m : Map) (n cap to : ℕ) : Type 0 where
  pub table : Table s w m
  pub upto : n ≤ m.count
  pub short : Each (λ (t : Text). length t < 65536) (drop n (texts s w m))
  pub fits : to + length (bytes_of_each (atom_bytes 2) (drop n (texts s w m))) ≤ cap
