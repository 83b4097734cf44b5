-- The bytes of commands that are appended. wd is the width of an atom's number in bytes; span is the number that a span's eight bytes make. Assumes nothing: these are definitions.
use Rattle.std.specs.Prelude.{List, [], ◌∷◌, ◌++◌, ℕ}
use Rattle.octets.specs.Plain.Numbers.{le}

-- a nonterminal without arguments
unfoldable pub item_head : ℕ → ℕ → ℕ → ℕ → ℕ → List ℕ
item_head wd span k flags alternatives = 16 ∷ (le 8 span ++ (le wd k ++ (flags ∷ (0 ∷ le 2 alternatives))))

-- a name, not mutable, around the symbol that comes next
unfoldable pub name_head : ℕ → ℕ → ℕ → List ℕ
name_head wd span k = 40 ∷ (le 8 span ++ (0 ∷ le wd k))

-- a repeat of one or more
unfoldable pub plus_head : ℕ → List ℕ
plus_head span = 38 ∷ (le 8 span ++ (1 ∷ []))
