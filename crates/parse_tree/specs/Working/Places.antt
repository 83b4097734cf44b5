-- "Which command may stand where is a table of places by commands." Assumes nothing: these are definitions.
use Rattle.std.specs.Prelude.{ℕ, Bool, Option, Some, None, List, [], ◌∷◌, get_or, eqb}
use Rattle.parse_tree.specs.declared.syntax.Node.{Node}
use Rattle.parse_tree.specs.declared.places.Place.{Place}
use Rattle.parse_tree.specs.declared.places.Class.{Class}

-- the columns: the class of a command
unfoldable pub class_of : Node → ℕ
class_of (Node.Text n) = 0
class_of (Node.Nonterminal d) = 1
class_of (Node.Terminal t) = 2
class_of (Node.Argument n) = 3
class_of (Node.Alternative a) = 4
class_of (Node.Attribute a) = 5
class_of (Node.Condition c) = 6
class_of (Node.Symbol s k) = 7

-- the rows: the place of a command; row 0 is the atoms'
abbrev pub items_place : ℕ
items_place = 1

abbrev pub arguments_place : ℕ
arguments_place = 2

abbrev pub alternatives_place : ℕ
alternatives_place = 3

abbrev pub attributes_place : ℕ
attributes_place = 4

abbrev pub conditions_place : ℕ
conditions_place = 5

abbrev pub symbols_place : ℕ
symbols_place = 6

-- the numbers of the code's places and classes
abbrev pub row : Place → ℕ
row Place.Atoms = 0
row Place.Items = items_place
row Place.Arguments = arguments_place
row Place.Alternatives = alternatives_place
row Place.Attributes = attributes_place
row Place.Conditions = conditions_place
row Place.Symbols = symbols_place

-- the same; where there is no place, the one behind the last, where nothing may stand
abbrev pub row_of : Option Place → ℕ
row_of (Some p) = row p
row_of None = 7

-- the number of a column
unfoldable pub column : Class → ℕ
column Class.Text = 0
column Class.Nonterminal = 1
column Class.Terminal = 2
column Class.Argument = 3
column Class.Alternative = 4
column Class.Attribute = 5
column Class.Condition = 6
column Class.Symbol = 7

-- the same; where there is no command, the one behind the last, where nothing may stand
abbrev pub column_of : Option Class → ℕ
column_of (Some c) = column c
column_of None = 8

-- 1 where the command may stand. "All atoms come first": what is no atom ends them and is asked as an item
unfoldable pub table : List (List ℕ)
table =
    (1 ∷ 0 ∷ 0 ∷ 0 ∷ 0 ∷ 0 ∷ 0 ∷ 0 ∷ [])
    ∷ (0 ∷ 1 ∷ 1 ∷ 0 ∷ 0 ∷ 0 ∷ 0 ∷ 0 ∷ [])
    ∷ (0 ∷ 0 ∷ 0 ∷ 1 ∷ 0 ∷ 0 ∷ 0 ∷ 0 ∷ [])
    ∷ (0 ∷ 0 ∷ 0 ∷ 0 ∷ 1 ∷ 0 ∷ 0 ∷ 0 ∷ [])
    ∷ (0 ∷ 0 ∷ 0 ∷ 0 ∷ 0 ∷ 1 ∷ 0 ∷ 0 ∷ [])
    ∷ (0 ∷ 0 ∷ 0 ∷ 0 ∷ 0 ∷ 0 ∷ 1 ∷ 0 ∷ [])
    ∷ (0 ∷ 0 ∷ 0 ∷ 0 ∷ 0 ∷ 0 ∷ 0 ∷ 1 ∷ [])
    ∷ []

unfoldable pub allowed_at : ℕ → ℕ → Bool
allowed_at place class = eqb (get_or (get_or table place []) class 0) 1
