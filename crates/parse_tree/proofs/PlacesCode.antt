-- The code's numbers of the places and the classes are the table's, and what it may is where the table has 1. Assumes nothing.
use mathlib.Core.Path.{◌≡◌, refl, ap, ◌∙◌}
use mathlib.Core.Bool.{Bool, false}
use mathlib.Core.List.{List, [], map}
use Prim.Native.Nat.{ℕ}
use lib.Dec.{eqb}
use lib.ListN.{get_or, get_or-map}
use denote.Enum.Declared.{tag_of}
use Rattle.parse_tree.specs.Working.Places.{row, column, table, allowed_at}
use Rattle.parse_tree.specs.declared.places.Place.{Place}
use Rattle.parse_tree.specs.declared.places.Class.{Class}
use Rattle.parse_tree.specs.contracts.places.Place as places
use Rattle.parse_tree.specs.contracts.places.Class as classes

pub row_is : (p : Place) → tag_of places.the_type p ≡ row p
row_is Place.Atoms = refl
row_is Place.Items = refl
row_is Place.Arguments = refl
row_is Place.Alternatives = refl
row_is Place.Attributes = refl
row_is Place.Conditions = refl
row_is Place.Symbols = refl

pub column_is : (c : Class) → tag_of classes.the_type c ≡ column c
unfolding column
column_is Class.Text = refl
column_is Class.Nonterminal = refl
column_is Class.Terminal = refl
column_is Class.Argument = refl
column_is Class.Alternative = refl
column_is Class.Attribute = refl
column_is Class.Condition = refl
column_is Class.Symbol = refl

-- the code's table
abbrev pub ones : List (List Bool)
ones = map (map (λ (n : ℕ). eqb n 1)) table

pub allowed_is : (i j : ℕ) → get_or (get_or ones i []) j false ≡ allowed_at i j
unfolding allowed_at
allowed_is i j = ap (λ (x : List Bool). get_or x j false) (get_or-map (map (λ (n : ℕ). eqb n 1)) table i []) ∙ get_or-map (λ (n : ℕ). eqb n 1) (get_or table i []) j 0

-- no command stands anywhere
pub none_allowed : (p : Place) → false ≡ allowed_at (row p) 8
unfolding allowed_at table
none_allowed Place.Atoms = refl
none_allowed Place.Items = refl
none_allowed Place.Arguments = refl
none_allowed Place.Alternatives = refl
none_allowed Place.Attributes = refl
none_allowed Place.Conditions = refl
none_allowed Place.Symbols = refl
