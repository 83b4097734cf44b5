-- The ways out of name_level, sorted and refused. Assumes nothing.
use mathlib.Core.Path.{◌≡◌, refl}
use mathlib.Core.Bool.{Bool, true, false}
use mathlib.Core.List.{List}
use Prim.Native.Nat.{ℕ}
use borrow.Author.Rules.{rules}
use Rattle.texts.specs.declared.Map.{Map}
use Rattle.grades.specs.Sort.{Sorted}
use Rattle.precedence.specs.declared.names.LevelName.{LevelName}
use Rattle.precedence.specs.Names.{Describing, LevelNamed}
use Rattle.levels.specs.Expand.{NamesLevel, SortsKeys}

-- ---- name_level
module _ (s w : List ℕ) (m : Map) (n base level : ℕ) (highest : Bool) where
  pub name_same : highest ≡ true → NamesLevel s w m n base level highest (record { name = base; count = n }) w
  unfolding NamesLevel
  name_same z = rw z (refl, refl)

  pub name_asked : (highest ≡ false → Describing s w m n base level) → highest ≡ false → Describing s w m n base level
  name_asked f z = f z

  pub name_described : highest ≡ false → (r : LevelName) (w' : List ℕ) → LevelNamed s w m n base level r w' → NamesLevel s w m n base level highest r w'
  unfolding NamesLevel
  name_described z r w' h = rw z h

pub ruleset naming-level = (rules, name_same, name_asked, name_described)

-- ---- sorted
module _ (w : List ℕ) (keys other n : ℕ) (ascending : Bool) where
  pub sorts_none : ascending ≡ true → SortsKeys w keys other n ascending keys w
  unfolding SortsKeys
  sorts_none z = rw z (refl, refl)

  pub sorts_all : ascending ≡ false → (r : ℕ) (w' : List ℕ) → Sorted w keys other n r w' → SortsKeys w keys other n ascending r w'
  unfolding SortsKeys
  sorts_all z r w' h = rw z h

pub ruleset sorting_keys = (rules, sorts_none, sorts_all)
