-- The numbers of the texts `precedence` and `assoc`, and what `ids` answers. Assumes nothing: these are definitions.
use Rattle.std.specs.Prelude.{List}
use Rattle.parse_tree.specs.Plain.Tree.{Text}
use Rattle.texts.specs.Table.{Finds, found_in}
use Rattle.passes.specs.Grades.{precedence, assoc}
use Rattle.grades.specs.declared.Ids.{Ids}

-- the numbers of `precedence` and `assoc`
abbrev pub ids_in : List Text → Ids
ids_in ts = record { precedence = found_in ts precedence; assoc = found_in ts assoc }

-- each is found, or no such text is there
pub record Identified (ts : List Text) (r : Ids) : Type 0 where
  pub level : Finds ts precedence r.precedence
  pub side : Finds ts assoc r.assoc
