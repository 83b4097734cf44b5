use mathlib.Core.Path.{sym, ap, ◌∙◌}
use mathlib.Core.Bool.{false}
use mathlib.Core.List.{[]}
use Prim.Native.Nat.{ℕ}
use denote.Enum.Declared.{tag_of}
use lib.ListN.{get_or}
use Rattle.std.specs.Prelude.{Option}
use Rattle.parse_tree.specs.declared.places.Class.{Class}
use Rattle.parse_tree.specs.contracts.places.Class as classes
use Rattle.parse_tree.specs.Working.Places.{column, column_of, row, table, allowed_at}
use Rattle.parse_tree.proofs.PlacesCode.{row_is, column_is, ones, allowed_is, none_allowed}
use Rattle.parse_tree.proofs.places.allowed.Goals as goal

pub returns-in-Some : goal.returns-in-Some
unfolding table
returns-in-Some c =
    ap (λ (i : ℕ). get_or (get_or ones i []) (tag_of classes.the_type c.in-Some.class) false) (row_is c.args.place)
    ∙ ap (λ (j : ℕ). get_or (get_or ones (row c.args.place) []) j false) (column_is c.in-Some.class)
    ∙ allowed_is (row c.args.place) (column c.in-Some.class)
    ∙ ap (λ (o : Option Class). allowed_at (row c.args.place) (column_of o)) (sym c.in-Some.is)

pub returns-in-None : goal.returns-in-None
returns-in-None c = none_allowed c.args.place ∙ ap (λ (o : Option Class). allowed_at (row c.args.place) (column_of o)) (sym c.in-None.is)
