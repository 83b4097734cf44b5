-- The attributes `precedence` and `assoc` of alternatives that stand in work, as `annotations` looks for them. wd is the width of an atom's number in
-- bytes. Assumes nothing: these are definitions.
use Rattle.std.specs.Prelude.{◌≡◌, Bool, true, false, cond, List, [], ◌∷◌, ℕ, zero, suc, ◌+◌, ◌*◌, ◌≤◌, ◌<◌, eqb, length, get_or, Option, Some, None, is_some, option_map, IfSome}
use Rattle.std.specs.Option.{option_eq}
use Rattle.octets.specs.Working.Choice.{pick}
use Rattle.octets.specs.Plain.Numbers.{le_at}
use Rattle.octets.specs.Plain.Runs.{same_as}
use Rattle.parse_tree.specs.Plain.Tree.{Text, Attribute}
use Rattle.grades.specs.declared.Ids.{Ids}
use Rattle.grades.specs.declared.Indices.{Indices}
use Rattle.grades.specs.Skip.{skip_out}

-- the bytes of n attributes
unfoldable pub attributes_long : ℕ → ℕ → ℕ
attributes_long wd n = (2 + 3 * wd) * n

-- the index of the first attribute of an id among the n from a place on
unfoldable pub first_with : ℕ → Option ℕ → List ℕ → ℕ → ℕ → Option ℕ
first_with wd id w p zero = None
first_with wd id w p (suc n) = pick (option_eq eqb id (Some (le_at wd w (p + 1)))) (Some 0) (option_map suc (first_with wd id w (p + (2 + 3 * wd)) n))

-- that index as an answer
pub record Finding (wd : ℕ) (id : Option ℕ) (w : List ℕ) (at n : ℕ) (r : Option ℕ) : Type 0 where
  pub index : r ≡ first_with wd id w at n
  pub below : IfSome r (λ i. i < n)

-- and those of both ids
pub record Annotates (wd : ℕ) (ids : Ids) (w : List ℕ) (at n : ℕ) (r : Indices) : Type 0 where
  pub precedence : Finding wd ids.precedence w at n r.precedence
  pub assoc : Finding wd ids.assoc w at n r.assoc

-- the text of the value of the attribute at a place; empty where it has none
unfoldable pub value_text : ℕ → List Text → List ℕ → ℕ → Text
value_text wd ts w p = pick (eqb (get_or w (p + 1 + wd) 0) 0) [] (get_or ts (le_at wd w (p + 2 + wd + wd)) [])

-- where the conditions of the alternative at a place begin, behind its attributes
unfoldable pub conditions_from : ℕ → List ℕ → ℕ → ℕ
conditions_from wd w p = p + (14 + wd) + get_or w (p + 9) 0 * (2 + 3 * wd)

-- whether the alternative at a place has an attribute of one of the two ids
unfoldable pub annotated_at : ℕ → Ids → List ℕ → ℕ → Bool
annotated_at wd ids w at =
    let n = get_or w (at + 9) 0 in
    pick (is_some (first_with wd ids.precedence w (at + 14 + wd) n)) true (is_some (first_with wd ids.assoc w (at + 14 + wd) n))

-- the first alternative of the nonterminal at a place
unfoldable pub first_alternative : ℕ → List ℕ → ℕ → ℕ
first_alternative wd w at = at + 13 + wd + (1 + wd) * get_or w (at + 10 + wd) 0

-- whether the item at a place is a nonterminal whose first alternative has one
unfoldable pub has_prec_attr : ℕ → Ids → List ℕ → ℕ → Bool
has_prec_attr wd ids w at = pick (eqb (get_or w at 0) 16) (pick (eqb (le_at 2 w (at + 11 + wd)) 0) false (annotated_at wd ids w (first_alternative wd w at))) false

-- what is looked at of an item lies in work
pub record HeadInside (wd : ℕ) (w : List ℕ) (at : ℕ) : Type 0 where
  pub head : at + 16 ≤ length w
  pub first : get_or w at 0 ≡ 16 → (le_at 2 w (at + 11 + wd) ≡ 0 → ⊥) → conditions_from wd w (first_alternative wd w at) ≤ length w

-- where the symbols of the alternative at a place begin
unfoldable pub symbols_from : ℕ → List ℕ → ℕ → ℕ
symbols_from wd w p = conditions_from wd w p + get_or w (p + 10) 0 * (10 + 2 * wd)

-- the place behind it, before e
unfoldable pub alternative_end : ℕ → List ℕ → ℕ → ℕ → ℕ
alternative_end wd w at e = skip_out wd e w (symbols_from wd w at) e (le_at 2 w (at + 12 + wd))

-- ---- what they mean

-- the index of the first attribute of an id
unfoldable pub first_index : Text → List Attribute → Option ℕ
first_index id [] = None
first_index id (a ∷ rest) = cond (same_as id a.id) (Some 0) (option_map suc (first_index id rest))
