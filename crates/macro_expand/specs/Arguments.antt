-- The arguments of a macro call, and the conditions of the macro's alternatives, as the code reads them. wd is the width of an atom's number in bytes, w is work. Assumes nothing: these are definitions.
use Rattle.std.specs.Prelude.{Bool, true, false, List, ℕ, zero, suc, ◌+◌, ◌*◌, ◌≤◌, eqb, leb, length, get_or, Option, Some, None, Result, Ok, Err}
use Rattle.octets.specs.Working.Choice.{pick}
use Rattle.octets.specs.Plain.Numbers.{le_at}
use Rattle.grades.specs.Skip.{skip_out}
use Rattle.grades.specs.Annotations.{conditions_from, alternative_end}
use Rattle.expander.specs.declared.Ground.{Ground}
use Rattle.macro_expand.specs.declared.arguments.Call.{Call}
use Rattle.macro_expand.specs.declared.arguments.NotLiteral.{NotLiteral}

-- the bytes of n parameters
unfoldable pub parameters_long : ℕ → ℕ → ℕ
parameters_long wd n = (1 + wd) * n

-- of n parameters from a on and as many symbols from p on, before e: the symbol for the one whose name has the number k
unfoldable pub argument_in : ℕ → ℕ → List ℕ → ℕ → ℕ → ℕ → ℕ → Option ℕ
argument_in wd e w k zero a p = None
argument_in wd e w k (suc n) a p = pick (eqb k (le_at wd w (a + 1))) (Some p) (argument_in wd e w k n (a + (1 + wd)) (skip_out wd e w p e 1))

-- what is read lies in work
pub record ReadableCall (g : Ground) (c : Call) (w : List ℕ) : Type 0 where
  pub narrow : 2 ≤ g.width.bytes
  pub wide : g.width.bytes ≤ 3
  pub parameters : c.params + parameters_long g.width.bytes c.many ≤ length w
  pub items : g.end + 16 ≤ length w
  pub definition : c.end + 16 ≤ length w

-- whether the literal at p is what the condition at a place asks
unfoldable pub equal_by : ℕ → List ℕ → ℕ → ℕ → Bool
equal_by wd w p at = pick (eqb (le_at wd w (p + 9)) (le_at wd w (at + 10 + wd))) (eqb (get_or w (at + 9 + wd) 0) 0) (pick (eqb (get_or w (at + 9 + wd) 0) 0) false true)

-- the condition at a place, whose argument was looked for
unfoldable pub judged_by : Ground → List ℕ → ℕ → Option ℕ → Option Bool
judged_by g w at None = None
judged_by g w at (Some p) = pick (leb g.end p) None (pick (eqb (get_or w p 0) 34) (Some (equal_by g.width.bytes w p at)) None)

module _ (g : Ground) (c : Call) (w : List ℕ) where
  unfoldable pub argument_for : ℕ → Option ℕ
  argument_for k = argument_in g.width.bytes g.end w k c.many c.params c.args

  -- the same of any condition
  unfoldable pub judged_at : ℕ → Option Bool
  judged_at at = pick (leb c.end at) None (judged_by g w at (argument_for (le_at g.width.bytes w (at + 9))))

  -- ---- whether the alternative at p holds
  unfoldable pub holds_at : ℕ → Result Bool NotLiteral
  holds_at p = pick (eqb (get_or w (p + 10) 0) 0) (Ok true) (elim (judged_at (conditions_from g.width.bytes w p)) [ Some b ↦ Ok b | None ↦ Err (record { at = conditions_from g.width.bytes w p }) ])

  -- how many of n from p on hold, with k before
  unfoldable pub hold_from : ℕ → ℕ → ℕ → Result ℕ NotLiteral
  hold_from zero p k = Ok k
  hold_from (suc n) p k = pick (leb c.end p) (Ok k) (elim (holds_at p) [
    | Ok b ↦ hold_from n (alternative_end g.width.bytes w p c.end) (pick b (k + 1) k)
    | Err r ↦ Err r
  ])
