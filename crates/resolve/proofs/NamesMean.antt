-- What one name is answered, by its cell, is what the passes' definition of the name says. Assumes nothing.
use mathlib.Core.Path.{◌≡◌, refl}
use mathlib.Core.Bool.{Bool, true, false}
use mathlib.Core.Option.{Option, none, some}
use Prim.Native.Nat.{ℕ, zero, suc, ◌-◌}
use native.Mathlib.Omega.{arith}
use lib.Dec.{leb, eqb}
use borrow.Author.Tests.{le-leb, lt-leb, eqb-true, eqb-false}
use Rattle.std.specs.Prelude.{Result, Ok, Err}
use Rattle.octets.specs.Working.Choice.{pick}
use Rattle.passes.specs.Resolve.{Def, terminal_def, nonterminal_def, argument_def}
use Rattle.parse_tree.specs.declared.refusal.Question.{Question}
use Rattle.resolve.specs.Cells.{found_by}
use Rattle.resolve.specs.Names.{condition_says, nonterminal_says, macro_says, ambiguous_says}

-- a definition of a cell, as the passes have it
unfoldable pub meant : ℕ → Option Def
meant d = pick (eqb d 0) none (some (pick (leb 512 d) argument_def (pick (eqb d 1) terminal_def (nonterminal_def (d - 2)))))

-- ---- a cell is of one of five sorts, by the tests that are asked of it
data Sort (d : ℕ) : Type 0 where
  absent : eqb d 0 ≡ true → Sort d
  argued : eqb d 0 ≡ false → leb 512 d ≡ true → Sort d
  ending : eqb d 0 ≡ false → leb 512 d ≡ false → eqb d 1 ≡ true → leb d 2 ≡ true → Sort d
  plain : eqb d 0 ≡ false → leb 512 d ≡ false → eqb d 1 ≡ false → eqb d 2 ≡ true → leb d 2 ≡ true → d - 2 ≡ 0 → Sort d
  many : (j : ℕ) → eqb d 0 ≡ false → leb 512 d ≡ false → eqb d 1 ≡ false → eqb d 2 ≡ false → leb d 2 ≡ false → d - 2 ≡ suc j → Sort d

sort : (d : ℕ) → Sort d
sort d = zeroth (eqb d 0) refl
  where
    second : (b : Bool) → eqb d 2 ≡ b → eqb d 0 ≡ false → leb 512 d ≡ false → eqb d 1 ≡ false → Sort d
    second true z i j k = let q = eqb-true d 2 z in plain i j k z (le-leb d 2 (omega arith)) (omega arith)
    second false z i j k =
        let p = eqb-false d 0 i in
        let q = eqb-false d 1 k in
        let r = eqb-false d 2 z in
        many (d - 3) i j k z (lt-leb d 2 (omega arith)) (omega arith)

    first : (b : Bool) → eqb d 1 ≡ b → eqb d 0 ≡ false → leb 512 d ≡ false → Sort d
    first true z i j = let q = eqb-true d 1 z in ending i j z (le-leb d 2 (omega arith))
    first false z i j = second (eqb d 2) refl i j z

    large : (b : Bool) → leb 512 d ≡ b → eqb d 0 ≡ false → Sort d
    large true z i = argued i z
    large false z i = first (eqb d 1) refl i z

    zeroth : (b : Bool) → eqb d 0 ≡ b → Sort d
    zeroth true z = absent z
    zeroth false z = large (leb 512 d) refl z

-- ---- what a name is answered, by its definition as the passes have it
unfoldable pub condition_code : Option Def → Result (Unit {0}) Question
condition_code none = Err Question.Defined
condition_code (some terminal_def) = Err Question.ConditionName
condition_code (some (nonterminal_def k)) = Err Question.ConditionName
condition_code (some argument_def) = Ok tt

unfoldable pub nonterminal_code : Option Def → Result (Unit {0}) Question
nonterminal_code none = Err Question.Defined
nonterminal_code (some terminal_def) = Err Question.Nonterminal
nonterminal_code (some (nonterminal_def zero)) = Ok tt
nonterminal_code (some (nonterminal_def (suc k))) = Err Question.Nonterminal
nonterminal_code (some argument_def) = Ok tt

unfoldable pub macro_code : ℕ → Option Def → Result (Unit {0}) Question
macro_code n none = Err Question.Defined
macro_code n (some terminal_def) = Err Question.Macro
macro_code n (some (nonterminal_def zero)) = Err Question.Macro
macro_code n (some (nonterminal_def (suc k))) = pick (eqb (suc k) n) (Ok tt) (Err Question.ArgumentCount)
macro_code n (some argument_def) = Err Question.Macro

unfoldable pub ambiguous_code : Option Def → Result ℕ Question
ambiguous_code none = Err Question.Defined
ambiguous_code (some terminal_def) = Ok 33
ambiguous_code (some (nonterminal_def zero)) = Ok 36
ambiguous_code (some (nonterminal_def (suc k))) = Err Question.AmbiguousId
ambiguous_code (some argument_def) = Ok 36

pub condition_says_lem : (d : ℕ) → condition_says (found_by d) ≡ condition_code (meant d)
unfolding condition_says found_by condition_code meant pick
condition_says_lem d = go (sort d)
  where
    go : Sort d → condition_says (found_by d) ≡ condition_code (meant d)
    go (absent z) = simp z
    go (argued z h) = simp (z, h)
    go (ending z h i l) = simp (z, h, i)
    go (plain z h i k l s) = simp (z, h, i)
    go (many j z h i k l s) = simp (z, h, i)

pub nonterminal_says_lem : (d : ℕ) → nonterminal_says (found_by d) ≡ nonterminal_code (meant d)
unfolding nonterminal_says found_by nonterminal_code meant pick
nonterminal_says_lem d = go (sort d)
  where
    go : Sort d → nonterminal_says (found_by d) ≡ nonterminal_code (meant d)
    go (absent z) = simp z
    go (argued z h) = simp (z, h)
    go (ending z h i l) = simp (z, h, i)
    go (plain z h i k l s) = simp (z, h, i, s)
    go (many j z h i k l s) = simp (z, h, i, s)

pub macro_says_lem : (d n : ℕ) → macro_says (found_by d) n ≡ macro_code n (meant d)
unfolding macro_says found_by macro_code meant pick
macro_says_lem d n = go (sort d)
  where
    go : Sort d → macro_says (found_by d) n ≡ macro_code n (meant d)
    go (absent z) = simp z
    go (argued z h) = simp (z, h)
    go (ending z h i l) = simp (z, h, i)
    go (plain z h i k l s) = simp (z, h, i, s)
    go (many j z h i k l s) = simp (z, h, i, s)

pub ambiguous_says_lem : (d : ℕ) → ambiguous_says (found_by d) ≡ ambiguous_code (meant d)
unfolding ambiguous_says found_by ambiguous_code meant pick
ambiguous_says_lem d = go (sort d)
  where
    go : Sort d → ambiguous_says (found_by d) ≡ ambiguous_code (meant d)
    go (absent z) = simp z
    go (argued z h) = simp (z, h)
    go (ending z h i l) = simp (z, h, i)
    go (plain z h i k l s) = simp (z, h, i, s)
    go (many j z h i k l s) = simp (z, h, i, s)
