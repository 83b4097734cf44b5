-- A row of a computed table: a call, and what it must answer and write. Assumes nothing: these are definitions.
use Prim.Native.Nat.{ℕ, suc, ◌+◌, ◌*◌}
use mathlib.Core.Bool.{true, cond}
use mathlib.Core.List.{List, [], ◌∷◌}
use lib.Dec.{leb}
use lib.ListN.{length}
use Rattle.parse_tree.specs.Plain.Tree.{Stage}
use Rattle.parse_tree.specs.Plain.WriteTape.{tape_of}
use Rattle.passes.specs.Outcome.{Outcome, yes, no, after}
use Rattle.passes.specs.Stages.{resolve_stage, level_stage, macro_stages, all_stages}
use Rattle.passes.specs.Calls.{validate_call, resolve_call, levels_call, macros_call, answer_words, written}
use Rattle.passes.specs.Calls as calls

pub data Call : Type 0 where
  resolving levelling expanding wholly : Call

-- the tape, the limit and the buffers' lengths; then the answer's five words, the bytes of output afterwards, and after a 21 those of the stage
-- that is too long
pub record Row : Type 0 where
  pub call : Call
  pub tape : List ℕ
  pub limit : ℕ
  pub output : ℕ
  pub work : ℕ
  pub words : List ℕ
  pub bytes : List ℕ
  pub too_long : List ℕ

-- what output held before, as far as it is looked at
abbrev pub old : List ℕ
old = 3 ∷ 1 ∷ 4 ∷ []

abbrev pub run : Call → List ℕ → ℕ → ℕ → ℕ → Outcome Stage
run resolving tape limit cap work = resolve_call true 2 tape cap work
run levelling tape limit cap work = levels_call true 2 tape cap work
run expanding tape limit cap work = macros_call true 2 tape limit cap work
run wholly tape limit cap work = calls.whole true 2 tape limit cap work

abbrev pub said : Outcome Stage → List ℕ × List ℕ
said o = (answer_words 2 o, written 2 o old)

-- ---- a stage that is too long, seen through what admits stages: its bytes told in the place, as one number
abbrev pub as_number : List ℕ → ℕ
as_number [] = 0
as_number (b ∷ bs) = suc b + 257 * as_number bs

abbrev pub telling : ℕ → Stage → Outcome Stage
telling cap g = cond (leb (length (tape_of 2 g)) cap) (yes g) (no 21 (record { 0 = as_number (tape_of 2 g); 1 = 0 }))

abbrev pub stages : Call → ℕ → ℕ → Stage → Outcome Stage
stages resolving limit cap g = resolve_stage (telling cap) g
stages levelling limit cap g = after (resolve_stage (telling cap) g) (level_stage (telling cap))
stages expanding limit cap g = after (resolve_stage (telling cap) g) (macro_stages (telling cap) limit)
stages wholly limit cap g = all_stages (telling cap) limit g

abbrev pub told : Outcome Stage → ℕ
told (yes g) = 0
told (no n s) = s.0

-- where no stage is expected to be too long, nothing is computed
abbrev pub too_long_in : Row → List ℕ → ℕ
too_long_in r [] = 0
too_long_in r (b ∷ bs) = told (after (validate_call true 2 r.tape r.output r.work) (stages r.call r.limit r.output))

abbrev pub answered : Row → (List ℕ × List ℕ) × ℕ
answered r = (said (run r.call r.tape r.limit r.output r.work), too_long_in r r.too_long)

abbrev pub expected : Row → (List ℕ × List ℕ) × ℕ
expected r = ((r.words, r.bytes), as_number r.too_long)
