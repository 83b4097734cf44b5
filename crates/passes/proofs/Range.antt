-- What each call can refuse with: 1 to 4 before the passes, 5 to 21 in them, and so 1 to 21. Assumes nothing.
use mathlib.Core.Bool.{Bool}
use mathlib.Core.List.{List, [], ◌∷◌, ◌++◌}
use Prim.Native.Nat.{ℕ, zero, suc, ◌+◌, ◌*◌, ◌≤◌}
use native.Mathlib.Omega.{arith}
use lib.Dec.{leb}
use lib.ListN.{length}
use Rattle.parse_tree.specs.Plain.Tree.{Text, Item, Stage}
use Rattle.parse_tree.specs.Plain.Reading.{Reading, got, refused}
use Rattle.parse_tree.specs.Plain.ReadTape.{read_tape}
use Rattle.parse_tree.specs.Plain.WriteTape.{tape_of}
use Rattle.parse_tree.specs.Plain.References.{stage_of}
use Rattle.passes.specs.Outcome.{Tree, Outcome, yes, no}
use Rattle.passes.specs.Range.{Between, InRange}
use Rattle.passes.specs.Resolve.{resolve}
use Rattle.passes.specs.Levels.{levels}
use Rattle.passes.specs.Macros.{Pending, replace_items, drain, without_macros}
use Rattle.passes.specs.Sizes.{stage_fits}
use Rattle.passes.specs.Stages.{last_stage, or_more, stage, resolve_stage, level_stage, rounds, macro_stages, all_stages}
use Rattle.passes.specs.Calls.{nowhere, read_as, sizes, validate_call, resolve_call, levels_call, macros_call, whole}
use Rattle.passes.proofs.RangeOfPasses.{after-between, cond_between, wider, resolve-between, levels-between, drain-between}
use Rattle.passes.proofs.RangeOfReading.{Reads, tape_reads}

-- ---- sizes: 20 and 21
pub sizes-between : (w cap : ℕ) (g : Stage) → Between 20 21 (sizes w cap g)
unfolding sizes
sizes-between w cap g =
    cond_between 20 21 (stage_fits w g) _ (no 20 nowhere) (cond_between 20 21 (leb (length (tape_of w g)) cap) (yes g) (no 21 nowhere) tt (omega arith)) (omega arith)

-- ---- the rounds: 11 to 21, 18 among them; `admit` refuses with 20 and 21
module _ (admit : Stage → Outcome Stage) (sized : (g : Stage) → Between 20 21 (admit g)) where
  stage_between : (l : ℕ) → l ≤ 20 → (ts : List Text) (is : List Item) → Between l 21 (stage admit ts is)
  stage_between l b ts is = wider 20 21 l 21 (stage admit ts is) b (omega arith) (sized (stage_of ts is))

  last-between : (ps : List Pending) (r : Outcome Stage) → Between 11 21 r → Between 11 21 (last_stage ps r)
  last-between [] r b = b
  last-between (p ∷ ps) r b = omega arith

  more_between : (ps : List Pending) (r more : Outcome Stage) → Between 11 21 r → Between 11 21 more → Between 11 21 (or_more ps r more)
  more_between [] r more b k = b
  more_between (p ∷ ps) r more b k = k

  pub rounds_between : (G : Tree) (limit : ℕ) (ts : List Text) (old fresh : List Item) (keys : List Text) → Between 11 21 (rounds admit G limit ts old fresh keys)
  unfolding rounds
  rounds_between G zero ts old fresh keys =
      let q = replace_items fresh (record { keys = keys; pile = [] }) in last-between q.1.pile (stage admit ts (old ++ q.0)) (stage_between 11 (omega arith) ts (old ++ q.0))
  rounds_between G (suc limit) ts old fresh keys =
      let q = replace_items fresh (record { keys = keys; pile = [] }) in
      let b = stage_between 11 (omega arith) ts (old ++ q.0) in more_between q.1.pile (stage admit ts (old ++ q.0)) _ b
      (after-between 11 21 (stage admit ts (old ++ q.0)) _ b (λ g.
      after-between 11 21 (drain G q.1.pile) _ (wider 11 19 11 21 (drain G q.1.pile) (omega arith) (omega arith) (drain-between G q.1.pile)) (λ new.
      after-between 11 21 (stage admit g.atoms (old ++ q.0 ++ new)) _ (stage_between 11 (omega arith) g.atoms (old ++ q.0 ++ new)) (λ h.
      rounds_between G limit h.atoms (old ++ q.0) new q.1.keys))))

  pub resolve_stage_between : (g : Stage) → Between 5 21 (resolve_stage admit g)
  unfolding resolve_stage
  resolve_stage_between g =
      after-between 5 21 (resolve g.items) _ (wider 5 13 5 21 (resolve g.items) (omega arith) (omega arith) (resolve-between g.items)) (λ R. stage_between 5 (omega arith) g.atoms R)

  pub level_stage_between : (g : Stage) → Between 14 21 (level_stage admit g)
  unfolding level_stage
  level_stage_between g =
      after-between 14 21 (levels g.items) _ (wider 14 16 14 21 (levels g.items) (omega arith) (omega arith) (levels-between g.items)) (λ L. stage_between 14 (omega arith) g.atoms L)

  pub macro_stages_between : (limit : ℕ) (g : Stage) → Between 11 21 (macro_stages admit limit g)
  unfolding macro_stages
  macro_stages_between limit g = rounds_between g.items limit g.atoms [] (without_macros g.items) []

  pub all_stages_between : (limit : ℕ) (g : Stage) → Between 5 21 (all_stages admit limit g)
  unfolding all_stages
  all_stages_between limit g =
      after-between 5 21 (resolve_stage admit g) _ (resolve_stage_between g) (λ r.
      after-between 5 21 (level_stage admit r) _ (wider 14 21 5 21 (level_stage admit r) (omega arith) (omega arith) (level_stage_between r)) (λ l.
      after-between 5 21 (resolve l.items) _ (wider 5 13 5 21 (resolve l.items) (omega arith) (omega arith) (resolve-between l.items)) (λ L.
      wider 11 21 5 21 (macro_stages admit limit (record { atoms = l.atoms; items = L })) (omega arith) (omega arith) (macro_stages_between limit (record { atoms = l.atoms; items = L })))))

-- ---- the calls
read_between : (r : Reading Stage) → Reads r → Between 1 4 (read_as r)
read_between (got g e) b = tt
read_between (refused n p) b = omega (arith, b.numbered)

validate_between : (four : Bool) (w : ℕ) (tape : List ℕ) (cap work : ℕ) → Between 1 4 (validate_call four w tape cap work)
unfolding validate_call
validate_between four w tape cap work =
    cond_between 1 4 (leb (8 * (length tape + cap)) work) (read_as (read_tape four w tape)) (no 1 nowhere) (read_between (read_tape four w tape) (tape_reads four w tape)) (omega arith)

-- theorem: whatever the tape, the limit and the buffers' lengths, each call ends in a tree or in a refusal from 1 to 21
pub validate_range : (four : Bool) (w : ℕ) (tape : List ℕ) (cap work : ℕ) → InRange (validate_call four w tape cap work)
validate_range four w tape cap work = wider 1 4 1 21 (validate_call four w tape cap work) (omega arith) (omega arith) (validate_between four w tape cap work)

-- theorem: so does the call for resolving
pub resolve-range : (four : Bool) (w : ℕ) (tape : List ℕ) (cap work : ℕ) → InRange (resolve_call four w tape cap work)
unfolding resolve_call
resolve-range four w tape cap work =
    after-between 1 21 (validate_call four w tape cap work) _ (validate_range four w tape cap work) (λ u.
    wider 5 21 1 21 (resolve_stage (sizes w cap) u) (omega arith) (omega arith) (resolve_stage_between (sizes w cap) (sizes-between w cap) u))

-- theorem: the call for levels
pub levels-range : (four : Bool) (w : ℕ) (tape : List ℕ) (cap work : ℕ) → InRange (levels_call four w tape cap work)
unfolding levels_call
levels-range four w tape cap work =
    after-between 1 21 (resolve_call four w tape cap work) _ (resolve-range four w tape cap work) (λ r.
    wider 14 21 1 21 (level_stage (sizes w cap) r) (omega arith) (omega arith) (level_stage_between (sizes w cap) (sizes-between w cap) r))

-- theorem: the call for macros
pub macros-range : (four : Bool) (w : ℕ) (tape : List ℕ) (limit cap work : ℕ) → InRange (macros_call four w tape limit cap work)
unfolding macros_call
macros-range four w tape limit cap work =
    after-between 1 21 (resolve_call four w tape cap work) _ (resolve-range four w tape cap work) (λ r.
    wider 11 21 1 21 (macro_stages (sizes w cap) limit r) (omega arith) (omega arith) (macro_stages_between (sizes w cap) (sizes-between w cap) limit r))

-- theorem: and the call for all
pub whole_range : (four : Bool) (w : ℕ) (tape : List ℕ) (limit cap work : ℕ) → InRange (whole four w tape limit cap work)
unfolding whole
whole_range four w tape limit cap work =
    after-between 1 21 (validate_call four w tape cap work) _ (validate_range four w tape cap work) (λ u.
    wider 5 21 1 21 (all_stages (sizes w cap) limit u) (omega arith) (omega arith) (all_stages_between (sizes w cap) (sizes-between w cap) limit u))
