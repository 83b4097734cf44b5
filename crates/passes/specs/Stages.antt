-- The passes with their stages, over what admits a finished stage. Assumes nothing: these are definitions.
use Rattle.std.specs.Prelude.{ℕ, zero, suc, List, [], ◌∷◌, ◌++◌}
use Rattle.parse_tree.specs.Plain.Tree.{Text, Item, Stage}
use Rattle.parse_tree.specs.Plain.References.{stage_of}
use Rattle.passes.specs.Outcome.{Tree, Outcome, no, after}
use Rattle.passes.specs.Resolve.{resolve}
use Rattle.passes.specs.Levels.{levels}
use Rattle.passes.specs.Macros.{Pending, replace_items, drain, span_of, without_macros}

-- with nothing pending this replacing stage is the last; with symbols pending and no round left, "18, span of the last pushed"
abbrev pub last_stage : List Pending → Outcome Stage → Outcome Stage
last_stage [] last = last
last_stage (x ∷ xs) last = no 18 (span_of x)

abbrev pub or_more : List Pending → Outcome Stage → Outcome Stage → Outcome Stage
or_more [] last more = last
or_more (x ∷ xs) last more = more

module _ (admit : Stage → Outcome Stage) where
  -- "A stage's atoms are the former stage's, then new texts by first reference in its items"
  abbrev pub stage : List Text → List Item → Outcome Stage
  stage ts items = admit (stage_of ts items)

  unfoldable pub resolve_stage : Stage → Outcome Stage
  resolve_stage g = after (resolve g.items) (λ R. stage g.atoms R)

  unfoldable pub level_stage : Stage → Outcome Stage
  level_stage g = after (levels g.items) (λ L. stage g.atoms L)

  -- "then per round one after replacing symbols and one after appending items"; G has the macros, ts are the former stage's atoms, `old`
  -- the items already replaced, `fresh` those added since, keys the printed forms met so far. "For one stage 18 comes before these two"
  unfoldable pub rounds : Tree → ℕ → List Text → List Item → List Item → List Text → Outcome Stage
  rounds G zero ts old fresh keys = let q = replace_items fresh (record { keys = keys; pile = [] }) in last_stage q.1.pile (stage ts (old ++ q.0))
  rounds G (suc limit) ts old fresh keys =
      let q = replace_items fresh (record { keys = keys; pile = [] }) in
      let replaced = stage ts (old ++ q.0) in
      let more =
      after replaced (λ g. after (drain G q.1.pile) (λ new. after (stage g.atoms (old ++ q.0 ++ new)) (λ h. rounds G limit h.atoms (old ++ q.0) new q.1.keys))) in
      or_more q.1.pile replaced more

  -- a resolved stage expanded, within so many rounds
  unfoldable pub macro_stages : ℕ → Stage → Outcome Stage
  macro_stages limit g = rounds g.items limit g.atoms [] (without_macros g.items) []

  -- all three passes; "Resolving again: 5 to 13" makes no stage of its own
  unfoldable pub all_stages : ℕ → Stage → Outcome Stage
  all_stages limit g =
      after (resolve_stage g) (λ r. after (level_stage r) (λ l. after (resolve l.items) (λ L. macro_stages limit (record { atoms = l.atoms; items = L }))))
