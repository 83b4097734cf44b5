-- Rounds are one round after another: the answer is that of the first that ends or refuses. Assumes nothing.
use mathlib.Core.Path.{◌≡◌, refl}
use mathlib.Core.List.{List, [], ◌∷◌, ◌++◌}
use Prim.Native.Nat.{ℕ, zero, suc}
use Rattle.parse_tree.specs.Plain.Tree.{Item, Stage}
use Rattle.passes.specs.Outcome.{Tree, Outcome, yes, no, after}
use Rattle.passes.specs.Macros.{Pending, MacroExpander, replace_items, drain}
use Rattle.passes.specs.Stages.{or_more, last_stage, stage, rounds}
use Rattle.rounds.specs.Step.{RoundInput, RoundOutput, done, more, append_items, pending_round, one_round}

module _ (admit : Stage → Outcome Stage) (G : Tree) where
  -- the rounds from what one begins with
  abbrev pub rounds_from : ℕ → RoundInput → Outcome Stage
  rounds_from limit p = rounds admit G limit p.atoms p.old p.fresh p.keys

  abbrev pub go_on : ℕ → RoundOutput → Outcome Stage
  go_on limit (done g) = yes g
  go_on limit (more p) = rounds_from limit p

  -- theorem: with no round left the items are replaced once more, and what is pending is refused
  pub rounds_last : (p : RoundInput) → let q = replace_items p.fresh (record { keys = p.keys; pile = [] }) in rounds_from zero p ≡ last_stage q.1.pile (stage admit p.atoms (p.old ++ q.0))
  unfolding rounds
  rounds_last p = refl

  -- theorem: with so many left behind this one
  pub rounds_next : (limit : ℕ) (p : RoundInput) → rounds_from (suc limit) p ≡ after (one_round admit G p) (go_on limit)
  unfolding rounds one_round
  rounds_next limit p = let q = replace_items p.fresh (record { keys = p.keys; pile = [] }) in go q q.1.pile (stage admit p.atoms (p.old ++ q.0))
    where
      second : (q : List Item × MacroExpander) (new : List Item) (r : Outcome Stage)
          → after r (λ h. rounds admit G limit h.atoms (p.old ++ q.0) new q.1.keys) ≡ after (after r (λ h. yes (more (record { atoms = h.atoms; old = p.old ++ q.0; fresh = new; keys = q.1.keys })))) (go_on limit)
      second q new (yes h) = refl
      second q new (no n s) = refl

      first : (q : List Item × MacroExpander) (g : Stage) (d : Outcome (List Item))
          → after d (λ new. after (stage admit g.atoms (p.old ++ q.0 ++ new)) (λ h. rounds admit G limit h.atoms (p.old ++ q.0) new q.1.keys))
          ≡ after (after d (λ new. after (stage admit g.atoms (p.old ++ q.0 ++ new)) (λ h. yes (more (record { atoms = h.atoms; old = p.old ++ q.0; fresh = new; keys = q.1.keys }))))) (go_on limit)
      first q g (yes new) = second q new (stage admit g.atoms (p.old ++ q.0 ++ new))
      first q g (no n s) = refl

      go : (q : List Item × MacroExpander) (xs : List Pending) (r : Outcome Stage)
          → or_more xs r (after r (λ g. after (drain G q.1.pile) (λ new. after (stage admit g.atoms (p.old ++ q.0 ++ new)) (λ h. rounds admit G limit h.atoms (p.old ++ q.0) new q.1.keys))))
          ≡ after (pending_round xs r (append_items admit G p.old q)) (go_on limit)
      go q [] (yes g) = refl
      go q [] (no n s) = refl
      go q (x ∷ xs) (yes g) = first q g (drain G q.1.pile)
      go q (x ∷ xs) (no n s) = refl
