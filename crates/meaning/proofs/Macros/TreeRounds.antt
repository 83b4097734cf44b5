-- The passes without stages, as the proofs over trees go through them: helper forms, each equal to the plain one. Assumes nothing.
use mathlib.Core.Path.{◌≡◌, refl}
use mathlib.Core.List.{List, [], ◌∷◌, ◌++◌}
use Prim.Native.Nat.{ℕ, zero, suc}
use Rattle.parse_tree.specs.Plain.Tree.{Text, Item, Stage}
use Rattle.parse_tree.specs.Plain.References.{stage_of}
use Rattle.passes.specs.Outcome.{Tree, Outcome, yes, no, after}
use Rattle.passes.specs.Resolve.{resolve}
use Rattle.passes.specs.Levels.{levels}
use Rattle.passes.specs.Macros.{Pending, MacroExpander, replace_items, drain, span_of, without_macros}
use Rattle.passes.specs.Stages.{last_stage, or_more, stage, resolve_stage, level_stage, rounds, macro_stages, all_stages}
use Rattle.passes.specs.Passes.{items_of, macros, passes}
use Rattle.passes.proofs.Outcomes.{after_same}

-- "rounds so far within the limit? 18, span of the last pushed"
unfoldable pub at_limit : List Item → List Pending → Outcome (List Item)
at_limit items [] = yes items
at_limit items (x ∷ xs) = no 18 (span_of x)

-- with nothing pending the items are done
abbrev pub unless_done : List Item → List Pending → Outcome (List Item) → Outcome (List Item)
unless_done items [] r = yes items
unless_done items (x ∷ xs) r = r

-- `done` are the items already replaced, `fresh` those added since
unfoldable pub tree_rounds : Tree → ℕ → List Item → List Item → List Text → Outcome (List Item)
tree_rounds G zero done fresh keys = let q = replace_items fresh (record { keys = keys; pile = [] }) in at_limit (done ++ q.0) q.1.pile
tree_rounds G (suc limit) done fresh keys =
    let q = replace_items fresh (record { keys = keys; pile = [] }) in
    let r = after (drain G q.1.pile) (λ new. tree_rounds G limit (done ++ q.0) new q.1.keys) in
    unless_done (done ++ q.0) q.1.pile r

unfoldable pub expand_tree : ℕ → Tree → Outcome Tree
expand_tree limit G = tree_rounds G limit [] (without_macros G) []

unfoldable pub pass_tree : ℕ → Tree → Outcome Tree
pass_tree limit U = after (resolve U) (λ R. after (levels R) (λ L. after (resolve L) (λ G. expand_tree limit G)))

-- ---- rounds
pub rounds_tree : (G : Tree) (limit : ℕ) (ts : List Text) (old fresh : List Item) (keys : List Text) → items_of (rounds yes G limit ts old fresh keys) ≡ tree_rounds G limit old fresh keys
unfolding rounds tree_rounds at_limit stage_of
rounds_tree G zero ts old fresh keys = let q = replace_items fresh (record { keys = keys; pile = [] }) in go q.1.pile (old ++ q.0)
  where
    go : (p : List Pending) (items : List Item) → items_of (last_stage p (stage yes ts items)) ≡ at_limit items p
    go [] items = refl
    go (x ∷ xs) items = refl
rounds_tree G (suc limit) ts old fresh keys =
    let q = replace_items fresh (record { keys = keys; pile = [] }) in
    go q q.1.pile (drain G q.1.pile) (λ us new. rounds_tree G limit us (old ++ q.0) new q.1.keys)
  where
    go : (q : List Item × MacroExpander) (p : List Pending) (d : Outcome (List Item))
        → ((us : List Text) (new : List Item) → items_of (rounds yes G limit us (old ++ q.0) new q.1.keys) ≡ tree_rounds G limit (old ++ q.0) new q.1.keys)
        → items_of (or_more p (stage yes ts (old ++ q.0)) (after (stage yes ts (old ++ q.0)) (λ g. after d (λ new. after (stage yes g.atoms (old ++ q.0 ++ new)) (λ h. rounds yes G limit h.atoms (old ++ q.0) new q.1.keys)))))
        ≡ unless_done (old ++ q.0) p (after d (λ new. tree_rounds G limit (old ++ q.0) new q.1.keys))
    go q [] d ih = refl
    go q (x ∷ xs) (yes new) ih = ih _ new
    go q (x ∷ xs) (no n s) ih = refl

-- the atoms have no say
pub stages_tree : (limit : ℕ) (g : Stage) → items_of (all_stages yes limit g) ≡ pass_tree limit g.items
unfolding pass_tree all_stages resolve_stage level_stage macro_stages expand_tree stage_of
stages_tree limit g = first (resolve g.items) g.atoms
  where
    third : (r : Outcome Tree) (ts : List Text) → items_of (after r (λ L. macro_stages yes limit (record { atoms = ts; items = L }))) ≡ after r (λ G. expand_tree limit G)
    third (yes G) ts = rounds_tree G limit ts [] (without_macros G) []
    third (no n s) ts = refl

    second : (r : Outcome Tree) (ts : List Text)
        → items_of (after (after r (λ L. stage yes ts L)) (λ l. after (resolve l.items) (λ L. macro_stages yes limit (record { atoms = l.atoms; items = L })))) ≡ after r (λ L. after (resolve L) (λ G. expand_tree limit G))
    second (yes L) ts = third (resolve L) _
    second (no n s) ts = refl

    first : (r : Outcome Tree) (ts : List Text)
        → items_of (after (after r (λ R. stage yes ts R)) (λ h. after (after (levels h.items) (λ L. stage yes h.atoms L)) (λ l. after (resolve l.items) (λ L. macro_stages yes limit (record { atoms = l.atoms; items = L })))))
        ≡ after r (λ R. after (levels R) (λ L. after (resolve L) (λ G. expand_tree limit G)))
    first (yes R) ts = second (levels R) _
    first (no n s) ts = refl

macros-tree : (limit : ℕ) (G : Tree) → macros limit G ≡ expand_tree limit G
unfolding macros macro_stages expand_tree
macros-tree limit G = rounds_tree G limit [] [] (without_macros G) []

pub passes-tree : (limit : ℕ) (U : Tree) → passes limit U ≡ pass_tree limit U
unfolding passes pass_tree
passes-tree limit U =
    after_same (resolve U) _ _ (λ R. after_same (levels R) _ _ (λ L. after_same (resolve L) _ _ (λ G. macros-tree limit G)))
