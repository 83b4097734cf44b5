-- One round by itself: the last stage, or what the next round begins with. Assumes nothing: these are definitions.
use Rattle.std.specs.Prelude.{List, [], ◌∷◌, ◌++◌}
use Rattle.parse_tree.specs.Plain.Tree.{Text, Item, Stage}
use Rattle.passes.specs.Outcome.{Tree, Outcome, yes, after}
use Rattle.passes.specs.Macros.{Pending, MacroExpander, replace_items, drain}
use Rattle.passes.specs.Stages.{stage}

-- the texts so far, the items already replaced, those added since, the keys met so far
pub record RoundInput : Type 0 where
  pub atoms : List Text
  pub old : List Item
  pub fresh : List Item
  pub keys : List Text

pub data RoundOutput : Type 0 where
  done : Stage → RoundOutput
  more : RoundInput → RoundOutput

-- the round's second half: q is what replacing gave
abbrev pub append_items : (Stage → Outcome Stage) → Tree → List Item → List Item × MacroExpander → Stage → Outcome RoundOutput
append_items admit G old q g =
    after (drain G q.1.pile) (λ new. after (stage admit g.atoms (old ++ q.0 ++ new)) (λ h. yes (more (record { atoms = h.atoms; old = old ++ q.0; fresh = new; keys = q.1.keys }))))

-- with nothing pending the replacing stage is the last
abbrev pub pending_round : List Pending → Outcome Stage → (Stage → Outcome RoundOutput) → Outcome RoundOutput
pending_round [] replaced append = after replaced (λ g. yes (done g))
pending_round (x ∷ xs) replaced append = after replaced append

-- a round behind which another may come
unfoldable pub one_round : (Stage → Outcome Stage) → Tree → RoundInput → Outcome RoundOutput
one_round admit G p =
    let q = replace_items p.fresh (record { keys = p.keys; pile = [] }) in
    pending_round q.1.pile (stage admit p.atoms (p.old ++ q.0)) (append_items admit G p.old q)
