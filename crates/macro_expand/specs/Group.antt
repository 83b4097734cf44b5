-- The item of a group that was taken off the pile. s is the tape, w is work. Assumes nothing: these are definitions.
use Rattle.std.specs.Prelude.{◌≡◌, Bool, true, List, [], ◌∷◌, ℕ, ◌+◌, eqb}
use Rattle.octets.specs.Working.Choice.{pick}
use Rattle.octets.specs.Plain.Numbers.{le_at}
use Rattle.parse_tree.specs.Plain.Tree.{Syms, group, over, user, item}
use Rattle.parse_tree.specs.Plain.Display.{print}
use Rattle.parse_tree.specs.declared.syntax.Span.{Span}
use Rattle.passes.specs.Outcome.{simple}
use Rattle.passes.specs.Macros.{made}
use Rattle.replacing.specs.Trees.{renamed_all}
use Rattle.expander.specs.declared.Ground.{Ground}
use Rattle.appending.specs.declared.Appended.{Appended}
use Rattle.appending.specs.Built.{built_text}
use Rattle.appending.specs.Pieces.{item_piece, Appends}
use Rattle.macro_expand.specs.Expand.{Popped, SomePopped, IsGroup}

-- the built-in text of the action: `<>` or `(<>)`, where c of k symbols are chosen
unfoldable pub group_text : ℕ → ℕ → ℕ
group_text c k = pick (eqb c 0) (pick (eqb k 1) 7 8) (pick (eqb c 1) 7 8)

-- a group of m symbols stands at q
pub record SomeGroup (s w : List ℕ) (g : Ground) (n lim q : ℕ) (v : Appended) (m : ℕ) : Type 0 where
  pub popped : SomePopped IsGroup s w g n lim q v
  pub many : m ≡ le_at 2 w (g.from + q + 9)

-- its item with the i-th built-in text
unfoldable pub PutsGroup : List ℕ → List ℕ → Ground → ℕ → ℕ → ℕ → Appended → ℕ → Appended → List ℕ → Type 0
PutsGroup s w g n lim q v i r w' = (ps : List ℕ) (four : Bool) (left e : ℕ) (sp : Span) (xs : Syms) → Popped s w g n lim ps four left q e (over sp group xs) v
    → Appends s g n lim ps w v (item_piece g.width.bytes (item (made sp (print (over sp group xs)) true (simple sp (user (built_text i)) (renamed_all xs) ∷ [])))) r w'
