-- The replacing stage of one round, as the code has it, and what it is. Assumes nothing: these are definitions.
use Rattle.std.specs.Prelude.{Option, Some, None, ◌≡◌, Bool, List, [], ◌∷◌, ◌++◌, map, ℕ, length}
use Rattle.parse_tree.specs.Plain.Tree.{Text, Item, Stage}
use Rattle.parse_tree.specs.Plain.Display.{print}
use Rattle.parse_tree.specs.Working.Nodes.{node_at}
use Rattle.parse_tree.specs.Working.Encode.{item_bytes}
use Rattle.parse_tree.specs.Plain.WriteTape.{bytes_of_each}
use Rattle.parse_tree.specs.Plain.References.{stage_of}
use Rattle.parse_tree.specs.declared.syntax.Span.{Span}
use Rattle.parse_tree.specs.declared.syntax.Node.{Node}
use Rattle.passes.specs.Outcome.{Tree, Outcome, no}
use Rattle.passes.specs.Macros.{symbol_of, span_of, MacroExpander, drain}
use Rattle.passes.specs.Stages.{last_stage}
use Rattle.replacing.specs.Trees.{inner}
use Rattle.replacing.specs.Prints.{sym_at, print_at, same_print, text_is}
use Rattle.replacing.specs.Sound.{Firm, AllNoted, Sound}
use Rattle.replacing.specs.Popped.{drain_at}
use Rattle.replacing.specs.Runs.{Run, steps, started}

-- the span of the symbol whose command stands at a place
unfoldable pub node_span : Option Node → Span
node_span (Some (Node.Text k)) = record { 0 = 0; 1 = 0 }
node_span (Some (Node.Nonterminal d)) = record { 0 = 0; 1 = 0 }
node_span (Some (Node.Terminal t)) = record { 0 = 0; 1 = 0 }
node_span (Some (Node.Argument a)) = record { 0 = 0; 1 = 0 }
node_span (Some (Node.Alternative a)) = record { 0 = 0; 1 = 0 }
node_span (Some (Node.Attribute a)) = record { 0 = 0; 1 = 0 }
node_span (Some (Node.Condition c)) = record { 0 = 0; 1 = 0 }
node_span (Some (Node.Symbol s k)) = s
node_span None = record { 0 = 0; 1 = 0 }

-- question 18 by the places: the span at the top of the pile
unfoldable pub limit_at : ℕ → List ℕ → List ℕ → Outcome Stage → Outcome Stage
limit_at w s [] last = last
limit_at w s (p ∷ ps) last = no 18 (node_span (node_at w s p))

-- s are the fresh items' bytes, ts the texts that the round found, ms the numbers of those that were pushed before
module _ (four : Bool) (w : ℕ) (s : List ℕ) (ts : List Text) where
  unfoldable pub replaced : List ℕ → Run
  replaced ms = steps (same_print four w s ts) (text_is four w s ts) w (length ts) s (length s) (record { at = 0; out = []; slots = started ms })

  -- r is what replacing makes of items, which gives q; K are the keys before
  pub record Replaced (K : List Text) (q : List Item × MacroExpander) (r : Run) : Type 0 where
    -- all was read
    pub end : r.at ≡ length s
    -- what was written are the replaced items, by the numbers of the stage's texts, which are those before and then new ones by first reference
    pub items : r.out ≡ bytes_of_each (item_bytes w (stage_of ts q.0).atoms) q.0
    pub atoms : ts ++ map (print_at four w s ts) r.slots.news ≡ (stage_of ts q.0).atoms
    -- the pile: the symbols at its places, as they stand there with their inner symbols replaced
    pub pile : map (λ p. inner (sym_at four w s ts p)) r.slots.pile ≡ q.1.pile
    -- their keys are the prints of the symbols as they stand
    pub prints : map (print_at four w s ts) r.slots.pile ≡ map (λ p. print (symbol_of p)) q.1.pile
    pub keys : q.1.keys ≡ map (print_at four w s ts) r.slots.pile ++ K
    -- and their spans stand there
    pub spans : map (λ p. node_span (node_at w s p)) r.slots.pile ≡ map span_of q.1.pile
    pub limit : (last : Outcome Stage) → limit_at w s r.slots.pile last ≡ last_stage q.1.pile last
    -- its items
    pub drained : (G : Tree) → drain_at four w s ts G r.slots.pile ≡ drain G q.1.pile
    -- and all that the appending stage and the next round need of the slots
    pub sound : Sound (sym_at four w s ts) (Firm four w s ts) ts r.slots q.1
    pub noted : AllNoted w s r.slots
