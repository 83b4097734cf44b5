-- Replacing as a flat run over the commands of the unreplaced items: a symbol that is expanded is noted with its inner symbols and gives way to a 24,
-- every other command is copied, but for definitions of macros. Assumes nothing: these are definitions.
use Rattle.std.specs.Prelude.{Option as Optional, Some, None, Bool, true, false, List, [], ◌++◌, ℕ, zero, suc, ◌+◌, leb, ltb, length}
use Rattle.std.proofs.Math.Option.{Option}
use Rattle.octets.specs.Working.Choice.{pick}
use Rattle.octets.specs.Plain.Runs.{part}
use Rattle.parse_tree.specs.Working.Nodes.{node_bytes, node_at, size_read}
use Rattle.parse_tree.specs.Plain.Reading.{Reading, got, refused}
use Rattle.parse_tree.specs.declared.syntax.Leaf.{Leaf}
use Rattle.parse_tree.specs.declared.syntax.Around.{Around}
use Rattle.parse_tree.specs.declared.syntax.SymbolKind.{SymbolKind}
use Rattle.parse_tree.specs.declared.syntax.Node.{Node}
use Rattle.replacing.specs.Slots.{Slots, places, note_all, numbered}

-- whether a command is copied as it stands: all but 25, 26, 29, 2a, 2b
unfoldable pub plain_leaf : Leaf → Bool
plain_leaf (Leaf.AmbiguousId a) = true
plain_leaf (Leaf.Bare a) = true
plain_leaf (Leaf.Quoted a) = true
plain_leaf (Leaf.Regex a) = true
plain_leaf (Leaf.Nonterminal a) = true
plain_leaf Leaf.Lookahead = false
plain_leaf Leaf.Lookbehind = false
plain_leaf Leaf.Error = true

unfoldable pub plain_around : Around → Bool
plain_around (Around.Repeat op) = false
plain_around Around.Choose = true
plain_around (Around.Name m a) = true

unfoldable pub plain_kind : SymbolKind → Bool
plain_kind (SymbolKind.Leaf l) = plain_leaf l
plain_kind (SymbolKind.Around a) = plain_around a
plain_kind (SymbolKind.Over o) = false

unfoldable pub plain : Optional Node → Bool
plain (Some (Node.Text k)) = true
plain (Some (Node.Nonterminal d)) = true
plain (Some (Node.Terminal t)) = true
plain (Some (Node.Argument a)) = true
plain (Some (Node.Alternative a)) = true
plain (Some (Node.Attribute a)) = true
plain (Some (Node.Condition c)) = true
plain (Some (Node.Symbol s k)) = plain_kind k
plain None = true

-- 10, 30, 31
unfoldable pub is_item : Optional Node → Bool
is_item (Some (Node.Text k)) = false
is_item (Some (Node.Nonterminal d)) = true
is_item (Some (Node.Terminal t)) = true
is_item (Some (Node.Argument a)) = false
is_item (Some (Node.Alternative a)) = false
is_item (Some (Node.Attribute a)) = false
is_item (Some (Node.Condition c)) = false
is_item (Some (Node.Symbol s k)) = false
is_item None = false

-- the definition of a macro: a 10 with arguments
unfoldable pub is_macro : Optional Node → Bool
is_macro (Some (Node.Text k)) = false
is_macro (Some (Node.Nonterminal d)) = ltb 0 d.args
is_macro (Some (Node.Terminal t)) = false
is_macro (Some (Node.Argument a)) = false
is_macro (Some (Node.Alternative a)) = false
is_macro (Some (Node.Attribute a)) = false
is_macro (Some (Node.Condition c)) = false
is_macro (Some (Node.Symbol s k)) = false
is_macro None = false

-- from command to command, up to an item or the end
unfoldable pub hop : ℕ → List ℕ → ℕ → ℕ
hop w s at = pick (leb (length s) at) at (pick (is_item (node_at w s at)) at (at + size_read w (node_at w s at)))

unfoldable pub hops : ℕ → List ℕ → ℕ → ℕ → ℕ
hops w s zero at = at
hops w s (suc n) at = hops w s n (hop w s at)

-- a 24 with the span of a symbol and the number k
unfoldable pub key_bytes : ℕ → Optional Node → ℕ → List ℕ
key_bytes w (Some (Node.Text n)) k = []
key_bytes w (Some (Node.Nonterminal d)) k = []
key_bytes w (Some (Node.Terminal t)) k = []
key_bytes w (Some (Node.Argument a)) k = []
key_bytes w (Some (Node.Alternative a)) k = []
key_bytes w (Some (Node.Attribute a)) k = []
key_bytes w (Some (Node.Condition c)) k = []
key_bytes w (Some (Node.Symbol s x)) k = node_bytes w (Node.Symbol s (SymbolKind.Leaf (Leaf.Nonterminal (record { 0 = k }))))
key_bytes w None k = []

-- the place to read on at, what was written, the slots
pub record Run : Type 0 where
  pub at : ℕ
  pub out : List ℕ
  pub slots : Slots

module _ (same : ℕ → ℕ → Bool) (text_at : ℕ → Option ℕ) (w base : ℕ) (s : List ℕ) where
  unfoldable pub copy_step : Run → Run
  copy_step r =
      let n = node_at w s r.at in
      record { at = r.at + size_read w n; out = r.out ++ part r.at (r.at + size_read w n) s; slots = r.slots }

  -- the places of what is expanded in the symbol, and where it ends
  unfoldable pub key_by : Reading (List ℕ) → Run → Run
  key_by (got ps e) r =
      let q = numbered base r.at (note_all same text_at ps r.slots) in
      record { at = e; out = r.out ++ key_bytes w (node_at w s r.at) q.0; slots = q.1 }
  key_by (refused k p) r = r

  -- the definition of a macro is left out
  unfoldable pub skip_step : Run → Run
  skip_step r = record { at = hops w s (length s) (r.at + size_read w (node_at w s r.at)); out = r.out; slots = r.slots }

  unfoldable pub step_on : Run → Run
  step_on r =
      pick (leb (length s) r.at) r
      (pick (is_macro (node_at w s r.at)) (skip_step r)
      (pick (plain (node_at w s r.at)) (copy_step r) (key_by (places w s 64 r.at) r)))

  unfoldable pub steps : ℕ → Run → Run
  steps zero r = r
  steps (suc n) r = steps n (step_on r)

-- before the round: marks are the numbers of the texts that were pushed before
unfoldable pub started : List ℕ → Slots
started ms = record { refs = []; pile = []; marks = ms; firsts = []; news = [] }
