-- What stands in work between the replacing stage of a round and its appending stage. s is the tape, w is work. Assumes nothing: these are definitions.
use Rattle.std.specs.Prelude.{◌≡◌, Bool, false, ◌⊎◌, List, [], map, ℕ, ◌+◌, ◌-◌, ◌*◌, ◌/◌, ◌≤◌, ◌<◌, length, get_or}
use Rattle.octets.specs.Plain.Numbers.{Bytes, le_at}
use Rattle.parse_tree.specs.Plain.Tree.{Text, Item}
use Rattle.parse_tree.specs.Plain.Texts.{has}
use Rattle.parse_tree.specs.Plain.Reading.{got}
use Rattle.parse_tree.specs.Plain.References.{stage_of}
use Rattle.parse_tree.specs.Working.Decode.{read_items}
use Rattle.parse_tree.specs.Working.Within.{Each}
use Rattle.texts.specs.Table.{Above, texts}
use Rattle.passes.specs.Outcome.{Tree}
use Rattle.passes.specs.Macros.{MacroExpander, replace_items, without_macros}
use Rattle.laws.specs.Keys.{ItemSound}
use Rattle.resolve.specs.declared.Grammar.{Grammar}
use Rattle.replacing.specs.Trees.{inner}
use Rattle.replacing.specs.Sound.{Key}
use Rattle.expander.specs.declared.Ground.{Ground}
use Rattle.expander.specs.declared.stage.Replaced.{Replaced}
use Rattle.expander.specs.Ground.{size_in, stage_in, top_of, key_at, list_place, symbol_in, Grounded}
use Rattle.expander.specs.Held.{down}
use Rattle.expander.specs.Stage.{MarksAre, Stages}
use Rattle.expander.specs.Names.{named_in}
use Rattle.appending.specs.declared.Appended.{Appended}
use Rattle.macro_expand.specs.Drain.{Pile}
use Rattle.rounds.specs.Calls.{ItemCalls}

-- the items `is` were read in w, K are the keys before the round, whose texts have the numbers ms; replacing wrote from `to` on and left w'
pub record Replacing (s w : List ℕ) (g : Ground) (to : ℕ) (r : Replaced) (w' : List ℕ) (is : List Item) (K : List Text) (ms : List ℕ) (G : Tree) : Type 0 where
  pub ground : Grounded s w g
  pub stages : Stages s w g to r w'
  -- behind the slots and the items
  pub top : top_of g ≤ to
  pub items : g.end ≤ to
  pub bytes : Bytes (stage_in w g)
  pub many : ℕ
  pub read : read_items false g.width.bytes (stage_in w g) (texts s w g.m) many 0 ≡ got is (length (stage_in w g))
  pub marks : MarksAre w g ms
  pub keys : (t : Text) → Key t → has t K ≡ has t (map (λ k. get_or (texts s w g.m) k []) ms)
  pub sound : Each ItemSound (without_macros is)
  pub calls : Each (ItemCalls G) (without_macros is)

-- from w' to w'' the nine words of built-in texts, which stand before the slots, were cleared, and nothing else
pub record Cleared (slots : ℕ) (w' w'' : List ℕ) : Type 0 where
  pub long : length w'' ≡ length w'
  pub words : (i : ℕ) → i < 9 → le_at 8 w'' (slots - 72 + 8 * i) ≡ 0
  pub others : (i : ℕ) → (i < slots - 72) ⊎ (slots ≤ i) → get_or w'' i 0 ≡ get_or w' i 0

-- there is room for appending: three records more, the list of new texts, and items before lim
pub record Roomy (s w : List ℕ) (g : Ground) (r : Replaced) (lim : ℕ) : Type 0 where
  pub records : r.pile + 3 ≤ size_in g / 9
  pub heads : g.buckets + 3 ≤ size_in g / 9
  pub list : list_place g (r.pile + 9) ≤ g.keys
  pub top : top_of g ≤ r.to
  pub items : g.end ≤ r.to
  pub upto : r.to ≤ lim + 1
  pub low : top_of g ≤ lim
  pub behind : g.end + 16 ≤ length w
  pub inside : lim ≤ length w
  pub above : Above s w g.m lim

-- what appending begins with
abbrev pub at_start : Replaced → Appended
at_start r = record { to = r.to; count = r.count; deep = false }

-- what replacing comes to
abbrev pub replaced_by : List Item → List Text → List Item × MacroExpander
replaced_by is K = replace_items (without_macros is) (record { keys = K; pile = [] })

-- the pile stands in w'', and is that of the definitions; the texts by number are those of the stage
pub record StartsAppending (s w : List ℕ) (g : Ground) (r : Replaced) (is : List Item) (K : List Text) (lim : ℕ) (t : Grammar) (four : Bool) (G : Tree) (w'' : List ℕ) : Type 0 where
  pub places : List ℕ
  pub pile : Pile s w'' g r.pile lim t (at_start r) places four G
  pub pending : map (λ p. inner (symbol_in s w'' g p)) (down (key_at w'' g) r.pile) ≡ (replaced_by is K).1.pile
  pub texts-are : named_in s w'' g r.count ≡ (stage_of (texts s w g.m) (replaced_by is K).0).atoms
