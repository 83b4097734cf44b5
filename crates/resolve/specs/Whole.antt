-- What the pass says of items that stand in work, and leaves of them: what `resolve` of passes says of their tree. Assumes nothing: these are definitions.
use Rattle.std.specs.Prelude.{◌≡◌, Bool, true, ◌⊎◌, List, ℕ, ◌+◌, ◌*◌, ◌≤◌, ◌<◌, length, take, get_or, Result, Ok, Err}
use Rattle.octets.specs.Plain.Numbers.{le_at, Bytes}
use Rattle.octets.specs.Plain.Runs.{Lies}
use Rattle.parse_tree.specs.Plain.Tree.{Text, Item}
use Rattle.parse_tree.specs.Plain.Texts.{distinct}
use Rattle.parse_tree.specs.Plain.WriteTape.{bytes_of_each}
use Rattle.parse_tree.specs.Working.Encode.{item_bytes}
use Rattle.parse_tree.specs.Working.Refusals.{refusal_over}
use Rattle.parse_tree.specs.declared.refusal.Refusal.{Refusal}
use Rattle.parse_tree.specs.Working.Within.{Each, ItemWithin}
use Rattle.texts.specs.declared.Map.{Map}
use Rattle.texts.specs.Fields.{cell_at}
use Rattle.passes.specs.Outcome.{Outcome, yes, no}
use Rattle.passes.specs.Resolve.{resolve}
use Rattle.resolve.specs.declared.Grammar.{Grammar}

-- two runs of bytes that share none
abbrev pub Apart : ℕ → ℕ → ℕ → ℕ → Type 0
Apart a b c d = (b ≤ c) ⊎ (d ≤ a)

-- work w holds the items `is`, whose names are numbers in ts; their places are listed; nothing is known of a name yet
pub record Holds (w : List ℕ) (m : Map) (t : Grammar) (ts : List Text) (is : List Item) : Type 0 where
  pub four : Bool
  pub bytes : Bytes w
  pub lies : Lies w t.at (bytes_of_each (item_bytes t.width.bytes ts) is) t.end
  pub inside : t.end ≤ length w
  pub within : Each (ItemWithin four t.width.bytes ts) is
  pub many : t.count ≡ length is
  pub places : (i : ℕ) → i < t.count → le_at 8 w (t.list + 8 * i) ≡ length (bytes_of_each (item_bytes t.width.bytes ts) (take i is))
  pub distinct : distinct ts ≡ true
  pub texts : m.count ≡ length ts
  pub blank : (k : ℕ) → k < m.count → cell_at w m.base k ≡ 0
  pub items_apart : Apart t.at t.end m.base (m.base + 24 * m.count)
  pub list_apart : 0 < t.count → Apart t.list (t.list + 8 * t.count) m.base (m.base + 24 * m.count)
  pub apart : 0 < t.count → Apart t.at t.end t.list (t.list + 8 * t.count)

-- a byte of work that is neither of an item nor of a text's cell
pub record Free (m : Map) (t : Grammar) (i : ℕ) : Type 0 where
  pub item : (i < t.at) ⊎ (t.end ≤ i)
  pub cell : (k : ℕ) → k < m.count → (i < m.base + 24 * k + 20) ⊎ (m.base + 24 * k + 24 ≤ i)

-- from w to w' the items became R, and nothing else changed but cells
pub record Became (m : Map) (t : Grammar) (ts : List Text) (R : List Item) (w w' : List ℕ) : Type 0 where
  pub long : length w' ≡ length w
  pub lies : Lies w' t.at (bytes_of_each (item_bytes t.width.bytes ts) R) t.end
  pub others : (i : ℕ) → Free m t i → get_or w' i 0 ≡ get_or w i 0

-- a yes leaves the tree; a no gives the question's number and the span
unfoldable pub Answers : Map → Grammar → List Text → Outcome (List Item) → List ℕ → Result (Unit {0}) Refusal → List ℕ → Type 0
Answers m t ts (yes R) w r w' = (r ≡ Ok tt) × Became m t ts R w w'
Answers m t ts (no q p) w r w' = r ≡ Err (refusal_over q p)

unfoldable pub Resolves : Map → Grammar → List ℕ → Result (Unit {0}) Refusal → List ℕ → Type 0
Resolves m t w r w' = (ts : List Text) (is : List Item) → Holds w m t ts is → Answers m t ts (resolve is) w r w'
