-- Items that stand levelled in work, resolved again. s is the tape, w is work before and w' after. Assumes nothing: these are definitions.
use Rattle.std.specs.Prelude.{◌≡◌, true, false, List, ℕ, ◌+◌, ◌*◌, ◌^◌, ◌≤◌, ◌<◌, length, Result, Ok, Err}
use Rattle.octets.specs.Plain.Runs.{Lies}
use Rattle.parse_tree.specs.Plain.Texts.{distinct}
use Rattle.parse_tree.specs.Plain.WriteTape.{bytes_of_each}
use Rattle.parse_tree.specs.Working.Encode.{item_bytes}
use Rattle.parse_tree.specs.Working.Refusals.{refusal_over}
use Rattle.parse_tree.specs.Working.Within.{Each, ItemWithin}
use Rattle.texts.specs.declared.Map.{Map}
use Rattle.texts.specs.Fields.{mark_at}
use Rattle.texts.specs.Table.{Above, texts}
use Rattle.passes.specs.Outcome.{Tree, Outcome, yes, no}
use Rattle.passes.specs.Resolve.{resolve}
use Rattle.resolve.specs.declared.Grammar.{Grammar}
use Rattle.rounds.specs.Define.{Cells, Items}
use Rattle.parse_tree.specs.declared.refusal.Refusal.{Refusal}

-- the items L stand from `at` up to `end`, behind the records and the heads of their chains, and before the texts in work; the list of their places fits before the records
pub record AgainStands (s w : List ℕ) (m : Map) (list at end : ℕ) (L : Tree) : Type 0 where
  pub cells : Cells s w m
  pub apart : distinct (texts s w m) ≡ true
  pub few : m.count ≤ 65536
  pub lies : Lies w at (bytes_of_each (item_bytes 2 (texts s w m)) L) end
  pub within : Each (ItemWithin false 2 (texts s w m)) L
  pub fits : list + 8 * length L ≤ m.base
  pub records : m.base + 24 * m.count ≤ at
  pub narrower : m.buckets ≤ m.count
  pub above : Above s w m end
  pub inside : end + 16 ≤ length w
  pub short : length w < 256 ^ 8

pub record SomeAgain (s w : List ℕ) (m : Map) (list at end : ℕ) : Type 0 where
  pub tree : Tree
  pub stands : AgainStands s w m list at end tree

-- the items R stand there, listed; the texts are where they were
pub record AgainReady (s w : List ℕ) (m : Map) (list at end : ℕ) (R : Tree) (t : Grammar) (w' : List ℕ) : Type 0 where
  pub from : t.at ≡ at
  pub upto : t.end ≡ end
  pub listed : t.list ≡ list
  pub width : t.width.bytes ≡ 2
  pub long : length w' ≡ length w
  pub same : texts s w' m ≡ texts s w m
  pub marks : (k : ℕ) → k < m.count → mark_at w' m.base k ≡ mark_at w m.base k
  pub items : Items s w' m t false R

-- a yes leaves the tree, a no gives the question's number and the span
unfoldable pub AgainBy : List ℕ → List ℕ → Map → ℕ → ℕ → ℕ → Outcome Tree → Result Grammar Refusal → List ℕ → Type 0
AgainBy s w m list at end (yes R) r w' = (t : Grammar) × (r ≡ Ok t) × AgainReady s w m list at end R t w'
AgainBy s w m list at end (no q sp) r w' = r ≡ Err (refusal_over q sp)

-- "Resolving again: 5 to 13", of every tree that stands so
unfoldable pub AgainTo : List ℕ → List ℕ → Map → ℕ → ℕ → ℕ → Result Grammar Refusal → List ℕ → Type 0
AgainTo s w m list at end r w' = (L : Tree) → AgainStands s w m list at end L → AgainBy s w m list at end (resolve L) r w'
