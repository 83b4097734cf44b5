-- What replacing writes is at most by two for each nine bytes longer than the items were. Assumes nothing.
use mathlib.Core.List.{List, [], ◌∷◌}
use Prim.Native.Nat.{◌+◌, ◌*◌, ◌/◌, ◌≤◌}
use native.Mathlib.Omega.{arith}
use lib.ListN.{length, length-append}
use Rattle.parse_tree.specs.Plain.Tree.{Text, Item, item}
use Rattle.parse_tree.specs.Plain.WriteTape.{bytes_of_each}
use Rattle.parse_tree.specs.Working.Encode.{item_bytes}
use Rattle.passes.specs.Macros.{MacroExpander, replace_items, without_macros}
use Rattle.laws.specs.Flat.{nodes_all}
use Rattle.laws.specs.Counts.{looks_all}
use Rattle.laws.proofs.Counts.{looks_all_few, items_few, over_items_less}
use Rattle.laws.proofs.ReplacedSizes.{items_size_lem}

-- without definitions of macros there are fewer bytes
without_fewer : (ts : List Text) (is : List Item) → length (bytes_of_each (item_bytes 2 ts) (without_macros is)) ≤ length (bytes_of_each (item_bytes 2 ts) is)
unfolding bytes_of_each
without_fewer ts [] = omega arith
without_fewer ts (item d ∷ is) = go d.args (without_fewer ts is)
  where
    go : (ps : List Text) → length (bytes_of_each (item_bytes 2 ts) (without_macros is)) ≤ length (bytes_of_each (item_bytes 2 ts) is)
        → length (bytes_of_each (item_bytes 2 ts) (elim ps [ [] ↦ item d ∷ without_macros is | p ∷ qs ↦ without_macros is ])) ≤ length (bytes_of_each (item_bytes 2 ts) (item d ∷ is))
    go [] h = omega (arith, h, length-append (item_bytes 2 ts (item d)) (bytes_of_each (item_bytes 2 ts) (without_macros is)), length-append (item_bytes 2 ts (item d)) (bytes_of_each (item_bytes 2 ts) is))
    go (p ∷ ps) h = omega (arith, h, length-append (item_bytes 2 ts (item d)) (bytes_of_each (item_bytes 2 ts) is))
without_fewer ts (Item.terminal s o t ∷ is) =
    omega (
      arith,
      without_fewer ts is,
      length-append (item_bytes 2 ts (Item.terminal s o t)) (bytes_of_each (item_bytes 2 ts) (without_macros is)),
      length-append (item_bytes 2 ts (Item.terminal s o t)) (bytes_of_each (item_bytes 2 ts) is),
    )

-- theorem: ts are the texts before, us those after
pub replaced_longer : (ts us : List Text) (is : List Item) (σ : MacroExpander)
    → length (bytes_of_each (item_bytes 2 us) (replace_items (without_macros is) σ).0) ≤ length (bytes_of_each (item_bytes 2 ts) is) + 2 * (length (bytes_of_each (item_bytes 2 ts) is) / 9)
replaced_longer ts us is σ =
    omega (arith, items_size_lem ts us (without_macros is) σ, without_fewer ts is, items_few ts (without_macros is), over_items_less looks_all nodes_all looks_all_few (without_macros is))
