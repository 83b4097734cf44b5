-- A round keeps the counts of new texts against items: each record of 24 has its bytes. Assumes nothing.
use mathlib.Core.Path.{◌≡◌, ap}
use mathlib.Core.Bool.{false≢true}
use mathlib.Core.List.{List, [], ◌∷◌, ◌++◌}
use Prim.Native.Nat.{ℕ, ◌+◌, ◌*◌, ◌≤◌}
use native.Mathlib.Omega.{arith}
use lib.ListN.{length, length-append}
use Rattle.parse_tree.specs.Plain.Tree.{Text, Syms, count, Item, item}
use Rattle.parse_tree.specs.Plain.Texts.{has}
use Rattle.parse_tree.specs.Plain.WriteTape.{bytes_of_each}
use Rattle.parse_tree.specs.Working.Encode.{atom_bytes}
use Rattle.parse_tree.specs.Working.Within.{Each}
use Rattle.passes.specs.Outcome.{Tree, yes}
use Rattle.passes.specs.Macros.{replace_items, drain, without_macros}
use Rattle.laws.specs.Counts.{heads, over_items}
use Rattle.laws.proofs.ReplacedSizes.{replaced_items}
use Rattle.replacing.proofs.ThereBytes.{bytes_both}
use Rattle.rounds.specs.Paid.{TreeKnown, KeysKnown, Paid}
use Rattle.rounds.proofs.PaidRounds.{after-round, round_pays}

pub heads-both : (xs ys : List Item) → heads (xs ++ ys) ≡ heads xs + heads ys
unfolding heads
heads-both [] ys = omega arith
heads-both (item d ∷ xs) ys = omega (arith, heads-both xs ys)
heads-both (Item.terminal s o t ∷ xs) ys = heads-both xs ys

over_both : (f : Syms → ℕ) (xs ys : List Item) → over_items f (xs ++ ys) ≡ over_items f xs + over_items f ys
unfolding over_items
over_both f [] ys = omega arith
over_both f (item d ∷ xs) ys = omega (arith, over_both f xs ys)
over_both f (Item.terminal s o t ∷ xs) ys = over_both f xs ys

pub texts-both : (us vs : List Text) → length (bytes_of_each (atom_bytes 2) (us ++ vs)) ≡ length (bytes_of_each (atom_bytes 2) us) + length (bytes_of_each (atom_bytes 2) vs)
texts-both us vs = omega (arith, ap length (bytes_both (atom_bytes 2) us vs), length-append (bytes_of_each (atom_bytes 2) us) (bytes_of_each (atom_bytes 2) vs))

-- more items that pay for more texts
pub paid_more : (owed : ℕ) (past us : List Text) (is new : List Item) → Paid owed past is
    → (24 * length us ≤ heads new + 4 * length (bytes_of_each (atom_bytes 2) us)) × (20 * length us ≤ heads new + 9 * over_items count new + length (bytes_of_each (atom_bytes 2) us)) → Paid owed (past ++ us) (is ++ new)
paid_more owed past us is new (a, b) (c, d) = (
  omega (arith, a, c, heads-both is new, texts-both past us, length-append past us),
  omega (arith, b, d, heads-both is new, over_both count is new, texts-both past us, length-append past us),
)

-- replaced items pay as much
pub paid_replaced : (owed : ℕ) (past : List Text) (old fresh : List Item) (K : List Text) → Paid owed past (old ++ fresh) → Paid owed past (old ++ (replace_items fresh (record { keys = K; pile = [] })).0)
paid_replaced owed past old fresh K (a, b) =
    let q = (replace_items fresh (record { keys = K; pile = [] })).0 in
    let (h, o) = replaced_items fresh (record { keys = K; pile = [] }) in
    (omega (arith, a, h, heads-both old fresh, heads-both old q), omega (arith, b, h, o, heads-both old fresh, heads-both old q, over_both count old fresh, over_both count old q))

-- theorem: `past` are the new texts before the round, us those that it brings
pub round_keeps : (owed : ℕ) (G : Tree) (old fresh new : List Item) (K ts past us : List Text) → TreeKnown ts G → TreeKnown ts old → TreeKnown ts fresh → KeysKnown ts K
    → drain G (replace_items fresh (record { keys = K; pile = [] })).1.pile ≡ yes new → after-round G old fresh new K ts ≡ ts ++ us → Paid owed past (old ++ fresh)
    → Paid owed (past ++ us) (old ++ (replace_items fresh (record { keys = K; pile = [] })).0 ++ new)
round_keeps owed G old fresh new K ts past us g a b f e w p =
    paid_more owed past us (old ++ (replace_items fresh (record { keys = K; pile = [] })).0) new (paid_replaced owed past old fresh K p) (round_pays G old fresh new K ts g a b f e us w)

-- ---- the first round
-- theorem: no keys were met, and what holds of each item holds of those that are no definitions of macros
pub keys_none : (ts : List Text) → KeysKnown ts []
unfolding has
keys_none ts t k h = absurd (false≢true h)

pub without_each : (P : Item → Type 0) (G : Tree) → Each P G → Each P (without_macros G)
without_each P [] h = tt
without_each P (item d ∷ rest) h = go d.args (without_each P rest h.1)
  where
    go : (ps : List Text) → Each P (without_macros rest) → Each P (elim ps [ [] ↦ item d ∷ without_macros rest | p ∷ qs ↦ without_macros rest ])
    go [] i = (h.0, i)
    go (p ∷ qs) i = i
without_each P (Item.terminal s o t ∷ rest) h = (h.0, without_each P rest h.1)
