-- The expander's numbers from round to round: they stay those of the trees, and fit. Assumes nothing.
use mathlib.Core.Path.{◌≡◌, refl, ap}
use mathlib.Core.List.{List, [], ◌∷◌}
use Prim.Native.Nat.{ℕ, ◌+◌, ◌*◌, ◌≤◌, ◌<◌}
use native.Mathlib.Omega.{arith}
use lib.ListN.{length, length-append}
use Rattle.parse_tree.specs.Plain.Tree.{Text, Item, item}
use Rattle.parse_tree.specs.Plain.WriteTape.{bytes_of_each}
use Rattle.parse_tree.specs.Working.Nodes.{node_bytes}
use Rattle.parse_tree.specs.Working.Encode.{item_bytes, nonterminal_node}
use Rattle.parse_tree.proofs.ReadingLaws.{bytes_many}
use Rattle.passes.specs.Outcome.{Tree, yes}
use Rattle.passes.specs.Macros.{Pending, expand_symbol, replace_alternatives, replace_items, drain, without_macros}
use Rattle.passes.specs.Macros as macros
use Rattle.passes.proofs.Outcomes.{after-yes}
use Rattle.passes.proofs.ResolveKeeps.{yes_as}
use Rattle.resolve.specs.declared.Grammar.{Grammar}
use Rattle.expander.specs.Ground.{top_of}
use Rattle.rounds.specs.declared.Expander.{Expander}
use Rattle.rounds.specs.declared.Room.{Room}
use Rattle.rounds.specs.declared.State.{State}
use Rattle.rounds.specs.declared.round.Half.{Half}
use Rattle.rounds.specs.Steps.{numbers_appended}
use Rattle.rounds.specs.Standing.{RoundTrees, round_atoms, Tallied, RoundStands}
use Rattle.rounds.specs.Round.{replaced_of, pending_of, next_trees, Halfway}
use Rattle.rounds.proofs.LastPushed.{pile_count}
use Rattle.rounds.proofs.RoundStages.{drained_without}
use Rattle.rounds.proofs.RoundPlaces as places
use Rattle.rounds.proofs.RoundHalf as halves

-- ---- items counted

-- replacing symbols keeps the items
replaced_many : (is : List Item) (σ : macros.MacroExpander) → length (replace_items is σ).0 ≡ length is
unfolding replace_items
replaced_many [] σ = refl
replaced_many (item d ∷ is) σ = let h = replaced_many is (replace_alternatives d.alternatives σ).1 in omega (arith, h)
replaced_many (Item.terminal s o t ∷ is) σ = let h = replaced_many is σ in omega (arith, h)

-- each symbol of the pile becomes one
drained_many : (G : Tree) (xs : List Pending) (new : List Item) → drain G xs ≡ yes new → length new ≡ length xs
unfolding drain
drained_many G [] new e = yes_as (λ (is : List Item). length is ≡ 0) e refl
drained_many G (x ∷ xs) new e =
    let (d, p, q) = after-yes (expand_symbol G x) _ new e in
    let (ds, r, z) = after-yes (drain G xs) _ new q in
    let h = drained_many G xs ds r in
    yes_as (λ (is : List Item). length is ≡ length (x ∷ xs)) z (omega (arith, h))

-- without macros there are no more
without_many : (is : List Item) → length (without_macros is) ≤ length is
without_many [] = omega arith
without_many (item d ∷ is) = go d.args (without_many is)
  where
    go : (ps : List Text) → length (without_macros is) ≤ length is → length {A = Item} (elim ps [ [] ↦ item d ∷ without_macros is | p ∷ qs ↦ without_macros is ]) ≤ length (item d ∷ is)
    go [] h = omega (arith, h)
    go (p ∷ ps) h = omega (arith, h)
without_many (Item.terminal s o t ∷ is) = let h = without_many is in omega (arith, h)

-- an item has a byte
item_some : (ts : List Text) (x : Item) → 1 ≤ length (item_bytes 2 ts x)
unfolding item_bytes node_bytes nonterminal_node
item_some ts (item d) = omega arith
item_some ts (Item.terminal s o t) = omega arith

-- ---- behind the replacing stage
module _ (s w : List ℕ) (room : Room) (t : Grammar) (z : State) (h : Half) (w' : List ℕ) (H : Halfway s w room t z h w') where
  pub height_is : h.expander.height ≡ h.r.pile
  height_is = ap (λ (e : Expander). e.height) H.numbers

  module _ (T : RoundTrees) (S : RoundStands s w room t z T) where
    pub count-is : length (pending_of T) ≡ h.r.pile
    count-is = pile_count s H.middle h.g z.done h.r w' T.items T.keys (halves.found s w room t z T S h w' H).0 T.definitions (halves.replacing s w room t z T S h w' H)

    abbrev many : (is : List Item) → length is ≤ length (bytes_of_each (item_bytes 2 (round_atoms T)) is)
    many = bytes_many (item_bytes 2 (round_atoms T)) (item_some (round_atoms T))

    items_few : length T.old + length (without_macros T.items) ≤ room.cap
    items_few = omega (arith, without_many T.items, many T.old, many T.items, places.sizes-fit s w room t z T S)

    cap_small : 8 * room.cap ≤ length w
    cap_small = omega (arith, S.map.x_is, S.map.y_is, S.map.end_is, S.map.inside)

    definitions_few : 8 * length T.definitions ≤ length w
    definitions_few = omega (arith, S.defines.many, S.defines.list, places.base_first s w room t z T S, S.map.x_is, S.map.y_is, S.map.end_is, S.map.inside)

    pile_small : 24 * h.r.pile ≤ length w'
    unfolding top_of
    pile_small = omega (arith, (halves.names s w room t z T S h w' H).records.few, H.stages.ground.fits, H.stages.ground.top)

    -- theorem: the next numbers can be told
    pub tally_fits : (h.expander.round ≤ h.expander.items) × (h.expander.items + h.expander.height < 18446744073709551615)
    tally_fits = rw H.numbers (S.numbers.few, fits)
      where
        fits : z.expander.items + h.r.pile < 18446744073709551615
        fits = omega (arith, S.numbers.items, items_few, cap_small, definitions_few, pile_small, S.map.short, H.stages.ground.short)

    -- theorem: and are those of the next trees
    pub tally_next : (new : List Item) → drain T.definitions (pending_of T) ≡ yes new → 0 < h.r.pile → (us : List Text) → Tallied (numbers_appended h.expander) (next_trees T new us)
    tally_next new d l us =
        let N = S.numbers in
        rw H.numbers (record {
          height = refl;
          round = ap (λ (n : ℕ). n + 1) N.round;
          items = omega (
            arith,
            N.items,
            length-append T.old (replaced_of T),
            replaced_many (without_macros T.items) (record { keys = T.keys; pile = [] }),
            ap length (drained_without T.definitions (pending_of T) new d),
            drained_many T.definitions (pending_of T) new d,
            count-is,
          );
          few = omega (arith, N.few);
        })
