-- What a round leaves of the bytes that stood in work before it, once its new texts are settled and the appended items are moved. Assumes nothing.
use mathlib.Core.Path.{◌≡◌, sym, ap, ◌∙◌, subst}
use mathlib.Core.Logic.{inl, inr}
use mathlib.Core.List.{List}
use Prim.Native.Nat.{ℕ, ◌+◌, ◌-◌, ◌*◌, ◌%◌, ◌≤◌, ◌<◌}
use native.Mathlib.Omega.{arith}
use lib.ListN.{length, get_or}
use Rattle.octets.specs.Plain.Runs.{part, Lies}
use Rattle.octets.specs.Working.Stores.{store}
use Rattle.octets.proofs.LiesLaws.{lies_part}
use Rattle.octets.proofs.StoreLaws.{length_store, get_d_store_before, get_d_store_after, lies_store}
use Rattle.parse_tree.specs.Plain.Tree.{Item}
use Rattle.texts.specs.Fields.{cell_at}
use Rattle.texts.specs.Table.{Stays}
use Rattle.texts.proofs.TableStays.{le_at-agree, stays_above}
use Rattle.passes.specs.Outcome.{yes}
use Rattle.passes.specs.Macros.{drain}
use Rattle.resolve.specs.declared.Grammar.{Grammar}
use Rattle.resolve.proofs.CellsLaws.{lies_agree}
use Rattle.expander.specs.declared.Ground.{Ground}
use Rattle.expander.specs.declared.stage.Replaced.{Replaced}
use Rattle.expander.specs.Ground.{list_place}
use Rattle.settling.specs.declared.settle.Settled.{Settled}
use Rattle.settling.specs.Settle.{new_bytes, MarkedPushed, Settles}
use Rattle.settling.proofs.PushedMean.{marked_bytes}
use Rattle.appending.specs.declared.Appended.{Appended}
use Rattle.rounds.specs.declared.Room.{Room}
use Rattle.rounds.specs.declared.State.{State}
use Rattle.rounds.specs.declared.round.Half.{Half}
use Rattle.rounds.specs.Standing.{RoundTrees, RoundStands}
use Rattle.rounds.specs.Round.{pending_of, replaced_stage, appended_stage, Halfway, Fine, Drained}
use Rattle.rounds.proofs.RoundPlaces as places
use Rattle.rounds.proofs.RoundGround as grounds
use Rattle.rounds.proofs.RoundHalf as halves
use Rattle.rounds.proofs.RoundPile as piles
use Rattle.rounds.proofs.RoundAppended as appended

module _ (s w : List ℕ) (room : Room) (t : Grammar) (z : State) (T : RoundTrees) (S : RoundStands s w room t z T) (h : Half) (w' : List ℕ) (H : Halfway s w room t z h w') (pushed : 0 < h.r.pile)
    (F : Fine room (replaced_stage T)) (new : List Item) (v : Appended) (w''' : List ℕ) (D : Drained s w' room t z T h H.middle new v w''') (d : drain T.definitions (pending_of T) ≡ yes new)
    (E : Fine room (appended_stage T new)) (w4 : List ℕ) (M : MarkedPushed s w''' h.g h.r.pile w4) (q : Settled) (w5 : List ℕ) (Z : Settles s w4 h.g v.count z.low q w5) where
  abbrev g : Ground
  g = h.g

  abbrev r : Replaced
  r = h.r

  abbrev new_items : List ℕ
  new_items = appended.new_items s w room t z T S h w' H pushed F new v w''' D

  abbrev new_size : ℕ
  new_size = length (new_bytes s w''' g v.count)

  -- ---- numbers
  list_0 : list_place g 0 ≡ z.m.base + 24 * z.m.count
  list_0 = omega (arith, grounds.list_is s w room t z T S g H.middle H.grounds 0)

  keys_x : g.keys ≤ room.x
  keys_x = omega (arith, grounds.keys_is s w room t z T S g H.middle H.grounds)

  list_keys : z.m.base + 24 * z.m.count ≤ g.keys
  list_keys = omega (arith, grounds.keys_is s w room t z T S g H.middle H.grounds, places.tables_fit s w room t z T S)

  slots_x : g.slots ≤ room.x
  slots_x = omega (arith, grounds.slots_is s w room t z T S g H.middle H.grounds)

  pub base_now : q.m.base ≡ z.m.base
  base_now = Z.base ∙ grounds.base_is s w room t z T S g H.middle H.grounds

  pub count-now : q.m.count ≡ z.m.count + v.count
  count-now = omega (arith, Z.count, grounds.count-is s w room t z T S g H.middle H.grounds)

  new_same : length (new_bytes s w4 g v.count) ≡ new_size
  new_same =
      ap length (marked_bytes s w''' g r.pile w4 D.appends.going.ground M r.pile v.count D.starts.places (appended.names s w room t z T S h w' H pushed F new v w''' D))

  fit : room.first + places.past_size s w room t z T S + new_size + (v.to - room.y) ≤ room.cap
  fit = appended.all_fit s w room t z T S h w' H pushed F new v w''' D d E

  new_end : v.to ≡ r.to + length new_items
  new_end = (appended.new_lie s w room t z T S h w' H pushed F new v w''' D d E).end

  to_y : room.y ≤ r.to
  to_y = omega (arith, (halves.items_lie s w room t z T S h w' H).end)

  pub low_now : q.at + new_size ≡ z.low
  low_now = omega (arith, Z.first, new_same, fit, places.low_place s w room t z T S)

  pub to_at : v.to ≤ q.at
  to_at = omega (arith, low_now, fit, places.low_place s w room t z T S, new_end, to_y)

  pub items_short : length new_items ≤ room.cap
  items_short = omega (arith, fit, new_end, to_y)

  y_x : room.y ≡ room.x + 2 * room.cap
  y_x = S.map.y_is

  records_x : q.m.base + 24 * q.m.count ≤ room.x
  records_x = omega (arith, base_now, count-now, appended.records_fit s w room t z T S h w' H pushed F new v w''' D d E)

  -- ---- the appended items as they were settled
  settled_same : (i : ℕ) → room.x ≤ i → i < q.at → get_or w5 i 0 ≡ get_or w''' i 0
  settled_same i a b =
      Z.others i (inr (inl (omega (arith, keys_x), b)))
      ∙ M.cells.others i (inr (omega (arith, list_keys, keys_x, grounds.base_is s w room t z T S g H.middle H.grounds, grounds.count-is s w room t z T S g H.middle H.grounds)))

  pub long_settled : length w5 ≡ length w
  long_settled = Z.long ∙ M.cells.long ∙ D.appends.long ∙ (piles.wrote s w room t z T S h w' H pushed F D.middle D.cleared).long

  inside : q.at + new_size ≤ length w
  inside = omega (arith, low_now, places.low-is s w room t z T S, S.map.inside)

  items_settled : Lies w5 r.to new_items v.to
  items_settled =
      lies_agree w''' w5 r.to v.to new_items (Z.long ∙ M.cells.long)
      (omega (arith, to_at, inside, D.appends.long, (piles.wrote s w room t z T S h w' H pushed F D.middle D.cleared).long))
      (λ i a b. settled_same i (omega (arith, to_y, y_x)) (omega (arith, to_at))) (appended.new_lie s w room t z T S h w' H pushed F new v w''' D d E)

  -- they can be moved
  pub can_move : (room.x ≤ r.to) × (r.to ≤ v.to) × (v.to ≤ length w5)
  can_move = (omega (arith, to_y, y_x), omega (arith, new_end), omega (arith, to_at, inside, long_settled))

  module _ (w6 : List ℕ) (moved : w6 ≡ store w5 room.x (part r.to v.to w5)) where
    moved_is : w6 ≡ store w5 room.x new_items
    moved_is = moved ∙ ap (store w5 room.x) (lies_part w5 r.to v.to new_items items_settled)

    pub long_now : length w6 ≡ length w
    long_now = ap length moved_is ∙ length_store w5 room.x new_items ∙ long_settled

    -- theorem: the appended items
    pub items_now : Lies w6 room.x new_items (room.x + length new_items)
    items_now = subst (λ (u : List ℕ). Lies u room.x new_items (room.x + length new_items)) (sym moved_is) (lies_store w5 room.x new_items (omega (arith, items_short, y_x, to_y, can_move.2, can_move.1)))

    -- theorem: the table
    pub table-now : Stays s w5 q.m w6 q.m
    table-now =
        stays_above s w5 w6 q.m q.at room.x new_items Z.table Z.above moved_is (omega (arith, items_short, y_x, to_y, to_at, new_end)) records_x
        (omega (arith, records_x, Z.narrower))

    after-move : (i : ℕ) → room.x + room.cap ≤ i → get_or w6 i 0 ≡ get_or w5 i 0
    after-move i a = ap (λ (u : List ℕ). get_or u i 0) moved_is ∙ get_d_store_after w5 room.x new_items i (omega (arith, items_short))

    -- theorem: what was replaced, and what stands before it
    pub kept : (i : ℕ) → room.x + room.cap ≤ i → i < r.to → get_or w6 i 0 ≡ get_or w' i 0
    kept i a b =
        after-move i a ∙ settled_same i (omega arith) (omega (arith, to_at, new_end))
        ∙ D.appends.kept i (inr (inl (omega (arith, grounds.top_is s w room t z T S g H.middle H.grounds), b)))
        ∙ D.cleared.others i (inr (omega (arith, slots_x)))

    -- theorem: between moved and replaced items nothing changed
    pub between : (i : ℕ) → room.x + room.cap ≤ i → i < room.y → get_or w6 i 0 ≡ get_or w i 0
    between i a b =
        kept i a (omega (arith, to_y))
        ∙ (halves.wrote s w room t z T S h w' H).others i (inr (inl (omega (arith, grounds.top_is s w room t z T S g H.middle H.grounds), omega (arith, places.done_is s w room t z T S))))

    -- ---- below the list of new texts nothing changed until it was settled
    pub low_same : (i : ℕ) → i < list_place g 0 → get_or w''' i 0 ≡ get_or w i 0
    low_same i a = D.appends.kept i (inl a) ∙ (piles.wrote s w room t z T S h w' H pushed F D.middle D.cleared).others i (inl a)

    -- theorem: and below the records not at all
    pub below : (i : ℕ) → i < z.m.base → get_or w6 i 0 ≡ get_or w i 0
    below i a =
        ap (λ (u : List ℕ). get_or u i 0) moved_is ∙ get_d_store_before w5 room.x new_items i (omega (arith, list_keys, keys_x))
        ∙ Z.others i (inl (omega (arith, grounds.base_is s w room t z T S g H.middle H.grounds))) ∙ M.cells.others i (inl (omega (arith, grounds.base_is s w room t z T S g H.middle H.grounds))) ∙ low_same i (omega (arith, list_0))

    pub cell_before : (k : ℕ) → k < z.m.count → cell_at w''' z.m.base k ≡ cell_at w z.m.base k
    unfolding cell_at
    cell_before k l = le_at-agree 4 w w''' (z.m.base + 24 * k + 20) (λ i a b. low_same i (omega (arith, list_0)))

    -- theorem: of the cells only the highest bit
    pub cells_now : (k : ℕ) → k < z.m.count → cell_at w6 z.m.base k % 2147483648 ≡ cell_at w z.m.base k % 2147483648
    cells_now k l =
        let b = grounds.base_is s w room t z T S g H.middle H.grounds in
        let n : k < g.m.count = omega (arith, grounds.count-is s w room t z T S g H.middle H.grounds) in
        ap (λ (c : ℕ). cell_at w6 c k % 2147483648) (sym base_now)
        ∙ ap (λ (c : ℕ). c % 2147483648) (table-now.cells k (omega (arith, count-now)) ∙ ap (λ (c : ℕ). cell_at w5 c k) Z.base ∙ Z.cells k n)
        ∙ M.rest k n
        ∙ ap (λ (c : ℕ). cell_at w''' c k % 2147483648) b
        ∙ ap (λ (c : ℕ). c % 2147483648) (cell_before k l)
