-- A round's ground as it was laid: its places, what stands there as before, and that the items can be replaced. Assumes nothing.
use mathlib.Core.Path.{◌≡◌, sym, ap, ◌∙◌, subst}
use mathlib.Core.Bool.{false}
use mathlib.Core.Logic.{◌⊎◌, inl, inr}
use mathlib.Core.List.{List}
use Prim.Native.Nat.{ℕ, ◌+◌, ◌*◌, ◌/◌, ◌≤◌, ◌<◌}
use native.Mathlib.Omega.{arith}
use lib.ListN.{length, get_or}
use Rattle.octets.specs.Plain.Numbers.{Bytes}
use Rattle.octets.specs.Plain.Runs.{Lies}
use Rattle.parse_tree.specs.Plain.WriteTape.{bytes_of_each}
use Rattle.parse_tree.specs.Working.Encode.{item_bytes}
use Rattle.parse_tree.specs.Working.Within.{Each, ItemWithin}
use Rattle.texts.specs.declared.Map.{Map}
use Rattle.texts.specs.Table.{Above, Stays, texts}
use Rattle.texts.proofs.TableStays.{above_stays}
use Rattle.passes.specs.Macros.{without_macros}
use Rattle.resolve.specs.declared.Grammar.{Grammar}
use Rattle.resolve.specs.Whole.{Apart}
use Rattle.resolve.proofs.CellsLaws.{lies_agree}
use Rattle.replacing.specs.Trees.{expanded_items}
use Rattle.expander.specs.declared.Ground.{Ground}
use Rattle.expander.specs.Ground.{size_in, stage_in, top_of, list_place, Grounded, Around}
use Rattle.expander.specs.Stage.{Writable, SomeStage}
use Rattle.expander.proofs.GroundLaws.{list_keys, slots_top, grounded_around, table-around}
use Rattle.rounds.specs.declared.Room.{Room}
use Rattle.rounds.specs.declared.State.{State}
use Rattle.rounds.specs.Grounds.{Grounds}
use Rattle.rounds.specs.Standing.{RoundTrees, round_atoms, RoundStands}
use Rattle.rounds.proofs.ReadyMeans.{stage_some}
use Rattle.rounds.proofs.RoundPlaces as places

module _ (s w : List ℕ) (room : Room) (t : Grammar) (z : State) (T : RoundTrees) (S : RoundStands s w room t z T) (g : Ground) (w₁ : List ℕ)
    (L : Grounds s w z.m t.width.bytes z.from z.end room.x g w₁) where
  abbrev items_size : ℕ
  items_size = places.items_size s w room t z T S

  -- ---- numbers
  pub width_is : g.width.bytes ≡ 2
  width_is = L.width_is ∙ S.defines.width

  pub count-is : g.m.count ≡ z.m.count
  count-is = ap (λ (m : Map). m.count) L.map

  pub base_is : g.m.base ≡ z.m.base
  base_is = ap (λ (m : Map). m.base) L.map

  pub size_is : size_in g ≡ items_size
  unfolding size_in
  size_is = omega (arith, L.from_is, L.end_is, places.items_long s w room t z T S)

  tables : z.m.base + 24 * z.m.count + 8 * length (expanded_items (without_macros T.items)) + 32 * (items_size / 9) ≤ room.x
  tables = places.tables_fit s w room t z T S

  pub keys_is : g.keys + 32 * (items_size / 9) ≡ room.x
  keys_is = omega (arith, L.keys, tables, places.items_long s w room t z T S)

  pub slots_is : g.slots + 8 * (items_size / 9) ≡ room.x
  slots_is = omega (arith, L.slots, tables, places.items_long s w room t z T S)

  pub top_is : top_of g ≡ room.x
  unfolding top_of
  top_is = omega (arith, slots_is, size_is)

  pub list_is : (i : ℕ) → list_place g i ≡ z.m.base + 24 * z.m.count + 8 * i
  list_is i = omega (arith, count-is, base_is)

  -- ---- what stands as before
  back : Around g w₁ w
  back = record { long = sym L.long; others = λ i d. sym (L.others i (go i d)) }
    where
      go : (i : ℕ) → (i < list_place g 0) ⊎ (top_of g ≤ i) → (i < g.keys) ⊎ (g.slots ≤ i)
      go i (inl l) = inl (omega (arith, list_keys s w₁ g L.ground))
      go i (inr l) = inr (omega (arith, slots_top s w₁ g L.ground))

  pub around : Around g w w₁
  around = record { long = L.long; others = λ i d. sym (back.others i d) }

  pub grounded_before : Grounded s w g
  grounded_before = grounded_around s w₁ w g L.ground back

  pub table-now : Stays s w g.m w₁ g.m
  table-now = table-around s w w₁ g grounded_before around

  pub texts-now : texts s w₁ g.m ≡ round_atoms T
  texts-now = table-now.same ∙ ap (texts s w) L.map ∙ S.tabled.texts-are

  pub above_now : Above s w₁ g.m z.low
  above_now = above_stays s w g.m w₁ g.m z.low table-now (subst (λ (m : Map). Above s w m z.low) (sym L.map) S.tabled.above)

  item_same : (i : ℕ) → z.from ≤ i → i < z.end → get_or w₁ i 0 ≡ get_or w i 0
  item_same i a b = go (places.items_apart s w room t z T S)
    where
      go : Apart z.from z.end z.m.base room.x → get_or w₁ i 0 ≡ get_or w i 0
      go (inl h) = L.others i (inl (omega (arith, keys_is, tables)))
      go (inr h) = L.others i (inr (omega (arith, slots_is)))

  pub items_now : Lies w₁ g.from (bytes_of_each (item_bytes g.width.bytes (texts s w₁ g.m)) T.items) g.end
  items_now =
      let l = lies_agree w w₁ z.from z.end (bytes_of_each (item_bytes 2 (round_atoms T)) T.items) L.long
      (omega (arith, places.items_before s w room t z T S, places.low_place s w room t z T S, places.low-is s w room t z T S, places.end_inside s w room t z T S)) item_same S.items_lie in
      rw (width_is, texts-now, L.from_is, L.end_is) l

  pub within_now : Each (ItemWithin false g.width.bytes (texts s w₁ g.m)) T.items
  within_now = rw (width_is, texts-now) S.grown.within

  -- ---- room
  pub list_room : list_place g (length (expanded_items (without_macros T.items))) ≤ g.keys
  list_room = omega (arith, list_is (length (expanded_items (without_macros T.items))), tables, keys_is)

  pub top_before : top_of g ≤ z.done
  top_before = omega (arith, top_is, places.done_is s w room t z T S, places.y_is s w room t z T S)

  pub items_before : g.end ≤ z.done
  items_before = omega (arith, L.end_is, places.items_before s w room t z T S, places.done_is s w room t z T S)

  replaced_room : 9 * z.done + (9 + g.width.bytes) * size_in g ≤ 9 * z.low
  unfolding size_in
  replaced_room = rw (width_is, size_is) (omega (arith, places.done_is s w room t z T S, places.low_place s w room t z T S, places.sizes-fit s w room t z T S, places.four_first s w room t z T S, S.first))

  pub can_write : Writable s w₁ g z.done (size_in g)
  can_write = record {
    lim = z.low;
    top = top_before;
    items = items_before;
    room = replaced_room;
    inside = omega (arith, L.long, places.low-is s w room t z T S, places.end_inside s w room t z T S);
    above = above_now;
  }

  -- theorem: the items can be replaced
  pub can_replace : Bytes (stage_in w₁ g) → SomeStage s w₁ g z.done
  can_replace b = stage_some s w₁ g z.done T.items L.ground b items_now within_now list_room can_write L.empty
