-- Where things stand in work at the beginning of a round: the places by numbers, and that the ground can be laid. Assumes nothing.
use mathlib.Core.Path.{◌≡◌, sym, ap, ◌∙◌}
use mathlib.Core.Bool.{true, false≢true}
use mathlib.Core.Logic.{◌⊎◌, inl, inr}
use mathlib.Core.List.{List, [], ◌∷◌}
use Prim.Native.Nat.{ℕ, ◌+◌, ◌*◌, ◌/◌, ◌≤◌}
use native.Mathlib.Omega.{arith}
use lib.ListN.{length}
use Rattle.parse_tree.specs.Plain.Tree.{Text}
use Rattle.parse_tree.specs.Plain.Texts.{has, distinct}
use Rattle.parse_tree.specs.Plain.WriteTape.{bytes_of_each}
use Rattle.parse_tree.specs.Working.Encode.{atom_bytes, item_bytes}
use Rattle.texts.specs.Table.{Above, texts}
use Rattle.texts.proofs.TextCode.{length_texts}
use Rattle.texts.proofs.TableStays.{above_lower}
use Rattle.passes.specs.Macros.{without_macros}
use Rattle.resolve.specs.declared.Grammar.{Grammar}
use Rattle.resolve.specs.Whole.{Apart}
use Rattle.replacing.specs.Trees.{expanded_items}
use Rattle.rounds.specs.declared.Room.{Room}
use Rattle.rounds.specs.declared.State.{State}
use Rattle.rounds.specs.Grounds.{Groundable}
use Rattle.rounds.specs.Standing.{RoundTrees, round_atoms, RoundStands}
use Rattle.rounds.proofs.PaidTexts.{texts-leave}
use Rattle.rounds.proofs.RoomMeans.{all_fit, ground_place}

module _ (s w : List ℕ) (room : Room) (t : Grammar) (z : State) (T : RoundTrees) (S : RoundStands s w room t z T) where
  -- ---- numbers
  -- the bytes of new texts, of items replaced, and of items to be replaced
  abbrev pub past_size : ℕ
  past_size = length (bytes_of_each (atom_bytes 2) T.past)

  abbrev pub old_size : ℕ
  old_size = length (bytes_of_each (item_bytes 2 (round_atoms T)) T.old)

  abbrev pub items_size : ℕ
  items_size = length (bytes_of_each (item_bytes 2 (round_atoms T)) T.items)

  pub four_first : 4 ≤ length (bytes_of_each (atom_bytes 2) T.first)
  unfolding has
  four_first = go T.first S.grown.named (texts-leave T.first S.grown.name S.grown.named S.grown.long)
    where
      go : (us : List Text) → has S.grown.name us ≡ true → 3 * length us + 1 ≤ length (bytes_of_each (atom_bytes 2) us) → 4 ≤ length (bytes_of_each (atom_bytes 2) us)
      go [] k h = absurd (false≢true k)
      go (u ∷ us) k h = omega (arith, h)

  pub sizes-fit : room.first + past_size + old_size + items_size ≤ room.cap
  sizes-fit = omega (arith, S.first, all_fit room.cap T.definitions T.old T.items T.keys T.first T.past T.owed S.grown.begins four_first S.grown.size S.grown.owed_cap)

  pub texts-many : z.m.count ≡ length (round_atoms T)
  unfolding texts
  texts-many = sym (length_texts s w z.m.base z.m.count) ∙ ap length S.tabled.texts-are

  pub items_long : z.end ≡ z.from + items_size
  items_long = S.items_lie.end

  pub done_is : z.done ≡ room.y + old_size
  done_is = S.stored.old_lie.end

  pub low-is : room.end ≡ z.low + past_size
  low-is = S.stored.past_fills

  -- ---- places
  pub base_first : z.m.base + 8 * room.first ≡ 8 * length s
  base_first = omega (arith, S.map.base_is, S.map.tape)

  pub x_behind : 8 * length s ≤ room.x
  x_behind = omega (arith, S.map.x_is)

  pub y_is : room.y ≡ room.x + 2 * room.cap
  y_is = S.map.y_is

  pub low_place : z.low + past_size ≡ room.y + (room.cap + 2 * (room.cap / 9))
  low_place = omega (arith, low-is, S.map.end_is)

  pub end_inside : room.end ≤ length w
  end_inside = S.map.inside

  pub items_before : z.end ≤ room.y
  items_before = go S.off
    where
      go : (z.end ≤ z.m.base) ⊎ ((room.x ≤ z.from) × (z.end ≤ room.y)) → z.end ≤ room.y
      go (inl h) = omega (arith, base_first, x_behind, y_is)
      go (inr h) = h.1

  pub items_apart : Apart z.from z.end z.m.base room.x
  items_apart = go S.off
    where
      go : (z.end ≤ z.m.base) ⊎ ((room.x ≤ z.from) × (z.end ≤ room.y)) → Apart z.from z.end z.m.base room.x
      go (inl h) = inl h
      go (inr h) = inr h.0

  pub tables_fit : z.m.base + 24 * z.m.count + 8 * length (expanded_items (without_macros T.items)) + 32 * (items_size / 9) ≤ room.x
  tables_fit = omega (
    arith,
    ground_place room.cap T.definitions T.old T.items T.keys T.first T.past T.owed S.grown.begins four_first S.grown.size S.grown.owed_cap S.map.items S.grown.name S.grown.named S.grown.long,
    texts-many,
    S.map.base_is,
    S.map.x_is,
    S.map.tape,
    S.first,
  )

  pub texts-apart : distinct (texts s w z.m) ≡ true
  texts-apart = ap distinct S.tabled.texts-are ∙ S.grown.begins.apart

  pub above_x : Above s w z.m room.x
  above_x = above_lower s w z.m z.low room.x (omega (arith, low_place, sizes-fit, y_is)) S.tabled.above

  -- theorem: the ground can be laid
  pub can_ground : Groundable s w z.m t.width.bytes z.from z.end room.x
  can_ground = record {
    table = S.tabled.table;
    some = S.tabled.some;
    apart = texts-apart;
    narrow = omega (arith, S.defines.width);
    wide = omega (arith, S.defines.width);
    ordered = omega (arith, items_long);
    long = S.long;
    inside = omega (arith, items_before, low_place, low-is, end_inside);
    room = omega (arith, tables_fit, items_long);
    narrower = S.tabled.narrower;
    top_inside = omega (arith, y_is, low_place, low-is, end_inside);
    above = above_x;
    off = items_apart;
    short = S.map.short;
  }
