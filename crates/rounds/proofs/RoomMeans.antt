-- The room that a round's tables need, from what holds where it begins and from its former stage's length. Assumes nothing.
use mathlib.Core.Path.{◌≡◌, ap}
use mathlib.Core.Bool.{true}
use mathlib.Core.List.{List, ◌++◌}
use Prim.Native.Nat.{ℕ, ◌+◌, ◌-◌, ◌*◌, ◌/◌, ◌≤◌}
use native.Mathlib.Omega.{arith}
use lib.ListN.{length, length-append}
use Rattle.parse_tree.specs.Plain.Tree.{Text, Item}
use Rattle.parse_tree.specs.Plain.Texts.{has}
use Rattle.parse_tree.specs.Plain.WriteTape.{bytes_of_each}
use Rattle.parse_tree.specs.Working.Encode.{atom_bytes, item_bytes, stage_bytes}
use Rattle.passes.specs.Outcome.{Tree}
use Rattle.passes.specs.Macros.{without_macros}
use Rattle.laws.specs.Counts.{heads, count_expanded_all}
use Rattle.laws.proofs.Counts.{expanded_fit, straight_fit}
use Rattle.laws.proofs.Room.{start_fits_levels, settle_fits_levels}
use Rattle.replacing.specs.Trees.{expanded_items}
use Rattle.replacing.proofs.ThereBytes.{bytes_both}
use Rattle.rounds.specs.Paid.{Paid}
use Rattle.rounds.specs.Begins.{BeginsRound, piled_of}
use Rattle.rounds.proofs.PaidTexts.{texts-leave}
use Rattle.rounds.proofs.PaidKeeps.{heads-both, texts-both}
use Rattle.rounds.proofs.PaidStarts.{items_count, pile_few, pile_heads, without_less}
use Rattle.rounds.proofs.RoomNine.{append_nine_levels}

-- `is` are the items to be replaced, in the first round with the definitions of macros; `first` are the tape's texts
module _ (W : ℕ) (G : Tree) (old is : List Item) (K first past : List Text) (owed : ℕ) (h : BeginsRound 2 G old (without_macros is) K (first ++ past) past owed) (some : 4 ≤ length (bytes_of_each (atom_bytes 2) first))
    (fits : length (stage_bytes 2 (record { atoms = first ++ past; items = old ++ is })) ≤ W) (owed_cap : 36 * owed ≤ W) where
  abbrev ts : List Text
  ts = first ++ past

  abbrev f : ℕ
  f = length (bytes_of_each (atom_bytes 2) first)

  abbrev fresh : ℕ
  fresh = length (bytes_of_each (atom_bytes 2) past)

  abbrev d : ℕ
  d = length (bytes_of_each (item_bytes 2 ts) old)

  abbrev s : ℕ
  s = length (bytes_of_each (item_bytes 2 ts) is)

  abbrev c : ℕ
  c = length (piled_of (without_macros is) K)

  -- how many symbols are expanded
  abbrev e : ℕ
  e = length (expanded_items (without_macros is))

  pub all_fit : f + fresh + d + s ≤ W
  unfolding stage_bytes
  all_fit =
      let i = bytes_of_each (item_bytes 2 ts) (old ++ is) in
      omega (arith, fits, length-append (bytes_of_each (atom_bytes 2) ts) i, texts-both first past, ap length (bytes_both (item_bytes 2 ts) old is), length-append (bytes_of_each (item_bytes 2 ts) old) (bytes_of_each (item_bytes 2 ts) is))

  old_heads : heads old ≤ d
  old_heads = omega (arith, expanded_fit ts old)

  expanded_less : 9 * e + heads (without_macros is) ≤ s
  expanded_less = let x = without_less count_expanded_all is in omega (arith, expanded_fit ts is, items_count (without_macros is), x.0, x.1)

  pushed-fit : 9 * c + heads (without_macros is) ≤ s
  pushed-fit = let x = without_less count_expanded_all is in omega (arith, expanded_fit ts is, pile_few (without_macros is) K, x.0, x.1)

  texts-paid : 24 * length past ≤ heads old + heads (without_macros is) + 4 * fresh + 4 * owed
  texts-paid = omega (arith, h.records_paid, heads-both old (without_macros is))

  -- theorem: replacing: records of new texts, the list of new texts, heads, records of pushed symbols and slots
  pub start_room : 24 * length past + 8 * e + 8 * (s / 64 + 1) + 32 * (s / 9) + 2 * (W / 9) ≤ 5 * W
  start_room = start_fits_levels W f fresh d s (length past) e (heads old) (heads (without_macros is)) owed all_fit some texts-paid old_heads expanded_less h.owed_few owed_cap

  -- theorem: appending, where a symbol was pushed
  pub append_room : 1 ≤ c → 24 * length past + 8 * (c + 9) + 32 * (s / 9) + 2 * (W / 9) ≤ 5 * W + 8
  append_room z =
      let p = h.paid z in
      append_nine_levels W f fresh d s (length past) c (heads old) (heads (without_macros is)) owed all_fit some (omega (arith, p.0, heads-both old (without_macros is))) old_heads (pile_heads (without_macros is) K z) pushed-fit z h.owed_few owed_cap

  -- theorem: settling, where the stage with the appended items is admitted; all of them are paid, and the items to be replaced still stand
  pub settle_room : (past' : List Text) (items : List Item) → Paid owed past' items → length (stage_bytes 2 (record { atoms = first ++ past'; items = items })) ≤ W → 24 * length past' + 32 * (s / 9) + 2 * (W / 9) ≤ 5 * W
  unfolding stage_bytes
  settle_room past' items p l =
      let ts' = first ++ past' in
      let n = length (bytes_of_each (atom_bytes 2) past') in
      let i = length (bytes_of_each (item_bytes 2 ts') items) in
      settle_fits_levels W f fresh d s (length past') n 0 i owed all_fit (omega (arith, l, length-append (bytes_of_each (atom_bytes 2) ts') (bytes_of_each (item_bytes 2 ts') items), texts-both first past')) some
      (omega (arith, p.1, straight_fit ts' items)) h.owed_few owed_cap

  -- ---- the same by places: the records of texts stand from 8 n on, n bytes of items are on the tape, and new records and a round's tables end at x; slots and records of pushed symbols are the last of these
  module _ (n : ℕ) (t : Text) (among : has t first ≡ true) (long : 1 ≤ length t) where
    abbrev x : ℕ
    x = 8 * (f + n) + (5 * W - 2 * (W / 9))

    leave : 24 * length first + 8 ≤ 8 * f
    leave = omega (arith, texts-leave first t among long)

    -- theorem: where a round begins, with the list of new texts as long as replacing may make it
    pub ground_place : 8 * n + 24 * length (first ++ past) + 8 * e + 32 * (s / 9) ≤ x
    ground_place = omega (arith, start_room, leave, length-append first past)

    -- theorem: the list of new texts, as long as appending may make it
    pub list_place_lem : 1 ≤ c → 8 * n + 24 * length (first ++ past) + 8 * (c + 9) + 32 * (s / 9) ≤ x
    list_place_lem z = omega (arith, append_room z, leave, length-append first past)

    -- theorem: the records of all new texts
    pub settle_place : (past' : List Text) (items : List Item) → Paid owed past' items → length (stage_bytes 2 (record { atoms = first ++ past'; items = items })) ≤ W
        → 8 * n + 24 * length (first ++ past') + 32 * (s / 9) ≤ x
    settle_place past' items p l = omega (arith, settle_room past' items p l, leave, length-append first past')
