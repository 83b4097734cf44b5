-- The ways out of list_valid and list_tree: the items of a validated tape, copied to work, stand there. Assumes nothing.
use mathlib.Core.Path.{◌≡◌, refl, sym, ap, ◌∙◌}
use mathlib.Core.Bool.{false}
use mathlib.Core.List.{List}
use Prim.Native.Nat.{ℕ, ◌+◌, ◌-◌, ◌*◌, ◌^◌, ◌<◌, ◌≤◌}
use native.Mathlib.Omega.{arith}
use borrow.Author.Rules.{rules}
use lib.ListN.{length, get_or}
use mir.Syntax.{w8}
use mir.Val as Bound
use Rattle.octets.specs.Plain.Runs.{part}
use Rattle.octets.specs.Working.Stores.{store}
use Rattle.parse_tree.specs.Plain.Tree.{Text}
use Rattle.parse_tree.specs.Plain.WriteTape.{bytes_of_each}
use Rattle.parse_tree.specs.Working.Decode.{decode_by, decode_any}
use Rattle.parse_tree.specs.Working.Encode.{item_bytes}
use Rattle.parse_tree.specs.declared.refusal.Refusal.{Refusal}
use Rattle.texts.specs.Atoms.{atoms_of}
use Rattle.texts.specs.Table.{Stays, texts}
use Rattle.texts.proofs.AtomsLaws.{length_atoms}
use Rattle.texts.proofs.TableStays.{stays_below, above_stays}
use Rattle.validate.specs.Steps.{Refuses}
use Rattle.validate.specs.Regions.{regions_of}
use Rattle.validate.specs.Whole.{Valid, Validates}
use Rattle.validate.specs.declared.Atoms.{Atoms}
use Rattle.validate.specs.declared.regions.Regions.{Regions}
use Rattle.std.specs.Prelude.{Result, Ok, Err}
use Rattle.validate.specs.declared.Validated.{Validated}
use Rattle.validate.proofs.TapeLaws.{atoms_long, TapeOf, tape_of, copied_long, copied_kept, copied_lies}
use Rattle.settling.specs.declared.Printed.{Printed}
use Rattle.settling.specs.Print.{Printable}
use Rattle.settling.proofs.PutLaws.{puts_as}
use Rattle.listing.specs.Listing.{listed_item, listed}
use Rattle.listing.specs.Walk.{AllStand, SomeAll, ShowsAll, ItemGood, PutsFrom, ListsRead, ListsTree}

-- ---- a tape that was validated
module _ (s w : List ℕ) (a : Atoms) (at n : ℕ) (v : Valid false 2 s w a at n) (b : (j : ℕ) → Bound.Fits w8 (get_or s j 0)) where
  abbrev ts : List Text
  ts = atoms_of s a.texts.count

  abbrev size : ℕ
  size = length s - at

  stands : TapeOf false s at ts v.items
  stands = tape_of false s w a at n v b

  -- ---- w₁ is work with the items
  module _ (room : 8 * length s ≤ length w) (w₁ : List ℕ) (copied : w₁ ≡ store w (7 * size) (part at (length s) s)) where
    long : length w₁ ≡ length w
    long = copied_kept s w at v.ready.inside w₁ copied

    copied_size : length (part at (length s) s) ≡ size
    copied_size = copied_long s w at v.ready.inside w₁ copied

    stays : Stays s w a.texts w₁ a.texts
    stays = stays_below s w w₁ a.texts (length w) (7 * size) (part at (length s) s) v.ready.ready.table v.above copied (omega (arith, copied_size)) (omega (arith, copied_size, v.base))

    texts-are : texts s w₁ a.texts ≡ ts
    texts-are = stays.same ∙ v.ready.ready.same

    printable : Printable s w₁ a.texts 2 (length w₁) (8 * length s)
    printable = record {
      readable = record {
        worded = record { room = stays.table.room; whole = stays.table.whole };
        narrow = omega arith;
        wide = omega arith;
      };
      above = rw long (above_stays s w a.texts w₁ a.texts (length w) stays v.above);
      records = omega (arith, v.base, stands.begins, atoms_long ts, length_atoms s a.texts.count, v.ready.inside);
      inside = omega arith;
      stop = omega (arith, long);
    }

    stand : AllStand (ItemGood 2) (item_bytes 2) s w₁ a.texts (7 * size) (7 * size + size) v.items
    unfolding ItemGood
    stand = record { within = rw texts-are stands.within.items; lies = rw (texts-are, ← stands.items_part) (copied_lies s w at v.ready.inside w₁ copied room) }

    some : SomeAll (ItemGood 2) (item_bytes 2) s w₁ a.texts n (7 * size) (8 * length s)
    some = record { end = 7 * size + size; elements = v.items; many = sym v.many; stand = stand; below = omega arith }

    shown : (r : Printed) (w₂ : List ℕ) → ShowsAll (ItemGood 2) (item_bytes 2) s w₁ a.texts listed_item n (7 * size) (length w₁) (8 * length s) r w₂ → ListsTree s (length w) r.to w₂
    unfolding ListsTree ListsRead decode_any listed
    shown r w₂ h =
        let told = (h.each (7 * size + size) v.items (sym v.many) stand (omega arith)).1 in
        let p : PutsFrom (length w) (8 * length s) (bytes_of_each listed_item v.items) r.to w₂ = record { work = w₁; long = long; puts = rw (← long) (puts_as told h.puts) } in
        rw v.decoded p

  -- ---- where g is the map of work
  module _ (room : 8 * length s ≤ length w) where
    pub layout_fits : length w < 2 ^ 64 → 8 * size < 2 ^ 64
    layout_fits l = omega arith

    pub copy_inside : at ≤ length s
    copy_inside = v.ready.inside

    module _ (g : Regions) (e : g ≡ regions_of size) where
      items_there : g.items ≡ 7 * size
      unfolding regions_of
      items_there = ap (λ (u : Regions). u.items) e

      pub copy_room : g.items + (length s - at) ≤ length w
      copy_room = omega (arith, items_there)

      module _ (w₁ : List ℕ) (copied : w₁ ≡ store w g.items (part at (length s) s)) where
        there : w₁ ≡ store w (7 * size) (part at (length s) s)
        there = copied ∙ ap (λ (p : ℕ). store w p (part at (length s) s)) items_there

        pub layout_printable : Printable s w₁ a.texts a.width.bytes (length w₁) (8 * length s)
        layout_printable = rw v.wide (printable room w₁ there)

        pub layout_some : SomeAll (ItemGood a.width.bytes) (item_bytes a.width.bytes) s w₁ a.texts n g.items (8 * length s)
        layout_some = rw (v.wide, items_there) (some room w₁ there)

        pub layout_shown : (r : Printed) (w₂ : List ℕ) → ShowsAll (ItemGood a.width.bytes) (item_bytes a.width.bytes) s w₁ a.texts listed_item n g.items (length w₁) (8 * length s) r w₂ → ListsTree s (length w) r.to w₂
        layout_shown r w₂ h = shown room w₁ there r w₂ (rw (v.wide, items_there) at h)

pub ruleset validated = (rules, layout_fits, copy_inside, copy_room, layout_printable, layout_some, layout_shown)

-- ---- list_tree: x is what `validate` answered
module _ (s w : List ℕ) (x : Result Validated Refusal) (i : Validates false 2 s x w) where
  pub tree_refused : (why : Refusal) (k : ℕ) → x ≡ Err why → ListsTree s k (8 * length s) w
  unfolding Validates ListsTree ListsRead decode_any
  tree_refused why k e = let n : Refuses (decode_by false 2 s) why = rw e at i in rw n.is refl

  pub tree_valid : (v : Validated) → x ≡ Ok v → Valid false 2 s w v.atoms v.at v.items
  unfolding Validates
  tree_valid v e = rw e at i

pub ruleset trees = (rules, tree_refused, tree_valid)
