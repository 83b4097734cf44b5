-- The levelled stage of a tape where it is admitted: its names can be settled, and its items resolved again. Assumes nothing.
use mathlib.Core.Path.{◌≡◌, refl, sym, ap, ◌∙◌, subst}
use mathlib.Core.Bool.{true, false}
use mathlib.Core.Logic.{◌⊎◌, inl, inr}
use mathlib.Core.List.{List, ◌++◌}
use Prim.Native.Nat.{ℕ, ◌+◌, ◌-◌, ◌*◌, ◌/◌, ◌^◌, ◌≤◌, ◌<◌}
use native.Mathlib.Omega.{arith}
use borrow.Author.Tests.{le-leb}
use lib.Dec.{leb}
use lib.ListN.{length}
use Rattle.octets.specs.Plain.Runs.{Lies}
use Rattle.octets.proofs.PartLaws.{part_length}
use Rattle.parse_tree.specs.Plain.Tree.{Text, Stage}
use Rattle.parse_tree.specs.Plain.Texts.{distinct}
use Rattle.parse_tree.specs.Plain.References.{stage_of}
use Rattle.parse_tree.specs.Plain.WriteTape.{bytes_of_each, tape_of}
use Rattle.parse_tree.specs.Working.Encode.{atom_bytes, item_bytes, stage_bytes}
use Rattle.parse_tree.specs.Working.Within.{Each, ItemWithin}
use Rattle.parse_tree.proofs.WriteTapeIs.{tape_is}
use Rattle.texts.specs.declared.Map.{Map}
use Rattle.texts.specs.Table.{Above, texts}
use Rattle.texts.proofs.TableStays.{above_lower}
use Rattle.passes.specs.Outcome.{Tree, yes}
use Rattle.passes.specs.Levels.{levelled}
use Rattle.passes.specs.Sizes.{stage_fits}
use Rattle.passes.specs.Stages.{stage}
use Rattle.passes.specs.Calls.{sizes}
use Rattle.resolve.proofs.CellsLaws.{lies_agree}
use Rattle.precedence.specs.Names.{named_texts}
use Rattle.levels.specs.declared.Room.{Room}
use Rattle.levels.specs.declared.Written.{Written}
use Rattle.levels.specs.Fresh.{new_texts}
use Rattle.levels.specs.Whole.{alternatives_in}
use Rattle.levels.specs.Settle.{name_bytes, SettlingNames, with_names, SettledNames}
use Rattle.rounds.specs.declared.Room as rounds-room
use Rattle.again.specs.Whole.{AgainStands, SomeAgain}
use Rattle.begins.proofs.LevelsFew.{levelled-few}
use Rattle.begins.proofs.LevelsWithin.{levels-within}
use Rattle.stages.specs.Levelling.{SomeLevels, SomeFitting}
use Rattle.stages.specs.Expanding.{macros_room}
use Rattle.stages.specs.Whole.{again_stages, whole_of}
use Rattle.stages.proofs.LevellingMeanFew.{alternatives_few}
use Rattle.stages.proofs.LevellingMeanSize.{stage_for, split, stage_is, levelled-said, size_is, at-is, lim_is}
use Rattle.stages.proofs.LevellingMeanFits.{fitting_lie, fitting_fits}

module _ (s : List ℕ) (cap : ℕ) (m : Map) (at : ℕ) (room : Room) (v : Written) (w : List ℕ) (F : SomeFitting s cap m at room v w) (narrow : length w * 1 < 2 ^ 63) where
  abbrev L : SomeLevels s cap m at room v w
  L = F.levels

  abbrev ts : List Text
  ts = L.tape.atoms

  abbrev us : List Text
  us = named_texts s w m v.count

  abbrev news : List Text
  news = new_texts s w m v.count

  abbrev tree : Tree
  tree = levelled L.tree

  abbrev N : ℕ
  N = length (bytes_of_each (atom_bytes 2) news)

  -- ---- the stage
  items_lie : Lies w room.at (bytes_of_each (item_bytes 2 us) tree) v.to
  items_lie = fitting_lie s cap m at room v w F

  pub stage_size : length (stage_bytes 2 (stage_for s cap m at room v w L)) ≤ cap
  stage_size = omega (arith, size_is s cap m at room v w L, items_lie.end, F.fits)

  pub stage_fits_is : stage_fits 2 (stage_for s cap m at room v w L) ≡ true
  stage_fits_is = fitting_fits s cap m at room v w F

  fine : sizes 2 cap (stage_for s cap m at room v w L) ≡ yes (stage_for s cap m at room v w L)
  unfolding sizes
  fine =
      let g = stage_for s cap m at room v w L in
      let l : leb (length (tape_of 2 g)) cap ≡ true = le-leb (length (tape_of 2 g)) cap (omega (arith, ap length (tape_is 2 g), stage_size)) in
      rw (stage_fits_is, l) refl

  pub stage_fine : stage (sizes 2 cap) ts tree ≡ yes (stage_of ts tree)
  stage_fine = ap (sizes 2 cap) (stage_is s cap m at room v w L) ∙ fine ∙ ap yes (sym (stage_is s cap m at room v w L))

  pub atoms_are : (stage_of ts tree).atoms ≡ ts ++ news
  atoms_are = ap (λ (g : Stage). g.atoms) (stage_is s cap m at room v w L) ∙ split s cap m at room v w L

  pub whole_is : (limit : ℕ) → whole_of s limit cap ≡ again_stages limit cap (stage_for s cap m at room v w L)
  unfolding whole_of
  whole_is limit = rw (levelled-said s cap m at room v w L, fine) refl

  within : Each (ItemWithin false 2 us) tree
  within = subst (λ (g : Stage). Each (ItemWithin false 2 g.atoms) tree) (stage_is s cap m at room v w L) (levels-within L.tape L.tree L.within L.is L.fine cap stage_fine)

  -- ---- numbers
  abbrev x : ℕ
  x = 8 * length s + (5 * cap - 2 * (cap / 9))

  abbrev end : ℕ
  end = x + 2 * cap + (cap + 2 * (cap / 9))

  few_bytes : 16 * alternatives_in L.tree + 11 * length L.tree ≤ length s - at
  few_bytes = omega (arith, L.size, alternatives_few ts L.tree)

  pub at_size : at ≡ length (bytes_of_each (atom_bytes 2) ts)
  at_size = omega (arith, part_length 0 at s L.inside, ap length L.atoms)

  pub room_at : room.at ≡ x + cap
  room_at = omega (arith, at-is s cap m at room v w L)

  pub room_to : v.to ≤ x + 2 * cap
  room_to = omega (arith, room_at, lim_is s cap m at room v w L, F.upto)

  records_end : m.base + 24 * v.count ≤ x
  records_end = omega (arith, L.records, L.wrote.most, few_bytes, L.fits, L.inside)

  -- ---- the names can be settled
  on_tape : (z : ℕ) → Above s w m z
  on_tape z = record { above = λ i h. subst (λ (y : ℕ). (y < 4 * length s) ⊎ (z ≤ y + 4 * length s)) (sym (L.wrote.marks i h)) ((L.on_tape z).above i h) }

  settling : SettlingNames s w m v.count end
  unfolding name_bytes
  settling = record {
    naming = L.wrote.names.naming;
    on_tape = on_tape;
    narrower = L.narrower;
    short = F.short;
    records = omega (arith, records_end, F.fits);
    far = omega (arith, F.fits);
    inside = omega (arith, L.enough);
  }

  pub whole_settling : (r : rounds-room.Room) → r ≡ macros_room (length s) at cap → SettlingNames s w m v.count r.end
  unfolding macros_room
  whole_settling r e = subst (λ (u : rounds-room.Room). SettlingNames s w m v.count u.end) (sym e) settling

  -- ---- and the items resolved again: low is where the first name stands
  module _ (low : ℕ) (w₁ : List ℕ) (q : SettledNames s w m v.count end low w₁) where
    abbrev n : Map
    n = with_names m v.count

    pub low-is : low + N ≡ end
    unfolding name_bytes
    low-is = q.first

    low_far : x + 2 * cap ≤ low
    low_far = omega (arith, low-is, F.fits)

    pub texts-now : texts s w₁ n ≡ us
    texts-now = q.texts-are

    lie_now : Lies w₁ room.at (bytes_of_each (item_bytes 2 us) tree) v.to
    lie_now =
        lies_agree w w₁ room.at v.to (bytes_of_each (item_bytes 2 us) tree) q.long (omega (arith, room_to, L.enough))
        (λ i a b. q.others i (inr (inl (omega (arith, records_end, room_at), omega (arith, room_to, low_far))))) items_lie

    pub stands : AgainStands s w₁ n 0 room.at v.to tree
    stands = record {
      cells = record { table = q.table; above = above_lower s w₁ n low (m.base + 24 * v.count) (omega (arith, records_end, low_far)) q.above };
      apart = ap distinct texts-now ∙ L.wrote.names.apart;
      few = F.few;
      lies = rw texts-now lie_now;
      within = rw texts-now within;
      fits = omega (arith, L.base, L.size, levelled-few 2 ts L.tree (omega arith));
      records = omega (arith, records_end, room_at);
      narrower = omega (arith, L.narrower, L.wrote.least);
      above = above_lower s w₁ n low v.to (omega (arith, room_to, low_far)) q.above;
      inside = omega (arith, room_to, L.enough, q.long, few_bytes, L.some, L.fits, L.inside, at_size);
      short = omega (arith, q.long);
    }

    pub whole_again : SomeAgain s w₁ (record { base = m.base; count = v.count; buckets = m.buckets }) 0 room.at v.to
    whole_again = record { tree = tree; stands = stands }
