-- The stage of a resolved tree: it has the atoms of the tape, and 20 asks of it only how many they are. Assumes nothing.
use mathlib.Core.Path.{◌≡◌}
use mathlib.Core.Bool.{true, false, ◌&&◌}
use mathlib.Core.List.{List}
use Prim.Native.Nat.{ℕ, ◌^◌, ◌<◌, ◌≤◌}
use borrow.Author.Tests.{lt-leb, le-leb}
use lib.Dec.{leb, ltb}
use lib.ListN.{length}
use Rattle.parse_tree.specs.Plain.Tree.{Text, Item, Stage}
use Rattle.parse_tree.specs.Plain.WriteTape.{tape_of}
use Rattle.parse_tree.specs.Working.Encode.{stage_bytes}
use Rattle.parse_tree.specs.Plain.References.{stage_of}
use Rattle.parse_tree.specs.Working.Within.{StageWithin}
use Rattle.parse_tree.proofs.TextLaws.{both, and_both}
use Rattle.parse_tree.proofs.NothingNew.{none_new}
use Rattle.parse_tree.proofs.WriteTapeIs.{tape_is}
use Rattle.passes.specs.Outcome.{yes, no}
use Rattle.passes.specs.Resolve.{globals, check_globals, validate_items, resolve}
use Rattle.passes.specs.Sizes.{each, item_fits, stage_fits}
use Rattle.passes.specs.Calls.{nowhere, sizes}
use Rattle.passes.proofs.Outcomes.{after-yes}
use Rattle.passes.proofs.ResolveKeeps.{resolve-keeps, resolve-fits, stage_fits_lem}

-- R are the items of the stage g, resolved
module _ (g : Stage) (R : List Item) (p : resolve g.items ≡ yes R) (k : StageWithin true 2 g) where
  validated : validate_items g.items g.items ≡ yes R
  unfolding resolve
  validated = (after-yes (check_globals _ (globals g.items)) _ R p).2

  pub stage_is : stage_of g.atoms R ≡ record { atoms = g.atoms; items = R }
  unfolding stage_of
  stage_is = rw (resolve-keeps g.items g.items R validated, none_new true 2 g k)

  pub fits_few : length g.atoms ≤ 65536 → stage_fits 2 (record { atoms = g.atoms; items = R }) ≡ true
  unfolding stage_fits
  fits_few l =
      let z : stage_fits 2 g ≡ true = stage_fits_lem true 2 g k l in
      let y = both (leb (length g.atoms) (256 ^ 2)) (each (λ (t : Text). ltb (length t) 65536) g.atoms && each item_fits g.items) z in
      let x = both (each (λ (t : Text). ltb (length t) 65536) g.atoms) (each item_fits g.items) y.1 in
      and_both (leb (length g.atoms) (256 ^ 2)) (each (λ (t : Text). ltb (length t) 65536) g.atoms && each item_fits R) y.0
      (and_both (each (λ (t : Text). ltb (length t) 65536) g.atoms) (each item_fits R) x.0 (resolve-fits g.items g.items R validated x.1))

  pub fits_many : 65536 < length g.atoms → stage_fits 2 (record { atoms = g.atoms; items = R }) ≡ false
  unfolding stage_fits
  fits_many l = let z : leb (length g.atoms) (256 ^ 2) ≡ false = lt-leb (length g.atoms) (256 ^ 2) l in rw z

  -- ---- 20, 21 and the yes
  pub admit_many : (cap : ℕ) → 65536 < length g.atoms → sizes 2 cap (stage_of g.atoms R) ≡ no 20 nowhere
  unfolding sizes
  admit_many cap l = rw (stage_is, fits_many l)

  pub admit_long : (cap : ℕ) → length g.atoms ≤ 65536 → cap < length (stage_bytes 2 (record { atoms = g.atoms; items = R })) → sizes 2 cap (stage_of g.atoms R) ≡ no 21 nowhere
  unfolding sizes
  admit_long cap l h =
      let z : leb (length (tape_of 2 (record { atoms = g.atoms; items = R }))) cap ≡ false = rw (tape_is 2 (record { atoms = g.atoms; items = R })) (lt-leb (length (stage_bytes 2 (record { atoms = g.atoms; items = R }))) cap h) in
      rw (stage_is, fits_few l, z)

  pub admit_done : (cap : ℕ) → length g.atoms ≤ 65536 → length (stage_bytes 2 (record { atoms = g.atoms; items = R })) ≤ cap
      → sizes 2 cap (stage_of g.atoms R) ≡ yes (record { atoms = g.atoms; items = R })
  unfolding sizes
  admit_done cap l h =
      let z : leb (length (tape_of 2 (record { atoms = g.atoms; items = R }))) cap ≡ true = rw (tape_is 2 (record { atoms = g.atoms; items = R })) (le-leb (length (stage_bytes 2 (record { atoms = g.atoms; items = R }))) cap h) in
      rw (stage_is, fits_few l, z)
