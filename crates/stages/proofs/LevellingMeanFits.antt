-- Levels whose stage is admitted: its bytes are those handed over. Assumes nothing.
use mathlib.Core.Path.{◌≡◌, refl, sym, ap, ◌∙◌}
use mathlib.Core.Bool.{true}
use mathlib.Core.Logic.{inl, inr}
use mathlib.Core.List.{List, ◌++◌, append_assoc}
use Prim.Native.Nat.{ℕ, ◌+◌, ◌-◌}
use native.Mathlib.Omega.{arith}
use borrow.Author.Tests.{le-leb}
use lib.Dec.{leb}
use lib.ListN.{length, drop}
use Rattle.octets.specs.Plain.Runs.{part, Lies}
use Rattle.octets.proofs.LiesLaws.{lies_part}
use Rattle.parse_tree.specs.Plain.Tree.{Text, Stage}
use Rattle.parse_tree.specs.Plain.WriteTape.{bytes_of_each, tape_of}
use Rattle.parse_tree.specs.Working.Encode.{atom_bytes, item_bytes, stage_bytes}
use Rattle.parse_tree.proofs.WriteTapeIs.{tape_is}
use Rattle.texts.specs.declared.Map.{Map}
use Rattle.passes.specs.Outcome.{Tree}
use Rattle.passes.specs.Levels.{levelled}
use Rattle.passes.specs.Sizes.{stage_fits}
use Rattle.passes.specs.Calls.{sizes, written}
use Rattle.precedence.specs.Names.{named_texts}
use Rattle.levels.specs.declared.Room.{Room}
use Rattle.levels.specs.declared.Written.{Written}
use Rattle.levels.specs.Fresh.{new_texts}
use Rattle.output.specs.Plain.Answers.{answer_of}
use Rattle.std.specs.Prelude.{Ok}
use Rattle.output.specs.Working.Handing.{Staged, HandsLevels, levels_tree, handed_levels}
use Rattle.stages.specs.Levelling.{levelled_of, SomeLevels, SomeFitting}
use Rattle.stages.proofs.LevellingMeanSize.{stage_for, fits_is, size_is, at-is, lim_is, placed, levelled-said, levels-naming, to_from, atoms_bytes}

-- ---- levels that are admitted are handed over
module _ (s : List ℕ) (cap : ℕ) (m : Map) (at : ℕ) (room : Room) (v : Written) (w : List ℕ) (F : SomeFitting s cap m at room v w) where
  abbrev L : SomeLevels s cap m at room v w
  L = F.levels

  abbrev us : List Text
  us = named_texts s w m v.count

  abbrev tree : Tree
  tree = levelled L.tree

  abbrev news : List Text
  news = new_texts s w m v.count

  abbrev stage : Stage
  stage = stage_for s cap m at room v w L

  pub fitting_lie : Lies w room.at (bytes_of_each (item_bytes 2 us) tree) v.to
  fitting_lie = elim (placed s cap m at room v w L) [ inl x ↦ x.1 | inr x ↦ absurd (omega (arith, x.1, F.upto)) ]

  pub fitting_fits : stage_fits 2 stage ≡ true
  fitting_fits = rw (fits_is s cap m at room v w L, F.short, le-leb v.count 65536 F.few) refl

  -- theorem: the tree can be handed over
  pub fitting_hands : HandsLevels s at w m room v cap
  fitting_hands = record {
    inside = L.inside;
    naming = levels-naming s cap m at room v w L;
    short = F.short;
    from = to_from s cap m at room v w L;
    upto = omega (arith, F.upto, lim_is s cap m at room v w L, at-is s cap m at room v w L, L.enough);
    fits = F.fits;
  }

  tree_is : tape_of 2 stage ≡ levels_tree s at w m room v
  unfolding stage_bytes levels_tree
  tree_is =
      tape_is 2 stage ∙ ap (λ (x : List ℕ). x ++ bytes_of_each (item_bytes 2 us) tree) (atoms_bytes s cap m at room v w L) ∙ append_assoc (part 0 at s) (bytes_of_each (atom_bytes 2) news) (bytes_of_each (item_bytes 2 us) tree)
      ∙ ap (λ (x : List ℕ). part 0 at s ++ (bytes_of_each (atom_bytes 2) news ++ x)) (sym (lies_part w room.at v.to (bytes_of_each (item_bytes 2 us) tree) fitting_lie))

  -- theorem: and what is handed over is the stage's
  pub fitting_yes : (n : ℕ) → n ≡ at + length (bytes_of_each (atom_bytes 2) (new_texts s w m v.count)) + (v.to - room.at) → (o o' : List ℕ) → o' ≡ handed_levels s at w m room v o → Staged (levelled_of s cap) o (Ok n) o'
  unfolding sizes answer_of written handed_levels
  fitting_yes n e o o' h =
      let x : length (tape_of 2 stage) ≡ n = ap length (tape_is 2 stage) ∙ omega (arith, size_is s cap m at room v w L, e, fitting_lie.end) in
      let l : leb (length (tape_of 2 stage)) cap ≡ true = le-leb (length (tape_of 2 stage)) cap (omega (arith, x, e, F.fits)) in
      rw (levelled-said s cap m at room v w L, fitting_fits, l)
      (record { answered = ap Ok (sym x); tree = h ∙ ap (λ (u : List ℕ). u ++ drop (length u) o) (sym tree_is) })
