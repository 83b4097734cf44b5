-- Each pass comes behind resolving, and leaves a grammar without items as it is. They stand here since the passes' ghost field `follows` (src/pass.rt) cites them. Assumes nothing.
use mathlib.Core.Path.{◌≡◌, refl, subst}
use mathlib.Core.Bool.{Bool, true, false, cond}
use mathlib.Core.List.{List, []}
use Prim.Native.Nat.{ℕ, zero, suc}
use lib.Dec.{leb}
use lib.ListN.{length}
use Rattle.parse_tree.specs.Plain.Tree.{Text, Stage}
use Rattle.parse_tree.specs.Plain.Reading.{Reading, got, refused}
use Rattle.parse_tree.specs.Plain.References.{stage_of, texts_of_each}
use Rattle.parse_tree.specs.Plain.Texts.{with_new}
use Rattle.parse_tree.specs.Plain.WriteTape.{tape_of}
use Rattle.parse_tree.specs.Working.Decode.{decode}
use Rattle.passes.specs.Outcome.{Tree, Outcome, yes, no, after}
use Rattle.passes.specs.Resolve.{check_globals, validate_items, resolve}
use Rattle.passes.specs.Levels.{check_levels, levels, levelled}
use Rattle.passes.specs.Macros.{replace_items}
use Rattle.passes.specs.Stages.{resolve_stage, level_stage, rounds, macro_stages}
use Rattle.passes.specs.Sizes.{stage_fits}
use Rattle.passes.specs.Calls.{read_as, sizes, nowhere}
use Rattle.passes.proofs.Outcomes.{no≢yes, yes_inj}
use Rattle.stages.specs.Follows.{Follows}
use Rattle.stages.specs.Stages.{resolved}
use Rattle.stages.specs.Levelling.{levelled_of}
use Rattle.stages.specs.Expanding.{expanded_of}
use Rattle.stages.specs.Whole.{again_stages, whole_of}

-- ---- what is admitted once is admitted again
sizes_yes : (cap : ℕ) (x g : Stage) → sizes 2 cap x ≡ yes g → sizes 2 cap g ≡ yes g
unfolding sizes
sizes_yes cap x g p = subst (λ (u : Stage). sizes 2 cap u ≡ yes g) (go (stage_fits 2 x) (leb (length (tape_of 2 x)) cap) p) p
  where
    go : (a b : Bool) → cond a (cond b (yes x) (no 21 nowhere)) (no 20 nowhere) ≡ yes g → x ≡ g
    go true true q = yes_inj x g q
    go true false q = absurd (no≢yes 21 nowhere g q)
    go false b q = absurd (no≢yes 20 nowhere g q)

module _ (s : List ℕ) (cap : ℕ) (g : Stage) (p : resolved s cap ≡ yes g) where
  admitted : sizes 2 cap g ≡ yes g
  unfolding resolved resolve_stage
  admitted = go (decode s) p
    where
      by : (ts : List Text) (z : Outcome Tree) → after z (λ R. sizes 2 cap (stage_of ts R)) ≡ yes g → sizes 2 cap g ≡ yes g
      by ts (yes R) q = sizes_yes cap (stage_of ts R) g q
      by ts (no n sp) q = absurd (no≢yes n sp g q)

      go : (z : Reading Stage) → after (read_as z) (resolve_stage (sizes 2 cap)) ≡ yes g → sizes 2 cap g ≡ yes g
      go (got u e) q = by u.atoms (resolve u.items) q
      go (refused n e) q = absurd (no≢yes n _ g q)

-- ---- without items
module _ (cap : ℕ) (ts : List Text) (p : sizes 2 cap (record { atoms = ts; items = [] }) ≡ yes (record { atoms = ts; items = [] })) where
  none_stage : sizes 2 cap (stage_of ts []) ≡ yes (record { atoms = ts; items = [] })
  unfolding stage_of texts_of_each with_new
  none_stage = p

  none_levels : level_stage (sizes 2 cap) (record { atoms = ts; items = [] }) ≡ yes (record { atoms = ts; items = [] })
  unfolding level_stage levels check_levels levelled
  none_levels = none_stage

  none_macros : (limit : ℕ) → macro_stages (sizes 2 cap) limit (record { atoms = ts; items = [] }) ≡ yes (record { atoms = ts; items = [] })
  unfolding macro_stages rounds replace_items
  none_macros zero = none_stage
  none_macros (suc n) = none_stage

  none_again : (limit : ℕ) → again_stages limit cap (record { atoms = ts; items = [] }) ≡ yes (record { atoms = ts; items = [] })
  unfolding again_stages resolve check_globals validate_items
  none_again limit = none_macros limit

-- ---- the passes
pub levelled_follows : Follows (λ s cap. levelled_of s cap)
unfolding levelled_of
levelled_follows = record {
  refuses = λ s cap q sp p. rw p refl;
  keeps = λ s cap ts p. rw p (none_levels cap ts (admitted s cap _ p));
}

pub expanded_follows : (limit : ℕ) → Follows (λ s cap. expanded_of s limit cap)
unfolding expanded_of
expanded_follows limit = record {
  refuses = λ s cap q sp p. rw p refl;
  keeps = λ s cap ts p. rw p (none_macros cap ts (admitted s cap _ p) limit);
}

pub whole_of_follows : (limit : ℕ) → Follows (λ s cap. whole_of s limit cap)
unfolding whole_of
whole_of_follows limit = record {
  refuses = λ s cap q sp p. rw (levelled_follows.refuses s cap q sp p) refl;
  keeps = λ s cap ts p. rw (levelled_follows.keeps s cap ts p) (none_again cap ts (admitted s cap _ p) limit);
}
