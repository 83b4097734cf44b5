-- A levelled tree whose stage is admitted is within limits, and so is what resolving it gives. Assumes nothing.
use mathlib.Core.Path.{◌≡◌, refl, sym, subst}
use mathlib.Core.Bool.{true, false, not, ◌&&◌}
use mathlib.Core.List.{List, [], ◌∷◌}
use Prim.Native.Nat.{ℕ}
use Rattle.octets.specs.Plain.Runs.{same_as}
use Rattle.octets.specs.Working.Choice.{pick}
use Rattle.parse_tree.specs.Plain.Tree.{Text, Item, item, Stage}
use Rattle.parse_tree.specs.Plain.Texts.{is_name, is_identifier, mut_text, error_text, has, with_new}
use Rattle.parse_tree.specs.Plain.References.{texts_of_each, item_texts, stage_of}
use Rattle.parse_tree.specs.Working.Within.{Each, SpanWithin, ItemWithin, StageWithin}
use Rattle.parse_tree.proofs.NothingNew.{none_new}
use Rattle.parse_tree.proofs.TextLaws.{both}
use Rattle.parse_tree.proofs.ReadingLaws.{each_all}
use Rattle.passes.specs.Outcome.{Tree, yes}
use Rattle.passes.specs.Levels.{levelled, check_levels, levels}
use Rattle.passes.specs.Resolve.{resolve}
use Rattle.passes.specs.Stages.{stage}
use Rattle.passes.specs.Calls.{sizes}
use Rattle.passes.proofs.ResolveWithin.{resolve-alike}
use Rattle.meaning.specs.Spans.{ItemSpans}
use Rattle.meaning.proofs.Calls.Spans.{resolve-spans, levels-spans}
use Rattle.meaning.proofs.Calls.Atoms.{Stocked, stage_stocked, with_new_holds}
use Rattle.meaning.proofs.Calls.Output.{item_spans, stage_within}
use Rattle.laws.specs.Keys.{ItemSound}
use Rattle.rounds.specs.Paid.{TreeKnown}
use Rattle.rounds.proofs.PaidRounds.{apart}
use Rattle.rounds.proofs.KeptMeans.{items_sound}
use Rattle.rounds.proofs.LevelsSound.{NamedItem, levelled-sound}
use Rattle.begins.proofs.ResolvedAgain.{resolve-sound, resolve-texts}

-- names of items that passed question 4
name_bytes_lem : (n : Text) → pick true (is_name n) true ≡ true → is_identifier n ≡ true
unfolding pick is_name
name_bytes_lem n e = (both (is_identifier n) (not (same_as n mut_text) && not (same_as n error_text)) e).0

items_named : (ts : List Text) (is : List Item) → Each (ItemWithin true 2 ts) is → Each NamedItem is
items_named ts [] h = tt
items_named ts (item d ∷ rest) h = (name_bytes_lem d.name h.0.name.2, items_named ts rest h.1)
items_named ts (Item.terminal s o t ∷ rest) h = (tt, items_named ts rest h.1)

-- u was read, R is what resolving gives, 14 to 16 passed
module _ (u : Stage) (R : Tree) (h : StageWithin true 2 u) (r : resolve u.items ≡ yes R) where
  within : Each (ItemWithin true 2 u.atoms) R
  within = (resolve-alike true 2 u.atoms u.items R r).within h.items

  pub named : Each NamedItem R
  named = items_named u.atoms R within

  -- theorem: its texts are the tape's
  pub texts-known : TreeKnown u.atoms R
  texts-known =
      let xs = texts_of_each item_texts R in
      let e : with_new u.atoms xs ≡ u.atoms = none_new true 2 (record { atoms = u.atoms; items = R }) (record { apart = h.apart; short = h.short; items = within }) in
      apart (λ (t : Text). has t u.atoms ≡ true) R (subst (λ (ts : List Text). Each (λ (t : Text). has t ts ≡ true) xs) e (with_new_holds u.atoms xs))

  -- theorem: its levels are sound
  pub levels_sound : Each ItemSound (levelled R)
  levels_sound = levelled-sound R named (items_sound 2 u.atoms R within)

  module _ (c : check_levels R ≡ yes tt) where
    -- theorem: and hand its spans on
    pub spans : Each (ItemSpans SpanWithin) (levelled R)
    unfolding levels
    spans =
        levels-spans SpanWithin R (levelled R) (each_all (ItemWithin true 2 u.atoms) (ItemSpans SpanWithin) (item_spans true 2 u.atoms) R within) (rw c refl)

    -- their stage is admitted
    module _ (cap : ℕ) (a : stage (sizes 2 cap) u.atoms (levelled R) ≡ yes (stage_of u.atoms (levelled R))) where
      pub stocked : Stocked 2 (stage_of u.atoms (levelled R))
      stocked = stage_stocked 2 cap u.atoms (levelled R) (stage_of u.atoms (levelled R)) h.apart a

      -- theorem
      pub levels-within : Each (ItemWithin false 2 (stage_of u.atoms (levelled R)).atoms) (levelled R)
      unfolding stage_of
      levels-within = (stage_within 2 (stage_of u.atoms (levelled R)) stocked spans).items

      -- L is what resolving them gives
      module _ (L : Tree) (e : resolve (levelled R) ≡ yes L) where
        -- theorem
        pub again_within : Each (ItemWithin false 2 (stage_of u.atoms (levelled R)).atoms) L
        again_within = (resolve-alike false 2 (stage_of u.atoms (levelled R)).atoms (levelled R) L e).within levels-within

        pub again_spans : Each (ItemSpans SpanWithin) L
        again_spans = resolve-spans SpanWithin (levelled R) L spans e

        pub again_sound : Each ItemSound L
        again_sound = resolve-sound (levelled R) L levels_sound e

        pub again_known : TreeKnown (stage_of u.atoms (levelled R)).atoms L
        unfolding stage_of
        again_known =
            let ts = (stage_of u.atoms (levelled R)).atoms in
            let P : Text → Type 0 = λ (t : Text). has t ts ≡ true in
            apart P L (subst (λ (xs : List Text). Each P xs) (sym (resolve-texts (levelled R) L e)) stocked.there)

-- theorem: the levels of a resolved tree, and these resolved again
pub levelled-within : (cap : ℕ) (u : Stage) (R L' : Tree) → StageWithin true 2 u → resolve u.items ≡ yes R → check_levels R ≡ yes tt
    → stage (sizes 2 cap) u.atoms (levelled R) ≡ yes (stage_of u.atoms (levelled R)) → resolve (levelled R) ≡ yes L'
    → Each (ItemWithin false 2 (stage_of u.atoms (levelled R)).atoms) (levelled R) × Each (ItemWithin false 2 (stage_of u.atoms (levelled R)).atoms) L'
levelled-within cap u R L' h r c a e = (levels-within u R h r c cap a, again_within u R h r c cap a L' e)
