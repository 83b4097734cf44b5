-- The ways out of the calls. Assumes nothing.
use mathlib.Core.Path.{◌≡◌, refl, sym, ap, ◌∙◌}
use mathlib.Core.Bool.{Bool, true, false}
use mathlib.Core.List.{List}
use Prim.Native.Nat.{ℕ, ◌+◌, ◌*◌, ◌≤◌, ◌<◌}
use native.Mathlib.Omega.{arith}
use borrow.Author.Rules.{rules}
use borrow.Author.Tests.{lt-leb, le-leb}
use lib.Dec.{leb}
use Rattle.parse_tree.specs.Plain.ReadTape.{read_tape}
use Rattle.std.specs.Prelude.{cond}
use lib.ListN.{length, replicate}
use Rattle.parse_tree.specs.Plain.Tree.{Stage}
use Rattle.parse_tree.specs.Working.Decode.{decode}
use Rattle.parse_tree.specs.Working.Refusals.{refusal_at}
use Rattle.parse_tree.specs.declared.refusal.Refusal.{Refusal}
use Rattle.parse_tree.proofs.ReadTapeIs.{read_is}
use Rattle.passes.specs.Outcome.{Outcome, yes, no, after}
use Rattle.passes.specs.Stages.{resolve_stage, level_stage, macro_stages, all_stages}
use Rattle.passes.specs.Calls.{nowhere, read_as, sizes, validate_call, resolve_call, levels_call, macros_call, whole, written, work_after}
use Rattle.output.specs.Plain.Answers.{answer_of, Called, Checked}
use Rattle.std.specs.Prelude.{Result, Err}
use Rattle.output.specs.Working.Handing.{Staged}
use Rattle.stages.specs.Stages.{Judged, resolved}
use Rattle.stages.specs.Levelling.{levelled_of}
use Rattle.stages.specs.Expanding.{expanded_of}
use Rattle.stages.specs.Whole.{again_stages, whole_of}
use Rattle.normalize.specs.Calls.{in_room}

-- ---- `call`: x is what the pass leaves
module _ (s o w : List ℕ) where
  pub call_short : (x : Outcome Stage) (why : Refusal) → why ≡ refusal_at 1 0 → length w < 8 * (length s + length o) → Called (in_room s (length o) (length w) x) s o w (Err why) o w
  unfolding refusal_at in_room answer_of written work_after
  call_short x why u h = let z = lt-leb (8 * (length s + length o)) (length w) h in record { answered = rw (z, u); tree = rw z; zeroed = rw z }

  -- r is its answer, o' and w₁ what it left
  pub call_done : 8 * (length s + length o) ≤ length w → (x : Outcome Stage) (r : Result ℕ Refusal) (o' w₁ w₂ : List ℕ) → Staged x o r o' → length w₁ ≡ length w → w₂ ≡ replicate (length w₁) 0 → Called (in_room s (length o) (length w) x) s o w r o' w₂
  unfolding in_room work_after
  call_done h x r o' w₁ w₂ d l q =
      let z = le-leb (8 * (length s + length o)) (length w) h in
      record {
        answered = rw z d.answered;
        tree = rw z d.tree;
        zeroed = rw z (q ∙ ap (λ (n : ℕ). replicate n 0) l);
      }

pub ruleset calling = (rules, call_short, call_done)

-- ---- what is asked of each call's definition
after-after : {A B C : Type 0} (x : Outcome A) (f : A → Outcome B) (g : B → Outcome C) → after x (λ a. after (f a) g) ≡ after (after x f) g
after-after (yes a) f g = refl
after-after (no q sp) f g = refl

module _ (s : List ℕ) (limit cap work : ℕ) where
  pub resolve_is : in_room s cap work (resolved s cap) ≡ resolve_call true 2 s cap work
  unfolding in_room resolve_call validate_call resolved decode
  resolve_is = go (leb (8 * (length s + cap)) work)
    where
      go : (b : Bool) → cond b (after (read_as (decode s)) (resolve_stage (sizes 2 cap))) (no 1 nowhere) ≡ after (cond b (read_as (read_tape true 2 s)) (no 1 nowhere)) (resolve_stage (sizes 2 cap))
      go true = rw (read_is true 2 s) refl
      go false = refl

  pub levels_is : in_room s cap work (levelled_of s cap) ≡ levels_call true 2 s cap work
  unfolding in_room levels_call resolve_call validate_call levelled_of resolved decode
  levels_is = go (leb (8 * (length s + cap)) work)
    where
      go : (b : Bool) → cond b (levelled_of s cap) (no 1 nowhere) ≡ after (after (cond b (read_as (read_tape true 2 s)) (no 1 nowhere)) (resolve_stage (sizes 2 cap))) (level_stage (sizes 2 cap))
      go true = rw (read_is true 2 s) refl
      go false = refl

  pub macros_is : in_room s cap work (expanded_of s limit cap) ≡ macros_call true 2 s limit cap work
  unfolding in_room macros_call resolve_call validate_call expanded_of resolved decode
  macros_is = go (leb (8 * (length s + cap)) work)
    where
      go : (b : Bool) → cond b (expanded_of s limit cap) (no 1 nowhere) ≡ after (after (cond b (read_as (read_tape true 2 s)) (no 1 nowhere)) (resolve_stage (sizes 2 cap))) (macro_stages (sizes 2 cap) limit)
      go true = rw (read_is true 2 s) refl
      go false = refl

  pub whole_is : in_room s cap work (whole_of s limit cap) ≡ whole true 2 s limit cap work
  unfolding in_room whole validate_call whole_of levelled_of resolved decode all_stages again_stages
  whole_is = go (leb (8 * (length s + cap)) work)
    where
      stages_joined : (x : Outcome Stage) → after (after (after x (resolve_stage (sizes 2 cap))) (level_stage (sizes 2 cap))) (again_stages limit cap) ≡ after x (all_stages (sizes 2 cap) limit)
      stages_joined (yes g) = sym (after-after (resolve_stage (sizes 2 cap) g) (level_stage (sizes 2 cap)) (again_stages limit cap))
      stages_joined (no q sp) = refl

      go : (b : Bool) → cond b (whole_of s limit cap) (no 1 nowhere) ≡ after (cond b (read_as (read_tape true 2 s)) (no 1 nowhere)) (all_stages (sizes 2 cap) limit)
      go true = rw (read_is true 2 s) (stages_joined (read_as (decode s)))
      go false = refl

-- ---- `validate`, which has no output
module _ (s w : List ℕ) where
  pub check_short : (why : Refusal) → why ≡ refusal_at 1 0 → length w < 8 * (length s + 0) → Checked (validate_call true 2 s 0 (length w)) s w (Err why) w
  unfolding refusal_at validate_call answer_of work_after
  check_short why u h = let z = lt-leb (8 * (length s + 0)) (length w) h in record { answered = rw (z, u); zeroed = rw z }

  module _ (h : 8 * (length s + 0) ≤ length w) where
    pub check_room : 8 * length s ≤ length w
    check_room = omega arith

    pub check_done : (r : Result ℕ Refusal) (w' : List ℕ) → Judged s w r w' → Checked (validate_call true 2 s 0 (length w)) s w r w'
    unfolding validate_call work_after
    check_done r w' d = let z = le-leb (8 * (length s + 0)) (length w) h in record { answered = rw z d.answered; zeroed = rw z d.zeroed }

pub ruleset checking = (rules, check_short, check_room, check_done)
