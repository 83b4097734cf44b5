-- The ways out of `run`: a tape that is not resolved, or whose resolved stage is not admitted, or has no items; and what a pass is asked. Assumes nothing.
use mathlib.Core.Path.{◌≡◌, refl, sym, ap, ◌∙◌}
use mathlib.Core.List.{List, []}
use Prim.Native.Nat.{ℕ, ◌+◌, ◌-◌, ◌*◌, ◌≤◌, ◌<◌}
use native.Mathlib.Omega.{arith}
use borrow.Author.Rules.{rules}
use lib.ListN.{length}
use Rattle.parse_tree.specs.Plain.Tree.{Stage}
use Rattle.parse_tree.specs.declared.refusal.Refusal.{Refusal}
use Rattle.texts.specs.declared.Map.{Map}
use Rattle.passes.specs.Outcome.{Tree, Outcome, yes, no}
use Rattle.resolve.specs.declared.Grammar.{Grammar}
use Rattle.std.specs.Prelude.{Result, Ok, Err}
use Rattle.output.specs.Plain.Answers.{answer_of}
use Rattle.output.specs.Working.Judging.{sized}
use Rattle.output.specs.Working.Handing.{Staged, handed}
use Rattle.stages.specs.declared.Resolved.{Resolved}
use Rattle.stages.specs.Stages.{TapeResolves, resolved}
use Rattle.stages.specs.Follows.{Follows}
use Rattle.stages.specs.Levelling.{SomeAdmitted}
use Rattle.stages.proofs.StoodMean.{stood, stage_refused, stage_stands, stage_no, judged, stood_yes}
use Rattle.stages.proofs.LevellingMeanStage.{none_of, admitted-is}

-- ---- the resolved stage is handed over where it is admitted
module _ (s o : List ℕ) (m : Map) (t : Grammar) (at : ℕ) (w : List ℕ) (a : SomeAdmitted s (length o) m t at w) where
  pub admitted-inside : at ≤ length s
  admitted-inside = a.stood.inside

  pub admitted-room : t.at + (length s - at) ≤ length w
  admitted-room = a.stood.room

  pub admitted-fits : length s ≤ length o
  admitted-fits = a.fits

  pub admitted-handed : (o' : List ℕ) → o' ≡ handed at s t.at w o → Staged (resolved s (length o)) o (Ok (length s)) o'
  admitted-handed o' h = stood_yes s w m t at a.stood a.few o o' a.fits h

pub ruleset resolving_pass = (rules, admitted-inside, admitted-room, admitted-fits, admitted-handed)

-- ---- f is the stage that a pass leaves
module _ (f : List ℕ → ℕ → Outcome Stage) (F : Follows f) where
  -- a refusal of the resolved stage is its answer
  refused_alike : (s o : List ℕ) (why : Refusal) → Staged (resolved s (length o)) o (Err why) o → Staged (f s (length o)) o (Err why) o
  unfolding answer_of
  refused_alike s o why h = go (resolved s (length o)) refl h
    where
      go : (x : Outcome Stage) → resolved s (length o) ≡ x → Staged x o (Err why) o → Staged (f s (length o)) o (Err why) o
      go (yes g) e k = absurd (let z : ◌≡◌ {A = ℕ} 0 1 = let d = k.answered in cc in omega arith)
      go (no q sp) e k = rw (F.refuses s (length o) q sp e) k

  -- x is what `resolve_tape` answered, and w what it left
  pub run_refused : (s : List ℕ) (x : Result Resolved Refusal) (w : List ℕ) → TapeResolves s x w → (o : List ℕ) (why : Refusal) → x ≡ Err why → Staged (f s (length o)) o (Err why) o
  run_refused s x w i o why e = refused_alike s o why (stage_refused s x w i o why e)

  -- y is what `judge` answered
  pub run_no : (s w : List ℕ) (r : Resolved) → TapeResolves s (Ok r) w → (o : List ℕ) (y : Result (Unit {0}) Refusal) → y ≡ sized r.texts.count (length s) (length o) → (why : Refusal) → y ≡ Err why
      → Staged (f s (length o)) o (Err why) o
  run_no s w r i o y j why e = refused_alike s o why (stage_no s w r i o y j why e)

  -- a grammar without items
  pub run_none : (s o : List ℕ) (m : Map) (t : Grammar) (at : ℕ) (w : List ℕ) → SomeAdmitted s (length o) m t at w → t.count ≡ 0 → (o' : List ℕ) → o' ≡ handed at s t.at w o
      → Staged (f s (length o)) o (Ok (length s)) o'
  run_none s o m t at w a e o' h =
      let z : a.stood.tree ≡ [] = none_of a.stood.tree (sym e ∙ a.stood.levels.many) in
      let y : resolved s (length o) ≡ yes (record { atoms = a.stood.tape.atoms; items = [] }) = admitted-is s (length o) m t at w a ∙ ap (λ (R : Tree). yes (record { atoms = a.stood.tape.atoms; items = R })) z in
      let l : f s (length o) ≡ resolved s (length o) = F.keeps s (length o) a.stood.tape.atoms y ∙ sym y in
      rw l (admitted-handed s o m t at w a o' h)

-- ---- what the steps ask
pub tape_room : (s o w : List ℕ) → 8 * (length s + length o) ≤ length w → 8 * length s ≤ length w
tape_room s o w h = omega arith

pub run_admitted : (s w w₁ : List ℕ) (r : Resolved) → TapeResolves s (Ok r) w₁ → length w₁ ≡ length w → (o : List ℕ) (y : Result (Unit {0}) Refusal) → y ≡ sized r.texts.count (length s) (length o) → 8 * (length s + length o) ≤ length w
    → (u : Unit {0}) → y ≡ Ok u → SomeAdmitted s (length o) r.texts r.grammar r.at w₁
run_admitted s w w₁ r i l o y j h u e =
    let k = judged s w₁ r i o y j u e in
    record { stood = stood s (Ok r) w₁ i r refl; few = k.0; fits = k.1; enough = omega arith }

pub some_items : (n : ℕ) → (n ≡ 0 → ⊥) → 0 < n
some_items n h = omega arith

pub ruleset running = (rules, tape_room, stage_stands, run_admitted, admitted-inside, admitted-room, admitted-fits, some_items)
