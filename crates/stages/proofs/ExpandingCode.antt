-- The ways out of the functions that expand the macros of a resolved tape. Assumes nothing.
use mathlib.Core.Path.{◌≡◌, refl, sym, ap, ◌∙◌, subst}
use mathlib.Core.Bool.{Bool, true}
use mathlib.Core.List.{List, [], ◌++◌, append-nil}
use Prim.Native.Nat.{ℕ, ◌+◌, ◌-◌, ◌*◌, ◌/◌, ◌^◌, ◌<◌}
use native.Mathlib.Omega.{arith}
use borrow.Author.Rules.{rules}
use lib.ListN.{length}
use Rattle.parse_tree.specs.Plain.Tree.{Text, Stage}
use Rattle.parse_tree.specs.Working.Refusals.{refusal_over}
use Rattle.parse_tree.specs.declared.refusal.Refusal.{Refusal}
use Rattle.texts.specs.declared.Map.{Map}
use Rattle.passes.specs.Outcome.{Tree, Outcome, yes, no}
use Rattle.passes.specs.Macros.{without_macros}
use Rattle.passes.specs.Stages.{rounds, macro_stages}
use Rattle.passes.specs.Calls.{sizes, written}
use Rattle.resolve.specs.declared.Grammar.{Grammar}
use Rattle.rounds.specs.declared.Expander.{Expander}
use Rattle.rounds.specs.declared.Room.{Room}
use Rattle.rounds.specs.declared.State.{State}
use Rattle.rounds.specs.Steps.{numbers_at_start}
use Rattle.rounds.specs.Standing.{RoundStands}
use Rattle.rounds.specs.Define.{SomeDeclared, Defined}
use Rattle.rounds.specs.Round.{SomeRound, Finished, RoundsTo, AllRounds}
use Rattle.output.specs.Plain.Answers.{answer_of}
use Rattle.std.specs.Prelude.{Result, Ok, Err}
use Rattle.output.specs.Working.Handing.{Staged}
use Rattle.output.specs.Working.Expanded.{LastStands, SomeLastStage, HandsLast}
use Rattle.output.proofs.ExpandedCode.{some_last}
use Rattle.stages.specs.declared.Resolved.{Resolved}
use Rattle.stages.specs.Levelling.{SomeAdmitted}
use Rattle.stages.specs.Expanding.{macros_room, expanded_of, first_trees, SomeFirst, FirstRounds, RunStands, SomeRun, RunsTo}
use Rattle.stages.proofs.LevellingMeanStage.{admitted-is}
use Rattle.stages.proofs.ExpandingFirst.{first_declared, first_stands}
use Rattle.stages.proofs.ExpandingStart.{Start, start_stands}

-- ---- `macros_room`
pub room_is : (tape at cap : ℕ) → ◌≡◌ {A = Room} (record {
  first = at;
  cap = cap;
  x = 8 * tape + (5 * cap - 2 * (cap / 9));
  y = 8 * tape + (5 * cap - 2 * (cap / 9)) + 2 * cap;
  end = 8 * tape + (5 * cap - 2 * (cap / 9)) + 2 * cap + (cap + 2 * (cap / 9));
}) (macros_room tape at cap)
unfolding macros_room
room_is tape at cap = refl

pub ruleset macros-rooms = (rules, room_is)

-- ---- `expand_rounds`
module _ (s w : List ℕ) (r : Resolved) (room : Room) (low : ℕ) where
  abbrev first_state : Expander → State
  first_state e = record { expander = e; m = r.texts; from = r.grammar.at; end = r.grammar.end; done = room.y; low = low }

  pub rounds_declared : SomeFirst s w r room low → SomeDeclared s w r.texts r.grammar
  rounds_declared A = first_declared s w r.texts r.grammar room low A.four A.tree A.first A.past A.owed A.stands

  pub rounds_some : SomeFirst s w r room low → (w₁ : List ℕ) → Defined s w r.texts r.grammar w₁ → (e : Expander) → e ≡ numbers_at_start r.grammar.count → SomeRound s w₁ room r.grammar (first_state e)
  rounds_some A w₁ d e i = rw i (record {
    trees = first_trees A.tree A.first A.past A.owed;
    standing = first_stands s w r.texts r.grammar room low A.four A.tree A.first A.past A.owed A.stands w₁ d;
  })

  pub rounds_done : (limit : ℕ) (w₁ : List ℕ) → Defined s w r.texts r.grammar w₁ → (e : Expander) → e ≡ numbers_at_start r.grammar.count → (x : Result State Refusal) (w₂ : List ℕ)
      → AllRounds s w₁ room r.grammar limit (first_state e) x w₂ → FirstRounds s w r room low limit x w₂
  unfolding FirstRounds AllRounds macro_stages
  rounds_done limit w₁ d e i x w₂ a four G first past owed F =
      let n : limit - e.round ≡ limit = omega (arith, ap (λ (u : Expander). u.round) i) in
      subst (λ (k : ℕ). RoundsTo s room first (rounds (sizes 2 room.cap) G k (first ++ past) [] (without_macros G) []) x w₂) n
      (a (first_trees G first past owed) (subst (λ (u : Expander). RoundStands s w₁ room r.grammar (first_state u) (first_trees G first past owed)) (sym i)
      (first_stands s w r.texts r.grammar room low four G first past owed F w₁ d)))

pub ruleset macros-rounds = (rules, rounds_declared, rounds_some, rounds_done)

-- ---- `run_rounds`: x is what the rounds came to, w₁ what they left
abbrev state_in : State → Result State Refusal → State
state_in z (Ok x) = x
state_in z (Err why) = z

abbrev refusal_in : Refusal → Result State Refusal → Refusal
refusal_in y (Ok x) = y
refusal_in y (Err why) = why

abbrev kind_of : Result State Refusal → ℕ
kind_of (Ok x) = 1
kind_of (Err why) = 2

module _ (s o w : List ℕ) (r : Resolved) (n : ℕ) (room : Room) (low : ℕ) where
  pub run_first : SomeRun s w (length o) r n room low → SomeFirst s w r room low
  run_first A = record { four = A.four; tree = A.tree; first = A.first; past = A.past; owed = A.owed; stands = A.stands.stands }

  module _ (limit : ℕ) (x : Result State Refusal) (w₁ : List ℕ) (k : FirstRounds s w r room low limit x w₁) where
    -- what is to be answered
    abbrev said : Tree → List Text → List Text → Outcome Stage
    said G first past = macro_stages (sizes 2 (length o)) limit (record { atoms = first ++ past; items = G })

    came : (four : Bool) (G : Tree) (first past : List Text) (owed : ℕ) → RunStands s w (length o) r n room low four G first past owed → RoundsTo s room first (said G first past) x w₁
    unfolding FirstRounds
    came four G first past owed A =
        subst (λ (c : ℕ). RoundsTo s room first (macro_stages (sizes 2 c) limit (record { atoms = first ++ past; items = G })) x w₁) A.cap_is (k four G first past owed A.stands)

    pub run_refused : (why : Refusal) → x ≡ Err why → RunsTo s w r n room low limit o (Err why) o
    unfolding RunsTo RoundsTo answer_of written refusal_over
    run_refused why f four G first past owed A = go (said G first past) (came four G first past owed A)
      where
        go : (u : Outcome Stage) → RoundsTo s room first u x w₁ → Staged u o (Err why) o
        go (yes g) (z, i, d) = absurd (omega (arith, ap kind_of (sym i ∙ f)))
        go (no q sp) i = let j : why ≡ refusal_over q sp = ap (refusal_in why) (sym f ∙ i) in record { answered = ap Err j; tree = refl }

    module _ (l : length w₁ ≡ length w) (z : State) (f : x ≡ Ok z) where
      module _ (four : Bool) (G : Tree) (first past : List Text) (owed : ℕ) (A : RunStands s w (length o) r n room low four G first past owed) where
        -- the last stage, and that it is the answer
        ends : (u : Outcome Stage) → RoundsTo s room first u x w₁ → (g : Stage) × (u ≡ yes g) × Finished s w₁ room z first g
        unfolding RoundsTo
        ends (yes g) (y, i, d) = (g, refl, subst (λ (v : State). Finished s w₁ room v first g) (ap (state_in z) (sym i ∙ f)) d)
        ends (no q sp) i = absurd (omega (arith, ap kind_of (sym i ∙ f)))

        last : (g : Stage) × (said G first past ≡ yes g) × Finished s w₁ room z first g
        last = ends (said G first past) (came four G first past owed A)

        stood_last : LastStands s w₁ r.at n (length o) z.m room.y z.done last.0
        stood_last =
            let F = last.2 in
            record {
              first = first;
              past = F.past;
              many = A.many;
              inside = A.inside;
              tape_atoms = A.atoms;
              atoms = F.atoms;
              table = F.table;
              texts-are = F.texts-are;
              items_lie = F.items_lie;
              fits = subst (λ (c : ℕ). sizes 2 c last.0 ≡ yes last.0) A.cap_is F.fits;
              behind = omega (arith, A.stands.map.end_is, A.stands.map.inside, l);
            }

      pub run_last : SomeRun s w (length o) r n room low → SomeLastStage s w₁ r.at n (length o) z.m room.y z.done
      run_last A =
          some_last s w₁ r.at n (length o) z.m room.y z.done (last A.four A.tree A.first A.past A.owed A.stands).0 (stood_last A.four A.tree A.first A.past A.owed A.stands)

      pub run_done : (y : ℕ) (o₁ : List ℕ) → HandsLast s w₁ r.at n z.m room.y z.done o y o₁ → RunsTo s w r n room low limit o (Ok y) o₁
      unfolding HandsLast RunsTo
      run_done y o₁ d four G first past owed A =
          let e = last four G first past owed A in subst (λ (u : Outcome Stage). Staged u o (Ok y) o₁) (sym e.1) (d e.0 (stood_last four G first past owed A))

pub ruleset running_rounds = (rules, run_first, run_refused, run_last, run_done)

-- ---- the pass
pub items_sum : (s o : List ℕ) (m : Map) (t : Grammar) (at : ℕ) (w : List ℕ) → SomeAdmitted s (length o) m t at w → length w * 1 < 2 ^ 63 → 8 * (length s + length o) < 9223372036854775808
items_sum s o m t at w a h = omega (arith, a.enough)

module _ (s o : List ℕ) (r : Resolved) (w : List ℕ) (a : SomeAdmitted s (length o) r.texts r.grammar r.at w) (some : 0 < r.grammar.count) (narrow : length w * 1 < 2 ^ 63) where
  abbrev own : Room
  own = macros_room (length s) r.at (length o)

  abbrev stage_of_tape : Stage
  stage_of_tape = record { atoms = a.stood.tape.atoms; items = a.stood.tree }

  start : Start s r.texts r.grammar own w
  unfolding macros_room
  start = record { some = some; admitted = a; room_is = refl; short = omega arith }

  stands : RunStands s w (length o) r r.texts.count own own.end true a.stood.tree a.stood.tape.atoms [] 0
  unfolding macros_room start
  stands = record { stands = start_stands s r.texts r.grammar own w start; many = a.stood.many; inside = a.stood.inside; atoms = a.stood.atoms; cap_is = refl }

  pub items_run : (room : Room) → room ≡ macros_room (length s) r.at (length o) → SomeRun s w (length o) r r.texts.count room room.end
  items_run room e =
      subst (λ (u : Room). SomeRun s w (length o) r r.texts.count u u.end) (sym e) (record { four = true; tree = a.stood.tree; first = a.stood.tape.atoms; past = []; owed = 0; stands = stands })

  expanded_is : (limit : ℕ) → expanded_of s limit (length o) ≡ macro_stages (sizes 2 (length o)) limit stage_of_tape
  unfolding expanded_of
  expanded_is limit = rw (admitted-is s (length o) r.texts r.grammar r.at w a) refl

  pub items_done : (room : Room) → room ≡ macros_room (length s) r.at (length o) → (limit : ℕ) (x : Result ℕ Refusal) (o' : List ℕ) → RunsTo s w r r.texts.count room room.end limit o x o'
      → Staged (expanded_of s limit (length o)) o x o'
  unfolding RunsTo
  items_done room e limit x o' d =
      rw (expanded_is limit)
      (subst (λ (us : List Text). Staged (macro_stages (sizes 2 (length o)) limit (record { atoms = us; items = a.stood.tree })) o x o') (append-nil a.stood.tape.atoms)
      (subst (λ (u : Room). RunsTo s w r r.texts.count u u.end limit o x o') e d true a.stood.tree a.stood.tape.atoms [] 0 stands))

pub ruleset macros-itemizing = (rules, items_sum, items_run, items_done)
