-- Laws for question 18, for a whole round and for the last in code. Assumes nothing.
use mathlib.Core.Path.{◌≡◌, refl, sym, ap, ◌∙◌, subst}
use mathlib.Core.List.{List, [], ◌∷◌}
use Prim.Native.Nat.{ℕ, zero, suc, ◌+◌, ◌-◌, ◌≤◌, ◌<◌}
use native.Mathlib.Omega.{arith}
use borrow.Author.Rules.{rules}
use mir.Syntax.{w64}
use mir.Val as Bound
use lib.ListN.{length}
use Rattle.std.specs.Prelude.{Result, Ok, Err}
use Rattle.std.specs.declared.ops.ControlFlow.{ControlFlow}
use Rattle.parse_tree.specs.Plain.Tree.{Stage}
use Rattle.parse_tree.specs.Working.Nodes.{span_in}
use Rattle.parse_tree.specs.Working.Refusals.{refusal_over}
use Rattle.parse_tree.specs.declared.refusal.Refusal.{Refusal}
use Rattle.texts.specs.Fields.{mark_at}
use Rattle.passes.specs.Outcome.{Outcome, yes, no}
use Rattle.passes.specs.Macros.{Pending, without_macros}
use Rattle.passes.specs.Stages.{last_stage, rounds}
use Rattle.passes.specs.Calls.{sizes}
use Rattle.resolve.specs.declared.Grammar.{Grammar}
use Rattle.expander.specs.declared.Ground.{Ground}
use Rattle.appending.specs.declared.Appended.{Appended}
use Rattle.expander.specs.Ground.{key_at}
use Rattle.rounds.specs.declared.Room.{Room}
use Rattle.rounds.specs.declared.State.{State}
use Rattle.rounds.specs.declared.round.Half.{Half}
use Rattle.rounds.specs.Judge.{Verdict}
use Rattle.rounds.specs.Start.{at_start}
use Rattle.rounds.specs.Step.{one_round}
use Rattle.rounds.specs.Standing.{RoundTrees, round_atoms, RoundStands}
use Rattle.rounds.specs.Round.{SomeRound, pending_of, replaced_stage, Halfway, finished_state, Sizeable, stage_verdict, SomeLast, AnswersHalf, OneRound, RoundsTo, LastRound}
use Rattle.rounds.proofs.LastPushed as lasts
use Rattle.rounds.proofs.RoundHalf as halves
use Rattle.rounds.proofs.Tally as tally
use Rattle.rounds.proofs.RoundJudged as judges
use Rattle.rounds.proofs.RoundAnswers as answers

-- ---- last_pushed
module _ (w : List ℕ) (g : Ground) (n : ℕ) (L : SomeLast w g n) (p : ℕ) (e : p ≡ mark_at w g.keys (n - 1)) where
  pub last_room : g.from + p + 9 ≤ length w
  unfolding key_at
  last_room = rw e L.place

  pub last_sum : Bound.Fits w64 (g.from + p)
  last_sum = record { fits = omega (arith, last_room, L.short) }

pub last_done : (w : List ℕ) (g : Ground) (n p : ℕ) → p ≡ mark_at w g.keys (n - 1) → (r : Refusal) → r ≡ refusal_over 18 (span_in w (g.from + p + 1))
    → r ≡ refusal_over 18 (span_in w (g.from + key_at w g (n - 1) + 1))
unfolding key_at
last_done w g n p e r i = i ∙ ap (λ (x : ℕ). refusal_over 18 (span_in w (g.from + x + 1))) e

pub ruleset telling_last = (rules, last_sum, last_room, last_done)

-- ---- round: w1 is work behind the replacing stage
module _ (s w : List ℕ) (room : Room) (t : Grammar) (z : State) (h : Half) (w1 : List ℕ) (H : Halfway s w room t z h w1) where
  pub round_on : (x : Result (ControlFlow State State) Refusal) (w2 : List ℕ) → AnswersHalf s w1 room t z h x w2 → OneRound s w room t z x w2
  unfolding OneRound one_round AnswersHalf
  round_on x w2 a T S = a w T S H

pub ruleset rounding = (rules, round_on)

-- ---- last_round
module _ (s w : List ℕ) (room : Room) (t : Grammar) (z : State) (h : Half) (w1 : List ℕ) (H : Halfway s w room t z h w1) where
  height : h.expander.height ≡ h.r.pile
  height = tally.height_is s w room t z h w1 H

  pushed : (h.expander.height ≡ 0 → ⊥) → 0 < h.r.pile
  pushed f = go h.r.pile (λ n. f (height ∙ n))
    where
      go : (n : ℕ) → (n ≡ 0 → ⊥) → 0 < n
      go zero f = absurd (f refl)
      go (suc n) f = omega arith

  some_last : SomeRound s w room t z → (h.expander.height ≡ 0 → ⊥) → SomeLast w1 h.g h.r.pile
  some_last K f =
      let T = K.trees in
      let R = halves.replacing s w room t z T K.standing h w1 H in
      let ms = (halves.found s w room t z T K.standing h w1 H).0 in
      record {
        some = pushed f;
        record_room = lasts.last-record s H.middle h.g z.done h.r w1 T.items T.keys ms T.definitions R (pushed f);
        place = lasts.last-room s H.middle h.g z.done h.r w1 T.items T.keys ms T.definitions R (pushed f);
        short = omega (arith, H.stages.ground.short);
      }

  pub last_asked : SomeRound s w room t z → (h.expander.height ≡ 0 → ⊥) → SomeLast w1 h.g h.expander.height
  last_asked K f = rw height (some_last K f)

  module _ (T : RoundTrees) (S : RoundStands s w room t z T) where
    abbrev half : Outcome Stage
    half = sizes 2 room.cap (replaced_stage T)

    count-is : length (pending_of T) ≡ h.r.pile
    count-is = tally.count-is s w room t z h w1 H T S

    last-is : (xs : List Pending) → pending_of T ≡ xs → 0 < h.r.pile → (why : Refusal) → why ≡ refusal_over 18 (span_in w1 (h.g.from + key_at w1 h.g (h.r.pile - 1) + 1))
        → RoundsTo s room T.first (last_stage xs half) (Err why) w1
    unfolding RoundsTo
    last-is [] i f why j = absurd (omega (arith, f, count-is, ap length i))
    last-is (x ∷ xs) i f why j =
        let k = lasts.last-span s H.middle h.g z.done h.r w1 T.items T.keys (halves.found s w room t z T S h w1 H).0 T.definitions (halves.replacing s w room t z T S h w1 H) x xs i in
        ap Err (j ∙ ap (refusal_over 18) k)

    none_pending : (xs : List Pending) → length xs ≡ 0 → last_stage xs half ≡ half
    none_pending [] e = refl
    none_pending (x ∷ xs) e = absurd (omega (arith, e))

  pub last_refused : (h.expander.height ≡ 0 → ⊥) → (why : Refusal) → why ≡ refusal_over 18 (span_in w1 (h.g.from + key_at w1 h.g (h.expander.height - 1) + 1)) → LastRound s w room t z (Err why) w1
  unfolding LastRound rounds
  last_refused f why j T S =
      last-is T S (pending_of T) refl (pushed f) why (j ∙ ap (λ (n : ℕ). refusal_over 18 (span_in w1 (h.g.from + key_at w1 h.g (n - 1) + 1))) height)

  pub last_ask : SomeRound s w room t z → (v : Appended) → v ≡ at_start h.r → Sizeable s w1 room z h v
  last_ask K v j = answers.on_ask s w1 room t z h (record { work = w; trees = K.trees; standing = K.standing; halfway = H }) v j

  module _ (e : h.expander.height ≡ 0) (v : Appended) (b : v ≡ at_start h.r) (f : Verdict) (c : f ≡ stage_verdict s w1 room z h v) where
    i : f ≡ stage_verdict s w1 room z h (at_start h.r)
    i = answers.on_verdict s w1 room t z h v b f c

    -- the round comes to its replacing stage
    ends : (T : RoundTrees) (S : RoundStands s w room t z T) (o : Outcome Stage) → half T S ≡ o → (r : Result State Refusal) → RoundsTo s room T.first o r w1
        → RoundsTo s room T.first (rounds (sizes 2 room.cap) T.definitions 0 (round_atoms T) T.old (without_macros T.items) T.keys) r w1
    unfolding rounds
    ends T S o a r k = subst (λ (x : Outcome Stage). RoundsTo s room T.first x r w1) (sym (none_pending T S (pending_of T) (count-is T S ∙ sym height ∙ e) ∙ a)) k

    pub last_sized : (why : Refusal) → f ≡ Err why → LastRound s w room t z (Err why) w1
    unfolding LastRound RoundsTo
    last_sized why l T S =
        ends T S (no why.number (record { 0 = why.from; 1 = why.to })) (answers.half_refused s w1 room t z h f i why l w T S H) (Err why) (ap Err (answers.refused-over why))

    pub last_ends : (u : Unit {0}) → f ≡ Ok u → (x : State) → x ≡ finished_state z h → LastRound s w room t z (Ok x) w1
    unfolding LastRound RoundsTo
    last_ends u l x j T S =
        let a = answers.half_fine s w1 room t z h w T S H f i u l in
        ends T S (yes (replaced_stage T)) a (Ok x) (finished_state z h, ap Ok j, judges.last-stands s w room t z T S h w1 H (sym height ∙ e) a)

pub ruleset rounding_last = (rules, last_ask, last_asked, last_refused, last_sized, last_ends)
