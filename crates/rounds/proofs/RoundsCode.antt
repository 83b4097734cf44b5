-- The loop of `rounds`: the rounds that are left from the trees that stand now give what all were to give. Assumes nothing.
use mathlib.Core.Path.{◌≡◌, refl, sym, ap, ◌∙◌, subst}
use mathlib.Core.List.{List}
use Prim.Native.Nat.{ℕ, suc, ◌+◌, ◌-◌, ◌<◌, ◌≤◌}
use native.Mathlib.Omega.{arith}
use borrow.Author.Rules.{rules}
use lib.ListN.{length}
use Rattle.std.specs.Prelude.{Result, Ok, Err}
use Rattle.std.specs.declared.ops.ControlFlow.{ControlFlow}
use Rattle.std.specs.declared.ops.ControlFlow.TheVariants.{Continue, Break}
use Rattle.parse_tree.specs.Plain.Tree.{Text, Stage}
use Rattle.parse_tree.specs.declared.refusal.Refusal.{Refusal}
use Rattle.passes.specs.Outcome.{Tree, Outcome, yes, no, after}
use Rattle.passes.specs.Calls.{sizes}
use Rattle.resolve.specs.declared.Grammar.{Grammar}
use Rattle.rounds.specs.declared.Room.{Room}
use Rattle.rounds.specs.declared.State.{State}
use Rattle.rounds.specs.declared.Standing.{Standing}
use Rattle.rounds.specs.Step.{RoundInput, RoundOutput, done, more, one_round}
use Rattle.rounds.specs.Standing.{RoundTrees, input_of, RoundStands}
use Rattle.rounds.specs.Round.{SomeRound, Further, RoundTo, OneRound, RoundsTo, LastRound, AllRounds}
use Rattle.rounds.proofs.StepMeans.{rounds_from, go_on, rounds_next}

module _ (s : List ℕ) (room : Room) (t : Grammar) where
  -- ---- the outcome of a round, by its answer
  module _ (T : RoundTrees) (admit : Stage → Outcome Stage) (G : Tree) (n : ℕ) (w : List ℕ) where
    refused_is : (o : Outcome RoundOutput) (why : Refusal) → RoundTo s room t T o (Err why) w → RoundsTo s room T.first (after o (go_on admit G n)) (Err why) w
    unfolding RoundTo RoundsTo
    refused_is (yes (done g)) why (z, e, f) = absurd (cc)
    refused_is (yes (more p)) why (z, e, f) = absurd (cc)
    refused_is (no k sp) why e = cc

    done_is : (o : Outcome RoundOutput) (y : State) → RoundTo s room t T o (Ok (Break y)) w → RoundsTo s room T.first (after o (go_on admit G n)) (Ok y) w
    unfolding RoundTo RoundsTo
    done_is (yes (done g)) y (z, e, f) = (z, cc, f)
    done_is (yes (more p)) y (z, e, f) = absurd (cc)
    done_is (no k sp) y e = absurd (cc)

  more_is : (T : RoundTrees) (w : List ℕ) (o : Outcome RoundOutput) (y : State) → RoundTo s room t T o (Ok (Continue y)) w → (p : RoundInput) × (o ≡ yes (more p)) × Further s w room t y T p
  unfolding RoundTo
  more_is T w (yes (done g)) y (z, e, f) = absurd (cc)
  more_is T w (yes (more p)) y (z, e, f) = (p, refl, subst (λ (x : State). Further s w room t x T p) (let q : z ≡ y = cc in q) f)
  more_is T w (no k sp) y e = absurd (cc)

  another_some : (w : List ℕ) (x : State) → SomeRound s w room t x → (y : State) (w' : List ℕ) → OneRound s w room t x (Ok (Continue y)) w' → SomeRound s w' room t y
  unfolding OneRound
  another_some w x S y w' h =
      let (p, i, f) = more_is S.trees w' (one_round (sizes 2 room.cap) S.trees.definitions (input_of S.trees)) y (h S.trees S.standing) in record { trees = f.trees; standing = f.standing }

  -- ---- the loop: so many rounds are left behind the one that begins with the trees that stand now
  abbrev admits : Stage → Outcome Stage
  admits = sizes 2 room.cap

  abbrev all_from : ℕ → RoundTrees → Outcome Stage
  all_from n T = rounds_from admits T.definitions n (input_of T)

  pub record Onward (T : RoundTrees) (all : ℕ) (w : List ℕ) (x : State) (left : ℕ) : Type 0 where
    pub trees : RoundTrees
    pub standing : RoundStands s w room t x trees
    pub first : trees.first ≡ T.first
    pub same : all_from all T ≡ all_from left trees

  -- of so many rounds in all, those that are not done
  abbrev left_of : ℕ → State → ℕ
  left_of limit x = limit - x.expander.round

  pub record Turning (w₀ : List ℕ) (z : State) (limit : ℕ) (w : List ℕ) (at : Standing) : Type 0 where
    pub places : at.room ≡ room
    pub grammar : at.t ≡ t
    pub some : SomeRound s w room t at.z
    pub long : length w ≡ length w₀
    pub each : (T : RoundTrees) → RoundStands s w₀ room t z T → Onward T (left_of limit z) w at.z (left_of limit at.z)

  module _ (w₀ : List ℕ) (z : State) (limit : ℕ) (w : List ℕ) (at : Standing) (D : Turning w₀ z limit w at) where
    abbrev x : State
    x = at.z

    -- what is said of the places and the grammar there is said of those
    own : (P : Room → Grammar → Type 0) → P at.room at.t → P room t
    own P h = subst (P room) D.grammar (subst (λ (q : Room). P q at.t) D.places h)

    once : (r : Result (ControlFlow State State) Refusal) (w' : List ℕ) → OneRound s w at.room at.t x r w' → OneRound s w room t x r w'
    once r w' h = own (λ (q : Room) (y : Grammar). OneRound s w q y x r w') h

    abbrev all : ℕ
    all = left_of limit z

    abbrev left : ℕ
    left = left_of limit x

    module _ (T : RoundTrees) (i : RoundStands s w₀ room t z T) where
      abbrev o : Onward T all w x left
      o = D.each T i

      abbrev T' : RoundTrees
      T' = o.trees

      -- a round is left
      another : (n : ℕ) → left ≡ suc n → all_from all T ≡ after (one_round admits T'.definitions (input_of T')) (go_on admits T'.definitions n)
      another n e = o.same ∙ ap (λ (k : ℕ). all_from k T') e ∙ rounds_next admits T'.definitions n (input_of T')

      -- none is left
      none : left ≡ 0 → all_from all T ≡ all_from 0 T'
      none e = o.same ∙ ap (λ (k : ℕ). all_from k T') e

      -- an outcome of the trees that stand now is one of all
      whole : (u : Outcome Stage) → all_from all T ≡ u → (r : Result State Refusal) (w' : List ℕ) → RoundsTo s room T'.first u r w' → RoundsTo s room T.first (all_from all T) r w'
      whole u e r w' h = subst (λ (k : Outcome Stage). RoundsTo s room T.first k r w') (sym e) (subst (λ (k : List Text). RoundsTo s room k u r w') o.first h)

      told : (r : Result (ControlFlow State State) Refusal) (w' : List ℕ) → OneRound s w room t x r w' → RoundTo s room t T' (one_round admits T'.definitions (input_of T')) r w'
      unfolding OneRound
      told r w' h = h T' o.standing

      onward : (n : ℕ) → left ≡ suc n → (y : State) (w' : List ℕ) → OneRound s w room t x (Ok (Continue y)) w' → Onward T all w' y n
      onward n e y w' h =
          let (p, i, f) = more_is T' w' (one_round admits T'.definitions (input_of T')) y (told (Ok (Continue y)) w' h) in
          let a : all_from all T ≡ rounds_from admits T'.definitions n p = another n e ∙ ap (λ (k : Outcome RoundOutput). after k (go_on admits T'.definitions n)) i in
          record {
            trees = f.trees;
            standing = f.standing;
            first = f.first ∙ o.first;
            same = a ∙ ap (λ (k : RoundInput). rounds_from admits T'.definitions n k) (sym f.input) ∙ ap (λ (G : Tree). rounds_from admits G n (input_of f.trees)) (sym f.definitions);
          }

    -- a round more is done
    next_round : (T' : RoundTrees) → RoundStands s w room t x T' → (y : State) (w' : List ℕ) → OneRound s w room t x (Ok (Continue y)) w' → y.expander.round ≡ x.expander.round + 1
    unfolding OneRound
    next_round T' S y w' h =
        let (p, i, f) = more_is T' w' (one_round admits T'.definitions (input_of T')) y (h T' S) in
        f.standing.numbers.round ∙ f.rounds ∙ ap (λ (n : ℕ). n + 1) (sym S.numbers.round)

    -- ---- as the code has it
    pub turning_some : SomeRound s w at.room at.t x
    turning_some = subst (λ (q : Room). SomeRound s w q at.t x) (sym D.places) (subst (λ (y : Grammar). SomeRound s w room y x) (sym D.grammar) D.some)

    pub turning_same : length w ≡ length w₀
    turning_same = D.long

    pub turning_refused : x.expander.round < limit → (r : Result (ControlFlow State State) Refusal) (w' : List ℕ) → OneRound s w at.room at.t x r w' → (why : Refusal) → r ≡ Err why → AllRounds s w₀ room t limit z (Err why) w'
    unfolding AllRounds
    turning_refused l r w' h why e T i =
        let n = left - 1 in
        let a : OneRound s w room t x (Err why) w' = subst (λ (q : Result (ControlFlow State State) Refusal). OneRound s w room t x q w') e (once r w' h) in
        let u = one_round admits (T' T i).definitions (input_of (T' T i)) in
        whole T i (after u (go_on admits (T' T i).definitions n)) (another T i n (omega arith)) (Err why) w'
        (refused_is (T' T i) admits (T' T i).definitions n w' u why (told T i (Err why) w' a))

    pub turning_done : x.expander.round < limit → (r : Result (ControlFlow State State) Refusal) (w' : List ℕ) → OneRound s w at.room at.t x r w' → (y : State) → r ≡ Ok (Break y) → AllRounds s w₀ room t limit z (Ok y) w'
    unfolding AllRounds
    turning_done l r w' h y e T i =
        let n = left - 1 in
        let a : OneRound s w room t x (Ok (Break y)) w' = subst (λ (q : Result (ControlFlow State State) Refusal). OneRound s w room t x q w') e (once r w' h) in
        let u = one_round admits (T' T i).definitions (input_of (T' T i)) in
        whole T i (after u (go_on admits (T' T i).definitions n)) (another T i n (omega arith)) (Ok y) w'
        (done_is (T' T i) admits (T' T i).definitions n w' u y (told T i (Ok (Break y)) w' a))

    pub turning_next : x.expander.round < limit → (r : Result (ControlFlow State State) Refusal) (w' : List ℕ) → length w' ≡ length w → OneRound s w at.room at.t x r w' → (y : State) → r ≡ Ok (Continue y) → Turning w₀ z limit w' (record { room = at.room; t = at.t; z = y })
    turning_next l r w' b k y e = record { places = D.places; grammar = D.grammar; some = another_some w x D.some y w' h; long = b ∙ D.long; each = λ T i. subst (Onward T all w' y) fewer (onward T i (left - 1) (omega arith) y w' h) }
      where
        h : OneRound s w room t x (Ok (Continue y)) w'
        h = subst (λ (q : Result (ControlFlow State State) Refusal). OneRound s w room t x q w') e (once r w' k)

        fewer : left - 1 ≡ left_of limit y
        fewer = omega (arith, next_round D.some.trees D.some.standing y w' h)

    pub turning_less : x.expander.round < limit → (r : Result (ControlFlow State State) Refusal) (w' : List ℕ) → OneRound s w at.room at.t x r w' → (y : State) → r ≡ Ok (Continue y) → limit - y.expander.round < limit - x.expander.round
    turning_less l r w' k y e = omega (arith, next_round D.some.trees D.some.standing y w' (subst (λ (q : Result (ControlFlow State State) Refusal). OneRound s w room t x q w') e (once r w' k)))

    pub turning_last : limit ≤ x.expander.round → (r : Result State Refusal) (w' : List ℕ) → LastRound s w at.room at.t x r w' → AllRounds s w₀ room t limit z r w'
    unfolding AllRounds LastRound
    turning_last l r w' h T i = whole T i (all_from 0 (T' T i)) (none T i (omega arith)) r w' (own (λ (q : Room) (y : Grammar). LastRound s w q y x r w') h (T' T i) (o T i).standing)

-- ---- the loop begins
pub turning_start : (s w : List ℕ) (at : Standing) (limit : ℕ) → SomeRound s w at.room at.t at.z → Turning s at.room at.t w at.z limit w at
turning_start s w at limit h = record { places = refl; grammar = refl; some = h; long = refl; each = λ T i. record { trees = T; standing = i; first = refl; same = refl } }

pub ruleset turning = (rules, turning_start, turning_some, turning_same, turning_refused, turning_done, turning_next, turning_less, turning_last)
