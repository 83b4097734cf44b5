-- The ways out of the functions that resolve levels again and expand them. Assumes nothing.
use mathlib.Core.Path.{◌≡◌, refl, sym, subst}
use mathlib.Core.List.{List}
use Prim.Native.Nat.{ℕ, ◌+◌, ◌*◌, ◌^◌, ◌<◌}
use native.Mathlib.Omega.{arith}
use borrow.Author.Rules.{rules}
use lib.ListN.{length}
use Rattle.parse_tree.specs.declared.refusal.Refusal.{Refusal}
use Rattle.texts.specs.declared.Map.{Map}
use Rattle.resolve.specs.declared.Grammar.{Grammar}
use Rattle.levels.specs.declared.Room.{Room}
use Rattle.levels.specs.declared.Written.{Written}
use Rattle.levels.specs.Settle.{SettlingNames, SettledNames}
use Rattle.rounds.specs.declared.Room as rounds-room
use Rattle.again.specs.Whole.{SomeAgain, AgainTo}
use Rattle.std.specs.Prelude.{Result, Ok, Err}
use Rattle.output.specs.Working.Handing.{Staged}
use Rattle.stages.specs.declared.levelling.Levelled.{Levelled}
use Rattle.stages.specs.Levelling.{levelled_of, SomeFitting, LevelsTo}
use Rattle.stages.specs.Expanding.{macros_room, SomeRun, RunsTo}
use Rattle.stages.specs.Whole.{again_stages, whole_of, SomeSettled}
use Rattle.stages.proofs.LevellingMeanStage.{staged_no}
use Rattle.stages.proofs.LevellingCode.{levelled_no, levelled_fitting}
use Rattle.stages.proofs.WholeMean.{whole_settling, whole_again}
use Rattle.stages.proofs.WholeRun.{whole_refused, whole_run, whole_done}

-- ---- `expand_settled`: y is what `resolve_again` answered
module _ (s o : List ℕ) (m : Map) (at : ℕ) (room : Room) (v : Written) (x : rounds-room.Room) (low : ℕ) (w₁ : List ℕ) (S : SomeSettled s (length o) m at room v x low w₁) where
  abbrev n : Map
  n = record { base = m.base; count = v.count; buckets = m.buckets }

  settled : SettledNames s S.before m v.count (macros_room (length s) at (length o)).end low w₁
  settled = subst (λ (u : rounds-room.Room). SettledNames s S.before m v.count u.end low w₁) S.room_is S.settled

  pub settled_some : SomeAgain s w₁ (record { base = m.base; count = v.count; buckets = m.buckets }) 0 room.at v.to
  unfolding macros_room
  settled_some = whole_again s (length o) m at room v S.before S.fitting S.narrow low w₁ settled

  module _ (y : Result Grammar Refusal) (w₂ : List ℕ) (p : AgainTo s w₁ (record { base = m.base; count = v.count; buckets = m.buckets }) 0 room.at v.to y w₂) where
    pub settled_refused : (limit : ℕ) (why : Refusal) → y ≡ Err why → Staged (whole_of s limit (length o)) o (Err why) o
    unfolding macros_room
    settled_refused limit why i = whole_refused s (length o) m at room v S.before S.fitting S.narrow low w₁ settled y w₂ p limit o why i

    module _ (t : Grammar) (i : y ≡ Ok t) where
      pub settled_run : SomeRun s w₂ (length o) (record { texts = record { base = m.base; count = v.count; buckets = m.buckets }; grammar = t; at = at }) m.count x low
      unfolding macros_room
      settled_run =
          subst (λ (u : rounds-room.Room). SomeRun s w₂ (length o) (record { texts = n; grammar = t; at = at }) m.count u low) (sym S.room_is) (whole_run s (length o) m at room v S.before S.fitting S.narrow low w₁ settled y w₂ p t i)

      pub settled_done : (limit : ℕ) (r : Result ℕ Refusal) (o' : List ℕ) → RunsTo s w₂ (record { texts = record { base = m.base; count = v.count; buckets = m.buckets }; grammar = t; at = at }) m.count x low limit o r o'
          → Staged (whole_of s limit (length o)) o r o'
      unfolding macros_room
      settled_done limit r o' d =
          whole_done s (length o) m at room v S.before S.fitting S.narrow low w₁ settled y w₂ p t i limit o refl r o'
          (subst (λ (u : rounds-room.Room). RunsTo s w₂ (record { texts = n; grammar = t; at = at }) m.count u low limit o r o') S.room_is d)

pub ruleset expanding_settled = (rules, settled_some, settled_refused, settled_run, settled_done)

-- ---- the pass: y is what `level` answered
module _ (s o : List ℕ) (m : Map) (at : ℕ) (y : Result Levelled Refusal) (w : List ℕ) (i : LevelsTo s (length o) m at y w) where
  pub whole_no : (limit : ℕ) (why : Refusal) → y ≡ Err why → Staged (whole_of s limit (length o)) o (Err why) o
  unfolding whole_of
  whole_no limit why e = staged_no (levelled_of s (length o)) (again_stages limit (length o)) o why (levelled_no s o m at y w i why e)

  module _ (l : Levelled) (e : y ≡ Ok l) (narrow : length w * 1 < 2 ^ 63) where
    F : SomeFitting s (length o) m at l.room l.written w
    F = levelled_fitting s o m at y w i l e

    pub whole_sum : 8 * (length s + length o) < 9223372036854775808
    whole_sum = omega (arith, F.levels.enough)

    module _ (x : rounds-room.Room) (z : x ≡ macros_room (length s) at (length o)) where
      pub whole_names : SettlingNames s w m l.written.count x.end
      whole_names = whole_settling s (length o) m at l.room l.written w F narrow x z

      pub whole_settled : (low : ℕ) (w₁ : List ℕ) → SettledNames s w m l.written.count x.end low w₁ → SomeSettled s (length o) m at l.room l.written x low w₁
      whole_settled low w₁ q = record { before = w; fitting = F; narrow = narrow; room_is = z; settled = q }

pub ruleset whole_pass = (rules, whole_no, whole_sum, whole_names, whole_settled)
