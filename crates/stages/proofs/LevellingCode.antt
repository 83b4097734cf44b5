-- The ways out of `level`, and of the pass of levels. Assumes nothing.
use mathlib.Core.Path.{◌≡◌, refl, sym}
use mathlib.Core.List.{List}
use Prim.Native.Nat.{ℕ, ◌+◌, ◌-◌, ◌*◌, ◌^◌, ◌≤◌, ◌<◌}
use native.Mathlib.Omega.{arith}
use borrow.Author.Rules.{rules}
use lib.ListN.{length}
use Rattle.parse_tree.specs.Plain.Tree.{Stage}
use Rattle.parse_tree.specs.Plain.WriteTape.{bytes_of_each}
use Rattle.parse_tree.specs.Working.Encode.{atom_bytes}
use Rattle.parse_tree.specs.declared.refusal.Refusal.{Refusal}
use Rattle.texts.specs.declared.Map.{Map}
use Rattle.passes.specs.Outcome.{Outcome, yes, no}
use Rattle.passes.specs.Calls.{written}
use Rattle.resolve.specs.declared.Grammar.{Grammar}
use Rattle.levels.specs.declared.Room.{Room}
use Rattle.levels.specs.declared.Written.{Written}
use Rattle.levels.specs.Fresh.{new_texts, fresh_of}
use Rattle.levels.specs.Whole.{Levels}
use Rattle.std.specs.Prelude.{Option, Result, Ok, Err}
use Rattle.std.specs.Result.{result_ok}
use Rattle.output.specs.Plain.Answers.{answer_of}
use Rattle.output.specs.Working.Judging.{room_of, sized_levels}
use Rattle.output.specs.Working.Handing.{Staged, HandsLevels, handed_levels}
use Rattle.stages.specs.declared.levelling.Levelled.{Levelled}
use Rattle.stages.specs.Levelling.{levelled_of, SomeAdmitted, SomeLevels, SomeFitting, LevelsTo}
use Rattle.stages.proofs.LevellingMeanStage.{some_grammar, levels-refused, levels-written}
use Rattle.stages.proofs.LevellingMeanSize.{levels-naming, levels-from, levels-no, levels-fitting, levels-size}
use Rattle.stages.proofs.LevellingMeanFits.{fitting_hands, fitting_yes}

-- ---- `level`
module _ (s : List ℕ) (cap : ℕ) (m : Map) (t : Grammar) (at : ℕ) (w : List ℕ) (a : SomeAdmitted s cap m t at w) where
  pub room_sum : length w * 1 < 2 ^ 63 → 8 * (length s + cap) < 9223372036854775808
  room_sum h = omega (arith, a.enough)

  pub level_inside : at ≤ length s
  level_inside = a.stood.inside

  -- x is what `expand_precedence` answered
  pub level_refused : 0 < t.count → (room : Room) → room ≡ room_of (length s) (length s - at) cap → length w * 1 < 2 ^ 63 → (x : Result Written Refusal) (w' : List ℕ) → Levels s m t room w x w' → (why : Refusal) → x ≡ Err why
      → LevelsTo s cap m at (Err why) w'
  unfolding LevelsTo
  level_refused some room r narrow x w' p why e = sym (levels-refused s cap m t at w a some room r narrow x w' p w why e).answered

pub ruleset level_beginning = (rules, room_sum, level_inside, some_grammar, level_refused, levels-written)

-- f is what `count_bytes` answered, without the bytes where a name is too long, y what `judge_levels` did
module _ (s : List ℕ) (cap : ℕ) (m : Map) (at : ℕ) (room : Room) (v : Written) (w : List ℕ) (L : SomeLevels s cap m at room v w) (f : Option ℕ) (c : f ≡ result_ok (fresh_of (new_texts s w m v.count)))
    (y : Result ℕ Refusal) (j : y ≡ sized_levels v room at f cap) where
  pub level_no : (why : Refusal) → y ≡ Err why → LevelsTo s cap m at (Err why) w
  unfolding LevelsTo
  level_no why e = sym (levels-no s cap m at room v w L f c y j w why e).answered

  pub level_yes : (n : ℕ) → y ≡ Ok n → LevelsTo s cap m at (Ok (record { room = room; written = v; size = n })) w
  unfolding LevelsTo
  level_yes n e = (levels-fitting s cap m at room v w L f c y j n e, levels-size s cap m at room v w L f c y j n e)

pub ruleset level_judging = (rules, levels-naming, levels-from, level_no, level_yes)

-- ---- the pass: x is what `level` answered
module _ (s o : List ℕ) (m : Map) (at : ℕ) (x : Result Levelled Refusal) (w : List ℕ) (i : LevelsTo s (length o) m at x w) where
  pub levelled_no : (why : Refusal) → x ≡ Err why → Staged (levelled_of s (length o)) o (Err why) o
  unfolding LevelsTo answer_of written
  levelled_no why e = go (levelled_of s (length o)) (rw e at i)
    where
      go : (z : Outcome Stage) → answer_of z ≡ Err why → Staged z o (Err why) o
      go (yes g) k = absurd (let q : ◌≡◌ {A = ℕ} 0 1 = cc in omega arith)
      go (no q sp) k = record { answered = sym k; tree = refl }

  module _ (l : Levelled) (e : x ≡ Ok l) where
    pub levelled_fitting : SomeFitting s (length o) m at l.room l.written w
    unfolding LevelsTo
    levelled_fitting = (rw e at i).0

    levelled_size : l.size ≡ at + length (bytes_of_each (atom_bytes 2) (new_texts s w m l.written.count)) + (l.written.to - l.room.at)
    unfolding LevelsTo
    levelled_size = (rw e at i).1

    pub levelled_hands : HandsLevels s at w m l.room l.written (length o)
    levelled_hands = fitting_hands s (length o) m at l.room l.written w levelled_fitting

    pub levelled_yes : (o' : List ℕ) → o' ≡ handed_levels s at w m l.room l.written o → Staged (levelled_of s (length o)) o (Ok l.size) o'
    levelled_yes o' h = fitting_yes s (length o) m at l.room l.written w levelled_fitting l.size levelled_size o o' h

pub ruleset levelling_pass = (rules, levelled_no, levelled_hands, levelled_yes)
