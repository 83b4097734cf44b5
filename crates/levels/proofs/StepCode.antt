-- The ways out of `next_level`: what it asks of the functions that it calls, and what it leaves. Assumes nothing.
use mathlib.Core.Path.{◌≡◌, refl}
use mathlib.Core.Bool.{Bool, false}
use mathlib.Core.List.{List, [], ◌∷◌}
use mathlib.Core.Option.{Option}
use Prim.Native.Nat.{ℕ, ◌+◌, ◌*◌, ◌≤◌, ◌<◌}
use borrow.Author.Rules.{rules}
use lib.Dec.{eqb}
use lib.ListN.{length, get_or}
use Rattle.std.specs.Prelude.{Option as Maybe, unwrap_or}
use mir.Syntax.{w8}
use mir.Val as Bound
use Rattle.octets.specs.Plain.Numbers.{le_at}
use Rattle.parse_tree.specs.Plain.Tree.{Text, Nonterminal}
use Rattle.parse_tree.specs.Working.Nodes.{nonterminal_here}
use Rattle.parse_tree.specs.declared.syntax.NonterminalData.{NonterminalData}
use Rattle.texts.specs.declared.Map.{Map}
use Rattle.passes.specs.Levels.{level_name}
use Rattle.grades.specs.declared.Ids.{Ids}
use Rattle.grades.specs.Key.{key_level}
use Rattle.grades.specs.Sort.{GroupEnd}
use Rattle.precedence.specs.declared.level.Level.{Level}
use Rattle.precedence.specs.declared.names.LevelName.{LevelName}
use Rattle.precedence.specs.Names.{Describing}
use Rattle.precedence.specs.Level.{KeysInside, LevelInside, PutsLevel}
use Rattle.levels.specs.declared.Room.{Room}
use Rattle.levels.specs.declared.Written.{Written}
use Rattle.levels.specs.Expand.{NamesLevel, Left, SomeLeft, Stepped, Steps}
use Rattle.levels.proofs.StepMeanNames.{name_small}
use Rattle.levels.proofs.StepMean.{some_level, step-describing, step-known, step-inside, step-puts}
use Rattle.levels.proofs.StepMeanWrote.{level_steps}

module _ (s : List ℕ) (m : Map) (room : Room) (wd : ℕ) (ids : Ids) (p e places keys n i : ℕ) (below : Maybe ℕ) (v : Written) (w : List ℕ) where
  -- a level is left where a key is
  with_level : (four : Bool) (d : Nonterminal) (o : Option Text) (vs : List ℕ) (T : Type 0) → i < n → Left s m room wd ids p e places keys n i below v w four d o vs
      → ((v0 : ℕ) (above : List ℕ) → vs ≡ v0 ∷ above → Left s m room wd ids p e places keys n i below v w four d o (v0 ∷ above) → T) → T
  with_level four d o [] T h L f = absurd (some_level w keys n i _ h L.keyed)
  with_level four d o (v0 ∷ above) T h L f = f v0 above refl L

  module _ (S : SomeLeft s m room wd ids p e places keys n i below v w) (h : i < n) where
    module _ (j : ℕ) (g : GroupEnd w keys n i j) (a : NonterminalData) (base u y : ℕ) (r : a ≡ nonterminal_here wd w p) (b : base ≡ a.name.0) (l : u ≡ le_at 8 w (keys + 8 * i)) (q : y ≡ key_level u) where
      -- theorem: the name of the next level can be described
      pub next_describing : eqb j n ≡ false → Describing s w m v.count base y
      next_describing other =
          with_level S.four S.nonterminal S.lower S.levels (Describing s w m v.count base y) h S.left
          (λ v0 above z L. rw (b, r, q, l) (step-describing s m room wd ids p e places keys n i below v w S.four S.nonterminal S.lower v0 above L j g other))

      module _ (x : LevelName) (w1 : List ℕ) (f : NamesLevel s w m v.count base y (eqb j n) x w1) where
        -- theorem: its number is a `u32`
        pub next_name : x.name < 4294967296
        next_name =
            with_level S.four S.nonterminal S.lower S.levels (x.name < 4294967296) h S.left
            (λ v0 above z L.
            name_small s m room ids w v.count (level_name S.nonterminal.name v0 above) x w1
            (step-known s m room wd ids p e places keys n i below v w S.four S.nonterminal S.lower v0 above L j g x w1 (rw (b, r, q, l) at f)))

        module _ (long : length w1 ≡ length w) (bytes : (k : ℕ) → Bound.Fits w8 (get_or w1 k 0)) where
          abbrev level : Level
          level = record { first = i; last = j; name = x.name; below = below; lower = unwrap_or below x.name }

          -- where the level below is `under`, and `low` stands for it
          abbrev level_over : Maybe ℕ → ℕ → Level
          level_over under low = record { first = i; last = j; name = x.name; below = under; lower = low }

          level_inside : LevelInside wd w1 p places keys level room.lim v.to
          level_inside =
              with_level S.four S.nonterminal S.lower S.levels (LevelInside wd w1 p places keys level room.lim v.to) h S.left
              (λ v0 above z L.
              let k = step-known s m room wd ids p e places keys n i below v w S.four S.nonterminal S.lower v0 above L j g x w1 (rw (b, r, q, l) at f) in
              step-inside s m room wd ids p e places keys n i below v w S.four S.nonterminal S.lower v0 above L j g x w1 long k bytes)

          -- theorem: it can be written, whatever stands below it
          pub next_inside : (under : Maybe ℕ) (low : ℕ) → LevelInside wd w1 p places keys (level_over under low) room.lim v.to
          next_inside under low =
              let k = level_inside.level in
              let keyed : KeysInside wd w1 places keys (level_over under low) room.lim v.to = record { ordered = k.ordered; inside = k.inside; apart = k.apart; each = k.each } in
              record { inside = level_inside.inside; head = level_inside.head; level = keyed; few = level_inside.few; stop = level_inside.stop; room = level_inside.room }

          level_steps_so : wd ≤ 3 → (to : ℕ) (w2 : List ℕ) → PutsLevel wd ids p places keys level room.lim w1 v.to to w2
              → Steps s m room wd ids p e places keys n i below v w (record { last = j; name = x.name; count = x.count; to = to }) w2
          unfolding Steps
          level_steps_so narrow to w2 t four d o vs L₀ =
              let T : Type 0 = Stepped s m room wd ids p e places keys n i v w four d o vs (record { last = j; name = x.name; count = x.count; to = to }) w2 in
              with_level four d o vs T h L₀
              (λ v0 above z L.
              let k = step-known s m room wd ids p e places keys n i below v w four d o v0 above L j g x w1 (rw (b, r, q, l) at f) in
              let put = step-puts s m room wd ids p e places keys n i below v w four d o v0 above L j g x w1 long k bytes narrow to w2 t in
              rw z (level_steps s m room wd ids p e places keys n i below v w four d o v0 above L j g x w1 long k to w2 put))

          -- theorem: and is written, if what stands below it is the level before, or its own name where there is none
          pub next_steps : wd ≤ 3 → (under : Maybe ℕ) → under ≡ below → (low : ℕ) → low ≡ unwrap_or below x.name → (to : ℕ) (w2 : List ℕ) → PutsLevel wd ids p places keys (level_over under low) room.lim w1 v.to to w2
              → Steps s m room wd ids p e places keys n i below v w (record { last = j; name = x.name; count = x.count; to = to }) w2
          next_steps narrow under z low y to w2 t = level_steps_so narrow to w2 (rw (z, y) at t)

pub ruleset describing_next = (rules, next_describing)

pub ruleset naming-next = (rules, next_name)
