-- The ways out of count_of and write_level. Assumes nothing.
use mathlib.Core.Path.{◌≡◌, ap, ◌∙◌}
use mathlib.Core.Logic.{inl}
use mathlib.Core.List.{List}
use Prim.Native.Nat.{ℕ, ◌+◌, ◌-◌, ◌≤◌}
use native.Mathlib.Omega.{arith}
use borrow.Author.Rules.{rules}
use lib.ListN.{length}
use Rattle.std.specs.Prelude.{Some, None}
use Rattle.octets.specs.Plain.Numbers.{le_at}
use Rattle.texts.proofs.TableStays.{le_at-agree}
use Rattle.parse_tree.specs.declared.syntax.NonterminalData.{NonterminalData}
use Rattle.parse_tree.specs.Working.Nodes.{nonterminal_here}
use Rattle.grades.specs.declared.Ids.{Ids}
use Rattle.grades.specs.Annotations.{first_alternative}
use Rattle.precedence.specs.declared.level.Level.{Level}
use Rattle.precedence.specs.Write.{Puts, fall_bytes}
use Rattle.precedence.specs.Level.{nonterminal_out, PutsAlternatives, KeysInside, level_count, lower_bytes, LevelInside, PutsLevel}
use Rattle.precedence.proofs.WriteLaws.{puts_beside, puts_on, puts_upto, puts_none}
use Rattle.precedence.proofs.LevelKeysCode.{keys_stay}

-- ---- count_of
module _ (l : Level) where
  pub count-lowest : l.below ≡ None → (n : ℕ) → n ≡ l.last - l.first → n ≡ level_count l
  unfolding level_count
  count-lowest z n y = rw (z, y)

  pub count-more : (b : ℕ) → l.below ≡ Some b → (n : ℕ) → n ≡ l.last - l.first → n + 1 ≡ level_count l
  unfolding level_count
  count-more b z n y = rw (z, y)

pub ruleset counting_level = (rules, count-lowest, count-more)

-- ---- write_level
module _ (wd : ℕ) (w : List ℕ) (p places keys : ℕ) (l : Level) (lim to : ℕ) (g : LevelInside wd w p places keys l lim to) where
  module _ (xs : List ℕ) (q : ℕ) (w1 : List ℕ) (x : Puts w lim to xs q w1) where
    pub level_keys_lem : KeysInside wd w1 places keys l lim q
    level_keys_lem = keys_stay wd w w1 places keys l lim to xs q g.stop g.level x

    pub level_room : lim + 16 ≤ length w1
    level_room = omega (arith, g.room, x.long)

    module _ (ids : Ids) (target r : ℕ) (w2 : List ℕ) (y : PutsAlternatives wd ids places keys target l lim w1 q r w2) where
      -- the span of the nonterminal is as it was
      span_stays : le_at 8 w2 (p + 1) ≡ le_at 8 w (p + 1)
      unfolding first_alternative
      span_stays =
          let on = puts_on w w1 lim to xs q x g.stop in
          le_at-agree 8 w w2 (p + 1) (λ i h k. y.others i (inl (omega (arith, g.head))) ∙ puts_beside w w1 lim to xs q x i (inl (omega (arith, g.head))))

  module _ (ids : Ids) (many q r : ℕ) (w1 w2 : List ℕ) (d : NonterminalData) (c : many ≡ level_count l) (t : d ≡ nonterminal_here wd w p) (x : Puts w lim to (nonterminal_out wd w p l.name many) q w1)
      (y : PutsAlternatives wd ids places keys d.name.0 l lim w1 q r w2) where
    whole : (e : ℕ) (w3 : List ℕ) → Puts w2 lim r (lower_bytes wd (le_at 8 w (p + 1)) l.below) e w3 → PutsLevel wd ids p places keys l lim w to e w3
    whole e w3 z = record { headed = w1; filled = w2; behind = q; last = r; head = rw c at x; alternatives = rw (ap (λ (z : NonterminalData). z.name.0) t) at y; falls = z }

    pub level_lowest : l.below ≡ None → PutsLevel wd ids p places keys l lim w to r w2
    unfolding lower_bytes
    level_lowest b = whole r w2 (rw b (puts_none w2 lim r y.stop))

    pub level_falls : (below : ℕ) → l.below ≡ Some below → (e : ℕ) (w3 : List ℕ) → Puts w2 lim r (fall_bytes wd (le_at 8 w2 (p + 1)) below) e w3 → PutsLevel wd ids p places keys l lim w to e w3
    unfolding lower_bytes
    level_falls below b e w3 z =
        let s = span_stays (nonterminal_out wd w p l.name many) q w1 x ids d.name.0 r w2 y in
        whole e w3 (rw (b, ← s) z)

pub ruleset levelled-put = (rules, level_lowest, level_falls)

pub ruleset level_read = (rules, level_keys_lem)

pub ruleset level_upto = (rules, puts_upto)

pub ruleset level_roomy = (rules, level_room)
