-- The ways out of `enough`, `judge`, `levels_room` and `judge_levels`. Assumes nothing.
use mathlib.Core.Path.{◌≡◌, refl, sym, ap, ◌∙◌, subst}
use mathlib.Core.Bool.{Bool, true, false, not}
use Prim.Native.Nat.{ℕ, ◌+◌, ◌-◌, ◌*◌, ◌/◌, ◌<◌}
use native.Mathlib.Omega.{arith}
use mir.Syntax.{w64}
use mir.Val.{Fits}
use borrow.Author.Rules.{rules}
use lib.Dec.{ltb}
use Rattle.octets.specs.Working.Choice.{pick}
use Rattle.parse_tree.specs.Working.Refusals.{refusal_at}
use Rattle.parse_tree.specs.declared.refusal.Refusal.{Refusal}
use Rattle.levels.specs.declared.Room.{Room}
use Rattle.levels.specs.declared.Written.{Written}
use Rattle.std.specs.Prelude.{Option, Some, None, is_some, unwrap_or, IfSome, Result, Ok, Err}
use Rattle.rounds.specs.Judge.{Verdict, ruled_counts, ruled_length}
use Rattle.output.specs.Working.Judging.{sized, room_of, sized_levels}

-- ---- `judge`
module _ (atoms n cap : ℕ) (r : Verdict) (i : r ≡ ruled_counts atoms false) where
  pub judge_many : (why : Refusal) → r ≡ Err why → Err why ≡ sized atoms n cap
  unfolding sized ruled_counts pick
  judge_many why o = go (ltb 65536 atoms) (sym i ∙ o)
    where
      go : (a : Bool) → ◌≡◌ {A = Verdict} (pick a (Err (refusal_at 20 0)) (Ok tt)) (Err why)
          → ◌≡◌ {A = Verdict} (Err why) (pick a (Err (refusal_at 20 0)) (pick (ltb cap n) (Err (refusal_at 21 0)) (Ok tt)))
      go true p = sym p
      go false p = absurd (cc)

  pub judge_few : (u : Unit {0}) → r ≡ Ok u → (y : Verdict) → y ≡ ruled_length n cap → y ≡ sized atoms n cap
  unfolding sized ruled_counts ruled_length pick
  judge_few u o y j = go (ltb 65536 atoms) (sym i ∙ o)
    where
      go : (a : Bool) → ◌≡◌ {A = Verdict} (pick a (Err (refusal_at 20 0)) (Ok tt)) (Ok u) → y ≡ pick a (Err (refusal_at 20 0)) (pick (ltb cap n) (Err (refusal_at 21 0)) (Ok tt))
      go true p = absurd (cc)
      go false p = j

pub ruleset judging = (rules, judge_many, judge_few)

-- ---- `levels_room`
pub room_is : (tape n cap : ℕ)
    → ◌≡◌ {A = Room} (record { arrays = 8 * tape + 2 * n; at = 8 * tape + 6 * cap - 2 * (cap / 9); lim = 8 * tape + 6 * cap - 2 * (cap / 9) + cap }) (room_of tape n cap)
unfolding room_of
room_is tape n cap = refl

pub ruleset levels-rooms = (rules, room_is)

-- ---- `judge_levels`: b says that a name is too long, r what was answered to the counts
refused_so : (l : Bool) (x : Result ℕ Refusal) (why : Refusal) → ◌≡◌ {A = Verdict} (pick l (Err (refusal_at 21 0)) (Ok tt)) (Err why) → Err why ≡ pick l (Err (refusal_at 21 0)) x
unfolding pick
refused_so true x why p = let e : refusal_at 21 0 ≡ why = cc in ap Err (sym e)
refused_so false x why p = absurd (cc)

passed_so : (l : Bool) (u : Unit {0}) → ◌≡◌ {A = Verdict} (pick l (Err (refusal_at 21 0)) (Ok tt)) (Ok u) → l ≡ false
unfolding pick
passed_so true u p = absurd (cc)
passed_so false u p = refl

module _ (v : Written) (room : Room) (at : ℕ) (f : Option ℕ) (b : Bool) (q : is_some f ≡ not b) (r : Verdict) (i : r ≡ ruled_counts v.count b) where
  pub levels_counts : (cap : ℕ) (why : Refusal) → r ≡ Err why → Err why ≡ sized_levels v room at f cap
  unfolding sized_levels ruled_counts pick
  levels_counts cap why o = go f b q (ltb 65536 v.count) refl (sym i ∙ o)
    where
      go : (f : Option ℕ) (b : Bool) → is_some f ≡ not b → (a : Bool) → ltb 65536 v.count ≡ a → ◌≡◌ {A = Verdict} (pick a (Err (refusal_at 20 0)) (pick b (Err (refusal_at 20 0)) (Ok tt))) (Err why)
          → Err why ≡ sized_levels v room at f cap
      go None b k true e p = let z : refusal_at 20 0 ≡ why = cc in ap Err (sym z)
      go None true k false e p = let z : refusal_at 20 0 ≡ why = cc in ap Err (sym z)
      go None false k false e p = absurd (cc)
      go (Some x) b k true e p = let z : refusal_at 20 0 ≡ why = cc in rw e (ap Err (sym z))
      go (Some x) true k false e p = absurd (cc)
      go (Some x) false k false e p = absurd (cc)

  module _ (u : Unit {0}) (o : r ≡ Ok u) where
    few : (ltb 65536 v.count ≡ false) × (b ≡ false)
    unfolding ruled_counts pick
    few = go (ltb 65536 v.count) b (sym i ∙ o)
      where
        go : (a b : Bool) → ◌≡◌ {A = Verdict} (pick a (Err (refusal_at 20 0)) (pick b (Err (refusal_at 20 0)) (Ok tt))) (Ok u) → (a ≡ false) × (b ≡ false)
        go true b p = absurd (cc)
        go false true p = absurd (cc)
        go false false p = (refl, refl)

    some : f ≡ Some (unwrap_or f 0)
    some = go f (q ∙ ap not few.1)
      where
        go : (f : Option ℕ) → is_some f ≡ true → f ≡ Some (unwrap_or f 0)
        go None p = absurd (cc)
        go (Some x) p = refl

    pub levels_sum : IfSome f (λ bytes. at + bytes + v.to < 18446744073709551616) → (x : ℕ) → x ≡ unwrap_or f 0 → Fits w64 (at + x + (v.to - room.at))
    levels_sum h x c =
        let k : at + unwrap_or f 0 + v.to < 18446744073709551616 = subst (λ (g : Option ℕ). IfSome g (λ bytes. at + bytes + v.to < 18446744073709551616)) some h in record { fits = omega (arith, k, c) }

    module _ (cap : ℕ) where
      -- what is left to say
      left : sized_levels v room at f cap
          ≡ pick (ltb room.lim v.to) (Err (refusal_at 21 0)) (pick (ltb cap (at + unwrap_or f 0 + (v.to - room.at))) (Err (refusal_at 21 0)) (Ok (at + unwrap_or f 0 + (v.to - room.at))))
      unfolding sized_levels pick
      left = ap (λ (g : Option ℕ). sized_levels v room at g cap) some ∙ rw few.0 refl

      module _ (m : Verdict) (j : m ≡ ruled_length v.to room.lim) where
        pub levels_over : (why : Refusal) → m ≡ Err why → Err why ≡ sized_levels v room at f cap
        unfolding ruled_length
        levels_over why p = rw left (refused_so (ltb room.lim v.to) _ why (sym j ∙ p))

        module _ (e : Unit {0}) (p : m ≡ Ok e) (x : ℕ) (c : x ≡ unwrap_or f 0) where
          last : sized_levels v room at f cap ≡ pick (ltb cap (at + x + (v.to - room.at))) (Err (refusal_at 21 0)) (Ok (at + x + (v.to - room.at)))
          unfolding ruled_length pick
          last = rw c (left ∙ rw (passed_so (ltb room.lim v.to) e (sym j ∙ p)) refl)

          module _ (y : Verdict) (k : y ≡ ruled_length (at + x + (v.to - room.at)) cap) where
            pub levels_long : (why : Refusal) → y ≡ Err why → Err why ≡ sized_levels v room at f cap
            unfolding ruled_length
            levels_long why d = rw last (refused_so (ltb cap (at + x + (v.to - room.at))) _ why (sym k ∙ d))

            pub levels_passed : (d : Unit {0}) → y ≡ Ok d → Ok (at + x + (v.to - room.at)) ≡ sized_levels v room at f cap
            unfolding ruled_length pick
            levels_passed d l = rw (last, passed_so (ltb cap (at + x + (v.to - room.at))) d (sym k ∙ l)) refl

pub ruleset judging_levels = (rules, levels_counts, levels_sum, levels_over, levels_long, levels_passed)
