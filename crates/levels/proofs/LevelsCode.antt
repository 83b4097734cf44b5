-- The loop of write_levels: some levels are written, and the others are left. Assumes nothing.
use mathlib.Core.Path.{◌≡◌, refl, sym, ap, ◌∙◌, subst}
use mathlib.Core.Bool.{Bool}
use mathlib.Core.List.{List, [], ◌∷◌, ◌++◌, append_assoc, append-nil}
use mathlib.Core.Option.{Option, some}
use Prim.Native.Nat.{ℕ, ◌+◌, ◌-◌, ◌*◌, ◌≤◌, ◌<◌}
use native.Mathlib.Omega.{arith}
use borrow.Author.Rules.{rules}
use Rattle.std.specs.Prelude.{Option as Maybe, Some}
use lib.ListN.{length, length-append}
use Rattle.parse_tree.specs.Plain.Tree.{Nonterminal, Item}
use Rattle.texts.specs.declared.Map.{Map}
use Rattle.passes.specs.Grades.{Graded, graded}
use Rattle.passes.specs.Levels.{level_name, of_level, groups_of}
use Rattle.parse_tree.specs.Working.Within.{Each}
use Rattle.laws.specs.Sort.{level_keys, by_levels}
use Rattle.grades.specs.declared.Ids.{Ids}
use Rattle.grades.specs.Sort.{keys_at}
use Rattle.grades.specs.Key.{code_of}
use Rattle.precedence.proofs.GroupMean.{level_keys_many}
use Rattle.levels.specs.declared.Room.{Room}
use Rattle.levels.specs.declared.Written.{Written}
use Rattle.levels.specs.declared.expand.Next.{Next}
use Rattle.levels.specs.Expand.{Wrote, items_left, level_item, Left, SomeLeft, Stepped, Steps, Finishes}
use Rattle.levels.proofs.WroteLaws.{wrote_none, wrote_more, wrote_append}

-- theorem: the items that are left are the first level's and those of the others
pub items_first : (d : Nonterminal) (o : Option (List ℕ)) (v : ℕ) (vs : List ℕ) → items_left d o (v ∷ vs) ≡ level_item d o v vs ∷ items_left d (some (level_name d.name v vs)) vs
unfolding items_left level_item groups_of
items_first d o v vs = refl

pub items_none : (d : Nonterminal) (o : Option (List ℕ)) → items_left d o [] ≡ []
unfolding items_left groups_of
items_none d o = refl

-- where no keys are left, no levels are: each would have one
pub no_levels : (gs : List Graded) (vs : List ℕ) → Each (λ (u : ℕ). 1 ≤ length (of_level u gs)) vs → by_levels code_of vs 0 gs ≡ [] → vs ≡ []
unfolding by_levels
no_levels gs [] h e = refl
no_levels gs (v ∷ vs) h e =
    let z : length (level_keys code_of v 0 gs) + length (by_levels code_of vs 0 gs) ≡ 0 = sym (length-append (level_keys code_of v 0 gs) (by_levels code_of vs 0 gs)) ∙ ap length e in
    absurd (omega (arith, h.0, level_keys_many v 0 gs))

module _ (s : List ℕ) (m : Map) (room : Room) (wd : ℕ) (ids : Ids) (p e places keys n : ℕ) where
  -- from w₀ to w the first levels of vs were written, and the others are left
  pub record Going (v₀ : Written) (w₀ : List ℕ) (i : ℕ) (below : Maybe ℕ) (v : Written) (w : List ℕ) (four : Bool) (d : Nonterminal) (o : Option (List ℕ)) (vs : List ℕ) : Type 0 where
    pub lower : Option (List ℕ)
    pub levels : List ℕ
    pub done : List Item
    pub news : ℕ
    pub left : Left s m room wd ids p e places keys n i below v w four d lower levels
    pub wrote : Wrote s m room wd ids w₀ v₀ news done v w
    pub items : items_left d o vs ≡ done ++ items_left d lower levels
    pub few : news + length levels ≤ length vs

  -- so of every nonterminal that stood there, and of one at least
  pub record Looped (i₀ : ℕ) (below₀ : Maybe ℕ) (v₀ : Written) (w₀ : List ℕ) (i : ℕ) (below : Maybe ℕ) (v : Written) (w : List ℕ) : Type 0 where
    pub safe : SomeLeft s m room wd ids p e places keys n i below v w
    pub long : length w ≡ length w₀
    pub goes : (four : Bool) (d : Nonterminal) (o : Option (List ℕ)) (vs : List ℕ) → Left s m room wd ids p e places keys n i₀ below₀ v₀ w₀ four d o vs → Going v₀ w₀ i below v w four d o vs

  pub levels-start : (i : ℕ) (below : Maybe ℕ) (v : Written) (w : List ℕ) → SomeLeft s m room wd ids p e places keys n i below v w → Looped i below v w i below v w
  levels-start i below v w g = record {
    safe = g;
    long = refl;
    goes = λ four d o vs l. record {
      lower = o;
      levels = vs;
      done = [];
      news = 0;
      left = l;
      wrote = wrote_none s m room wd ids w v l.names l.upto;
      items = refl;
      few = omega arith;
    };
  }

  module _ (i₀ : ℕ) (below₀ : Maybe ℕ) (v₀ : Written) (w₀ : List ℕ) (i : ℕ) (below : Maybe ℕ) (now : Written) (w : List ℕ) (g : Looped i₀ below₀ v₀ w₀ i below now w) where
    module _ (r : Next) (w1 : List ℕ) (f : Steps s m room wd ids p e places keys n i below now w r w1) where
      abbrev then : Written
      then = record { to = r.to; count = r.count }

      step : (four : Bool) (d : Nonterminal) (o : Option (List ℕ)) (vs : List ℕ) → Left s m room wd ids p e places keys n i below now w four d o vs → Stepped s m room wd ids p e places keys n i now w four d o vs r w1
      unfolding Steps
      step = f

      -- that of the nonterminal that is there
      stepped : Stepped s m room wd ids p e places keys n i now w g.safe.four g.safe.nonterminal g.safe.lower g.safe.levels r w1
      stepped = step g.safe.four g.safe.nonterminal g.safe.lower g.safe.levels g.safe.left

      pub levels-less : i < n → n - r.last < n - i
      levels-less h = omega (arith, stepped.on, stepped.left.below-n)

      module _ (four : Bool) (d : Nonterminal) (o : Option (List ℕ)) (vs : List ℕ) (l : Left s m room wd ids p e places keys n i₀ below₀ v₀ w₀ four d o vs) where
        next_of : (x : Going v₀ w₀ i below now w four d o vs) → Stepped s m room wd ids p e places keys n i now w four d x.lower x.levels r w1 → Going v₀ w₀ r.last (Some r.name) then w1 four d o vs
        next_of x y =
            let one = level_item d x.lower y.level y.above in
            let rest = items_left d (some (level_name d.name y.level y.above)) y.above in
            let z : length x.levels ≡ length y.above + 1 = ap length y.first ∙ omega arith in
            record {
              lower = some (level_name d.name y.level y.above);
              levels = y.above;
              done = x.done ++ (one ∷ []);
              news = x.news + 1;
              left = y.left;
              wrote = wrote_append s m room wd ids w₀ v₀ x.news x.done now w 1 (one ∷ []) then w1 l.from l.upto x.wrote y.wrote;
              items =
                  x.items ∙ ap (λ (us : List ℕ). x.done ++ items_left d x.lower us) y.first ∙ ap (λ (us : List Item). x.done ++ us) (items_first d x.lower y.level y.above)
                  ∙ sym (append_assoc x.done (one ∷ []) rest);
              few = omega (arith, x.few, z);
            }

      pub levels-next : Looped i₀ below₀ v₀ w₀ r.last (Some r.name) (record { to = r.to; count = r.count }) w1
      levels-next = record {
        safe = record { four = g.safe.four; nonterminal = g.safe.nonterminal; lower = some (level_name g.safe.nonterminal.name stepped.level stepped.above); levels = stepped.above; left = stepped.left };
        long = stepped.wrote.long ∙ g.long;
        goes = λ four d o vs l. let x = g.goes four d o vs l in next_of four d o vs l x (step four d x.lower x.levels x.left);
      }

    module _ (h : n ≤ i) (four : Bool) (d : Nonterminal) (o : Option (List ℕ)) (vs : List ℕ) where
      done_of : Going v₀ w₀ i below now w four d o vs → Wrote s m room wd ids w₀ v₀ (length vs) (items_left d o vs) now w
      unfolding keys_at
      done_of x =
          let z : n - i ≡ 0 = omega arith in
          let none_left : x.levels ≡ [] = no_levels (graded d) x.levels x.left.some (sym x.left.keyed ∙ ap (keys_at w (keys + 8 * i)) z) in
          let all : items_left d o vs ≡ x.done = x.items ∙ ap (λ (us : List ℕ). x.done ++ items_left d x.lower us) none_left ∙ ap (λ (us : List Item). x.done ++ us) (items_none d x.lower) ∙ append-nil x.done in
          subst (λ (us : List Item). Wrote s m room wd ids w₀ v₀ (length vs) us now w) (sym all)
          (wrote_more s m room wd ids w₀ v₀ x.news x.done now w (length vs) (omega (arith, x.few)) x.wrote)

    pub levels-done : n ≤ i → Finishes s m room wd ids p e places keys n i₀ below₀ v₀ w₀ now w
    unfolding Finishes
    levels-done h four d o vs l = done_of h four d o vs (g.goes four d o vs l)

pub ruleset levelling = (rules, levels-start, levels-less, levels-next, levels-done)
