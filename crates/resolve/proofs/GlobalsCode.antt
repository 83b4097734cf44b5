-- The globals: the ways out of description, declared, declare, declare_each and globals. Assumes nothing.
use mathlib.Core.Path.{◌≡◌, refl, sym, ap, ◌∙◌}
use mathlib.Core.Bool.{Bool, true, false}
use mathlib.Core.List.{List}
use Prim.Native.Nat.{ℕ, suc, min, ◌+◌, ◌-◌, ◌*◌, ◌≤◌, ◌<◌}
use native.Mathlib.Omega.{arith}
use borrow.Author.Rules.{rules}
use borrow.Author.Tests.{ltb-true, ltb-false, eq-eqb, ne_eqb}
use lib.Dec.{ltb, eqb}
use lib.ListN.{length, get_or}
use Rattle.std.specs.Prelude.{Result, Ok, Err}
use Rattle.octets.specs.Working.Choice.{pick}
use Rattle.octets.specs.Plain.Numbers.{le_at}
use Rattle.parse_tree.specs.Working.Nodes.{span_in}
use Rattle.parse_tree.specs.Working.Refusals.{refusal_over}
use Rattle.parse_tree.specs.declared.refusal.Refusal.{Refusal}
use Rattle.parse_tree.specs.declared.syntax.Span.{Span}
use Rattle.texts.specs.declared.Map.{Map}
use Rattle.resolve.specs.declared.Grammar.{Grammar}
use Rattle.resolve.specs.Cells.{known_at, define_at}
use Rattle.resolve.specs.Commands.{ran, run_then, Runs}
use Rattle.resolve.specs.Items.{Standing, item_place_in}
use Rattle.resolve.specs.Globals.{describe, declared_at, declare_out, each_out, globals_out}
use Rattle.resolve.proofs.CommandsCode.{runs_fine, runs_refused, then-refused, then-fine}

-- ---- same_kind
described : (d r : ℕ) → r ≡ min d 3 → r ≡ describe d
unfolding describe pick
described d r e = go (ltb d 3) refl
  where
    go : (x : Bool) → ltb d 3 ≡ x → r ≡ pick x d 3
    go true h = let z = ltb-true d 3 h in omega arith
    go false h = let z = ltb-false d 3 h in omega arith

pub kinds_compared : (d e r s : ℕ) → r ≡ min d 3 → s ≡ min e 3 → eqb r s ≡ eqb (describe d) (describe e)
kinds_compared d e r s i j = let x = described d r i in let y = described e s j in cc

pub ruleset describing = (rules, kinds_compared)

-- ---- declared
module _ (wd : ℕ) (w : List ℕ) (at c : ℕ) where
  pub declared_nonterminal : c ≡ 16 → (b n : ℕ) → b ≡ get_or w (at + 10 + wd) 0 → n ≡ b → n + 2 ≡ declared_at wd w at c
  unfolding declared_at pick
  declared_nonterminal e b n i j = cc

  pub declared_terminal : (c ≡ 16 → ⊥) → 1 ≡ declared_at wd w at c
  unfolding declared_at pick
  declared_terminal n = cc (ne_eqb c 16 n)

pub ruleset declaring = (rules, declared_nonterminal, declared_terminal)

-- ---- declare
module _ (m : Map) (wd : ℕ) (w : List ℕ) (at d id : ℕ) (i : id ≡ le_at wd w (at + 9)) (old : ℕ) (j : old ≡ known_at m w id) where
  pub declare_new : (b : Bool) → b ≡ eqb old 0 → b ≡ true → (w' : List ℕ) → w' ≡ define_at m w id d → Runs (declare_out m wd w at d) (Ok tt) w'
  unfolding declare_out pick
  declare_new b g h w' e = runs_fine _ w' (cc)

  module _ (n : Bool) (g : n ≡ eqb old 0) (e : n ≡ false) (b : Bool) (k : b ≡ eqb (describe d) (describe old)) (s : Span) (o : s ≡ span_in w (at + 1)) where
    pub declare_again : b ≡ true → (why : Refusal) → why ≡ refusal_over 5 s → (w' : List ℕ) → Runs (declare_out m wd w at d) (Err why) w'
    unfolding declare_out pick
    declare_again h why u w' =
        let v : why ≡ refusal_over 5 (span_in w (at + 1)) = cc in
        rw v (runs_refused _ 5 (span_in w (at + 1)) w' (cc))

    pub declare_other : b ≡ false → (why : Refusal) → why ≡ refusal_over 6 s → (w' : List ℕ) → Runs (declare_out m wd w at d) (Err why) w'
    unfolding declare_out pick
    declare_other h why u w' =
        let v : why ≡ refusal_over 6 (span_in w (at + 1)) = cc in
        rw v (runs_refused _ 6 (span_in w (at + 1)) w' (cc))

pub ruleset entering = (rules, declare_new, declare_again, declare_other)

-- ---- declare_each
-- the items from the i-th on leave what all leave
pub record EachLeft (m : Map) (t : Grammar) (which : ℕ) (w₀ w : List ℕ) (i : ℕ) : Type 0 where
  pub standing : Standing m t (length w)
  pub same : length w ≡ length w₀
  pub rest : each_out m t which (t.count - i) i w ≡ each_out m t which t.count 0 w₀

pub each_start : (m : Map) (t : Grammar) (which : ℕ) (w : List ℕ) → Standing m t (length w) → EachLeft m t which w w 0
each_start m t which w g = record { standing = g; same = refl; rest = ap (λ (n : ℕ). each_out m t which n 0 w) (omega arith) }

none_left : (m : Map) (t : Grammar) (which n i : ℕ) (w : List ℕ) → n ≡ 0 → each_out m t which n i w ≡ ran w
unfolding each_out
none_left m t which n i w e = rw e refl

module _ (m : Map) (t : Grammar) (which : ℕ) (w₀ w : List ℕ) (i : ℕ) (g : EachLeft m t which w₀ w i) where
  pub each-done : t.count ≤ i → Runs (each_out m t which t.count 0 w₀) (Ok tt) w
  each-done h = runs_fine _ w (sym g.rest ∙ none_left m t which (t.count - i) i w (omega arith))

  module _ (h : i < t.count) where
    pub each-listed : t.list + 8 * t.count ≤ length w
    each-listed = g.standing.listed (omega arith)

    module _ (p : ℕ) (k : p ≤ t.end) where
      pub each_read : p < length w
      each_read = omega (arith, g.standing.inside (omega arith))

      pub each-room : p + 16 ≤ length w
      each-room = omega (arith, g.standing.inside (omega arith))

    opened : each_out m t which (t.count - i) i w ≡ each_out m t which (suc (t.count - (i + 1))) i w
    opened = ap (λ (n : ℕ). each_out m t which n i w) (omega arith)

    each-kept : (w' : List ℕ) → length w' ≡ length w → each_out m t which (suc (t.count - (i + 1))) i w ≡ each_out m t which (t.count - (i + 1)) (i + 1) w' → EachLeft m t which w₀ w' (i + 1)
    each-kept w' l e = record { standing = rw l g.standing; same = l ∙ g.same; rest = sym e ∙ sym opened ∙ g.rest }

    module _ (p : ℕ) (x : p ≡ item_place_in t w i) where
      skipped : (get_or w p 0 ≡ which → ⊥) → each_out m t which (suc (t.count - (i + 1))) i w ≡ each_out m t which (t.count - (i + 1)) (i + 1) w
      unfolding each_out pick
      skipped n = cc (ne_eqb (get_or w p 0) which n)

      pub each-skip : (get_or w p 0 ≡ which → ⊥) → (w'' : List ℕ) → w'' ≡ w → EachLeft m t which w₀ w'' (i + 1)
      each-skip n w'' a = rw a (each-kept w refl (skipped n))

      module _ (z : get_or w p 0 ≡ which) (d : ℕ) (q : d ≡ declared_at t.width.bytes w p which) (v : Result (Unit {0}) Refusal) (w' : List ℕ) (o : Runs (declare_out m t.width.bytes w p d) v w') where
        one : each_out m t which (suc (t.count - (i + 1))) i w ≡ run_then (declare_out m t.width.bytes w p d) (λ w''. each_out m t which (t.count - (i + 1)) (i + 1) w'')
        unfolding each_out pick
        one = cc (eq-eqb (get_or w p 0) which z)

        pub each-refused : (why : Refusal) → v ≡ Err why → (w'' : List ℕ) → Runs (each_out m t which t.count 0 w₀) (Err why) w''
        each-refused why u w'' = rw (← g.rest, opened, one) (then-refused _ _ why w' w'' (rw u at o))

        pub each_next : v ≡ Ok tt → length w' ≡ length w → (w'' : List ℕ) → w'' ≡ w' → EachLeft m t which w₀ w'' (i + 1)
        each_next u l w'' a = rw a (each-kept w' l (one ∙ then-fine _ _ w' (rw u at o)))

pub ruleset enumerating = (rules, each_start, each-done, each-listed, each_read, each-room, each-skip, each-refused, each_next)

-- ---- globals
pub standing_as : (m : Map) (t : Grammar) (w w1 : List ℕ) → Standing m t (length w) → length w1 ≡ length w → Standing m t (length w1)
standing_as m t w w1 g l = rw l g

pub standing_twice : (m : Map) (t : Grammar) (w w1 w2 : List ℕ) → Standing m t (length w) → length w1 ≡ length w → length w2 ≡ length w1 → Standing m t (length w2)
standing_twice m t w w1 w2 g l k = rw (k, l) g

-- v1, v2 and v3 are what the three answered
module _ (m : Map) (t : Grammar) (w : List ℕ) (v1 : Result (Unit {0}) Refusal) (w1 : List ℕ) (i : Runs (each_out m t 16 t.count 0 w) v1 w1) where
  pub globals-first : (why : Refusal) → v1 ≡ Err why → (w' : List ℕ) → Runs (globals_out m t w) (Err why) w'
  unfolding globals_out
  globals-first why e w' = then-refused _ _ why w1 w' (rw e at i)

  module _ (e : v1 ≡ Ok tt) (v2 : Result (Unit {0}) Refusal) (w2 : List ℕ) (j : Runs (each_out m t 48 t.count 0 w1) v2 w2) where
    after : globals_out m t w ≡ run_then (each_out m t 48 t.count 0 w1) (λ w₂. each_out m t 49 t.count 0 w₂)
    unfolding globals_out
    after = then-fine _ _ w1 (rw e at i)

    pub globals-second : (why : Refusal) → v2 ≡ Err why → (w' : List ℕ) → Runs (globals_out m t w) (Err why) w'
    globals-second why u w' = rw after (then-refused _ _ why w2 w' (rw u at j))

    pub globals-third : v2 ≡ Ok tt → (v3 : Result (Unit {0}) Refusal) (w3 : List ℕ) → Runs (each_out m t 49 t.count 0 w2) v3 w3 → Runs (globals_out m t w) v3 w3
    globals-third u v3 w3 k = let z = after ∙ then-fine _ _ w2 (rw u at j) in rw z k

pub ruleset resolving = (rules, standing_as, standing_twice, globals-first, globals-second, globals-third)
