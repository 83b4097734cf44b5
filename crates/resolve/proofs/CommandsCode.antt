-- Commands: the ways out of asked and validate_commands. Assumes nothing.
use mathlib.Core.Path.{◌≡◌, refl, sym, ap, ◌∙◌}
use mathlib.Core.List.{List}
use Prim.Native.Nat.{ℕ, zero, suc, ◌+◌, ◌-◌, ◌≤◌, ◌<◌}
use native.Mathlib.Omega.{arith}
use borrow.Author.Rules.{rules}
use borrow.Author.Tests.{le-leb, lt-leb, ne_eqb}
use lib.ListN.{length, get_or, set, length-set}
use Rattle.std.specs.Prelude.{Option, Some, None, Result, Ok, Err, MatchResult, IsOkAnd}
use Rattle.octets.specs.Working.Choice.{pick}
use Rattle.octets.specs.Plain.Numbers.{le_at}
use Rattle.parse_tree.specs.declared.refusal.Question.{Question}
use Rattle.parse_tree.specs.Working.Nodes.{span_in, long_of}
use Rattle.parse_tree.specs.Working.Refusals.{number_of, refusal_over}
use Rattle.parse_tree.specs.declared.refusal.Refusal.{Refusal}
use Rattle.parse_tree.specs.declared.syntax.Span.{Span}
use Rattle.texts.specs.declared.Map.{Map}
use Rattle.resolve.specs.declared.Definition.{Definition}
use Rattle.resolve.specs.Cells.{Room, known_at, found_by}
use Rattle.resolve.specs.Names.{condition_says, nonterminal_says, macro_says, ambiguous_says}
use Rattle.resolve.specs.Commands.{becomes, stays, asked_at, asked_then, RunEnd, ran, stopped, run_then, Runs, run_out}

-- ---- what is mapped
pub stays_by : (P : Unit {0} → Option ℕ → Type 0) → ((x : Unit {0}) (o : Option ℕ) → P x o → o ≡ None) → (r : Result (Unit {0}) Question) (y : Result (Option ℕ) Question) → MatchResult r (λ x. IsOkAnd y (P x)) (λ e. y ≡ Err e) → y ≡ stays r
unfolding stays
stays_by P f (Ok x) (Ok o) h = ap Ok (f x o h)
stays_by P f (Ok x) (Err e) h = absurd h
stays_by P f (Err e) y h = h

pub becomes_by : (P : ℕ → Option ℕ → Type 0) → ((x : ℕ) (o : Option ℕ) → P x o → o ≡ Some x) → (r : Result ℕ Question) (y : Result (Option ℕ) Question) → MatchResult r (λ x. IsOkAnd y (P x)) (λ e. y ≡ Err e) → y ≡ becomes r
unfolding becomes
becomes_by P f (Ok x) (Ok o) h = ap Ok (f x o h)
becomes_by P f (Ok x) (Err e) h = absurd h
becomes_by P f (Err e) y h = h

-- ---- asked
module _ (m : Map) (wd : ℕ) (w : List ℕ) (at c : ℕ) where
  module _ (f : Option Definition) (j : f ≡ found_by (known_at m w (le_at wd w (at + 9)))) (y : Result (Option ℕ) Question) where
    pub asked_ambiguous : c ≡ 32 → (r : Result ℕ Question) → r ≡ ambiguous_says f → y ≡ becomes r → y ≡ asked_at m wd w at c
    unfolding asked_at pick
    asked_ambiguous e r h k = k ∙ rw (e, ← j, ← h) refl

    module _ (r : Result (Unit {0}) Question) (k : y ≡ stays r) where
      pub asked_nonterminal : c ≡ 36 → r ≡ nonterminal_says f → y ≡ asked_at m wd w at c
      unfolding asked_at pick
      asked_nonterminal e h = k ∙ rw (e, ← j, ← h) refl

      pub asked_condition : c ≡ 20 → r ≡ condition_says f → y ≡ asked_at m wd w at c
      unfolding asked_at pick
      asked_condition e h = k ∙ rw (e, ← j, ← h) refl

      pub asked_macro : c ≡ 37 → (b n : ℕ) → b ≡ get_or w (at + 9 + wd) 0 → n ≡ b → r ≡ macro_says f n → y ≡ asked_at m wd w at c
      unfolding asked_at pick
      asked_macro e b n i l h = let z : n ≡ get_or w (at + 9 + wd) 0 = l ∙ i in k ∙ rw (e, ← j, ← z, ← h) refl

  pub asked_other : (c ≡ 32 → ⊥) → (c ≡ 36 → ⊥) → (c ≡ 37 → ⊥) → (c ≡ 20 → ⊥) → Ok None ≡ asked_at m wd w at c
  unfolding asked_at pick
  asked_other a b d e = cc (ne_eqb c 32 a, ne_eqb c 36 b, ne_eqb c 37 d, ne_eqb c 20 e)

pub ruleset asking = (rules, asked_ambiguous, asked_nonterminal, asked_condition, asked_macro, asked_other)

-- ---- runs
pub runs_fine : (x : RunEnd) (w : List ℕ) → x ≡ ran w → Runs x (Ok tt) w
unfolding Runs
runs_fine x w e = rw e (refl, refl)

pub runs_refused : (x : RunEnd) (q : ℕ) (s : Span) (w : List ℕ) → x ≡ stopped q s → Runs x (Err (refusal_over q s)) w
unfolding Runs
runs_refused x q s w e = rw e refl

pub fine_not : {why : Refusal} → ◌≡◌ {A = Result (Unit {0}) Refusal} (Ok tt) (Err why) → ⊥
fine_not {why} e = let z : ◌≡◌ {A = ℕ} 0 1 = cc in omega arith

pub then-refused : (x : RunEnd) (f : List ℕ → RunEnd) (why : Refusal) (w w' : List ℕ) → Runs x (Err why) w → Runs (run_then x f) (Err why) w'
unfolding Runs run_then
then-refused (ran v) f why w w' h = absurd (fine_not (sym h.0))
then-refused (stopped q s) f why w w' h = h

pub then-fine : (x : RunEnd) (f : List ℕ → RunEnd) (w : List ℕ) → Runs x (Ok tt) w → run_then x f ≡ f w
unfolding Runs run_then
then-fine (ran v) f w h = ap f (sym h.1)
then-fine (stopped q s) f w h = absurd (fine_not h)

-- ---- validate_commands
-- with `fuel` commands to come at the most, the rest is what the whole is
pub record Running (m : Map) (wd e at : ℕ) (w₀ w : List ℕ) (p : ℕ) : Type 0 where
  pub room : Room m (length w)
  pub narrow : 2 ≤ wd
  pub wide : wd ≤ 3
  pub inside : e + 16 ≤ length w
  pub same : length w ≡ length w₀
  pub fuel : ℕ
  pub enough : e ≤ fuel + p
  pub rest : run_out m wd fuel w p e ≡ run_out m wd e w₀ at e

pub run_start : (m : Map) (wd e at : ℕ) (w : List ℕ) → Room m (length w) → 2 ≤ wd → wd ≤ 3 → e + 16 ≤ length w → Running m wd e at w w at
run_start m wd e at w r n o i = record { room = r; narrow = n; wide = o; inside = i; same = refl; fuel = e; enough = omega arith; rest = refl }

pub run_end : (m : Map) (wd n : ℕ) (w : List ℕ) (p e : ℕ) → e ≤ p → run_out m wd n w p e ≡ ran w
unfolding run_out pick
run_end m wd zero w p e h = refl
run_end m wd (suc n) w p e h = cc (le-leb e p h)

module _ (m : Map) (wd e at : ℕ) (w₀ w : List ℕ) (p : ℕ) (g : Running m wd e at w₀ w p) where
  pub run_done : e ≤ p → Runs (run_out m wd e w₀ at e) (Ok tt) w
  run_done h = runs_fine _ w (sym g.rest ∙ run_end m wd g.fuel w p e h)

  module _ (h : p < e) (c : ℕ) (i : c ≡ get_or w p 0) (r : Result (Option ℕ) Question) (j : r ≡ asked_at m wd w p c) where
    abbrev left : ℕ
    left = g.fuel - 1

    opened : run_out m wd g.fuel w p e
        ≡ asked_then r (run_out m wd left w (p + long_of wd c) e) (λ k. run_out m wd left (set w p k) (p + (9 + wd)) e) (λ q. stopped (number_of q) (span_in w (p + 1)))
    unfolding run_out pick
    opened =
        let z : g.fuel ≡ suc left = omega (arith, g.enough) in
        ap (λ (n : ℕ). run_out m wd n w p e) z ∙ simp (lt-leb e p h, sym i, sym j)

    pub run_next : (o : Option ℕ) → r ≡ Ok o → o ≡ None → (l : ℕ) → l ≡ long_of wd c → 0 < l → Running m wd e at w₀ w (p + l)
    unfolding asked_then
    run_next o y z l k x = record {
      room = g.room;
      narrow = g.narrow;
      wide = g.wide;
      inside = g.inside;
      same = g.same;
      fuel = left;
      enough = omega (arith, g.enough);
      rest = rw (k, ← g.rest, opened, y, z) refl;
    }

    pub run_refused : (q : Question) → r ≡ Err q → (why : Refusal) → why ≡ refusal_over (number_of q) (span_in w (p + 1)) → (w' : List ℕ) → Runs (run_out m wd e w₀ at e) (Err why) w'
    unfolding asked_then
    run_refused q z why u w' = rw u (runs_refused _ (number_of q) (span_in w (p + 1)) w' (rw (← g.rest, opened, z) refl))

    pub run_rewritten : (o : Option ℕ) → r ≡ Ok o → (k : ℕ) → o ≡ Some k → Running m wd e at w₀ (set w p k) (p + (9 + wd))
    unfolding asked_then
    run_rewritten o y k z =
        let l = length-set w p k in
        record {
          room = rw l g.room;
          narrow = g.narrow;
          wide = g.wide;
          inside = rw l g.inside;
          same = l ∙ g.same;
          fuel = left;
          enough = omega (arith, g.enough);
          rest = rw (← g.rest, opened, y, z) refl;
        }

pub ruleset running = (rules, run_start, run_done, run_next, run_refused, run_rewritten)
