-- Parts of printed forms written into a window: the ways out of the code. Assumes nothing.
use mathlib.Core.Path.{◌≡◌, refl, sym, ◌∙◌}
use mathlib.Core.List.{List, [], ◌∷◌, ◌++◌}
use Prim.Native.Nat.{ℕ, ◌+◌, ◌-◌, ◌<◌, ◌≤◌}
use native.Mathlib.Omega.{arith}
use native.Mathlib.Numerals.{add-one}
use borrow.Author.Rules.{rules}
use lib.ListN.{length, drop, get_or, drop_of_length-le}
use lib.Seq.{drop-cons}
use Rattle.octets.specs.Working.Sink.{Laid}
use Rattle.display.specs.declared.emit.Spot.{Spot}
use Rattle.display.specs.Window.{Emitted}
use Rattle.display.proofs.WindowLaws.{then, emitted_as, emitted_none, skipped}

-- ---- emit
module _ (o : List ℕ) (p : Spot) (b : ℕ) where
  pub emit_skip : 0 < p.skip → Emitted (b ∷ []) o p (record { skip = p.skip - 1; to = p.to }) o
  emit_skip h = skipped (b ∷ []) o p (record { skip = p.skip - 1; to = p.to }) refl (omega arith) (omega arith)

  pub emit_put : (q m : ℕ) (o1 : List ℕ) → p.skip ≤ 0 → m ≡ length o → Laid o m p.to (b ∷ []) q o1 → Emitted (b ∷ []) o p (record { skip = p.skip; to = q }) o1
  emit_put q m o1 h e c =
      let z : p.skip ≡ 0 = omega arith in
      record { skip = omega arith; bytes = rw z (rw e at c.bytes); after = rw z (rw e at c.after) }

pub ruleset emitting = (rules, emit_skip, emit_put)

-- ---- emit_run
pub run_skip : (x : List ℕ) (o : List ℕ) (p : Spot) (n : ℕ) → n ≡ length x → n ≤ p.skip → Emitted x o p (record { skip = p.skip - n; to = p.to }) o
run_skip x o p n e h = skipped x o p (record { skip = p.skip - n; to = p.to }) refl (omega arith) (omega arith)

-- from i on the bytes of x are left
pub record Running (x : List ℕ) (o : List ℕ) (p : Spot) (out : List ℕ) (i : ℕ) (q : Spot) : Type 0 where
  pub carry : (r : Spot) (o' : List ℕ) → Emitted (drop i x) out q r o' → Emitted x o p r o'
  pub same : length out ≡ length o

pub run_start : (x : List ℕ) (o : List ℕ) (p : Spot) → Running x o p o 0 p
run_start x o p = record { carry = λ r o' c. c; same = refl }

module _ (x : List ℕ) (o : List ℕ) (p : Spot) (out : List ℕ) (i : ℕ) (q : Spot) (g : Running x o p out i q) where
  pub run_next : (q1 : Spot) (out1 : List ℕ) → i < length x → Emitted (get_or x i 0 ∷ []) out q q1 out1 → length out1 ≡ length out → Running x o p out1 (i + 1) q1
  run_next q1 out1 h c l =
      let y : (get_or x i 0 ∷ []) ++ drop (i + 1) x ≡ drop i x = cc (drop-cons x i 0 h, add-one i) in
      record { carry = λ r o' d. g.carry r o' (emitted_as y (then c d)); same = l ∙ g.same }

  pub run_done : length x ≤ i → Emitted x o p q out
  run_done h = g.carry q out (emitted_as (sym (drop_of_length-le x {i = i} h)) (emitted_none out q))

pub ruleset running = (rules, run_skip, run_start, run_next, run_done)
