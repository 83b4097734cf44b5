-- What a loop knows that copies a run byte by byte: `copy`, and those of the crates above that copy inside one slice. Assumes nothing.
use mathlib.Core.Path.{◌≡◌, sym, ap, ◌∙◌}
use mathlib.Core.List.{List, [], ◌∷◌}
use Prim.Native.Nat.{ℕ, ◌+◌, ◌-◌, ◌<◌, ◌≤◌}
use native.Mathlib.Omega.{arith}
use borrow.Author.Rules.{rules}
use lib.ListN.{length, set, get_or}
use Rattle.octets.specs.Plain.Runs.{part}
use Rattle.octets.specs.Working.Stores.{store}
use Rattle.octets.proofs.PartLaws.{part_none, part_length, part-more}
use Rattle.octets.proofs.StoreLaws.{store-none, store-append, length_store, get_d_store_before, get_d_store_after}

-- of src the i bytes from a on stand in out from `to` on; the rest of out is that of w
pub record Copying (src w : List ℕ) (a to i : ℕ) (out : List ℕ) : Type 0 where
  pub is : out ≡ store w to (part a (a + i) src)

pub copy_start : (src w : List ℕ) (a to : ℕ) → Copying src w a to 0 w
copy_start src w a to = record { is = sym (store-none w to) ∙ ap (store w to) (sym (part_none a (a + 0) src (omega arith))) }

module _ (src w : List ℕ) (a to i : ℕ) (out : List ℕ) (g : Copying src w a to i out) where
  pub copy_same : length out ≡ length w
  copy_same = ap length g.is ∙ length_store w to (part a (a + i) src)

  -- one byte more
  pub copy_next : a + i < length src → Copying src w a to (i + 1) (set out (to + i) (get_or src (a + i) 0))
  unfolding store
  copy_next h =
      let n : to + i ≡ to + length (part a (a + i) src) = omega (arith, part_length a (a + i) src (omega arith)) in
      let v = get_or src (a + i) 0 in
      record { is = ap (λ (x : List ℕ). set x (to + i) v) g.is ∙ store-append w to (to + i) (part a (a + i) src) (v ∷ []) n ∙ ap (store w to) (sym (part-more a i src h)) }

  pub copy_done : (e : ℕ) → a ≤ e → e - a ≤ i → i ≤ e - a → out ≡ store w to (part a e src)
  copy_done e h k l =
      let z : a + i ≡ e = omega arith in
      g.is ∙ ap (λ (n : ℕ). store w to (part a n src)) z

-- inside one slice: what is still to be copied is as it was, before `to` and from it on
module _ (w : List ℕ) (a to i : ℕ) (out : List ℕ) (g : Copying w w a to i out) where
  next_inside : a + i < length w → get_or out (a + i) 0 ≡ get_or w (a + i) 0 → Copying w w a to (i + 1) (set out (to + i) (get_or out (a + i) 0))
  next_inside h e = rw e (copy_next w w a to i out g h)

  pub next_behind : a + i < to → a + i < length w → Copying w w a to (i + 1) (set out (to + i) (get_or out (a + i) 0))
  next_behind h l = next_inside l (ap (λ (x : List ℕ). get_or x (a + i) 0) g.is ∙ get_d_store_before w to (part a (a + i) w) (a + i) h)

  pub next_down : to ≤ a → a + i < length w → Copying w w a to (i + 1) (set out (to + i) (get_or out (a + i) 0))
  next_down h l =
      next_inside l (ap (λ (x : List ℕ). get_or x (a + i) 0) g.is ∙ get_d_store_after w to (part a (a + i) w) (a + i) (omega (arith, part_length a (a + i) w (omega arith))))

pub ruleset copying = (rules, copy_start, copy_same, copy_next, copy_done)

pub ruleset copying_inside = (rules, copy_start, copy_same, next_behind, next_down, copy_done)
