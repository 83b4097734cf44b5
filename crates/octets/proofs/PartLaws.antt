-- The laws of `part`. Assumes nothing.
use mathlib.Core.Path.{◌≡◌, sym}
use mathlib.Core.List.{List, [], ◌∷◌, ◌++◌}
use Prim.Native.Nat.{ℕ, suc, ◌+◌, ◌-◌, ◌<◌, ◌≤◌}
use native.Mathlib.Omega.{arith}
use native.Mathlib.Numerals.{add-one}
use lib.ListN.{length, drop, get_or, length-drop}
use lib.Seq.{drop-cons, length-take-le, take-suc, get_or-drop}
use Rattle.octets.specs.Plain.Runs.{part}

pub part_none : (a e : ℕ) (s : List ℕ) → e ≤ a → part a e s ≡ []
unfolding part
part_none a e s h = let z : e - a ≡ 0 = omega arith in rw z

pub part-one : (a e : ℕ) (s : List ℕ) → a < e → e ≤ length s → part a e s ≡ get_or s a 0 ∷ part (a + 1) e s
unfolding part
part-one a e s h k =
    let z : e - a ≡ suc (e - (a + 1)) = omega arith in
    cc (drop-cons s a 0 (omega arith), add-one a)

pub part-more : (a i : ℕ) (s : List ℕ) → a + i < length s → part a (a + (i + 1)) s ≡ part a (a + i) s ++ (get_or s (a + i) 0 ∷ [])
unfolding part
part-more a i s h =
    let z : a + (i + 1) - a ≡ suc i = omega arith in
    let y : a + i - a ≡ i = omega arith in
    rw (z, y, sym (get_or-drop a s i 0)) (take-suc (drop a s) i 0 (omega (arith, length-drop a s)))

pub part_length : (a e : ℕ) (s : List ℕ) → e ≤ length s → length (part a e s) ≡ e - a
unfolding part
part_length a e s h = length-take-le (e - a) (drop a s) (omega (arith, length-drop a s))
