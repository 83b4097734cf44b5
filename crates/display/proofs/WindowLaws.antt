-- The laws of emission: bytes of which the first are skipped and the others written as far as they fit. Assumes nothing.
use mathlib.Core.Path.{◌≡◌, refl, ap, ◌∙◌}
use mathlib.Core.List.{List, [], ◌∷◌, ◌++◌}
use Prim.Native.Nat.{ℕ, zero, suc, ◌+◌, ◌-◌, ◌≤◌}
use native.Mathlib.Omega.{arith}
use lib.ListN.{length, drop, length-append, length-drop, drop_of_length-le}
use lib.Seq.{drop-nil}
use Rattle.octets.specs.Working.Sink.{lay, adv}
use Rattle.display.specs.declared.emit.Spot.{Spot}
use Rattle.display.specs.Window.{Emitted}
use Rattle.display.proofs.SinkLaws.{lay-append, adv-append, length_lay}

drop_append : (n : ℕ) (xs ys : List ℕ) → drop n (xs ++ ys) ≡ drop n xs ++ drop (n - length xs) ys
drop_append zero [] ys = refl
drop_append (suc n) [] ys = let z : suc n - 0 ≡ suc n = omega arith in rw z
drop_append zero (x ∷ xs) ys = let z : 0 - length (x ∷ xs) ≡ 0 = omega arith in rw z
drop_append (suc n) (x ∷ xs) ys = let z : suc n - length (x ∷ xs) ≡ n - length xs = omega arith in rw z (drop_append n xs ys)

pub emitted_kept : (xs o : List ℕ) (p r : Spot) (o1 : List ℕ) → Emitted xs o p r o1 → length o1 ≡ length o
emitted_kept xs o p r o1 c = ap length c.bytes ∙ length_lay o (length o) p.to (drop p.skip xs)

-- theorem: what is emitted one behind another
pub then : {xs ys o o1 o2 : List ℕ} {p q r : Spot} → Emitted xs o p q o1 → Emitted ys o1 q r o2 → Emitted (xs ++ ys) o p r o2
then {xs} {ys} {o} {o1} {o2} {p} {q} {r} c d =
    let n = p.skip in
    let to = p.to in
    let k = emitted_kept xs o p q o1 c in
    let l = length-append xs ys in
    let m = length-drop n xs in
    record {
      skip = d.skip ∙ omega (arith, c.skip, l);
      bytes = cc (d.bytes, c.bytes, c.after, c.skip, k, m, lay-append o (length o) to (drop n xs) (drop (n - length xs) ys), drop_append n xs ys);
      after =
          let z : length xs - n + (length ys - (n - length xs)) ≡ length (xs ++ ys) - n = omega (arith, l) in
          cc (d.after, c.after, c.skip, k, adv-append (length o) to (length xs - n) (length ys - (n - length xs)));
    }

pub emitted_as : {xs ys o o1 : List ℕ} {p r : Spot} → xs ≡ ys → Emitted xs o p r o1 → Emitted ys o p r o1
emitted_as {xs} {ys} {o} {o1} {p} {r} i c = rw i at c

pub emitted_none : (o : List ℕ) (p : Spot) → Emitted [] o p p o
unfolding lay adv
emitted_none o p =
    let z : ◌≡◌ {A = List ℕ} (drop p.skip []) [] = drop-nil p.skip in
    let y : 0 - p.skip ≡ 0 = omega arith in
    record { skip = omega arith; bytes = rw z; after = rw y }

-- all of xs is skipped
pub skipped : (xs : List ℕ) (o : List ℕ) (p r : Spot) → r.to ≡ p.to → length xs ≤ p.skip → r.skip ≡ p.skip - length xs → Emitted xs o p r o
unfolding lay adv
skipped xs o p r j h k =
    let n = p.skip in
    let z : drop n xs ≡ [] = drop_of_length-le xs {i = n} h in
    let y : length xs - n ≡ 0 = omega arith in
    record { skip = k; bytes = rw z; after = rw y j }
