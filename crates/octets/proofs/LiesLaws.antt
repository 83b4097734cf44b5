-- The laws of `Lies`: bytes that lie in a list, one run behind another, and the numbers read there. Assumes nothing.
use mathlib.Core.Path.{◌≡◌, refl, sym, ap, ◌∙◌}
use mathlib.Core.List.{List, [], ◌∷◌, ◌++◌, append_assoc}
use Prim.Native.Nat.{ℕ, zero, suc, ◌+◌, ◌-◌, ◌*◌, ◌/◌, ◌%◌, ◌^◌, ◌<◌, ◌≤◌}
use native.Mathlib.Nat.{pow-succ'}
use native.Mathlib.Omega.{arith}
use native.Mathlib.Numerals.{add-one}
use lib.ListN.{length, get_or, take, drop, length-append, length-drop, take-append-drop}
use lib.Seq.{drop-cons, drop-drop, drop-append_seam, take-append_seam, length-take-le}
use Rattle.octets.specs.Plain.Numbers.{le_at, le, Bytes}
use Rattle.octets.specs.Plain.Runs.{part, Lies}

pub lies_none : (s : List ℕ) (a : ℕ) → Lies s a [] a
lies_none s a = record { is = refl; end = omega arith }

pub lies_append : {s : List ℕ} {a m e : ℕ} {xs ys : List ℕ} → Lies s a xs m → Lies s m ys e → Lies s a (xs ++ ys) e
lies_append {s} {a} {m} {e} {xs} {ys} p q = record {
  is = p.is ∙ ap (λ (l : List ℕ). xs ++ l) q.is ∙ sym (append_assoc xs ys (drop e s));
  end = simp length-append (omega arith);
}

pub lies_split : (s : List ℕ) (a e : ℕ) (xs ys : List ℕ) → Lies s a (xs ++ ys) e → Lies s a xs (a + length xs) × Lies s (a + length xs) ys e
lies_split s a e xs ys p =
    let d : drop (a + length xs) s ≡ ys ++ drop e s = sym (drop-drop (length xs) a s) ∙ ap (drop (length xs)) (p.is ∙ append_assoc xs ys (drop e s)) ∙ drop-append_seam xs (ys ++ drop e s) in (
      record { is = rw d (p.is ∙ append_assoc xs ys (drop e s)); end = refl },
      record { is = d; end = omega (arith, simp length-append at p.end) },
    )

-- the same places, named otherwise
pub lies_from : {s : List ℕ} {a b e : ℕ} {xs : List ℕ} → a ≡ b → Lies s a xs e → Lies s b xs e
lies_from {s} {a} {b} {e} {xs} p l = rw p at l

pub lies_to : {s : List ℕ} {a d e : ℕ} {xs : List ℕ} → d ≡ e → Lies s a xs d → Lies s a xs e
lies_to {s} {a} {d} {e} {xs} p l = rw p at l

pub lies_byte : (s : List ℕ) (a v : ℕ) → a < length s → get_or s a 0 ≡ v → Lies s a (v ∷ []) (a + 1)
lies_byte s a v h p = record { is = rw (add-one, ← p) (drop-cons s a 0 h); end = refl }

-- what lies in a list lies inside it
pub lies_inside : (s : List ℕ) (a e : ℕ) (xs : List ℕ) → 0 < length xs → Lies s a xs e → e ≤ length s
lies_inside s a e xs h l =
    let n : length (drop a s) ≡ length xs + length (drop e s) = ap length l.is ∙ length-append xs (drop e s) in
    omega (arith, length-drop a s, length-drop e s, l.end)

-- the first of what lies there
pub lies_first : (s : List ℕ) (a v : ℕ) (ys : List ℕ) (e : ℕ) → Lies s a (v ∷ ys) e → (a < length s) × (get_or s a 0 ≡ v) × Lies s (a + 1) ys e
lies_first s a v ys e l =
    let m = lies_split s a e (v ∷ []) ys l in
    let h : a < length s = omega (arith, lies_inside s a (a + 1) (v ∷ []) (omega arith) m.0) in
    let c = drop-cons s a 0 h in
    let d : drop a s ≡ v ∷ drop (a + 1) s = m.0.is in
    (h, cc, m.1)

-- the part that lies there
pub lies_part : (s : List ℕ) (a e : ℕ) (xs : List ℕ) → Lies s a xs e → part a e s ≡ xs
unfolding part
lies_part s a e xs l =
    let n : e - a ≡ length xs = omega (arith, l.end) in
    rw (n, l.is) (take-append_seam xs (drop e s))

pub part_lies : (s : List ℕ) (a e : ℕ) → a ≤ e → e ≤ length s → Lies s a (part a e s) e
unfolding part
part_lies s a e h k =
    let z : a + (e - a) ≡ e = omega arith in
    let d : drop (e - a) (drop a s) ≡ drop e s = drop-drop (e - a) a s ∙ ap (λ (n : ℕ). drop n s) z in
    record {
      is = sym (take-append-drop (e - a) (drop a s)) ∙ ap (λ (l : List ℕ). take (e - a) (drop a s) ++ l) d;
      end = omega (arith, length-take-le (e - a) (drop a s) (omega (arith, length-drop a s)));
    }

-- ---- numbers
low : (a b : ℕ) → a < 256 → (a + 256 * b) % 256 ≡ a
low a b h = omega arith

high : (a b : ℕ) → a < 256 → (a + 256 * b) / 256 ≡ b
high a b h = omega arith

-- w bytes are the number that they say
pub lies_le : (w : ℕ) (s : List ℕ) (a : ℕ) → Bytes s → a + w ≤ length s → Lies s a (le w (le_at w s a)) (a + w)
unfolding le le_at
lies_le zero s a b h = lies_to (omega arith) (lies_none s a)
lies_le (suc w) s a b h =
    let x = get_or s a 0 in
    let y = le_at w s (a + 1) in
    let p = low (get_or s a 0) (le_at w s (a + 1)) (b a) in
    let q = high (get_or s a 0) (le_at w s (a + 1)) (b a) in
    let z : a + 1 + w ≡ a + suc w = omega arith in
    rw (p, q) (lies_append (lies_byte s a (get_or s a 0) (omega arith) refl) (lies_to z (lies_le w s (a + 1) b (omega arith))))

pub le_at-lt : (w : ℕ) (s : List ℕ) (a : ℕ) → Bytes s → le_at w s a < 256 ^ w
unfolding le_at
le_at-lt zero s a b = omega arith
le_at-lt (suc w) s a b = omega (arith, pow-succ' 256 w, b a, le_at-lt w s (a + 1) b)

-- and a number's bytes are read back
pub le_read : (w : ℕ) (s : List ℕ) (a v e : ℕ) → v < 256 ^ w → Lies s a (le w v) e → le_at w s a ≡ v
unfolding le le_at
le_read zero s a v e h l = omega arith
le_read (suc w) s a v e h l =
    let f = lies_first s a (v % 256) (le w (v / 256)) e l in
    omega (arith, f.1, le_read w s (a + 1) (v / 256) e (omega (arith, pow-succ' 256 w)) f.2)
