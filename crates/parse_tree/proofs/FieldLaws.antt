-- One operand of a command behind another, read and written: a byte, a number of w bytes, a span. Assumes nothing.
use mathlib.Core.Path.{◌≡◌}
use mathlib.Core.List.{List, ◌∷◌, ◌++◌}
use Prim.Native.Nat.{ℕ, ◌+◌, ◌^◌, ◌<◌, ◌≤◌}
use native.Mathlib.Omega.{arith}
use lib.ListN.{length, get_or}
use Rattle.octets.specs.Plain.Numbers.{le_at, le, Bytes}
use Rattle.octets.specs.Plain.Runs.{Lies}
use Rattle.octets.proofs.NumbersLaws.{length-le}
use Rattle.octets.proofs.LiesLaws.{lies_append, lies_split, lies_first, lies_from, lies_to, lies_byte, lies_le, le_read}
use Rattle.parse_tree.specs.Working.Nodes.{span_bytes, span_in}
use Rattle.parse_tree.specs.Working.Within.{SpanWithin}
use Rattle.parse_tree.specs.declared.syntax.Span.{Span}
use Rattle.parse_tree.proofs.SpanLaws.{length_span, span_lies, span_back}

-- ---- what is read lies there: an operand at a, and ys from m up to e, inside the tape
module _ {s : List ℕ} {e : ℕ} (b : Bytes s) (h : e ≤ length s) where
  pub byte_then : {a v : ℕ} (m : ℕ) {ys : List ℕ} → m ≡ a + 1 → get_or s a 0 ≡ v → Lies s m ys e → Lies s a (v ∷ ys) e
  byte_then {a} {v} m p q l = lies_append (lies_to (omega arith) (lies_byte s a v (omega (arith, l.end)) q)) l

  pub le_then : {a : ℕ} (w m : ℕ) {ys : List ℕ} → m ≡ a + w → Lies s m ys e → Lies s a (le w (le_at w s a) ++ ys) e
  le_then {a} w m p l = lies_append (lies_to (omega arith) (lies_le w s a b (omega (arith, l.end)))) l

  pub span_then : {a : ℕ} (m : ℕ) {ys : List ℕ} → m ≡ a + 8 → Lies s m ys e → Lies s a (span_bytes (span_in s a) ++ ys) e
  span_then {a} m p l = lies_append (lies_to (omega arith) (span_lies s a b (omega (arith, l.end))).0) l

  pub le-last : {a : ℕ} (w : ℕ) → e ≡ a + w → Lies s a (le w (le_at w s a)) e
  le-last {a} w p = lies_to (omega arith) (lies_le w s a b (omega arith))

  pub span_last : {a : ℕ} → e ≡ a + 8 → Lies s a (span_bytes (span_in s a)) e
  span_last {a} p = lies_to (omega arith) (span_lies s a b (omega arith)).0

-- ---- and what lies there is read: the operand at a, and what is left lies from m on
module _ (s : List ℕ) (e a m : ℕ) {ys : List ℕ} where
  pub byte_read : {v : ℕ} → m ≡ a + 1 → Lies s a (v ∷ ys) e → (get_or s a 0 ≡ v) × Lies s m ys e
  byte_read {v} p l = let f = lies_first s a v ys e l in (f.1, lies_from (omega arith) f.2)

  pub le-read_then : (w : ℕ) {v : ℕ} → m ≡ a + w → v < 256 ^ w → Lies s a (le w v ++ ys) e → (le_at w s a ≡ v) × Lies s m ys e
  le-read_then w {v} p h l =
      let f = lies_split s a e (le w v) ys l in
      (le_read w s a v _ h f.0, lies_from (omega (arith, length-le w v)) f.1)

  pub span_read : {sp : Span} → m ≡ a + 8 → SpanWithin sp → Lies s a (span_bytes sp ++ ys) e → (span_in s a ≡ sp) × Lies s m ys e
  span_read {sp} p h l =
      let f = lies_split s a e (span_bytes sp) ys l in
      (span_back s a _ sp h f.0, lies_from (omega (arith, length_span sp)) f.1)

-- the last operand
module _ (s : List ℕ) (e a : ℕ) where
  pub le-read_last : (w : ℕ) {v : ℕ} → v < 256 ^ w → Lies s a (le w v) e → (le_at w s a ≡ v) × (e ≡ a + w)
  le-read_last w {v} h l = (le_read w s a v e h l, omega (arith, length-le w v, l.end))
