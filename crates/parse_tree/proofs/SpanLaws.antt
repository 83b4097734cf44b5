-- A span in a tape, read and written: two numbers of four bytes. Assumes nothing.
use mathlib.Core.Path.{◌≡◌}
use mathlib.Core.List.{List}
use Prim.Native.Nat.{ℕ, ◌+◌, ◌≤◌}
use native.Mathlib.Omega.{arith}
use lib.ListN.{length, length-append}
use Rattle.octets.specs.Plain.Numbers.{le, Bytes}
use Rattle.octets.specs.Plain.Runs.{Lies}
use Rattle.octets.proofs.NumbersLaws.{length-le}
use Rattle.octets.proofs.LiesLaws.{lies_append, lies_split, lies_from, lies_to, lies_le, le_at-lt, le_read}
use Rattle.parse_tree.specs.Working.Nodes.{span_bytes, span_in}
use Rattle.parse_tree.specs.Working.Within.{SpanWithin}
use Rattle.parse_tree.specs.declared.syntax.Span.{Span}

pub length_span : (sp : Span) → length (span_bytes sp) ≡ 8
unfolding span_bytes
length_span sp = simp (length-append, length-le)

pub span_fits : (s : List ℕ) (a : ℕ) → Bytes s → SpanWithin (span_in s a)
unfolding span_in
span_fits s a b = (le_at-lt 4 s a b, le_at-lt 4 s (a + 4) b)

-- every eight bytes are a span
pub span_lies : (s : List ℕ) (a : ℕ) → Bytes s → a + 8 ≤ length s → Lies s a (span_bytes (span_in s a)) (a + 8) × SpanWithin (span_in s a)
unfolding span_bytes span_in
span_lies s a b h = (
  lies_append (lies_le 4 s a b (omega arith)) (lies_to (omega arith) (lies_le 4 s (a + 4) b (omega arith))),
  span_fits s a b,
)

-- and a span's bytes are read back
pub span_back : (s : List ℕ) (a e : ℕ) (sp : Span) → SpanWithin sp → Lies s a (span_bytes sp) e → span_in s a ≡ sp
unfolding span_bytes span_in
span_back s a e sp h l =
    let m = lies_split s a e (le 4 sp.0) (le 4 sp.1) l in
    let z : a + length (le 4 sp.0) ≡ a + 4 = rw (length-le 4 sp.0) in
    let p = le_read 4 s a sp.0 _ h.0 m.0 in
    let q = le_read 4 s (a + 4) sp.1 e h.1 (lies_from z m.1) in
    simp (p, q)
