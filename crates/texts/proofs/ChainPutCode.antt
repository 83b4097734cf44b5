-- A record put: it is written, and linked where a chain can hold it. Assumes nothing.
use mathlib.Core.Path.{◌≡◌, sym, ◌∙◌}
use mathlib.Core.List.{List}
use Prim.Native.Nat.{ℕ, ◌+◌, ◌*◌, ◌<◌, ◌≤◌}
use native.Mathlib.Omega.{arith}
use borrow.Author.Rules.{rules}
use lib.ListN.{length}
use Rattle.texts.specs.Hash.{bucket_of}
use Rattle.texts.specs.Fields.{Chained, Linked, RecordWritten}
use Rattle.texts.specs.Table.{linked, RecordPut}
use Rattle.texts.proofs.HashLaws.{bucket_small}
use Rattle.texts.proofs.ChainCode.{kept-all, chained_same, chained_more}
use Rattle.texts.proofs.TableStays.{linked-le}
use Rattle.texts.proofs.TableFindCode.{linked-few, linked-many}

linked-more : (k : ℕ) → k < 4294967295 → linked (k + 1) ≡ k + 1
unfolding linked
linked-more k h = omega arith

module _ (w : List ℕ) (b n k x h c : ℕ) (room : b + 24 * k + 24 ≤ length w) (wide : b + 24 * n ≤ length w) (some : 0 < n) (ch : Chained w b n (linked k)) (w1 : List ℕ) (a : RecordWritten w b k x h c w1) where
  pub room_again : b + 24 * k + 24 ≤ length w1
  room_again = rw a.long room

  pub wide_again : b + 24 * n ≤ length w1
  wide_again = rw a.long wide

  chained_still : Chained w1 b n (linked k)
  chained_still =
      let l = linked-le k in
      chained_same w w1 b n (linked k) (λ i y. a.hashes i (λ e. omega arith)) (λ i y. a.links i) (λ y z. a.heads y) ch

  pub record_linked : h < 4294967296 → k < 4294967295 → (w2 : List ℕ) → Linked w1 b n k (bucket_of h n) w2 → RecordPut w b n k x h c w2
  record_linked f l w2 q =
      let c1 : Chained w1 b n k = rw (linked-few k l) at chained_still in
      let c2 = chained_more w1 w2 b n k h c1 (sym a.hash) (bucket_small h n f some) q in
      record { between = w1; written = a; kept = q.kept; chained = rw (linked-more k l) c2 }

  pub record_apart : 4294967295 ≤ k → RecordPut w b n k x h c w1
  record_apart l =
      let e : linked (k + 1) ≡ linked k = linked-many (k + 1) (omega arith) ∙ sym (linked-many k l) in
      record { between = w1; written = a; kept = kept-all w1 b (k + 1) n; chained = rw e chained_still }

pub ruleset recording = (rules, room_again, wide_again, record_linked, record_apart)
