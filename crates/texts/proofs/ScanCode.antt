-- The loop of `scan`. Assumes nothing.
use mathlib.Core.Path.{◌≡◌, ap}
use mathlib.Core.List.{List}
use Prim.Native.Nat.{ℕ, ◌+◌, ◌-◌, ◌<◌, ◌≤◌}
use native.Mathlib.Omega.{arith}
use borrow.Author.Rules.{rules}
use lib.ListN.{length, get_or}
use lib.Seq.{take_all}
use Rattle.octets.specs.Plain.Runs.{part}
use Rattle.octets.proofs.PartLaws.{part_none, part-one}
use Rattle.texts.specs.Classes.{byte_class, least, class_number}
use Rattle.texts.specs.declared.class.TextClass.{TextClass}
use Rattle.std.specs.Ordering.{ord_min}
use Rattle.texts.specs.contracts.class.TextClassOrd.TheImpl.{cmp-value}
use Rattle.texts.proofs.TextClassLaws.{lesser_number}
use Rattle.texts.specs.Hash.{hash_step, hash_from, hash_of}
use Rattle.texts.proofs.HashLaws.{from_none, from_more}
use Rattle.texts.specs.Scan.{Scans}

pub record Scanning (t : List ℕ) (h : ℕ) (m : TextClass) (i : ℕ) : Type 0 where
  pub hash : hash_from h (part i (length t) t) ≡ hash_of t
  pub class : least (class_number m) (part i (length t) t) ≡ least 3 t
  pub upto : i ≤ length t

pub scan_start : (t : List ℕ) → Scanning t 0 TextClass.Name 0
unfolding hash_of part class_number
scan_start t =
    let z = take_all (length t - 0) t (omega arith) in
    record { hash = ap (hash_from 0) z; class = ap (least 3) z; upto = omega arith }

module _ (t : List ℕ) (h : ℕ) (m : TextClass) (i : ℕ) (g : Scanning t h m i) where
  pub scan_next : (b r : ℕ) (k c : TextClass) → i < length t → b ≡ get_or t i 0 → r ≡ hash_step h b → class_number k ≡ byte_class b → c ≡ ord_min (cmp-value).it m k → Scanning t r c (i + 1)
  unfolding least
  scan_next b r k c l f p q o = record {
    hash = cc (part-one i (length t) t l (omega arith), from_more h (get_or t i 0) (part (i + 1) (length t) t), g.hash);
    class = cc (part-one i (length t) t l (omega arith), lesser_number m k c o, g.class);
    upto = omega arith;
  }

  pub scan_done : length t ≤ i → Scans t h (class_number m)
  unfolding least
  scan_done l = record { hash = cc (part_none i (length t) t l, from_none h, g.hash); class = cc (part_none i (length t) t l, g.class) }

pub ruleset scanning = (rules, scan_start, scan_next, scan_done)
