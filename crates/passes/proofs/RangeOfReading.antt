-- What reading a tape can refuse with: 2, 3 and 4. Assumes nothing.
use mathlib.Core.Bool.{Bool, true, false, cond, not, ◌&&◌}
use mathlib.Core.List.{List, [], ◌∷◌, ◌++◌}
use mathlib.Core.Option.{Option, none, some}
use Prim.Native.Nat.{ℕ, zero, suc, ◌+◌, ◌-◌, ◌≤◌}
use native.Mathlib.Omega.{arith}
use lib.Dec.{leb, ltb, eqb}
use lib.ListN.{length}
use Rattle.octets.specs.Plain.Numbers.{le_at}
use Rattle.octets.specs.Plain.Runs.{part}
use Rattle.parse_tree.specs.Plain.Tree.{Text, Sym, Item}
use Rattle.parse_tree.specs.Plain.Texts.{has}
use Rattle.parse_tree.specs.Plain.Reading.{Reading, got, refused, then, times}
use Rattle.parse_tree.specs.Plain.ReadTape.{Inner, alone, one, several, Command, byte_at, span_at, asked, command_at, inner_at, symbol_from, symbol_at, argument_at, attribute_at, condition_at, alternative_at, item_at, items_at, atoms_at, read_tape}
use Rattle.parse_tree.specs.declared.syntax.Span.{Span}

-- ---- reading the tape: 2, 3 and 4
abbrev pub Numbered : {A : Type 0} → Reading A → Type 0
Numbered (got x e) = Unit {0}
Numbered (refused n p) = (2 ≤ n) × (n ≤ 4)

pub record Reads {A : Type 0} (r : Reading A) : Type 0 where
  pub numbered : Numbered r

got_reads : {A : Type 0} {x : A} {e : ℕ} → Reads (got x e)
got_reads = record { numbered = tt }

refused_reads : {A : Type 0} (n p : ℕ) → 2 ≤ n → n ≤ 4 → Reads {A = A} (refused n p)
refused_reads n p low high = record { numbered = (low, high) }

then-reads : {A B : Type 0} {r : Reading A} {f : A → ℕ → Reading B} → Reads r → ((a : A) (e : ℕ) → Reads (f a e)) → Reads (then r f)
unfolding then
then-reads {r = got x e} b k = k x e
then-reads {r = refused n p} b k = record { numbered = b.numbered }

cond_reads : {A : Type 0} (b : Bool) {x y : Reading A} → Reads x → Reads y → Reads (cond b x y)
cond_reads true p q = p
cond_reads false p q = q

times-reads : {A : Type 0} {f : ℕ → Reading A} (n at : ℕ) → ((p : ℕ) → Reads (f p)) → Reads (times f n at)
unfolding times
times-reads zero at k = got_reads
times-reads (suc n) at k = then-reads (k at) (λ x e. then-reads (times-reads n e k) (λ xs e'. got_reads))

module _ (four : Bool) (w : ℕ) (s : List ℕ) where
  asked_reads : {A : Type 0} (at n : ℕ) (good suits : Bool) {r : Reading A} → Reads r → Reads (asked four w s at n good suits r)
  unfolding asked
  asked_reads at n good suits b =
      cond_reads (ltb (length s - at) n) (refused_reads 2 at (omega arith) (omega arith))
      (cond_reads good (cond_reads (cond four suits true) b (refused_reads 4 at (omega arith) (omega arith))) (refused_reads 3 at (omega arith) (omega arith)))

  -- a command that may stand there, or a 2
  module _ (at code : ℕ) where
    abbrev is_code : Bool
    is_code = eqb (byte_at four w s at) code

    only_reads : {A : Type 0} {r : Reading A} → Reads r → Reads (cond is_code r (refused 2 at))
    only_reads b = cond_reads is_code b (refused_reads 2 at (omega arith) (omega arith))

  module _ (ts : List Text) where
    inner-reads : (inside : ℕ → Reading Sym) (sp : Span) (e : ℕ) (i : Inner) → ((p : ℕ) → Reads (inside p)) → Reads (inner_at four w s ts inside sp e i)
    inner-reads inside sp e (alone l) k = got_reads
    inner-reads inside sp e (one a) k = then-reads (k e) (λ x f. got_reads)
    inner-reads inside sp e (several o n) k = then-reads (times-reads n e k) (λ xs f. got_reads)

    from_reads : (inside : ℕ → Reading Sym) (left at : ℕ) (o : Option Command) → ((p : ℕ) → Reads (inside p)) → Reads (symbol_from four w s ts inside left at o)
    from_reads inside left at none k = refused_reads 2 at (omega arith) (omega arith)
    from_reads inside left at (some c) k = asked_reads at _ _ _ (inner-reads inside (span_at four w s (at + 1)) (at + c.size) c.inner k)

    symbol_reads : (left at : ℕ) → Reads (symbol_at four w s ts left at)
    unfolding symbol_at
    symbol_reads zero at = from_reads (λ p. refused 3 p) zero at (command_at four w s ts at) (λ p. refused_reads 3 p (omega arith) (omega arith))
    symbol_reads (suc left) at = from_reads (symbol_at four w s ts left) (suc left) at (command_at four w s ts at) (symbol_reads left)

    argument-reads : (at : ℕ) → Reads (argument_at four w s ts at)
    unfolding argument_at
    argument-reads at = only_reads at 0x11 (asked_reads at _ _ _ got_reads)

    attribute_reads : (at : ℕ) → Reads (attribute_at four w s ts at)
    unfolding attribute_at
    attribute_reads at = only_reads at 0x13 (asked_reads at _ _ _ got_reads)

    condition_reads : (at : ℕ) → Reads (condition_at four w s ts at)
    unfolding condition_at
    condition_reads at = only_reads at 0x14 (asked_reads at _ _ _ got_reads)

    alternative_reads : (at : ℕ) → Reads (alternative_at four w s ts at)
    unfolding alternative_at
    alternative_reads at =
        only_reads at 0x12
        (asked_reads at _ _ _
        (then-reads (times-reads _ _ attribute_reads) (λ attributes e.
        then-reads (times-reads _ e condition_reads) (λ conditions f.
        then-reads (times-reads _ f (symbol_reads 64)) (λ symbols g. got_reads)))))

    item_reads : (at : ℕ) → Reads (item_at four w s ts at)
    unfolding item_at
    item_reads at =
        cond_reads (is_code at 0x10)
        (asked_reads at _ _ _ (then-reads (times-reads _ _ argument-reads) (λ args e. then-reads (times-reads _ e alternative_reads) (λ alternatives f. got_reads))))
        (cond_reads (is_code at 0x30) (asked_reads at _ _ _ got_reads) (only_reads at 0x31 (asked_reads at _ _ _ got_reads)))

    items_reads : (n at : ℕ) → Reads (items_at four w s ts n at)
    unfolding items_at
    items_reads zero at = got_reads
    items_reads (suc n) at = go (leb (length s) at) (λ e. items_reads n e)
      where
        go : (b : Bool) → ((e : ℕ) → Reads (items_at four w s ts n e))
            → Reads {A = List Item} (elim b [ true ↦ got [] at | false ↦ then (item_at four w s ts at) (λ i e. then (items_at four w s ts n e) (λ is f. got (i ∷ is) f)) ])
        go true k = got_reads
        go false k = then-reads (item_reads at) (λ i e. then-reads (k e) (λ is f. got_reads))

  atoms_reads : (n : ℕ) (ts : List Text) (at : ℕ) → Reads (atoms_at four w s n ts at)
  unfolding atoms_at
  atoms_reads zero ts at = got_reads
  atoms_reads (suc n) ts at =
      let k : ℕ = le_at 2 s (at + 1) in
      let t : Text = part (at + 3) (at + 3 + k) s in
      go (is_code at 0x01 && not (ltb (length s - at) (3 + k))) (has t ts) (ts ++ (t ∷ [])) (at + 3 + k) (λ us p. atoms_reads n us p)
    where
      go : (b c : Bool) (us : List Text) (p : ℕ) → ((us : List Text) (p : ℕ) → Reads (atoms_at four w s n us p))
          → Reads {A = List Text} (elim b [ true ↦ elim c [ true ↦ refused 3 at | false ↦ atoms_at four w s n us p ] | false ↦ got ts at ])
      go true true us p k = refused_reads 3 at (omega arith) (omega arith)
      go true false us p k = k us p
      go false c us p k = got_reads

  pub tape_reads : Reads (read_tape four w s)
  unfolding read_tape
  tape_reads = then-reads (atoms_reads (length s) [] 0) (λ ts at. then-reads (items_reads ts (length s) at) (λ is e. got_reads))
