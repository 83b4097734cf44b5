-- The ways out of put_head and put_atom_text. Assumes nothing.
use mathlib.Core.Path.{◌≡◌, sym, ap, ◌∙◌}
use mathlib.Core.List.{List, ◌∷◌, ◌++◌}
use Prim.Native.Nat.{ℕ, ◌+◌, ◌-◌}
use native.Mathlib.Omega.{arith}
use borrow.Author.Rules.{rules}
use lib.ListN.{length, length-append}
use Rattle.octets.specs.Plain.Numbers.{le}
use Rattle.octets.specs.Working.Stores.{store}
use Rattle.octets.proofs.NumbersLaws.{length-le}
use Rattle.parse_tree.specs.Plain.Tree.{Text}
use Rattle.parse_tree.specs.Working.Nodes.{node_bytes}
use Rattle.parse_tree.specs.Working.Encode.{atom_bytes}
use Rattle.precedence.specs.Write.{Puts}
use Rattle.expander.specs.Ground.{printed_at}
use Rattle.settling.specs.declared.copied.Print.{Print}
use Rattle.settling.specs.Copied.{Copying, SaidSymbol}
use Rattle.settling.specs.Atom.{AtomReady}
use Rattle.settling.proofs.PutLaws.{then, puts_as}
use Rattle.settling.proofs.CopiedStays.{copying_next, copied_print, symbol_said}

-- ---- put_head
pub head_long : (len : ℕ) → length (1 ∷ le 2 len) ≡ 3
head_long len = omega (arith, length-le 2 len)

-- ---- put_atom_text

-- the bytes of an atom of len bytes
atom_is : (t : Text) (len : ℕ) → length t ≡ len → (1 ∷ le 2 len) ++ t ≡ atom_bytes 2 t
unfolding atom_bytes node_bytes
atom_is t len e = ap (λ (n : ℕ). (1 ∷ le 2 n) ++ t) (sym e)

module _ (s w : List ℕ) (x : Print) (p len : ℕ) (R : AtomReady s w x p len) where
  abbrev to : ℕ
  to = x.lim - (len + 3)

  module _ (q : ℕ) (w1 : List ℕ) (P : Puts w x.lim (x.lim - (len + 3)) (1 ∷ le 2 len) q w1) where
    pub atom_copying : Copying s w1 x q
    atom_copying = copying_next s w x to R.copying (1 ∷ le 2 len) q w1 P

    pub atom_symbol : SaidSymbol s w1 x 64 p
    atom_symbol = symbol_said s w x to R.copying (1 ∷ le 2 len) q w1 P 64 p R.symbol

    -- the command and the printed form
    pub atom_put : (r : ℕ) (w2 : List ℕ) → Puts w1 x.lim q (printed_at s w1 x.g p) r w2 → w2 ≡ store w (x.lim - (len + 3)) (atom_bytes 2 (printed_at s w x.g p))
    atom_put r w2 a =
        let z = copied_print s w x to R.copying (1 ∷ le 2 len) q w1 P p in
        let b : Puts w x.lim to ((1 ∷ le 2 len) ++ printed_at s w x.g p) r w2 = puts_as (ap (λ (t : Text). (1 ∷ le 2 len) ++ t) z) (then P a) in
        let n = length-append (1 ∷ le 2 len) (printed_at s w x.g p) in
        let l = length-le 2 len in
        b.whole (omega (arith, n, l, R.is, R.room)) ∙ ap (store w to) (atom_is (printed_at s w x.g p) len (sym R.is))

pub ruleset atoming = (rules, atom_copying, atom_symbol, atom_put)
