-- Forms of texts: a form goes on byte by byte. Assumes nothing.
use mathlib.Core.Path.{◌≡◌, refl, sym, ap, subst, ◌∙◌}
use mathlib.Core.Bool.{Bool, true, false}
use mathlib.Core.List.{List, [], ◌∷◌, ◌++◌, append_assoc, append-nil}
use Prim.Native.Nat.{ℕ, suc, ◌+◌, ◌*◌, ◌%◌, ◌<◌, ◌≤◌, min}
use native.Mathlib.Nat.{mod-lt}
use borrow.Author.Tests.{ltb-true, ltb-false}
use lib.Dec.{ltb}
use Rattle.std.proofs.Math.Bridge.{le_prop}
use Rattle.octets.specs.Working.Choice.{pick}
use native.Mathlib.Omega.{arith}
use lib.ListN.{length, length-append}
use Rattle.parse_tree.specs.Plain.Tree.{Text}
use Rattle.texts.specs.declared.Map.{Map}
use Rattle.texts.specs.Table.{Table}
use Rattle.texts.specs.Hash.{hash_by, hash_step, hash_from, hash_of, power_by, power}
use Rattle.texts.specs.Forms.{stop, more}
use Rattle.texts.specs.Forms.{Form as Parts, form_of as parts_of}
use Rattle.texts.proofs.FormLaws.{mod_factor, mod_factor_right, hash_from-small, hash_from-is, form_more}
use Rattle.texts.proofs.HashComposes.{hash_snoc}
use Rattle.display.specs.declared.form.Form.{Form}
use Rattle.display.specs.Form.{text_form, join_of, Hashed, more_of, form_from, From}

-- theorem: forms with the same numbers are the same
pub same_form : {f g : Form} → f.hash ≡ g.hash → f.power ≡ g.power → f.len ≡ g.len → f ≡ g
same_form {f} {g} a b c = rw (← a, ← b) (by_len g.len c g.short)
  where
    by_len : (l : ℕ) → f.len ≡ l → (s : l ≤ 65536) → f ≡ record { hash = f.hash; power = f.power; len = l; short = s }
    by_len l e =
        subst (λ (k : ℕ). (s : k ≤ 65536) → f ≡ record { hash = f.hash; power = f.power; len = k; short = s }) e
        (λ s. ap (λ (z : f.len ≤ 65536). record { hash = f.hash; power = f.power; len = f.len; short = z }) (le_prop f.short s))

-- ---- a byte more
power-snoc : (t : Text) (b : ℕ) → power (length (t ++ (b ∷ []))) ≡ power (length t) * 2654435761 % 4294967296
unfolding power power_by
power-snoc t b = let n : length (t ++ (b ∷ [])) ≡ suc (length t) = omega (arith, length-append t (b ∷ [])) in rw n refl

stop-snoc : (t : Text) (b : ℕ) → stop (length (t ++ (b ∷ []))) ≡ stop (stop (length t) + 1)
unfolding parts_of more
stop-snoc t b = ap (λ (x : Parts). x.len) (form_more 2654435761 t b)

pub form_snoc : (t : Text) (b : ℕ) → text_form (t ++ (b ∷ [])) ≡ more_of (text_form t) b
unfolding text_form more_of
form_snoc t b = same_form (hash_snoc t b) (power-snoc t b) (stop-snoc t b)

-- theorem: the form of a text goes on to that of a longer one
pub from_form : (t u : Text) → form_from (text_form t) u ≡ text_form (t ++ u)
unfolding form_from
from_form t [] = ap text_form (sym (append-nil t))
from_form t (b ∷ bs) = ap (λ (f : Form). form_from f bs) (sym (form_snoc t b)) ∙ from_form (t ++ (b ∷ [])) bs ∙ ap text_form (append_assoc t (b ∷ []) bs)

pub from-append : (f : Form) (t u : Text) → form_from f (t ++ u) ≡ form_from (form_from f t) u
unfolding form_from
from-append f [] u = refl
from-append f (b ∷ bs) u = from-append (more_of f b) bs u

-- ---- From
pub from_none : (f : Form) → From f [] f
unfolding form_from
from_none f = record { is = refl }

pub from_then : {f g r : Form} {t u : Text} → From f t g → From g u r → From f (t ++ u) r
from_then {f} {g} {r} {t} {u} a b = record { is = b.is ∙ ap (λ (x : Form). form_from x u) a.is ∙ sym (from-append f t u) }

pub from_as : {f r : Form} {t u : Text} → t ≡ u → From f t r → From f u r
from_as {f} {r} {t} {u} e a = rw e at a

-- ---- what a text more does to a form
from_hash : (f : Form) (t : Text) → (form_from f t).hash ≡ hash_by 2654435761 f.hash t
unfolding form_from more_of hash_step hash_by
from_hash f [] = refl
from_hash f (b ∷ bs) = from_hash (more_of f b) bs

turn : (p q : ℕ) → p * 2654435761 % 4294967296 * q % 4294967296 ≡ p * (q * 2654435761 % 4294967296) % 4294967296
turn p q =
    let z : p * 2654435761 * q ≡ p * (q * 2654435761) = omega arith in
    mod_factor (p * 2654435761) q ∙ ap (λ (x : ℕ). x % 4294967296) z ∙ sym (mod_factor_right p (q * 2654435761))

from_power : (f : Form) (t : Text) → f.power < 4294967296 → (form_from f t).power ≡ f.power * power (length t) % 4294967296
unfolding form_from more_of power power_by
from_power f [] l = omega arith
from_power f (b ∷ bs) l = from_power (more_of f b) bs (mod-lt (f.power * 2654435761) (omega arith)) ∙ turn f.power (power (length bs))

stop_least : (n : ℕ) → stop n ≡ min n 65536
unfolding stop pick
stop_least n = go (ltb n 65536) refl
  where
    go : (c : Bool) → ltb n 65536 ≡ c → stop n ≡ min n 65536
    go true z = let l = ltb-true n 65536 z in rw z (omega arith)
    go false z = let l = ltb-false n 65536 z in rw z (omega arith)

from_len : (f : Form) (t : Text) → (form_from f t).len ≡ stop (f.len + stop (length t))
unfolding form_from more_of
from_len f [] = omega (arith, f.short, stop_least 0, stop_least (f.len + stop 0))
from_len f (b ∷ bs) =
    let n = length bs in
    from_len (more_of f b) bs ∙ omega (arith, stop_least (f.len + 1), stop_least n, stop_least (suc n), stop_least (stop (f.len + 1) + stop n), stop_least (f.len + stop (suc n)))

-- its hash and power have 32 bits, as the code's have
pub record Narrow (f : Form) : Type 0 where
  pub hash : f.hash < 4294967296
  pub power : f.power < 4294967296

pub from_narrow : (f r : Form) (t : Text) → Narrow f → From f t r → Narrow r
from_narrow f r t n a = record {
  hash = rw (a.is, from_hash f t) (hash_from-small 2654435761 f.hash t n.hash);
  power = rw (a.is, from_power f t n.power) (mod-lt (f.power * power (length t)) (omega arith));
}

pub join_narrow : (x y r : Form) → r ≡ join_of x y → Narrow r
unfolding join_of
join_narrow x y r e = record { hash = rw e (mod-lt (x.hash * y.power + y.hash) (omega arith)); power = rw e (mod-lt (x.power * y.power) (omega arith)) }

-- theorem: so a text's form joined is the text more
pub from_join : (f : Form) (t : Text) (r : Form) → f.hash < 4294967296 → f.power < 4294967296 → r ≡ join_of f (text_form t) → From f t r
unfolding text_form join_of hash_of hash_from power
from_join f t r h p e = record { is = e ∙ sym (same_form (from_hash f t ∙ hash_from-is 2654435761 f.hash t h) (from_power f t p) (from_len f t)) }

-- ---- for callers
-- theorem: the records of a table have the hashes of their texts
pub table-hashed : (s w : List ℕ) (m : Map) → Table s w m → Hashed s w m
table-hashed s w m g = record { hashes = g.hashes }
