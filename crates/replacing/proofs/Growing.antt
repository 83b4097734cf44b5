-- Lists of texts that grow: what a list has, one that goes on from it has too, by the same number. Assumes nothing.
use mathlib.Core.Path.{◌≡◌, refl, sym, ap, ◌∙◌}
use mathlib.Core.Bool.{Bool, true, false}
use mathlib.Core.List.{List, [], ◌∷◌, ◌++◌, append_assoc, append-nil}
use Rattle.parse_tree.specs.Plain.Tree.{Text}
use Rattle.parse_tree.specs.Plain.Texts.{has, number, with_new}
use Rattle.replacing.proofs.NumbersMean.{has-append, number-before}
use Rattle.parse_tree.proofs.NothingNew.{There}

pub record Extends (ts us : List Text) : Type 0 where
  pub more : List Text
  pub is : us ≡ ts ++ more

pub extends_refl : (ts : List Text) → Extends ts ts
extends_refl ts = record { more = []; is = sym (append-nil ts) }

pub extends_trans : {ts us vs : List Text} → Extends ts us → Extends us vs → Extends ts vs
extends_trans {ts} {us} {vs} p q = record { more = p.more ++ q.more; is = q.is ∙ ap (λ (l : List Text). l ++ q.more) p.is ∙ append_assoc ts p.more q.more }

pub extends_has : (ts us : List Text) (x : Text) → Extends ts us → has x ts ≡ true → has x us ≡ true
extends_has ts us x p h = rw p.is (has-append x ts p.more ∙ rw h refl)

pub extends_number : (ts us : List Text) (x : Text) → Extends ts us → has x ts ≡ true → number us x ≡ number ts x
extends_number ts us x p h = rw p.is (number-before x ts p.more h)

pub new_extends : (ts xs : List Text) → Extends ts (with_new ts xs)
unfolding with_new
new_extends ts [] = extends_refl ts
new_extends ts (x ∷ xs) = go (has x ts) (new_extends ts xs) (new_extends (ts ++ (x ∷ [])) xs)
  where
    go : (b : Bool) → Extends ts (with_new ts xs) → Extends (ts ++ (x ∷ [])) (with_new (ts ++ (x ∷ [])) xs)
        → Extends ts (elim b [ true ↦ with_new ts xs | false ↦ with_new (ts ++ (x ∷ [])) xs ])
    go true p q = p
    go false p q = extends_trans (record { more = x ∷ []; is = refl }) q

pub new_append : (ts xs ys : List Text) → with_new ts (xs ++ ys) ≡ with_new (with_new ts xs) ys
unfolding with_new
new_append ts [] ys = refl
new_append ts (x ∷ xs) ys = go (has x ts) (new_append ts xs ys) (new_append (ts ++ (x ∷ [])) xs ys)
  where
    go : (b : Bool) → with_new ts (xs ++ ys) ≡ with_new (with_new ts xs) ys → with_new (ts ++ (x ∷ [])) (xs ++ ys) ≡ with_new (with_new (ts ++ (x ∷ [])) xs) ys
        → ◌≡◌ {A = List Text} (elim b [ true ↦ with_new ts (xs ++ ys) | false ↦ with_new (ts ++ (x ∷ [])) (xs ++ ys) ])
        (with_new (elim b [ true ↦ with_new ts xs | false ↦ with_new (ts ++ (x ∷ [])) xs ]) ys)
    go true p q = p
    go false p q = q

pub new_there : (ts us xs : List Text) → Extends ts us → There ts xs → with_new us xs ≡ us
unfolding with_new
new_there ts us [] p h = refl
new_there ts us (x ∷ xs) p h = cc (extends_has ts us x p h.0, new_there ts us xs p h.1)
