-- New texts that are among others weigh no more than these. Assumes nothing.
use mathlib.Core.Path.{◌≡◌, refl, sym, ap, ◌∙◌}
use mathlib.Core.Bool.{Bool, true, false, false≢true}
use mathlib.Core.Logic.{◌⊎◌, inl, inr}
use mathlib.Core.List.{List, [], ◌∷◌, ◌++◌, append_assoc, append-nil, append_cancel_left}
use Prim.Native.Nat.{ℕ, ◌+◌, ◌*◌, ◌≤◌}
use native.Mathlib.Omega.{arith}
use lib.ListN.{length, length-append}
use Rattle.octets.specs.Plain.Runs.{same_as}
use Rattle.octets.proofs.SameLaws.{same_as-eq}
use Rattle.parse_tree.specs.Plain.Tree.{Text}
use Rattle.parse_tree.specs.Plain.Texts.{has, with_new}
use Rattle.parse_tree.specs.Plain.WriteTape.{bytes_of_each}
use Rattle.parse_tree.specs.Working.Encode.{atom_bytes}
use Rattle.parse_tree.specs.Working.Within.{Each}
use Rattle.parse_tree.proofs.ReadBack.{atom_size}
use Rattle.parse_tree.proofs.AmongLaws.{has_here, has-later, has-cases, has-before, has-behind}
use Rattle.rounds.specs.Paid.{weigh, cost24, cost20, Known}

-- ---- a text among others, its first copy taken away
unfoldable without : Text → List Text → List Text
without x [] = []
without x (z ∷ zs) = elim (same_as z x) [ true ↦ zs | false ↦ z ∷ without x zs ]

without_weighs : (f : Text → ℕ) (x : Text) (zs : List Text) → has x zs ≡ true → weigh f zs ≡ f x + weigh f (without x zs)
unfolding has without weigh
without_weighs f x [] h = absurd (false≢true h)
without_weighs f x (z ∷ zs) h = go (same_as z x) refl h (without_weighs f x zs)
  where
    go : (b : Bool) → same_as z x ≡ b → elim b [ true ↦ true | false ↦ has x zs ] ≡ true → (has x zs ≡ true → weigh f zs ≡ f x + weigh f (without x zs))
        → f z + weigh f zs ≡ f x + weigh f (elim b [ true ↦ zs | false ↦ z ∷ without x zs ])
    go true e k i = ap (λ (t : Text). f t + weigh f zs) (same_as-eq z x e)
    go false e k i = omega (arith, i k)

has_first : (y z : Text) (zs : List Text) → z ≡ y → has y (z ∷ zs) ≡ true
has_first y z zs e = rw e (has_here y zs)

without_has : (x y : Text) (zs : List Text) → has y zs ≡ true → (x ≡ y) ⊎ (has y (without x zs) ≡ true)
unfolding without has
without_has x y [] h = absurd (false≢true h)
without_has x y (z ∷ zs) h = go (same_as z x) refl (has-cases y z zs h) (without_has x y zs)
  where
    later : (x ≡ y) ⊎ (has y (without x zs) ≡ true) → (x ≡ y) ⊎ (has y (z ∷ without x zs) ≡ true)
    later (inl e) = inl e
    later (inr k) = inr (has-later y z (without x zs) k)

    go : (b : Bool) → same_as z x ≡ b → (z ≡ y) ⊎ (has y zs ≡ true) → (has y zs ≡ true → (x ≡ y) ⊎ (has y (without x zs) ≡ true))
        → (x ≡ y) ⊎ (has y (elim b [ true ↦ zs | false ↦ z ∷ without x zs ]) ≡ true)
    go true e (inl k) i = inl (sym (same_as-eq z x e) ∙ k)
    go true e (inr k) i = inr k
    go false e (inl k) i = inr (has_first y z (without x zs) k)
    go false e (inr k) i = later (i k)

-- ---- the texts that are new
unfoldable added : List Text → List Text → List Text
added ts [] = []
added ts (y ∷ ys) = elim (has y ts) [ true ↦ added ts ys | false ↦ y ∷ added (ts ++ (y ∷ [])) ys ]

added_is : (ts ys : List Text) → with_new ts ys ≡ ts ++ added ts ys
unfolding with_new added
added_is ts [] = sym (append-nil ts)
added_is ts (y ∷ ys) = go (has y ts) (added_is ts ys) (added_is (ts ++ (y ∷ [])) ys)
  where
    go : (b : Bool) → with_new ts ys ≡ ts ++ added ts ys → with_new (ts ++ (y ∷ [])) ys ≡ (ts ++ (y ∷ [])) ++ added (ts ++ (y ∷ [])) ys
        → ◌≡◌ {A = List Text} (elim b [ true ↦ with_new ts ys | false ↦ with_new (ts ++ (y ∷ [])) ys ]) (ts ++ (elim b [ true ↦ added ts ys | false ↦ y ∷ added (ts ++ (y ∷ [])) ys ]))
    go true i j = i
    go false i j = j ∙ append_assoc ts (y ∷ []) (added (ts ++ (y ∷ [])) ys)

-- what was known before a text y, or is that text, is known where it is one of ts
known_more : (ts zs : List Text) (y : Text) (ys : List Text) → Each (Known ts zs) ys → Each (Known (ts ++ (y ∷ [])) (without y zs)) ys
known_more ts zs y [] h = tt
known_more ts zs y (x ∷ ys) h = (go h.0, known_more ts zs y ys h.1)
  where
    other : (y ≡ x) ⊎ (has x (without y zs) ≡ true) → Known (ts ++ (y ∷ [])) (without y zs) x
    other (inl e) = inl (has-behind x ts (y ∷ []) (has_first x y [] e))
    other (inr k) = inr k

    go : Known ts zs x → Known (ts ++ (y ∷ [])) (without y zs) x
    go (inl k) = inl (has-before x ts (y ∷ []) k)
    go (inr k) = other (without_has y x zs k)

added_weighs : (f : Text → ℕ) (ts ys zs : List Text) → Each (Known ts zs) ys → weigh f (added ts ys) ≤ weigh f zs
unfolding weigh added
added_weighs f ts [] zs h = omega arith
added_weighs f ts (y ∷ ys) zs h = go (has y ts) refl h.0 (added_weighs f ts ys zs h.1) (added_weighs f (ts ++ (y ∷ [])) ys (without y zs) (known_more ts zs y ys h.1))
  where
    go : (b : Bool) → has y ts ≡ b → Known ts zs y → weigh f (added ts ys) ≤ weigh f zs → weigh f (added (ts ++ (y ∷ [])) ys) ≤ weigh f (without y zs)
        → weigh f (elim b [ true ↦ added ts ys | false ↦ y ∷ added (ts ++ (y ∷ [])) ys ]) ≤ weigh f zs
    go true e k i j = i
    go false e (inl k) i j = absurd (false≢true (sym e ∙ k))
    go false e (inr k) i j = omega (arith, j, without_weighs f y zs k)

-- theorem: each of ys is among ts or zs, those that are new are us
pub new_weighs : (f : Text → ℕ) (ts ys zs us : List Text) → Each (Known ts zs) ys → with_new ts ys ≡ ts ++ us → weigh f us ≤ weigh f zs
new_weighs f ts ys zs us h e =
    let q : added ts ys ≡ us = append_cancel_left ts (added ts ys) us (sym (added_is ts ys) ∙ e) in
    rw (← q) (added_weighs f ts ys zs h)

-- ---- texts against the bytes of their commands
-- theorem
pub records_24 : (us : List Text) → 24 * length us ≤ weigh cost24 us + 4 * length (bytes_of_each (atom_bytes 2) us)
unfolding weigh bytes_of_each
records_24 [] = omega arith
records_24 (t ∷ us) = omega (arith, records_24 us, atom_size 2 t, length-append (atom_bytes 2 t) (bytes_of_each (atom_bytes 2) us))

-- theorem
pub records_20 : (us : List Text) → 20 * length us ≤ weigh cost20 us + length (bytes_of_each (atom_bytes 2) us)
unfolding weigh bytes_of_each
records_20 [] = omega arith
records_20 (t ∷ us) = omega (arith, records_20 us, atom_size 2 t, length-append (atom_bytes 2 t) (bytes_of_each (atom_bytes 2) us))

-- three bytes for each command
texts-three : (us : List Text) → 3 * length us ≤ length (bytes_of_each (atom_bytes 2) us)
unfolding bytes_of_each
texts-three [] = omega arith
texts-three (t ∷ us) = omega (arith, texts-three us, atom_size 2 t, length-append (atom_bytes 2 t) (bytes_of_each (atom_bytes 2) us))

-- theorem: and one more where a text has a byte
pub texts-leave : (us : List Text) (t : Text) → has t us ≡ true → 1 ≤ length t → 3 * length us + 1 ≤ length (bytes_of_each (atom_bytes 2) us)
unfolding bytes_of_each has
texts-leave [] t h l = absurd (false≢true h)
texts-leave (u ∷ us) t h l = go (has-cases t u us h) (texts-leave us t)
  where
    size : length (bytes_of_each (atom_bytes 2) (u ∷ us)) ≡ 3 + length u + length (bytes_of_each (atom_bytes 2) us)
    size = omega (arith, atom_size 2 u, length-append (atom_bytes 2 u) (bytes_of_each (atom_bytes 2) us))

    go : (u ≡ t) ⊎ (has t us ≡ true) → (has t us ≡ true → 1 ≤ length t → 3 * length us + 1 ≤ length (bytes_of_each (atom_bytes 2) us)) → 3 * length (u ∷ us) + 1 ≤ length (bytes_of_each (atom_bytes 2) (u ∷ us))
    go (inl e) r = omega (arith, size, l, ap (λ (v : Text). length v) e, texts-three us)
    go (inr k) r = omega (arith, size, r k l)
