-- How many attributes are left without the first `precedence` and the first `assoc`. Assumes nothing.
use mathlib.Core.Path.{◌≡◌, refl, sym, ap, ◌∙◌}
use mathlib.Core.Bool.{Bool, true, false, cond}
use mathlib.Core.List.{List, [], ◌∷◌}
use Prim.Native.Nat.{ℕ, suc, ◌+◌, ◌*◌}
use native.Mathlib.Omega.{arith}
use native.Mathlib.Nat.{suc-mul}
use lib.ListN.{length, length-append}
use Rattle.std.specs.Prelude.{Option, Some, None, is_some, option_map}
use Rattle.octets.specs.Plain.Runs.{same_as}
use Rattle.octets.proofs.SameLaws.{same_as-eq}
use Rattle.parse_tree.specs.Plain.Tree.{Text, Attribute}
use Rattle.parse_tree.specs.Plain.WriteTape.{bytes_of_each}
use Rattle.passes.specs.Grades.{precedence, assoc, without_first}
use Rattle.grades.specs.Annotations.{first_index}
use Rattle.precedence.specs.Write.{fewer_by}

-- items of one length
pub each_long : {A : Type 0} (f : A → List ℕ) (s : ℕ) → ((x : A) → length (f x) ≡ s) → (xs : List A) → length (bytes_of_each f xs) ≡ length xs * s
unfolding bytes_of_each
each_long f s h [] = omega arith
each_long f s h (x ∷ xs) = omega (arith, length-append (f x) (bytes_of_each f xs), h x, suc-mul (length xs) s, each_long f s h xs)

-- whether there is one of an id
unfoldable there : Text → List Attribute → Bool
there id [] = false
there id (a ∷ xs) = cond (same_as id a.id) true (there id xs)

one_if : Bool → ℕ
one_if b = cond b 1 0

there_is : (id : Text) (xs : List Attribute) → is_some (first_index id xs) ≡ there id xs
unfolding there first_index
there_is id [] = refl
there_is id (a ∷ xs) = go (same_as id a.id) (there_is id xs)
  where
    some_later : (o : Option ℕ) → is_some (option_map suc o) ≡ is_some o
    some_later None = refl
    some_later (Some i) = refl

    go : (b : Bool) → is_some (first_index id xs) ≡ there id xs → is_some (cond b (Some 0) (option_map suc (first_index id xs))) ≡ cond b true (there id xs)
    go true more = refl
    go false more = some_later (first_index id xs) ∙ more

fewer_is : (id : Text) (xs : List Attribute) (m l : ℕ) → l + one_if (there id xs) ≡ m → fewer_by m (first_index id xs) ≡ l
unfolding fewer_by one_if
fewer_is id xs m l h = go (first_index id xs) (ap (λ (b : Bool). l + cond b 1 0) (there_is id xs) ∙ h)
  where
    go : (o : Option ℕ) → l + cond (is_some o) 1 0 ≡ m → fewer_by m o ≡ l
    go None k = omega arith
    go (Some i) k = omega arith

without_long : (id : Text) (xs : List Attribute) → length (without_first id xs) + one_if (there id xs) ≡ length xs
unfolding there one_if
without_long id [] = omega arith
without_long id (a ∷ xs) = go (same_as id a.id) (without_long id xs)
  where
    go : (b : Bool) → length (without_first id xs) + cond (there id xs) 1 0 ≡ length xs → length (cond b xs (a ∷ without_first id xs)) + cond (cond b true (there id xs)) 1 0 ≡ suc (length xs)
    go true more = omega arith
    go false more = omega (arith, more)

module _ (P A : Text) (apart : P ≡ A → ⊥) where
  there_still : (xs : List Attribute) → there A (without_first P xs) ≡ there A xs
  unfolding there
  there_still [] = refl
  there_still (a ∷ xs) = go (same_as P a.id) (same_as A a.id) refl refl (there_still xs)
    where
      go : (b c : Bool) → same_as P a.id ≡ b → same_as A a.id ≡ c → there A (without_first P xs) ≡ there A xs → there A (cond b xs (a ∷ without_first P xs)) ≡ cond (same_as A a.id) true (there A xs)
      go true true y z more = absurd (apart (same_as-eq P a.id y ∙ sym (same_as-eq A a.id z)))
      go true false y z more = rw z
      go false c y z more = ap (cond (same_as A a.id) true) more

-- theorem: the count that is written is that of the attributes that are left
pub count_left : (xs : List Attribute) → fewer_by (fewer_by (length xs) (first_index precedence xs)) (first_index assoc xs) ≡ length (without_first assoc (without_first precedence xs))
count_left xs =
    let a = fewer_is precedence xs (length xs) (length (without_first precedence xs)) (without_long precedence xs) in
    let s = there_still precedence assoc (λ z. absurd (omega (arith, ap (length {A = ℕ}) z))) xs in
    let b : length (without_first assoc (without_first precedence xs)) + one_if (there assoc xs) ≡ length (without_first precedence xs) = rw s at (without_long assoc (without_first precedence xs)) in
    rw a (fewer_is assoc xs (length (without_first precedence xs)) (length (without_first assoc (without_first precedence xs))) b)
