-- Runs of bytes: a part of a list, where it lies in another, and whether two are the same. Assumes nothing: these are definitions.
use Rattle.std.specs.Prelude.{◌≡◌, Bool, true, false, List, [], ◌∷◌, ◌++◌, ℕ, ◌+◌, ◌-◌, eqb, length, take, drop}

-- from a up to e
unfoldable pub part : ℕ → ℕ → List ℕ → List ℕ
part a e s = take (e - a) (drop a s)

-- whether two lists of bytes are equal
unfoldable pub same_as : List ℕ → List ℕ → Bool
same_as [] [] = true
same_as [] (y ∷ ys) = false
same_as (x ∷ xs) [] = false
same_as (x ∷ xs) (y ∷ ys) = elim (eqb x y) [ true ↦ same_as xs ys | false ↦ false ]

-- xs lies in s from a on, up to e
pub record Lies (s : List ℕ) (a : ℕ) (xs : List ℕ) (e : ℕ) : Type 0 where
  pub is : drop a s ≡ xs ++ drop e s
  pub end : e ≡ a + length xs
