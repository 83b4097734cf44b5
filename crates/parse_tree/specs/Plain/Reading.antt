-- The answer of a reading, and readings one behind another. Assumes nothing: these are definitions.
use Rattle.std.specs.Prelude.{ℕ, zero, suc, List, [], ◌∷◌}

-- what was read and the place behind it; or a refusal, the question's number and the place
pub data Reading (A : Type 0) : Type 0 where
  got : A → ℕ → Reading A
  refused : ℕ → ℕ → Reading A

-- one reading behind another
unfoldable pub then : {A B : Type 0} → Reading A → (A → ℕ → Reading B) → Reading B
then (got x e) f = f x e
then (refused k p) f = refused k p

-- n readings, each behind the one before
unfoldable pub times : {A : Type 0} → (ℕ → Reading A) → ℕ → ℕ → Reading (List A)
times f zero at = got [] at
times f (suc n) at = then (f at) (λ x e. then (times f n e) (λ xs e'. got (x ∷ xs) e'))
