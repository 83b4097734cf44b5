-- What is told of work while bytes before a place are written. w is work before and w' after. Assumes nothing: these are definitions.
use Rattle.std.specs.Prelude.{◌≡◌, List, ℕ, ◌≤◌, ◌<◌, length, get_or}

-- it is as long as before, and from lim on the same
pub record StaysFrom (lim : ℕ) (w w' : List ℕ) : Type 0 where
  pub long : length w' ≡ length w
  pub kept : (k : ℕ) → lim ≤ k → get_or w' k 0 ≡ get_or w k 0

-- bytes from a up to e are told of work, which stays from lim on: now is what a call reads, pre when it may be made, post what it tells
module _ {R : Type 0} (now : R → List ℕ) (lim : ℕ) (w : List ℕ) (a e : ℕ) where
  abbrev pub Tellable : (R → ℕ → Type 0) → Type 0
  Tellable pre = (x : R) (i : ℕ) → StaysFrom lim w (now x) → a ≤ i → i < e → pre x i

  -- those of the list t
  abbrev pub Tells : (R → ℕ → ℕ → Type 0) → List ℕ → Type 0
  Tells post t = (x : R) (i b : ℕ) → StaysFrom lim w (now x) → a ≤ i → i < e → post x i b → b ≡ get_or t i 0
