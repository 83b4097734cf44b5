-- Which numbers a call refuses with. Assumes nothing: these are definitions.
use Rattle.std.specs.Prelude.{ℕ, ◌≤◌}
use Rattle.passes.specs.Outcome.{Outcome, yes, no}

-- a yes, or a refusal by one of the questions from `first` to `last`
abbrev pub Between : ℕ → ℕ → {A : Type 0} → Outcome A → Type 0
Between first last (yes a) = Unit {0}
Between first last (no n s) = (first ≤ n) × (n ≤ last)

-- demand 1: "Every byte string handed in as a tree ends in a tree or in one of document 01's refusals, with a place": its questions are 1 to 21
abbrev pub InRange : {A : Type 0} → Outcome A → Type 0
InRange r = Between 1 21 r
