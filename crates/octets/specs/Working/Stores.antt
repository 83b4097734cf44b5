-- A run of bytes written into a list. Assumes nothing: these are definitions.
use Rattle.std.specs.Prelude.{ℕ, List}
use Rattle.std.proofs.lemmas.List.Edits.{sets}

-- s with vs from `at` on; what would stand behind its end is left out
unfoldable pub store : List ℕ → ℕ → List ℕ → List ℕ
store s at vs = sets s at vs
