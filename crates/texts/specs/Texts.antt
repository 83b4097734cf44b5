-- The text that a record's mark tells, and the texts of the records. A mark below four times the length of the tape s is four times a place on
-- it, and a class; from there on it is a place in work w, less four times that length. Assumes nothing: these are definitions.
use Rattle.std.specs.Prelude.{ℕ, zero, suc, ◌+◌, ◌*◌, ◌/◌, ◌≤◌, ◌<◌, ◌⊎◌, List, [], ◌∷◌, ◌++◌, ltb, length}
use Rattle.octets.specs.Working.Choice.{pick}
use Rattle.parse_tree.specs.Plain.Tree.{Text}
use Rattle.texts.specs.Atoms.{atom_end, atom_text}
use Rattle.texts.specs.Fields.{mark_at}

-- where a mark's command stands, and at which place there
unfoldable pub holder : List ℕ → List ℕ → ℕ → List ℕ
holder s w x = pick (ltb x (4 * length s)) s w

unfoldable pub place_at : List ℕ → ℕ → ℕ
place_at s x = pick (ltb x (4 * length s)) (x / 4) (x + 4 * length s)

unfoldable pub marked_text : List ℕ → List ℕ → ℕ → Text
marked_text s w x = atom_text (holder s w x) (place_at s x)

-- its command is whole
pub record Whole (s w : List ℕ) (x : ℕ) : Type 0 where
  pub inside : atom_end (holder s w x) (place_at s x) ≤ length (holder s w x)

-- it stands on the tape, or in work from z on
abbrev pub Behind : List ℕ → ℕ → ℕ → Type 0
Behind s z x = (x < 4 * length s) ⊎ (z ≤ x + 4 * length s)

-- the texts of the first k records
unfoldable pub texts_of : List ℕ → List ℕ → ℕ → ℕ → List Text
texts_of s w b zero = []
texts_of s w b (suc k) = texts_of s w b k ++ (marked_text s w (mark_at w b k) ∷ [])
