-- Where texts stand that are written to another place of work. s is the tape, w is work. Assumes nothing: these are definitions.
use Rattle.std.specs.Prelude.{◌≡◌, Bool, true, false, List, ℕ, ◌+◌, ◌*◌, ◌≤◌, length}
use Rattle.octets.specs.Plain.Runs.{part}
use Rattle.parse_tree.specs.Plain.Tree.{Text}
use Rattle.texts.specs.declared.Map.{Map}
use Rattle.texts.specs.Texts.{marked_text}
use Rattle.texts.specs.Table.{Above}
use Rattle.settling.specs.declared.Source.{Source}

-- the text that stands there
unfoldable pub source_text : List ℕ → Source → Text
source_text w (Source.Tape t) = t.now
source_text w (Source.Work a e) = part a e w

-- whether it stands in work
abbrev pub in_work : Source → Bool
in_work (Source.Tape t) = false
in_work (Source.Work a e) = true

-- if in work, it is whole there, in n bytes, and at lim or behind: it stays where only bytes before lim are written
unfoldable pub Fixed : ℕ → ℕ → Source → Type 0
Fixed n lim (Source.Tape t) = Unit {0}
Fixed n lim (Source.Work a e) = (lim ≤ a) × (a ≤ e) × (e ≤ n)

-- the text of the mark x stands there
pub record Marked (s w : List ℕ) (x : ℕ) (p : Source) : Type 0 where
  pub text : source_text w p ≡ marked_text s w x
  pub fixed : Fixed (length w) (x + 4 * length s) p
  pub far : in_work p ≡ true → 4 * length s ≤ x

-- the text t stands there, behind each bound of the texts in work
pub record PlacedText (s w : List ℕ) (m : Map) (t : Text) (p : Source) : Type 0 where
  pub text : source_text w p ≡ t
  pub fixed : (z : ℕ) → Above s w m z → Fixed (length w) z p
