-- Occurrences of a nonterminal renamed where they stand in work, as `substitute` goes. wd is the width of an atom's number in bytes. Assumes nothing:
-- these are definitions.
use Rattle.std.specs.Prelude.{◌≡◌, Option, Some, None, List, ℕ, zero, suc, ◌+◌, ◌≤◌, ◌<◌, leb, eqb, get_or}
use Rattle.octets.specs.Working.Choice.{pick}
use Rattle.octets.specs.Plain.Numbers.{le}
use Rattle.octets.specs.Working.Stores.{store}
use Rattle.parse_tree.specs.Working.Nodes.{long_of}
use Rattle.grades.specs.declared.Assoc.{Assoc}
use Rattle.grades.specs.Skip.{names_at}
use Rattle.precedence.specs.declared.substitute.Marks.{Marks}

-- one more occurrence, at p
unfoldable pub marked_at : ℕ → Option Marks → Marks
marked_at p (Some m) = record { first = m.first; last = p }
marked_at p None = record { first = p; last = p }

-- the marks stand from a on, before e
abbrev pub MarksIn : ℕ → ℕ → Option Marks → Type 0
MarksIn a e (Some m) = (a ≤ m.first) × (m.first < e) × (a ≤ m.last) × (m.last < e)
MarksIn a e None = Unit

-- the run up to e, over at most f commands: each occurrence becomes `rest`
unfoldable pub replace_out : ℕ → ℕ → ℕ → ℕ → List ℕ → ℕ → ℕ → Option Marks → List ℕ × Option Marks
replace_out wd target rest zero w p e m = (w, m)
replace_out wd target rest (suc f) w p e m =
    pick (leb e p) (w, m)
    (pick (names_at wd target w p) (replace_out wd target rest f (store w (p + 9) (le wd rest)) (p + (9 + wd)) e (Some (marked_at p m)))
    (replace_out wd target rest f w (p + long_of wd (get_or w p 0)) e m))

-- the run as an answer
pub record Replaces (x : List ℕ × Option Marks) (r : Option Marks) (w' : List ℕ) : Type 0 where
  pub bytes : w' ≡ x.0
  pub marks : r ≡ x.1

-- one of the marks named, where there are marks
unfoldable pub name_out : ℕ → List ℕ → (Marks → ℕ) → Option Marks → ℕ → List ℕ
name_out wd w f (Some m) v = store w (f m + 9) (le wd v)
name_out wd w f None v = w

-- the whole run from a place on
unfoldable pub replace_all : ℕ → ℕ → ℕ → List ℕ → ℕ → ℕ → List ℕ × Option Marks
replace_all wd target rest w at e = replace_out wd target rest e w at e None

-- each side
unfoldable pub substitute_out : ℕ → List ℕ → ℕ → ℕ → ℕ → ℕ → ℕ → Assoc → List ℕ
substitute_out wd w at e target here below Assoc.Left = let r = replace_all wd target below w at e in name_out wd r.0 (λ m. m.first) r.1 here
substitute_out wd w at e target here below Assoc.Right = let r = replace_all wd target below w at e in name_out wd r.0 (λ m. m.last) r.1 here
substitute_out wd w at e target here below Assoc.NonAssoc = (replace_all wd target below w at e).0
substitute_out wd w at e target here below Assoc.FullyAssoc = pick (eqb here target) w (replace_all wd target here w at e).0
