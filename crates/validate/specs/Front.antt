-- The atoms at the front of a tape, counted, and the table of them; question 4 asks nothing of them. Assumes nothing: these are definitions.
use Rattle.std.specs.Prelude.{◌≡◌, true, List, ℕ, suc, ◌+◌, ◌-◌, ◌*◌, ◌≤◌, ◌<◌, eqb, ltb, length, get_or, Option, Some, None, Result, Ok, Err}
use Rattle.octets.specs.Working.Choice.{pick}
use Rattle.octets.specs.Plain.Numbers.{le_at}
use Rattle.parse_tree.specs.Plain.Texts.{has, distinct}
use Rattle.parse_tree.specs.Working.Refusals.{refusal_at}
use Rattle.parse_tree.specs.declared.refusal.Refusal.{Refusal}
use Rattle.texts.specs.Atoms.{atom_end, atom_text, atoms_of, place_of}
use Rattle.texts.specs.Classes.{text_class}
use Rattle.texts.specs.declared.Map.{Map}
use Rattle.texts.specs.Fields.{class_at, cell_at}
use Rattle.texts.specs.Table.{Table, Above, texts, linked}

-- behind the whole atom at a place, or that place
unfoldable pub next_at : List ℕ → ℕ → ℕ
next_at s at = pick (eqb (get_or s at 0) 1) (pick (ltb (length s - at) 3) at (pick (ltb (length s - at) (3 + le_at 2 s (at + 1))) at (atom_end s at))) at

-- what `behind` says: where the whole atom at a place ends, or that none stands there
unfoldable pub AtomEnds : List ℕ → ℕ → Option ℕ → Type 0
AtomEnds s at (Some e) = (at < length s) × (e ≡ next_at s at) × (at < e)
AtomEnds s at None = at < length s → next_at s at ≡ at

-- `front`: n atoms stand one behind another, and no whole one behind them
pub record Counted (s : List ℕ) (at n : ℕ) : Type 0 where
  pub here : at ≡ place_of s n
  pub inside : at ≤ length s
  pub each : (i : ℕ) → i < n → next_at s (place_of s i) ≡ place_of s (suc i)
  pub stop : at < length s → next_at s at ≡ at

-- what the table asks
pub record Starts (s w : List ℕ) (end n : ℕ) : Type 0 where
  pub here : end ≡ place_of s n
  pub inside : end ≤ length s
  pub small : 8 * length s ≤ length w

-- the atoms before `at` are entered, and their cells are blank
pub record Going (s w : List ℕ) (m : Map) (at end n : ℕ) : Type 0 where
  pub starts : Starts s w end n
  pub table : Table s w m
  pub above : Above s w m (length w)
  pub base : m.base ≡ 8 * (length s - end)
  pub buckets : m.buckets ≡ linked n
  pub upto : m.count ≤ n
  pub here : at ≡ place_of s m.count
  pub same : texts s w m ≡ atoms_of s m.count
  pub apart : distinct (atoms_of s m.count) ≡ true
  pub classes : (i : ℕ) → i < m.count → class_at w m.base i ≡ text_class (atom_text s (place_of s i))
  pub blank : (i : ℕ) → i < m.count → cell_at w m.base i ≡ 0

-- the atom at p, the first of n that is one of those before it
pub record Again (s : List ℕ) (n p : ℕ) : Type 0 where
  pub before : ℕ
  pub few : before < n
  pub here : p ≡ place_of s before
  pub known : has (atom_text s p) (atoms_of s before) ≡ true
  pub apart : distinct (atoms_of s before) ≡ true

pub record More (s w : List ℕ) (m : Map) (at end n e : ℕ) : Type 0 where
  pub going : Going s w m e end n
  pub on : at < e

-- what `enter_at` says, and of the table that it leaves
unfoldable pub Nexts : List ℕ → ℕ → ℕ → ℕ → Option (Map × ℕ) → List ℕ → Type 0
Nexts s at end n (Some (m', e)) w = More s w m' at end n e
Nexts s at end n None w = Again s n at

-- the table of all n atoms, from eight bytes for each byte behind them on; no text stands in work
pub record All (s w : List ℕ) (m : Map) (end n : ℕ) : Type 0 where
  pub table : Table s w m
  pub above : Above s w m (length w)
  pub base : m.base ≡ 8 * (length s - end)
  pub buckets : m.buckets ≡ linked n
  pub count : m.count ≡ n
  pub same : texts s w m ≡ atoms_of s n
  pub apart : distinct (atoms_of s n) ≡ true
  pub classes : (i : ℕ) → i < n → class_at w m.base i ≡ text_class (atom_text s (place_of s i))
  pub blank : (i : ℕ) → i < n → cell_at w m.base i ≡ 0

-- or the refusal of an atom
pub record Twice (s : List ℕ) (n : ℕ) (z : Refusal) : Type 0 where
  pub place : ℕ
  pub is : z ≡ refusal_at 3 place
  pub again : Again s n place

unfoldable pub Fronted : List ℕ → ℕ → ℕ → Result Map Refusal → List ℕ → Type 0
Fronted s end n (Ok m) w = All s w m end n
Fronted s end n (Err z) w = Twice s n z
