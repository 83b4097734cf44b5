-- The listing of a tree that stands at the front of an output, and that of an answer. Assumes nothing: these are definitions.
use Rattle.std.specs.Prelude.{◌≡◌, List, ℕ, ◌+◌, ◌*◌, ◌≤◌, length, take}
use Rattle.parse_tree.specs.Plain.Tree.{Stage}
use Rattle.parse_tree.specs.Plain.WriteTape.{tape_of}
use Rattle.passes.specs.Outcome.{Outcome, yes, no}
use Rattle.listing.specs.declared.Listed.{Listed}
use Rattle.listing.specs.Listing.{listed}
use Rattle.listing.specs.Walk.{PutsFrom, ListsTree}

-- the tape has n bytes, and work eight for each
pub record FrontFits (o w : List ℕ) (n : ℕ) : Type 0 where
  pub inside : n ≤ length o
  pub room : 8 * n ≤ length w

-- its tape is the first n bytes; the text stands behind eight bytes for each of them, in work of k bytes
pub record ListsFront (o : List ℕ) (n k : ℕ) (r : Listed) (w' : List ℕ) : Type 0 where
  pub from : r.from ≡ 8 * n
  pub lists : ListsTree (take n o) k r.to w'

-- where the text of an answer begins in work: behind eight bytes for each of the tree's tape, or at work's start
unfoldable pub listed_from : Outcome Stage → ℕ
listed_from (yes g) = 8 * length (tape_of 2 g)
listed_from (no k s) = 0

-- the text of x was put there, in work of n bytes; the place behind it is behind work's end where it doesn't fit
pub record PutsListing (n : ℕ) (x : Outcome Stage) (r : Listed) (w' : List ℕ) : Type 0 where
  pub from : r.from ≡ listed_from x
  pub puts : PutsFrom n r.from (listed x) r.to w'

-- and it fits
pub record Lists (n : ℕ) (x : Outcome Stage) (w' : List ℕ) (r : Listed) : Type 0 where
  pub from : r.from ≡ listed_from x
  pub to : r.to ≡ r.from + length (listed x)
  pub inside : r.to ≤ n
  pub puts : PutsFrom n r.from (listed x) r.to w'
