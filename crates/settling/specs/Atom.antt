-- A printed form as an atom that ends at a place of work. s is the tape, w is work. Assumes nothing: these are definitions.
use Rattle.std.specs.Prelude.{◌≡◌, List, ℕ, ◌+◌, ◌-◌, ◌≤◌, ◌<◌, length}
use Rattle.expander.specs.Ground.{printed_at}
use Rattle.settling.specs.declared.copied.Print.{Print}
use Rattle.settling.specs.Copied.{Copying, SaidSymbol}

-- the print of the symbol at p has len bytes, and can be put so that it ends at x.lim
pub record AtomReady (s w : List ℕ) (x : Print) (p len : ℕ) : Type 0 where
  pub copying : Copying s w x (x.lim - (len + 3))
  pub symbol : SaidSymbol s w x 64 p
  pub is : len ≡ length (printed_at s w x.g p)
  pub short : len < 65536
  pub room : len + 3 ≤ x.lim
