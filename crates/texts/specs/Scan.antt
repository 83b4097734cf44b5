-- What one run over a text tells. Assumes nothing: these are definitions.
use Rattle.std.specs.Prelude.{◌≡◌, List, ℕ}
use Rattle.texts.specs.Classes.{least}
use Rattle.texts.specs.Hash.{hash_of}

pub record Scans (t : List ℕ) (h m : ℕ) : Type 0 where
  pub hash : h ≡ hash_of t
  pub class : m ≡ least 3 t
