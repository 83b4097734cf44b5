-- Two symbols that stand in work w, and that they print alike. wd is the width of an atom's number in bytes. Assumes nothing: these are definitions.
use Rattle.std.specs.Prelude.{◌≡◌, Bool, true, List, ℕ, ◌+◌, ◌≤◌, ◌<◌, get_or}
use Rattle.parse_tree.specs.Plain.Tree.{Sym}
use Rattle.parse_tree.specs.Plain.Display.{print}
use Rattle.texts.specs.declared.Map.{Map}
use Rattle.display.specs.Standing.{Readable, SymStands, SomeSym}

-- a yes says that the bytes at p and at q are the same, from byte 9 up to byte n, counted from 0
pub record OperandsAlike (w : List ℕ) (p q n : ℕ) (r : Bool) : Type 0 where
  pub says : r ≡ true → (i : ℕ) → 9 ≤ i → i < n → get_or w (p + i) 0 ≡ get_or w (q + i) 0

-- symbols stand at a and at b, by some tape and table
pub record SomeTwo (w : List ℕ) (wd a b : ℕ) : Type 0 where
  pub tape : List ℕ
  pub map : Map
  pub left : ℕ
  pub readable : Readable tape w map wd
  pub first : SomeSym tape w map wd left a
  pub second : SomeSym tape w map wd left b

-- a yes says that each two symbols that stand there have the same printed form
pub record PrintsAlike (w : List ℕ) (wd a b : ℕ) (r : Bool) : Type 0 where
  pub says : r ≡ true → (s : List ℕ) (m : Map) (left : ℕ) (four four' : Bool) (e e' : ℕ) (x y : Sym) → SymStands s w m wd four left a e x → SymStands s w m wd four' left b e' y → print x ≡ print y
