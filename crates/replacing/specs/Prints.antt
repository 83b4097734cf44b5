-- The symbols that stand at places of a tape, and their prints. Assumes nothing: these are definitions.
use Rattle.std.specs.Prelude.{Bool, cond, List, ℕ}
use Rattle.std.proofs.Math.Option.{Option, none, some}
use Rattle.octets.specs.Plain.Runs.{same_as}
use Rattle.parse_tree.specs.Plain.Tree.{Text, Sym, leaf, error}
use Rattle.parse_tree.specs.Plain.Texts.{has, number}
use Rattle.parse_tree.specs.Plain.Display.{print}
use Rattle.parse_tree.specs.Plain.Reading.{Reading, got, refused}
use Rattle.parse_tree.specs.Working.Decode.{read_sym}

-- the symbol that was read; any where there is none
unfoldable pub sym_of : Reading Sym → Sym
sym_of (got x e) = x
sym_of (refused k p) = leaf (record { 0 = 0; 1 = 0 }) error

module _ (four : Bool) (w : ℕ) (s : List ℕ) (ts : List Text) where
  -- the symbol at a place
  unfoldable pub sym_at : ℕ → Sym
  sym_at p = sym_of (read_sym four w s ts 64 p)

  unfoldable pub print_at : ℕ → Text
  print_at p = print (sym_at p)

  -- whether two print alike
  unfoldable pub same_print : ℕ → ℕ → Bool
  same_print p q = same_as (print_at p) (print_at q)

  -- the number of the text that is the print
  unfoldable pub text_is : ℕ → Option ℕ
  text_is p = cond (has (print_at p) ts) (some (number ts (print_at p))) none
