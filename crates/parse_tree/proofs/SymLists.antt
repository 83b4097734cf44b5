-- The symbols of a tree as a list, and back. Assumes nothing.
use mathlib.Core.Path.{◌≡◌, refl, ap}
use mathlib.Core.Bool.{Bool}
use mathlib.Core.List.{List, [], ◌∷◌, ◌++◌}
use Prim.Native.Nat.{ℕ, suc}
use lib.ListN.{length}
use Rattle.parse_tree.specs.Plain.Tree.{Text, Sym, Syms, nil, cons, count, syms_of}
use Rattle.parse_tree.specs.Working.Encode.{sym_bytes, syms_bytes}
use Rattle.parse_tree.specs.Plain.WriteTape.{bytes_of_each}
use Rattle.parse_tree.specs.Working.Within.{Each, SymWithin, SymsWithin}

unfoldable pub list_of : Syms → List Sym
list_of nil = []
list_of (cons x xs) = x ∷ list_of xs

pub syms_list : (xs : Syms) → syms_of (list_of xs) ≡ xs
unfolding syms_of list_of
syms_list nil = refl
syms_list (cons x xs) = ap (cons x) (syms_list xs)

pub count-syms : (xs : List Sym) → count (syms_of xs) ≡ length xs
unfolding syms_of count
count-syms [] = refl
count-syms (x ∷ xs) = ap suc (count-syms xs)

pub bytes_syms : (w : ℕ) (ts : List Text) (xs : List Sym) → syms_bytes w ts (syms_of xs) ≡ bytes_of_each (sym_bytes w ts) xs
unfolding syms_of syms_bytes bytes_of_each
bytes_syms w ts [] = refl
bytes_syms w ts (x ∷ xs) = ap (λ (l : List ℕ). sym_bytes w ts x ++ l) (bytes_syms w ts xs)

pub within_syms : (four : Bool) (w : ℕ) (ts : List Text) (left : ℕ) (xs : List Sym) → Each (λ x. SymWithin four w ts x left) xs → SymsWithin four w ts (syms_of xs) left
unfolding syms_of
within_syms four w ts left [] h = tt
within_syms four w ts left (x ∷ xs) h = (h.0, within_syms four w ts left xs h.1)
