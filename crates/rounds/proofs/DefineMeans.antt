-- What the cells say once all macros are told, in the words of the appending stage; and that the items stand as they stood. Assumes nothing.
use mathlib.Core.Path.{◌≡◌, sym, subst}
use mathlib.Core.Bool.{Bool}
use mathlib.Core.List.{List}
use mathlib.Core.Option.{some}
use Prim.Native.Nat.{ℕ}
use native.Mathlib.Omega.{arith}
use Rattle.parse_tree.specs.Plain.Tree.{Text, Nonterminal}
use Rattle.parse_tree.specs.Plain.Texts.{number}
use Rattle.texts.specs.declared.Map.{Map}
use Rattle.texts.specs.Table.{texts}
use Rattle.passes.specs.Outcome.{Tree}
use Rattle.passes.specs.Macros.{macro_in}
use Rattle.resolve.specs.declared.Grammar.{Grammar}
use Rattle.macro_expand.specs.Drain.{DefinedAt}
use Rattle.rounds.specs.Define.{Items, FoundAt, Defined}
use Rattle.rounds.proofs.DefineMacro.{items_stay}

module _ (s w : List ℕ) (m : Map) (t : Grammar) (w' : List ℕ) (d : Defined s w m t w') (four : Bool) (G : Tree) (h : Items s w m t four G) where
  -- theorem: the items stand as they stood
  pub defined-items : Items s w' m t four G
  defined-items = items_stay s w w' m t four G h d.cells

  -- theorem: the cell of a macro's name has the index of its definition, and one
  pub defined-found : (n : Text) (D : Nonterminal) → macro_in G n ≡ some D → DefinedAt (texts s w' m) m w' G n D
  defined-found n D e =
      let f : FoundAt (texts s w' m) m w' G n D = subst (λ (ts : List Text). FoundAt ts m w' G n D) (sym d.cells.same) (d.found four G h n D e) in
      let l = d.low (number (texts s w' m) n) f.below in
      record { index = f.index; there = f.there; below = f.below; cell = omega (arith, f.cell, l) }
