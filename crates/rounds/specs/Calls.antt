-- Macro calls that are as resolving leaves them: each names a macro of G, with as many arguments. Assumes nothing: these are definitions.
use Rattle.parse_tree.specs.Plain.Tree.{Sym, Syms, leaf, around, over, nil, cons, Alternative, Item, item}
use Rattle.parse_tree.specs.Working.Within.{Each}
use Rattle.passes.specs.Outcome.{Tree}
use Rattle.passes.specs.Macros.{Pending, looking, repeating, listing}
use Rattle.macro_expand.specs.Drain.{OverCalls}

module _ (G : Tree) where
  abbrev mutual
    pub SymCalls : Sym → Type 0
    SymCalls (leaf s l) = Unit {0}
    SymCalls (around s a x) = SymCalls x
    SymCalls (over s o xs) = OverCalls G o xs × SymsCall xs

    pub SymsCall : Syms → Type 0
    SymsCall nil = Unit {0}
    SymsCall (cons x xs) = SymCalls x × SymsCall xs

  abbrev pub AlternativeCalls : Alternative → Type 0
  AlternativeCalls a = SymsCall a.symbols

  abbrev pub ItemCalls : Item → Type 0
  ItemCalls (item d) = Each AlternativeCalls d.alternatives
  ItemCalls (Item.terminal s o t) = Unit {0}

  -- what is on the pile: what stands inside
  abbrev pub PendingCalls : Pending → Type 0
  PendingCalls (looking s k) = Unit {0}
  PendingCalls (repeating s o x) = SymCalls x
  PendingCalls (listing s o xs) = SymsCall xs
