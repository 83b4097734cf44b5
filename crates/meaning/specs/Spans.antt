-- What holds of every span of a tree. Assumes nothing: these are definitions.
use Rattle.std.proofs.Math.Option.{Option, none, some}
use Rattle.parse_tree.specs.Plain.Tree.{Sym, Syms, leaf, around, over, nil, cons, Condition, Alternative, Item, item}
use Rattle.parse_tree.specs.Working.Within.{Each}
use Rattle.parse_tree.specs.declared.syntax.Span.{Span}

-- P holds of every span
module _ (P : Span → Type 0) where
  abbrev mutual
    pub SymSpans : Sym → Type 0
    SymSpans (leaf s l) = P s
    SymSpans (around s a x) = P s × SymSpans x
    SymSpans (over s o xs) = P s × SymsSpans xs

    pub SymsSpans : Syms → Type 0
    SymsSpans nil = Unit {0}
    SymsSpans (cons x xs) = SymSpans x × SymsSpans xs

  abbrev pub ConditionSpans : Option Condition → Type 0
  ConditionSpans none = Unit {0}
  ConditionSpans (some c) = P c.span

  abbrev pub AlternativeSpans : Alternative → Type 0
  AlternativeSpans a = P a.span × ConditionSpans a.condition × SymsSpans a.symbols

  abbrev pub ItemSpans : Item → Type 0
  ItemSpans (item d) = P d.span × Each AlternativeSpans d.alternatives
  ItemSpans (Item.terminal s o t) = P s
