-- Trees written down for computed cases.
use mathlib.Core.Bool.{false}
use mathlib.Core.List.{List, [], ◌∷◌}
use mathlib.Core.Option.{none, some}
use Prim.Native.Nat.{ℕ}
use Rattle.parse_tree.specs.Plain.Tree.{Text, Sym, Syms, Attribute, Alternative, Item, ambiguous, quoted, nonterminal, leaf, no_action, item, syms_of}
use Rattle.parse_tree.specs.declared.syntax.Span.{Span}
use Rattle.passes.specs.Grades.{precedence, assoc}

abbrev pub at : ℕ → ℕ → Span
at a b = record { 0 = a; 1 = b }

-- ---- symbols: a name as it is written, a name as it is resolved, and quoted texts
abbrev pub name : Text → Sym
name n = leaf (at 0 0) (ambiguous n)

abbrev pub to : Text → Sym
to n = leaf (at 0 0) (nonterminal n)

abbrev pub quote : ℕ → Sym
quote b = leaf (at 0 0) (quoted (b ∷ []))

-- a symbol of the fall-through has the nonterminal's span
abbrev pub fall : Span → Text → Sym
fall s n = leaf s (nonterminal n)

abbrev pub list : List Sym → Syms
list xs = syms_of xs

-- ---- alternatives and items
abbrev pub level : Text → Attribute
level v = record { id = precedence; argument = some (108 ∷ [], v) }

abbrev pub side : Text → Attribute
side v = record { id = assoc; argument = some (115 ∷ [], v) }

abbrev pub alternative : Span → List Attribute → List Sym → Alternative
alternative s as' xs = record { span = s; attributes = as'; condition = none; action = no_action; symbols = list xs }

abbrev pub nt : Span → Text → List Text → List Alternative → Item
nt s n ps as' = item (record { span = s; name = n; inline = false; public = false; args = ps; alternatives = as' })
