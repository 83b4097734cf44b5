-- What a pass answers, and records with one part changed. Assumes nothing: these are definitions.
use Rattle.std.specs.Prelude.{ℕ, List, []}
use Rattle.std.proofs.Math.Option.{none}
use Rattle.parse_tree.specs.Plain.Tree.{Text, Syms, Action, Attribute, Alternative, Nonterminal, Item}
use Rattle.parse_tree.specs.declared.syntax.Span.{Span}

-- a tree is its items
abbrev pub Tree : Type 0
Tree = List Item

-- a yes, or the question's number and the span
pub data Outcome (A : Type 0) : Type 0 where
  yes : A → Outcome A
  no : ℕ → Span → Outcome A

-- one behind another: the first refusal is the answer
abbrev pub after : {A B : Type 0} → Outcome A → (A → Outcome B) → Outcome B
after (yes a) f = f a
after (no n s) f = no n s

-- ---- with one part changed
abbrev pub with_symbols : Alternative → Syms → Alternative
with_symbols a xs = record { span = a.span; attributes = a.attributes; condition = a.condition; action = a.action; symbols = xs }

abbrev pub with_attributes : Alternative → List Attribute → Alternative
with_attributes a as' = record { span = a.span; attributes = as'; condition = a.condition; action = a.action; symbols = a.symbols }

abbrev pub with_alternatives : Nonterminal → List Alternative → Nonterminal
with_alternatives d as' = record { span = d.span; name = d.name; inline = d.inline; public = d.public; args = d.args; alternatives = as' }

abbrev pub with_name : Nonterminal → Text → Nonterminal
with_name d n = record { span = d.span; name = n; inline = d.inline; public = d.public; args = d.args; alternatives = d.alternatives }

-- an alternative that a pass makes: no attributes, no condition
abbrev pub simple : Span → Action → Syms → Alternative
simple s act xs = record { span = s; attributes = []; condition = none; action = act; symbols = xs }
