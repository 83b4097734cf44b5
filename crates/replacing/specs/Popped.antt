-- The item of a symbol that is taken off the pile, by its place: its command, its key, and what stands inside it with the outermost keys as names.
-- Assumes nothing: these are definitions.
use Rattle.std.specs.Prelude.{Option as Optional, Some, None, Bool, List, [], ◌∷◌, ℕ, ◌+◌}
use Rattle.std.proofs.Math.Option.{Option, none, some}
use Rattle.parse_tree.specs.Plain.Tree.{Text, Around, repeat, choose, name, Sym, Syms, Nonterminal, Item, item, syms_of}
use Rattle.parse_tree.specs.Working.Nodes.{node_at, size_read}
use Rattle.parse_tree.specs.Plain.Reading.{Reading, got, refused, times}
use Rattle.parse_tree.specs.Working.Operands.{leaf_of, around_of, over_of, inside_of}
use Rattle.parse_tree.specs.Working.Decode.{read_sym}
use Rattle.parse_tree.specs.declared.syntax.Span.{Span}
use Rattle.parse_tree.specs.declared.syntax.SymbolKind.{SymbolKind}
use Rattle.parse_tree.specs.declared.syntax.Node.{Node}
use Rattle.passes.specs.Outcome.{Tree, Outcome, yes, no, after}
use Rattle.passes.specs.Views.{Look, as_look}
use Rattle.passes.specs.Macros.{expand_lookaround_symbol, expand_repeat_symbol, expand_over}
use Rattle.replacing.specs.Trees.{renamed, renamed_all}
use Rattle.replacing.specs.Prints.{sym_at, print_at}

unfoldable pub list_in : Reading (List Sym) → List Sym
list_in (got xs e) = xs
list_in (refused k p) = []

-- no symbol stands there: never on the pile
abbrev pub nothing : Outcome Nonterminal
nothing = no 0 (record { 0 = 0; 1 = 0 })

abbrev pub expand_look : Span → Text → Option Look → Outcome Nonterminal
expand_look sp key none = nothing
expand_look sp key (some k) = yes (expand_lookaround_symbol sp key k)

abbrev pub expand_around : Span → Text → Around → Sym → Outcome Nonterminal
expand_around sp key (repeat o) x = yes (expand_repeat_symbol sp key o x)
expand_around sp key choose x = nothing
expand_around sp key (name m n) x = nothing

module _ (four : Bool) (w : ℕ) (s : List ℕ) (ts : List Text) where
  -- n symbols from a place on
  unfoldable pub syms_at : ℕ → ℕ → Syms
  syms_at n at = syms_of (list_in (times (λ q. read_sym four w s ts 64 q) n at))

  -- the symbol at p, whose command ends at c
  unfoldable pub expand_kind : Tree → ℕ → ℕ → Span → SymbolKind → Outcome Nonterminal
  expand_kind G p c sp (SymbolKind.Leaf l) = expand_look sp (print_at four w s ts p) (as_look (leaf_of ts l))
  expand_kind G p c sp (SymbolKind.Around o) = expand_around sp (print_at four w s ts p) (around_of ts o) (renamed (sym_at four w s ts c))
  expand_kind G p c sp (SymbolKind.Over o) = expand_over G sp (print_at four w s ts p) (over_of ts o) (renamed_all (syms_at (inside_of o) c))

  unfoldable pub expand_node : Tree → ℕ → ℕ → Optional Node → Outcome Nonterminal
  expand_node G p c (Some (Node.Text k)) = nothing
  expand_node G p c (Some (Node.Nonterminal d)) = nothing
  expand_node G p c (Some (Node.Terminal t)) = nothing
  expand_node G p c (Some (Node.Argument a)) = nothing
  expand_node G p c (Some (Node.Alternative a)) = nothing
  expand_node G p c (Some (Node.Attribute a)) = nothing
  expand_node G p c (Some (Node.Condition x)) = nothing
  expand_node G p c (Some (Node.Symbol sp k)) = expand_kind G p c sp k
  expand_node G p c None = nothing

  unfoldable pub expand_at : Tree → ℕ → Outcome Nonterminal
  expand_at G p = expand_node G p (p + size_read w (node_at w s p)) (node_at w s p)

  -- the whole pile
  unfoldable pub drain_at : Tree → List ℕ → Outcome (List Item)
  drain_at G [] = yes []
  drain_at G (p ∷ ps) = after (expand_at G p) (λ d. after (drain_at G ps) (λ ds. yes (item d ∷ ds)))
