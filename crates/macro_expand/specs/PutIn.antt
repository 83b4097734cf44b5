-- Symbols of a macro's definition with a call's arguments put in. s is the tape, w is work; places in the definition are those in work. Assumes nothing: these are definitions.
use Rattle.std.specs.Prelude.{◌≡◌, Bool, true, false, ◌⊎◌, List, ℕ, zero, suc, ◌+◌, ◌-◌, ◌≤◌, eqb, leb, length, get_or, Option, None}
use Rattle.octets.specs.Working.Choice.{pick}
use Rattle.octets.specs.Plain.Runs.{Lies}
use Rattle.parse_tree.specs.Plain.Tree.{Text, Sym, Syms, nil, cons, count}
use Rattle.parse_tree.specs.Plain.Texts.{is_name}
use Rattle.parse_tree.specs.Plain.References.{sym_texts, syms_texts}
use Rattle.parse_tree.specs.Plain.WriteTape.{bytes_of_each}
use Rattle.parse_tree.specs.Working.Encode.{argument_bytes, sym_bytes, syms_bytes}
use Rattle.parse_tree.specs.Working.Within.{Each, SpanWithin, Uses, SymWithin, SymsWithin}
use Rattle.parse_tree.specs.declared.syntax.Span.{Span}
use Rattle.parse_tree.specs.Working.Nodes.{span_bytes, long_of}
use Rattle.octets.specs.Plain.Numbers.{le_at, le}
use Rattle.texts.specs.Table.{texts}
use Rattle.passes.specs.Sizes.{sym_fits, syms_fit}
use Rattle.passes.specs.Macros.{at, macro_expand_symbol, macro_expand_symbols}
use Rattle.replacing.specs.Trees.{is_key, renamed, renamed_all}
use Rattle.expander.specs.declared.Ground.{Ground}
use Rattle.expander.specs.Ground.{top_of, list_place}
use Rattle.appending.specs.declared.Appended.{Appended}
use Rattle.appending.specs.declared.symbols.Copied.{Copied}
use Rattle.appending.specs.declared.symbols.Coming.{Coming}
use Rattle.appending.specs.Pieces.{Piece, Appending, Appends}
use Rattle.appending.specs.Symbols.{Referring}
use Rattle.macro_expand.specs.declared.arguments.Call.{Call}
use Rattle.macro_expand.specs.Arguments.{argument_for}

-- ---- pieces
abbrev pub symbol_piece : ℕ → Sym → Bool → Piece
symbol_piece wd y b = record { texts = sym_texts y; bytes = λ ts. sym_bytes wd ts y; fits = b }

abbrev pub sym_piece : ℕ → Sym → ℕ → Piece
sym_piece wd y left = symbol_piece wd y (sym_fits y left)

abbrev pub syms_piece : ℕ → Syms → ℕ → Piece
syms_piece wd ys left = record { texts = syms_texts ys; bytes = λ ts. syms_bytes wd ts ys; fits = syms_fit ys left }

-- ---- bytes that stand where nothing is written
pub record Placed (w : List ℕ) (g : Ground) (v : Appended) (a e : ℕ) (xs : List ℕ) : Type 0 where
  pub lies : Lies w a xs e
  pub off : (e ≤ list_place g 0) ⊎ ((top_of g ≤ a) × (e ≤ v.to))
  pub before : e ≤ v.to
  pub behind : e + 16 ≤ length w

-- ---- a call whose items are appended: the parameters' names and the symbols for them
pub record Framed (s w : List ℕ) (g : Ground) (n lim : ℕ) (c : Call) (v : Appended) (ps : List ℕ) (names : List Text) (args : Syms) : Type 0 where
  pub going : Appending s g n lim ps w v
  pub four : Bool
  pub left : ℕ
  pub from : ℕ
  pub end : ℕ
  pub at : c.args ≡ g.from + from
  pub referring : Referring s w g ps four left from end args
  pub four' : Bool
  pub upto : ℕ
  pub uses : Each (Uses four' g.width.bytes (texts s w g.m) is_name) names
  pub parameters : Placed w g v c.params upto (bytes_of_each (argument_bytes g.width.bytes (texts s w g.m)) names)
  pub named : c.many ≡ length names
  pub called : count args ≡ c.many
  pub definition : c.end + 16 ≤ length w

-- there is one
pub record SomeFramed (s w : List ℕ) (g : Ground) (n lim : ℕ) (c : Call) (v : Appended) : Type 0 where
  pub places : List ℕ
  pub names : List Text
  pub args : Syms
  pub framed : Framed s w g n lim c v places names args

-- ---- an argument x that stands at p, at another span, of the number `span`
pub record Argument (s w : List ℕ) (g : Ground) (n lim p span : ℕ) (v : Appended) (ps : List ℕ) (four : Bool) (left from end : ℕ) (x : Sym) (sp : Span) : Type 0 where
  pub going : Appending s g n lim ps w v
  pub at : p ≡ g.from + from
  pub referring : Referring s w g ps four left from end (cons x nil)
  pub span_is : le 8 span ≡ span_bytes sp
  pub span_fits : SpanWithin sp

pub record SomeArgument (k : Bool) (s w : List ℕ) (g : Ground) (n lim p span : ℕ) (v : Appended) : Type 0 where
  pub places : List ℕ
  pub four : Bool
  pub left : ℕ
  pub from : ℕ
  pub end : ℕ
  pub symbol : Sym
  pub span_of : Span
  pub key : is_key symbol ≡ k
  pub is : Argument s w g n lim p span v places four left from end symbol span_of

pub record AnyArgument (s w : List ℕ) (g : Ground) (n lim p span : ℕ) (v : Appended) : Type 0 where
  pub kind : Bool
  pub some : SomeArgument kind s w g n lim p span v

-- every such one, expanded or not
unfoldable pub PutsOne : Bool → List ℕ → List ℕ → Ground → ℕ → ℕ → ℕ → ℕ → Appended → Appended → List ℕ → Type 0
PutsOne k s w g n lim p span v r w' = (ps : List ℕ) (four : Bool) (left from end : ℕ) (x : Sym) (sp : Span) → is_key x ≡ k → Argument s w g n lim p span v ps four left from end x sp
    → Appends s g n lim ps w v (symbol_piece g.width.bytes (at sp (renamed x)) true) r w'

-- any such one, with so many levels of nesting left
unfoldable pub PutsArgument : List ℕ → List ℕ → Ground → ℕ → ℕ → ℕ → ℕ → ℕ → Appended → Appended → List ℕ → Type 0
PutsArgument s w g n lim p span levels v r w' = (ps : List ℕ) (four : Bool) (left from end : ℕ) (x : Sym) (sp : Span) → Argument s w g n lim p span v ps four left from end x sp
    → Appends s g n lim ps w v (sym_piece g.width.bytes (at sp (renamed x)) levels) r w'

-- 27 and 28
unfoldable pub wrapping : ℕ → Bool
wrapping c = pick (eqb c 39) true (eqb c 40)

-- whether a symbol that stands at p, before e, is nested within bounds once it is renamed
unfoldable pub fits_at : ℕ → ℕ → List ℕ → ℕ → ℕ → Bool
fits_at wd e w zero p = false
fits_at wd e w (suc left) p = pick (leb e p) true (pick (wrapping (get_or w p 0)) (fits_at wd e w left (p + long_of wd (get_or w p 0))) true)

-- ---- the symbol for the parameter at a place, if one stands there
unfoldable pub parameter_at : Ground → Call → List ℕ → ℕ → Option ℕ
parameter_at g c w p = pick (eqb (get_or w p 0) 36) (argument_for g c w (le_at g.width.bytes w (p + 9))) None

-- ---- a symbol of the definition
pub record SomeInside (s w : List ℕ) (g : Ground) (left : ℕ) (x : Copied) : Type 0 where
  pub four : Bool
  pub end : ℕ
  pub symbol : Sym
  pub within : SymWithin four g.width.bytes (texts s w g.m) symbol left
  pub placed : Placed w g x.out x.at end (sym_bytes g.width.bytes (texts s w g.m) symbol)

pub record SomeInsides (s w : List ℕ) (g : Ground) (left k : ℕ) (x : Copied) : Type 0 where
  pub four : Bool
  pub end : ℕ
  pub symbols : Syms
  pub many : count symbols ≡ k
  pub within : SymsWithin four g.width.bytes (texts s w g.m) symbols left
  pub placed : Placed w g x.out x.at end (syms_bytes g.width.bytes (texts s w g.m) symbols)

-- every such symbol was appended with the arguments put in
unfoldable pub PutsIn : List ℕ → List ℕ → Ground → ℕ → ℕ → Call → ℕ → Copied → Copied → List ℕ → Type 0
PutsIn s w g n lim c left x r w' = (ps : List ℕ) (names : List Text) (args : Syms) (four : Bool) (e : ℕ) (y : Sym) → Framed s w g n lim c x.out ps names args → SymWithin four g.width.bytes (texts s w g.m) y left
    → Placed w g x.out x.at e (sym_bytes g.width.bytes (texts s w g.m) y)
    → (r.at ≡ e) × Appends s g n lim ps w x.out (sym_piece g.width.bytes (macro_expand_symbol names (renamed_all args) y) left) r.out w'

unfoldable pub PutsInAll : List ℕ → List ℕ → Ground → ℕ → ℕ → Call → ℕ → ℕ → Copied → Copied → List ℕ → Type 0
PutsInAll s w g n lim c left k x r w' = (ps : List ℕ) (names : List Text) (args : Syms) (four : Bool) (e : ℕ) (ys : Syms) → Framed s w g n lim c x.out ps names args → count ys ≡ k → SymsWithin four g.width.bytes (texts s w g.m) ys left
    → Placed w g x.out x.at e (syms_bytes g.width.bytes (texts s w g.m) ys)
    → (r.at ≡ e) × Appends s g n lim ps w x.out (syms_piece g.width.bytes (macro_expand_symbols names (renamed_all args) ys) left) r.out w'

-- a command was appended, and the symbols inside are to come
pub record Opens (s w : List ℕ) (g : Ground) (n lim : ℕ) (c : Call) (left : ℕ) (x : Copied) (r : Coming) (w' : List ℕ) : Type 0 where
  pub deep : 1 ≤ left
  pub frame : SomeFramed s w' g n lim c r.run.out
  pub insides : SomeInsides s w' g (left - 1) r.many r.run
  pub carry : (t : Copied) (w'' : List ℕ) → PutsInAll s w' g n lim c (left - 1) r.many r.run t w'' → PutsIn s w g n lim c left x t w''
