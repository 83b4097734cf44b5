-- The item of a symbol that was taken off the pile. s is the tape, w is work; q is the place where the symbol stands, counted from the first item. Assumes nothing: these are definitions.
use Rattle.std.specs.Prelude.{◌≡◌, Bool, true, List, [], ◌∷◌, ◌++◌, ℕ, ◌≤◌, eqb, length, get_or, Result, Ok, Err}
use Rattle.octets.specs.Working.Choice.{pick}
use Rattle.octets.specs.Plain.Numbers.{le}
use Rattle.parse_tree.specs.Plain.Tree.{Text, Op, Sym, Syms, sym_span, repeat, macro, group, around, over, Nonterminal, item}
use Rattle.parse_tree.specs.Plain.Texts.{number}
use Rattle.parse_tree.specs.Plain.Display.{print}
use Rattle.parse_tree.specs.Working.Nodes.{span_bytes, node_bytes}
use Rattle.parse_tree.specs.Working.Within.{Each}
use Rattle.parse_tree.specs.Working.Refusals.{refusal_over}
use Rattle.parse_tree.specs.declared.syntax.Span.{Span}
use Rattle.parse_tree.specs.declared.syntax.Node.{Node}
use Rattle.texts.specs.Table.{texts}
use Rattle.passes.specs.Outcome.{Outcome, yes, no}
use Rattle.passes.specs.Views.{Look, ahead, behind}
use Rattle.passes.specs.Macros.{looking, symbol_of, expand_repeat_symbol, expand_lookaround_symbol, expand_expr_symbol}
use Rattle.laws.specs.Keys.{Expands}
use Rattle.replacing.specs.Trees.{renamed, renamed_all}
use Rattle.replacing.specs.Slots.{among}
use Rattle.expander.specs.declared.Ground.{Ground}
use Rattle.expander.specs.Ground.{size_in}
use Rattle.expander.specs.Names.{named_in}
use Rattle.expander.specs.Replace.{keys_of, StandsAt}
use Rattle.appending.specs.declared.Appended.{Appended}
use Rattle.appending.specs.Built.{built_text}
use Rattle.appending.specs.Pieces.{Piece, all_named, item_piece, Appending, Appends}
use Rattle.parse_tree.specs.declared.refusal.Refusal.{Refusal}
use Rattle.macro_expand.specs.declared.begin.Begun.{Begun}
use Rattle.macro_expand.specs.declared.begin.Named.{Named}
use Rattle.macro_expand.specs.declared.look.Called.{Called}

-- ---- y stands at q, up to e; it is expanded, and with all such symbols inside has a reference
pub record Popped (s w : List ℕ) (g : Ground) (n lim : ℕ) (ps : List ℕ) (four : Bool) (left q e : ℕ) (y : Sym) (v : Appended) : Type 0 where
  pub going : Appending s g n lim ps w v
  pub stands : StandsAt s w g four left q e y
  pub inside : e ≤ size_in g
  pub levels : left ≤ 64
  pub referred : Each (λ (p : ℕ). among p ps ≡ true) (keys_of g.width.bytes (texts s w g.m) y q)
  pub expands : Expands y

-- there is such a symbol, of which P is true
pub record SomePopped (P : Sym → Type 0) (s w : List ℕ) (g : Ground) (n lim q : ℕ) (v : Appended) : Type 0 where
  pub places : List ℕ
  pub four : Bool
  pub left : ℕ
  pub end : ℕ
  pub symbol : Sym
  pub popped : Popped s w g n lim places four left q end symbol v
  pub is : P symbol

-- ---- the beginning of an item: its command, and that of its first alternative

-- its name has the number k, and the text of the alternative's action the number t
unfoldable pub head_bytes : ℕ → Span → ℕ → ℕ → ℕ → ℕ → ℕ → ℕ → List ℕ
head_bytes wd sp k flags alternatives act t symbols =
    node_bytes wd (Node.Nonterminal (record { span = sp; name = record { 0 = k }; flags = flags; args = 0; alternatives = alternatives }))
    ++ node_bytes wd (Node.Alternative (record { span = sp; attributes = 0; conditions = 0; action = act; text = record { 0 = t }; symbols = symbols }))

-- with an action of its own
abbrev pub head_piece : ℕ → Span → Text → ℕ → ℕ → Text → ℕ → Piece
head_piece wd sp key flags alternatives t symbols =
    record { texts = key ∷ t ∷ []; bytes = λ ts. head_bytes wd sp (number ts key) flags alternatives 1 (number ts t) symbols; fits = true }

module _ (s w : List ℕ) (g : Ground) (n lim : ℕ) (v : Appended) where
  -- d is appended, or refused
  unfoldable pub ExpandsTo : List ℕ → Outcome Nonterminal → Result Appended Refusal → List ℕ → Type 0
  ExpandsTo ps (yes d) r w' = (v' : Appended) × (r ≡ Ok v') × Appends s g n lim ps w v (item_piece g.width.bytes (item d)) v' w'
  ExpandsTo ps (no k sp) r w' = r ≡ Err (refusal_over k sp)

module _ (s w : List ℕ) (g : Ground) (n lim q : ℕ) (v : Appended) where
  -- the action is the i-th built-in text
  unfoldable pub Begins : ℕ → ℕ → ℕ → ℕ → Begun → List ℕ → Type 0
  Begins flags alternatives i symbols r w' = (ps : List ℕ) (four : Bool) (left e : ℕ) (y : Sym) → Popped s w g n lim ps four left q e y v
      → ((le 8 r.span ≡ span_bytes (sym_span y)) × (r.name.number ≡ number (named_in s w' g r.out.count) (print y))) × Appends s g n lim ps w v (head_piece g.width.bytes (sym_span y) (print y) flags alternatives (built_text i) symbols) r.out w'

  -- ---- whole items

  -- `@L` or `@R`
  unfoldable pub ExpandsLook : Appended → List ℕ → Type 0
  ExpandsLook r w' = (ps : List ℕ) (four : Bool) (left e : ℕ) (sp : Span) (k : Look) → Popped s w g n lim ps four left q e (symbol_of (looking sp k)) v
      → Appends s g n lim ps w v (item_piece g.width.bytes (item (expand_lookaround_symbol sp (print (symbol_of (looking sp k))) k))) r w'

  -- a repeat
  unfoldable pub ExpandsRepeat : Appended → List ℕ → Type 0
  ExpandsRepeat r w' = (ps : List ℕ) (four : Bool) (left e : ℕ) (sp : Span) (o : Op) (x : Sym) → Popped s w g n lim ps four left q e (around sp (repeat o) x) v
      → Appends s g n lim ps w v (item_piece g.width.bytes (item (expand_repeat_symbol sp (print (around sp (repeat o) x)) o (renamed x)))) r w'

  -- a group
  unfoldable pub ExpandsExpr : Result Appended Refusal → List ℕ → Type 0
  ExpandsExpr r w' = (ps : List ℕ) (four : Bool) (left e : ℕ) (sp : Span) (xs : Syms) → Popped s w g n lim ps four left q e (over sp group xs) v
      → ExpandsTo s w g n lim v ps (expand_expr_symbol sp (print (over sp group xs)) (renamed_all xs)) r w'

-- what stands there
abbrev pub IsLook : Sym → Type 0
IsLook y = (sp : Span) × (k : Look) × (y ≡ symbol_of (looking sp k))

abbrev pub IsRepeat : Sym → Type 0
IsRepeat y = (sp : Span) × (o : Op) × (x : Sym) × (y ≡ around sp (repeat o) x)

abbrev pub IsGroup : Sym → Type 0
IsGroup y = (sp : Span) × (xs : Syms) × (y ≡ over sp group xs)

abbrev pub IsMacro : Sym → Type 0
IsMacro y = (sp : Span) × (m : Text) × (xs : Syms) × (y ≡ over sp (macro m) xs)

abbrev pub IsAny : Sym → Type 0
IsAny y = Unit {0}

-- ---- texts that were named, before anything is put

-- the print of a symbol at sp and the i-th built-in text have numbers
pub record NamedBoth (s w : List ℕ) (g : Ground) (n lim : ℕ) (ps : List ℕ) (v : Appended) (sp : Span) (key t : Text) (r : Named) (w' : List ℕ) : Type 0 where
  pub span : le 8 r.span ≡ span_bytes sp
  pub name : r.name.number ≡ number (named_in s w' g r.text.count) key
  pub text : r.text.number ≡ number (named_in s w' g r.text.count) t
  pub appended : Appends s g n lim ps w v (all_named (key ∷ t ∷ [])) (record { to = v.to; count = r.text.count; deep = v.deep }) w'

-- of every symbol that was taken off the pile
pub record NamesBoth (s w : List ℕ) (g : Ground) (n lim q : ℕ) (v : Appended) (i : ℕ) (r : Named) (w' : List ℕ) : Type 0 where
  pub narrow : 2 ≤ g.width.bytes
  pub wide : g.width.bytes ≤ 3
  pub inside : lim ≤ length w'
  pub each : (ps : List ℕ) (four : Bool) (left e : ℕ) (y : Sym) → Popped s w g n lim ps four left q e y v → NamedBoth s w g n lim ps v (sym_span y) (print y) (built_text i) r w'

-- ---- `@L` and `@R`

-- the action of what stands at a place
unfoldable pub look_act : List ℕ → ℕ → ℕ
look_act w at = pick (eqb (get_or w at 0) 42) 3 4

abbrev pub act_of : Look → ℕ
act_of ahead = 3
act_of behind = 4

-- one of them at sp has a number
pub record CalledLook (s w : List ℕ) (g : Ground) (n lim : ℕ) (ps : List ℕ) (v : Appended) (sp : Span) (k : Look) (r : Called) (w' : List ℕ) : Type 0 where
  pub span : le 8 r.span ≡ span_bytes sp
  pub act : r.act ≡ act_of k
  pub name : r.name.number ≡ number (named_in s w' g r.name.count) (print (symbol_of (looking sp k)))
  pub appended : Appends s g n lim ps w v (all_named (print (symbol_of (looking sp k)) ∷ [])) (record { to = v.to; count = r.name.count; deep = v.deep }) w'

-- of every one that was taken off the pile
pub record CallsLook (s w : List ℕ) (g : Ground) (n lim q : ℕ) (v : Appended) (r : Called) (w' : List ℕ) : Type 0 where
  pub narrow : 2 ≤ g.width.bytes
  pub wide : g.width.bytes ≤ 3
  pub inside : lim ≤ length w'
  pub each : (ps : List ℕ) (four : Bool) (left e : ℕ) (sp : Span) (k : Look) → Popped s w g n lim ps four left q e (symbol_of (looking sp k)) v → CalledLook s w g n lim ps v sp k r w'
