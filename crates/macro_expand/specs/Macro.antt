-- The item of a macro call: what is read of the call and the definition, and what is appended. s is the tape, w is work. Assumes nothing: these are definitions.
use Rattle.std.specs.Prelude.{◌≡◌, Bool, true, List, [], ◌∷◌, ℕ, ◌+◌, ◌<◌, length, get_or}
use Rattle.octets.specs.Plain.Numbers.{le_at}
use Rattle.parse_tree.specs.Plain.Tree.{Text, Sym, Syms, macro, over, Nonterminal, item}
use Rattle.parse_tree.specs.Plain.Texts.{number}
use Rattle.parse_tree.specs.Plain.Display.{print}
use Rattle.parse_tree.specs.declared.syntax.Span.{Span}
use Rattle.grades.specs.Annotations.{first_alternative}
use Rattle.replacing.specs.Trees.{renamed_all}
use Rattle.expander.specs.declared.Ground.{Ground}
use Rattle.appending.specs.declared.Appended.{Appended}
use Rattle.appending.specs.Commands.{item_head}
use Rattle.appending.specs.Pieces.{Piece, item_piece, Appends}
use Rattle.macro_expand.specs.declared.call.MacroCall.{MacroCall}
use Rattle.macro_expand.specs.Expand.{Popped}
use Rattle.macro_expand.specs.Call.{Calls}
use Rattle.macro_expand.specs.Alternatives.{held}

-- the call at q and the definition at d
pub record ReadsCall (w : List ℕ) (g : Ground) (q d : ℕ) (r : MacroCall) : Type 0 where
  pub at : r.at ≡ q
  pub definition : r.definition ≡ d
  pub params : r.call.params ≡ d + 13 + g.width.bytes
  pub many : r.call.many ≡ get_or w (d + 10 + g.width.bytes) 0
  pub args : r.call.args ≡ g.from + q + (10 + g.width.bytes)
  pub end : r.call.end + 16 ≡ length w
  pub span : r.span ≡ le_at 8 w (g.from + q + 1)
  pub flags : r.flags ≡ get_or w (d + 9 + g.width.bytes) 0
  pub alternatives : r.many ≡ le_at 2 w (d + 11 + g.width.bytes)
  pub first : r.from ≡ first_alternative g.width.bytes w d
  pub few : r.many < 65536

-- the command of an item without arguments, whose name is a text
abbrev pub macro_piece : ℕ → ℕ → Text → ℕ → ℕ → Piece
macro_piece wd span key flags alternatives = record { texts = key ∷ []; bytes = λ ts. item_head wd span (number ts key) flags alternatives; fits = true }

unfoldable pub PutsHead : List ℕ → List ℕ → Ground → ℕ → ℕ → ℕ → ℕ → ℕ → ℕ → Appended → Appended → List ℕ → Type 0
PutsHead s w g n lim q span flags m v r w' = (ps : List ℕ) (four : Bool) (left e : ℕ) (y : Sym) → Popped s w g n lim ps four left q e y v
    → Appends s g n lim ps w v (macro_piece g.width.bytes span (print y) flags m) r w'

-- the item of the definition D, without arguments, with those of its alternatives that hold
abbrev pub expanded_by : Span → Text → Syms → Nonterminal → Nonterminal
expanded_by sp key xs D = record { span = sp; name = key; inline = D.inline; public = D.public; args = []; alternatives = held sp D.args xs D.alternatives }

unfoldable pub PutsMacro : List ℕ → List ℕ → Ground → ℕ → ℕ → ℕ → ℕ → ℕ → Appended → Appended → List ℕ → Type 0
PutsMacro s w g n lim q d m v r w' = (ps : List ℕ) (four : Bool) (left e : ℕ) (sp : Span) (t : Text) (xs : Syms) (four' : Bool) (end : ℕ) (D : Nonterminal)
    → Calls s w g n lim q d v ps four left e sp t xs four' end D → m ≡ length (held sp D.args (renamed_all xs) D.alternatives)
    → Appends s g n lim ps w v (item_piece g.width.bytes (item (expanded_by sp (print (over sp (macro t) xs)) (renamed_all xs) D))) r w'
