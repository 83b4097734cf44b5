-- The item of a macro call that was taken off the pile. s is the tape, w is work; the call stands at q, counted from the first item, and the macro's definition at d. Assumes nothing: these are definitions.
use Rattle.std.specs.Prelude.{◌≡◌, Bool, List, ℕ, length, Result}
use Rattle.std.proofs.Math.Option.{some}
use Rattle.parse_tree.specs.Plain.Tree.{Text, Syms, count, macro, over, Nonterminal, item}
use Rattle.parse_tree.specs.Plain.Display.{print}
use Rattle.parse_tree.specs.Working.Encode.{item_bytes}
use Rattle.parse_tree.specs.Working.Within.{NonterminalWithin}
use Rattle.parse_tree.specs.declared.syntax.Span.{Span}
use Rattle.texts.specs.Table.{texts}
use Rattle.passes.specs.Macros.{expand_macro_symbol}
use Rattle.replacing.specs.Trees.{renamed_all}
use Rattle.expander.specs.declared.Ground.{Ground}
use Rattle.appending.specs.declared.Appended.{Appended}
use Rattle.parse_tree.specs.declared.refusal.Refusal.{Refusal}
use Rattle.macro_expand.specs.Expand.{Popped, ExpandsTo}
use Rattle.macro_expand.specs.PutIn.{Placed}

-- the definition D stands at d, up to e, where nothing is written
pub record Defines (s w : List ℕ) (g : Ground) (v : Appended) (four : Bool) (d e : ℕ) (D : Nonterminal) : Type 0 where
  pub within : NonterminalWithin four g.width.bytes (texts s w g.m) D
  pub placed : Placed w g v d e (item_bytes g.width.bytes (texts s w g.m) (item D))

-- a call of it stands at q, with as many arguments
pub record Calls (s w : List ℕ) (g : Ground) (n lim q d : ℕ) (v : Appended) (ps : List ℕ) (four : Bool) (left e : ℕ) (sp : Span) (m : Text) (xs : Syms) (four' : Bool) (end : ℕ) (D : Nonterminal) : Type 0 where
  pub popped : Popped s w g n lim ps four left q e (over sp (macro m) xs) v
  pub defines : Defines s w g v four' d end D
  pub many : length D.args ≡ count xs

pub record SomeCall (s w : List ℕ) (g : Ground) (n lim q d : ℕ) (v : Appended) : Type 0 where
  pub places : List ℕ
  pub four : Bool
  pub left : ℕ
  pub end : ℕ
  pub span : Span
  pub name : Text
  pub arguments : Syms
  pub four' : Bool
  pub behind : ℕ
  pub definition : Nonterminal
  pub calls : Calls s w g n lim q d v places four left end span name arguments four' behind definition

-- every such call is expanded, or refused by 17
unfoldable pub ExpandsMacro : List ℕ → List ℕ → Ground → ℕ → ℕ → ℕ → ℕ → Appended → Result Appended Refusal → List ℕ → Type 0
ExpandsMacro s w g n lim q d v r w' = (ps : List ℕ) (four : Bool) (left e : ℕ) (sp : Span) (m : Text) (xs : Syms) (four' : Bool) (end : ℕ) (D : Nonterminal)
    → Calls s w g n lim q d v ps four left e sp m xs four' end D
    → ExpandsTo s w g n lim v ps (expand_macro_symbol sp (print (over sp (macro m) xs)) (renamed_all xs) (some D)) r w'
