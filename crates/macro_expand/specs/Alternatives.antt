-- Alternatives of a macro's definition with a call's arguments put in. s is the tape, w is work; places are those in work. Assumes nothing: these are definitions.
use Rattle.std.specs.Prelude.{◌≡◌, Bool, cond, List, [], ◌∷◌, ◌++◌, ℕ, ◌+◌, ◌≤◌, length}
use Rattle.octets.specs.Plain.Numbers.{le}
use Rattle.octets.specs.Plain.Runs.{part}
use Rattle.parse_tree.specs.Plain.Tree.{Text, Syms, Alternative}
use Rattle.parse_tree.specs.Plain.References.{texts_of_each, alternative_texts}
use Rattle.parse_tree.specs.Plain.WriteTape.{bytes_of_each}
use Rattle.parse_tree.specs.Working.Nodes.{span_bytes}
use Rattle.parse_tree.specs.Working.Encode.{alternative_bytes}
use Rattle.parse_tree.specs.Working.Within.{Each, AlternativeWithin}
use Rattle.parse_tree.specs.declared.syntax.Span.{Span}
use Rattle.texts.specs.Table.{texts}
use Rattle.passes.specs.Sizes.{each, alternative_fits}
use Rattle.passes.specs.Outcome.{yes, no}
use Rattle.passes.specs.Macros.{evaluate_cond, expand_alternative}
use Rattle.replacing.specs.Trees.{renamed_all}
use Rattle.expander.specs.declared.Ground.{Ground}
use Rattle.appending.specs.declared.Appended.{Appended}
use Rattle.appending.specs.Pieces.{Piece, Appends}
use Rattle.appending.specs.declared.symbols.Copied.{Copied}
use Rattle.appending.specs.declared.symbols.Coming.{Coming}
use Rattle.macro_expand.specs.declared.arguments.Call.{Call}
use Rattle.macro_expand.specs.PutIn.{Placed, Framed, SomeFramed, SomeInsides, PutsInAll}

abbrev pub alternative_piece : ℕ → Alternative → Piece
alternative_piece wd a = record { texts = alternative_texts a; bytes = λ ts. alternative_bytes wd ts a; fits = alternative_fits a }

abbrev pub alternatives_piece : ℕ → List Alternative → Piece
alternatives_piece wd as' = record { texts = texts_of_each alternative_texts as'; bytes = λ ts. bytes_of_each (alternative_bytes wd ts) as'; fits = each alternative_fits as' }

-- the command at p with another span and no condition, and its attributes, up to e
unfoldable pub bare_out : List ℕ → ℕ → ℕ → ℕ → List ℕ
bare_out w p e span = (18 ∷ (le 8 span ++ part (p + 9) (p + 10) w)) ++ ((0 ∷ []) ++ part (p + 11) e w)

-- ---- one
pub record SomeAlternative (s w : List ℕ) (g : Ground) (c : Call) (p : ℕ) (v : Appended) : Type 0 where
  pub four : Bool
  pub end : ℕ
  pub alternative : Alternative
  pub within : AlternativeWithin four g.width.bytes (texts s w g.m) alternative
  pub placed : Placed w g v p end (alternative_bytes g.width.bytes (texts s w g.m) alternative)
  pub upto : end ≤ c.end

unfoldable pub PutsAlternative : List ℕ → List ℕ → Ground → ℕ → ℕ → Call → ℕ → ℕ → Appended → Appended → List ℕ → Type 0
PutsAlternative s w g n lim c span p v r w' = (ps : List ℕ) (names : List Text) (args : Syms) (four : Bool) (e : ℕ) (a : Alternative) (sp : Span) → Framed s w g n lim c v ps names args
    → AlternativeWithin four g.width.bytes (texts s w g.m) a → Placed w g v p e (alternative_bytes g.width.bytes (texts s w g.m) a) → e ≤ c.end → le 8 span ≡ span_bytes sp
    → Appends s g n lim ps w v (alternative_piece g.width.bytes (expand_alternative sp names (renamed_all args) a)) r w'

-- its command was appended, and its symbols are to come
pub record OpensAlternative (s w : List ℕ) (g : Ground) (n lim : ℕ) (c : Call) (span p : ℕ) (v : Appended) (r : Coming) (w' : List ℕ) : Type 0 where
  pub frame : SomeFramed s w' g n lim c r.run.out
  pub insides : SomeInsides s w' g 64 r.many r.run
  pub carry : (t : Copied) (w'' : List ℕ) → PutsInAll s w' g n lim c 64 r.many r.run t w'' → PutsAlternative s w g n lim c span p v t.out w''

-- those that hold, with the arguments put in
unfoldable pub held : Span → List Text → Syms → List Alternative → List Alternative
held sp names args [] = []
held sp names args (a ∷ rest) = elim (evaluate_cond names args a.condition) [
  | yes b ↦ cond b (expand_alternative sp names args a ∷ held sp names args rest) (held sp names args rest)
  | no k q ↦ held sp names args rest
]

-- one, if it holds
unfoldable pub PutsIf : List ℕ → List ℕ → Ground → ℕ → ℕ → Call → ℕ → ℕ → Appended → Appended → List ℕ → Type 0
PutsIf s w g n lim c span p v r w' = (ps : List ℕ) (names : List Text) (args : Syms) (four : Bool) (e : ℕ) (a : Alternative) (sp : Span) → Framed s w g n lim c v ps names args
    → AlternativeWithin four g.width.bytes (texts s w g.m) a → Placed w g v p e (alternative_bytes g.width.bytes (texts s w g.m) a) → e ≤ c.end → le 8 span ≡ span_bytes sp
    → Appends s g n lim ps w v (alternatives_piece g.width.bytes (held sp names (renamed_all args) (a ∷ []))) r w'

-- ---- one behind another
pub record SomeAlternatives (s w : List ℕ) (g : Ground) (c : Call) (span k p : ℕ) (v : Appended) : Type 0 where
  pub span_of : Span
  pub span_is : le 8 span ≡ span_bytes span_of
  pub four : Bool
  pub end : ℕ
  pub alternatives : List Alternative
  pub many : length alternatives ≡ k
  pub within : Each (AlternativeWithin four g.width.bytes (texts s w g.m)) alternatives
  pub placed : Placed w g v p end (bytes_of_each (alternative_bytes g.width.bytes (texts s w g.m)) alternatives)
  pub upto : end ≤ c.end

unfoldable pub PutsHolding : List ℕ → List ℕ → Ground → ℕ → ℕ → Call → ℕ → ℕ → ℕ → Appended → Appended → List ℕ → Type 0
PutsHolding s w g n lim c span k p v r w' = (ps : List ℕ) (names : List Text) (args : Syms) (four : Bool) (e : ℕ) (xs : List Alternative) (sp : Span) → Framed s w g n lim c v ps names args
    → length xs ≡ k → Each (AlternativeWithin four g.width.bytes (texts s w g.m)) xs → Placed w g v p e (bytes_of_each (alternative_bytes g.width.bytes (texts s w g.m)) xs) → e ≤ c.end → le 8 span ≡ span_bytes sp
    → Appends s g n lim ps w v (alternatives_piece g.width.bytes (held sp names (renamed_all args) xs)) r w'
