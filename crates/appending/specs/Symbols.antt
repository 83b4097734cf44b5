-- Symbols of the unreplaced items written again, those that are expanded as names. s is the tape, w is work. Assumes nothing: these are definitions.
use Rattle.std.specs.Prelude.{◌≡◌, Bool, true, List, ℕ, ◌+◌, ◌≤◌, ◌<◌, length}
use Rattle.octets.specs.Plain.Runs.{part}
use Rattle.parse_tree.specs.Plain.Tree.{Sym, Syms, nil, cons, count}
use Rattle.parse_tree.specs.Working.Within.{Each}
use Rattle.parse_tree.specs.Working.Nodes.{long_of}
use Rattle.texts.specs.Table.{texts}
use Rattle.precedence.specs.Write.{Puts}
use Rattle.replacing.specs.Slots.{among}
use Rattle.replacing.specs.Trees.{is_key}
use Rattle.expander.specs.declared.Ground.{Ground}
use Rattle.expander.specs.Ground.{size_in, printed_at}
use Rattle.expander.specs.Replace.{keys_of_all, StandsAt, StandAt}
use Rattle.appending.specs.declared.Appended.{Appended}
use Rattle.appending.specs.declared.symbols.Copied.{Copied}
use Rattle.appending.specs.declared.symbols.Coming.{Coming}
use Rattle.appending.specs.Pieces.{symbols_piece, name_piece, Appending, Appends}

-- the symbols ys stand at p, up to e, and those that are expanded have references
pub record Referring (s w : List ℕ) (g : Ground) (ps : List ℕ) (four : Bool) (left p e : ℕ) (ys : Syms) : Type 0 where
  pub stand : StandAt s w g four left p e ys
  pub inside : e ≤ size_in g
  pub levels : left ≤ 64
  pub referred : Each (λ (q : ℕ). among q ps ≡ true) (keys_of_all g.width.bytes (texts s w g.m) ys p)

-- there are k such symbols
pub record SomeReferring (s w : List ℕ) (g : Ground) (n lim p k : ℕ) (v : Appended) : Type 0 where
  pub places : List ℕ
  pub four : Bool
  pub left : ℕ
  pub end : ℕ
  pub symbols : Syms
  pub going : Appending s g n lim places w v
  pub many : count symbols ≡ k
  pub referring : Referring s w g places four left p end symbols

-- every k such symbols were appended
unfoldable pub PutsSymbols : List ℕ → List ℕ → Ground → ℕ → ℕ → ℕ → ℕ → Appended → Copied → List ℕ → Type 0
PutsSymbols s w g n lim p k v r w' = (ps : List ℕ) (four : Bool) (left e : ℕ) (ys : Syms) → count ys ≡ k → Appending s g n lim ps w v → Referring s w g ps four left p e ys
    → (r.at ≡ e) × Appends s g n lim ps w v (symbols_piece g.width.bytes ys) r.out w'

-- ---- the name of a symbol that has a reference: p is its place
pub record Nameable (s w : List ℕ) (g : Ground) (n lim p : ℕ) (v : Appended) : Type 0 where
  pub places : List ℕ
  pub going : Appending s g n lim places w v
  pub here : among p places ≡ true

-- whatever symbols have references, the print of the one at p is named
unfoldable pub PutsNamed : List ℕ → List ℕ → Ground → ℕ → ℕ → ℕ → ℕ → Appended → Appended → List ℕ → Type 0
PutsNamed s w g n lim p span v r w' = (ps : List ℕ) → Appending s g n lim ps w v → among p ps ≡ true → Appends s g n lim ps w v (name_piece g.width.bytes span (printed_at s w g p)) r w'

-- ---- one symbol that is expanded: y stands at q.at, up to e, and has a reference
pub record Reference (s w : List ℕ) (g : Ground) (n lim : ℕ) (q : Copied) (ps : List ℕ) (four : Bool) (left e : ℕ) (y : Sym) : Type 0 where
  pub going : Appending s g n lim ps w q.out
  pub stands : StandsAt s w g four left q.at e y
  pub inside : e ≤ size_in g
  pub levels : left ≤ 64
  pub key : is_key y ≡ true
  pub here : among q.at ps ≡ true

-- there is one
pub record SomeReference (s w : List ℕ) (g : Ground) (n lim : ℕ) (q : Copied) : Type 0 where
  pub places : List ℕ
  pub four : Bool
  pub left : ℕ
  pub end : ℕ
  pub symbol : Sym
  pub is : Reference s w g n lim q places four left end symbol

-- every such one was appended
unfoldable pub PutsReference : List ℕ → List ℕ → Ground → ℕ → ℕ → Copied → Copied → List ℕ → Type 0
PutsReference s w g n lim q r w' = (ps : List ℕ) (four : Bool) (left e : ℕ) (y : Sym) → Reference s w g n lim q ps four left e y
    → (r.at ≡ e) × Appends s g n lim ps w q.out (symbols_piece g.width.bytes (cons y nil)) r.out w'

-- ---- one command of the code c, copied; its place is counted from `from`
pub record PutsCommand (w : List ℕ) (from wd lim : ℕ) (q : Copied) (c : ℕ) (r : Copied) (w' : List ℕ) : Type 0 where
  pub at : r.at ≡ q.at + long_of wd c
  pub out : r.out ≡ record { to = r.out.to; count = q.out.count; deep = q.out.deep }
  pub puts : Puts w lim q.out.to (part (from + q.at) (from + q.at + long_of wd c) w) r.out.to w'

-- ---- one symbol or command of those to come: the symbols zs are to come then
pub record Onward (s w : List ℕ) (g : Ground) (n lim : ℕ) (ps : List ℕ) (four : Bool) (left e : ℕ) (ys : Syms) (x r : Coming) (w' : List ℕ) : Type 0 where
  pub zs : Syms
  pub many : count zs ≡ r.many
  pub going : Appending s g n lim ps w' r.run.out
  pub referring : Referring s w' g ps four left r.run.at e zs
  pub carry : (v' : Appended) (w'' : List ℕ) → Appends s g n lim ps w' r.run.out (symbols_piece g.width.bytes zs) v' w'' → Appends s g n lim ps w x.run.out (symbols_piece g.width.bytes ys) v' w''

-- of whatever symbols are to come
pub record PutsNext (s w : List ℕ) (g : Ground) (n lim : ℕ) (x r : Coming) (w' : List ℕ) : Type 0 where
  pub long : length w' ≡ length w
  pub on : x.run.at < r.run.at
  pub each : (ps : List ℕ) (four : Bool) (left e : ℕ) (ys : Syms) → count ys ≡ x.many → Appending s g n lim ps w x.run.out → Referring s w g ps four left x.run.at e ys
      → Onward s w g n lim ps four left e ys x r w'
