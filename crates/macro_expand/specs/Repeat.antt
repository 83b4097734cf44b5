-- The items of repeats, made of pieces. s is the tape, w is work; the repeat stands at q, counted from the first item, and the symbol inside it at q + 10. Assumes nothing: these are definitions.
use Rattle.std.specs.Prelude.{◌≡◌, Bool, true, not, List, [], ◌∷◌, ◌++◌, ℕ, ◌+◌, length}
use Rattle.octets.specs.Plain.Numbers.{le}
use Rattle.parse_tree.specs.Plain.Tree.{Text, Op, Sym, repeat, around, nil, cons, item}
use Rattle.parse_tree.specs.Plain.Texts.{has, number}
use Rattle.parse_tree.specs.Plain.Display.{print}
use Rattle.parse_tree.specs.Working.Nodes.{span_bytes}
use Rattle.parse_tree.specs.declared.syntax.Span.{Span}
use Rattle.passes.specs.Macros.{expand_repeat_symbol}
use Rattle.replacing.specs.Trees.{renamed}
use Rattle.expander.specs.declared.Ground.{Ground}
use Rattle.expander.specs.declared.slots.Numbered.{Numbered}
use Rattle.expander.specs.Ground.{Grounded}
use Rattle.expander.specs.Names.{named_in}
use Rattle.appending.specs.declared.Appended.{Appended}
use Rattle.appending.specs.Built.{built_text, SomeBuilt, GivesBuilt}
use Rattle.precedence.specs.Write.{alternative_head}
use Rattle.appending.specs.Commands.{name_head, plus_head}
use Rattle.appending.specs.Pieces.{Piece, all_named, nested, then_piece, symbols_piece, item_piece, Appending, Appends}
use Rattle.appending.specs.Symbols.{Referring, SomeReferring}
use Rattle.macro_expand.specs.declared.begin.Begun.{Begun}
use Rattle.macro_expand.specs.declared.plus.Pushing.{Pushing}
use Rattle.macro_expand.specs.Expand.{head_piece, Popped, Begins}

module _ (s w : List ℕ) (g : Ground) (n lim q : ℕ) (v : Appended) where
  -- whatever repeat stands there, the item that it has as one of the operator o was appended
  unfoldable pub ExpandsAs : Op → Appended → List ℕ → Type 0
  ExpandsAs o r w' = (ps : List ℕ) (four : Bool) (left e : ℕ) (sp : Span) (o' : Op) (x : Sym) → Popped s w g n lim ps four left q e (around sp (repeat o') x) v
      → Appends s g n lim ps w v (item_piece g.width.bytes (item (expand_repeat_symbol sp (print (around sp (repeat o') x)) o (renamed x)))) r w'

  -- the beginning of an item whose first alternative has the symbol inside
  pub record BeganWith (ps : List ℕ) (flags : ℕ) (i : ℕ) (sp : Span) (key : Text) (x : Sym) (r : Begun) (w' : List ℕ) : Type 0 where
    pub span : le 8 r.span ≡ span_bytes sp
    pub name : r.name.number ≡ number (named_in s w' g r.out.count) key
    pub appended : Appends s g n lim ps w v (then_piece (head_piece g.width.bytes sp key flags 2 (built_text i) 1) (symbols_piece g.width.bytes (cons x nil))) r.out w'

  pub record BeginsWith (flags i : ℕ) (r : Begun) (w' : List ℕ) : Type 0 where
    pub some : SomeReferring s w' g n lim (q + 10) 1 r.out
    pub each : (ps : List ℕ) (four : Bool) (left e : ℕ) (sp : Span) (o : Op) (x : Sym) → Popped s w g n lim ps four left q e (around sp (repeat o) x) v
        → BeganWith ps flags i sp (print (around sp (repeat o) x)) x r w'

-- bytes by the number of one text
abbrev pub by_number : Text → (ℕ → List ℕ) → Piece
by_number t f = record { texts = t ∷ []; bytes = λ ts. f (number ts t); fits = true }

-- an alternative without symbols, whose action's text has the number k
unfoldable pub bare_head : ℕ → ℕ → ℕ → List ℕ
bare_head wd span k = alternative_head wd span 1 k 0

unfoldable pub PutsBy : List ℕ → List ℕ → Ground → ℕ → ℕ → Appended → Text → (ℕ → List ℕ) → Appended → List ℕ → Type 0
PutsBy s w g n lim v t f r w' = (ps : List ℕ) → Appending s g n lim ps w v → Appends s g n lim ps w v (by_number t f) r w'

-- ---- `X+`

-- r is the number of the i-th built-in text, and others can be asked for
pub record GoesOn (s w : List ℕ) (g : Ground) (n c i : ℕ) (r : Numbered) (w' : List ℕ) : Type 0 where
  pub ground : Grounded s w' g
  pub some : SomeBuilt s w' g n r.count
  pub long : length w' ≡ length w
  pub gives : GivesBuilt s w g n c i r w'

-- the texts of its second alternative have numbers
pub record NamedPush (s w : List ℕ) (g : Ground) (n lim : ℕ) (ps : List ℕ) (v : Appended) (r : Pushing) (w' : List ℕ) : Type 0 where
  pub push-is : le g.width.bytes r.push ≡ le g.width.bytes (number (named_in s w' g r.count) (built_text 3))
  pub v_is : le g.width.bytes r.v ≡ le g.width.bytes (number (named_in s w' g r.count) (built_text 1))
  pub e_is : le g.width.bytes r.e ≡ le g.width.bytes (number (named_in s w' g r.count) (built_text 4))
  pub appended : Appends s g n lim ps w v (all_named (built_text 3 ∷ built_text 1 ∷ built_text 4 ∷ [])) (record { to = v.to; count = r.count; deep = v.deep }) w'

pub record NamesPush (s w : List ℕ) (g : Ground) (n c : ℕ) (r : Pushing) (w' : List ℕ) : Type 0 where
  pub long : length w' ≡ length w
  pub ground : Grounded s w' g
  pub each : (lim : ℕ) (ps : List ℕ) (v : Appended) → v.count ≡ c → Appending s g n lim ps w v → NamedPush s w g n lim ps v r w'

-- its commands: the action's text, the names `v` and `e` and the item itself have these numbers
unfoldable pub push_head : ℕ → ℕ → ℕ → ℕ → ℕ → ℕ → List ℕ
push_head wd span push v key e = alternative_head wd span 1 push 2 ++ (name_head wd span v ++ ((36 ∷ (le 8 span ++ le wd key)) ++ name_head wd span e))

abbrev pub push_piece : ℕ → ℕ → Text → Piece
push_piece wd span key = record {
  texts = built_text 3 ∷ built_text 1 ∷ key ∷ built_text 4 ∷ [];
  bytes = λ ts. push_head wd span (number ts (built_text 3)) (number ts (built_text 1)) (number ts key) (number ts (built_text 4));
  fits = true;
}

-- the second alternative without its symbol, of the item of this name: all stays that stands among the items, whatever name it is
pub record PutsSecond (s w : List ℕ) (g : Ground) (n lim span name : ℕ) (v r : Appended) (w' : List ℕ) : Type 0 where
  pub stays : (ps : List ℕ) → Appending s g n lim ps w v → (x : Piece) × Appends s g n lim ps w v x r w'
  pub each : (ps : List ℕ) (key : Text) → Appending s g n lim ps w v → has key (named_in s w g v.count) ≡ true → name ≡ number (named_in s w g v.count) key
      → Appends s g n lim ps w v (push_piece g.width.bytes span key) r w'

-- and with it, for every symbol that stands at p
unfoldable pub PutsPush : List ℕ → List ℕ → Ground → ℕ → ℕ → ℕ → ℕ → ℕ → Appended → Appended → List ℕ → Type 0
PutsPush s w g n lim p span name v r w' = (ps : List ℕ) (four : Bool) (left e : ℕ) (x : Sym) (key : Text) → Appending s g n lim ps w v → Referring s w g ps four left p e (cons x nil)
    → has key (named_in s w g v.count) ≡ true → name ≡ number (named_in s w g v.count) key
    → Appends s g n lim ps w v (then_piece (push_piece g.width.bytes span key) (symbols_piece g.width.bytes (cons x nil))) r w'

-- ---- `X*`

-- the commands of its second alternative: `v` has the number k
unfoldable pub star_head : ℕ → ℕ → ℕ → List ℕ
star_head wd span k = alternative_head wd span 1 k 1 ++ (name_head wd span k ++ plus_head span)

-- the second alternative, for every symbol that stands at p, and whether it is nested too deep
abbrev pub star_piece : ℕ → ℕ → Sym → Bool → Piece
star_piece wd span x deep = then_piece (then_piece (by_number (built_text 1) (star_head wd span)) (symbols_piece wd (cons x nil))) (nested (not deep))

unfoldable pub PutsStar : List ℕ → List ℕ → Ground → ℕ → ℕ → ℕ → ℕ → Bool → Appended → Appended → List ℕ → Type 0
PutsStar s w g n lim p span deep v r w' = (ps : List ℕ) (four : Bool) (left e : ℕ) (x : Sym) → Appending s g n lim ps w v → Referring s w g ps four left p e (cons x nil)
    → Appends s g n lim ps w v (star_piece g.width.bytes span x deep) r w'

-- the beginning of its item, where the symbol inside the repeat still stands
pub record BeginsStar (s w : List ℕ) (g : Ground) (n lim q : ℕ) (v : Appended) (r : Begun) (w' : List ℕ) : Type 0 where
  pub some : SomeReferring s w' g n lim (q + 10) 1 r.out
  pub begins : Begins s w g n lim q v 1 2 0 0 r w'
