-- What is read of a symbol's command by its code: how long it is, how many symbols stand straight inside, whether it is an occurrence. Assumes nothing.
use mathlib.Core.Path.{◌≡◌, refl, ap}
use mathlib.Core.Bool.{Bool, false}
use mathlib.Core.List.{List, [], ◌∷◌, ◌++◌, append-nil}
use Prim.Native.Nat.{ℕ, ◌+◌, ◌^◌, ◌<◌}
use native.Mathlib.Omega.{arith}
use lib.Dec.{eqb}
use lib.ListN.{get_or, length-append}
use Rattle.octets.specs.Working.Choice.{pick}
use Rattle.octets.specs.Plain.Numbers.{le_at, le}
use Rattle.octets.specs.Plain.Runs.{Lies}
use Rattle.octets.proofs.LiesLaws.{lies_first, lies_split}
use Rattle.octets.proofs.NumbersLaws.{length-le}
use Rattle.parse_tree.specs.Plain.Tree.{Text, Sym, Syms, leaf, around, over, cons}
use Rattle.parse_tree.specs.Working.Nodes.{leaf_code, leaf_operand, symbol_bytes, node_bytes, size_of, span_bytes, long_of}
use Rattle.parse_tree.specs.Working.Operands.{inside_of, inside}
use Rattle.parse_tree.specs.Working.Encode.{sym_bytes, syms_bytes}
use Rattle.parse_tree.specs.Working.Within.{SpanWithin}
use Rattle.parse_tree.specs.declared.syntax.Span.{Span}
use Rattle.parse_tree.specs.declared.syntax.Leaf.{Leaf}
use Rattle.parse_tree.specs.declared.syntax.Around.{Around}
use Rattle.parse_tree.specs.declared.syntax.Over.{Over}
use Rattle.parse_tree.specs.declared.syntax.SymbolKind.{SymbolKind}
use Rattle.parse_tree.specs.declared.syntax.Node.{Node}
use Rattle.parse_tree.specs.Working.Nested.{inside_by, inside_at}
use Rattle.parse_tree.proofs.SizeLaws.{length_span}
use Rattle.parse_tree.proofs.NodeFits.{LeafFits, KindFits}
use Rattle.parse_tree.proofs.FieldLaws.{byte_read, le-read_then, span_read}
use Rattle.laws.specs.Flat.{sym_node, children}
use Rattle.laws.proofs.Flat.{SymFits, SymsFits, sym_bytes_lem}
use Rattle.grades.specs.Skip.{names_at}

-- ---- whether a command is an occurrence of the atom `target`
module _ (target : ℕ) where
  abbrev pub leaf_names : Leaf → Bool
  leaf_names (Leaf.AmbiguousId a) = false
  leaf_names (Leaf.Bare a) = false
  leaf_names (Leaf.Quoted a) = false
  leaf_names (Leaf.Regex a) = false
  leaf_names (Leaf.Nonterminal a) = eqb a.0 target
  leaf_names Leaf.Lookahead = false
  leaf_names Leaf.Lookbehind = false
  leaf_names Leaf.Error = false

  abbrev pub kind_names : SymbolKind → Bool
  kind_names (SymbolKind.Leaf l) = leaf_names l
  kind_names (SymbolKind.Around a) = false
  kind_names (SymbolKind.Over o) = false

  unfoldable pub node_names : Node → Bool
  node_names (Node.Text n) = false
  node_names (Node.Nonterminal d) = false
  node_names (Node.Terminal t) = false
  node_names (Node.Argument n) = false
  node_names (Node.Alternative a) = false
  node_names (Node.Attribute a) = false
  node_names (Node.Condition c) = false
  node_names (Node.Symbol s k) = kind_names k

-- ---- the code's answers at a place, and the command that lies there
pub record Codes (wd target : ℕ) (w : List ℕ) (p : ℕ) (n : Node) : Type 0 where
  pub held : inside_at wd w p ≡ inside n
  pub size : long_of wd (get_or w p 0) ≡ size_of wd n
  pub names : names_at wd target w p ≡ node_names target n

module _ (wd target : ℕ) (w : List ℕ) (p d : ℕ) where
  -- by the code c
  coded : (n : Node) (c : ℕ) (ys : List ℕ) → Lies w p (c ∷ ys) d → inside_by wd w p c ≡ inside n → long_of wd c ≡ size_of wd n → pick (eqb c 36) (eqb (le_at wd w (p + 9)) target) false ≡ node_names target n
      → Codes wd target w p n
  unfolding inside_at names_at
  coded n c ys l i j k = let z = (lies_first w p c ys d l).1 in record { held = rw z i; size = rw z j; names = rw z k }

  module _ (sp : Span) (f : SpanWithin sp) where
    -- the number behind the span
    named : (c v : ℕ) (ys : List ℕ) (m : ℕ) → v < 256 ^ m → Lies w p (c ∷ (span_bytes sp ++ (le m v ++ ys))) d → (le_at m w (p + 9) ≡ v) × Lies w (p + 9 + m) ys d
    named c v ys m k l =
        let x0 = lies_first w p c _ d l in
        let x1 = span_read w d (p + 1) (p + 9) (omega arith) f x0.2 in
        le-read_then w d (p + 9) (p + 9 + m) m refl k x1.1

    named-last : (c v m : ℕ) → v < 256 ^ m → Lies w p (c ∷ (span_bytes sp ++ le m v)) d → le_at m w (p + 9) ≡ v
    named-last c v m k l = let z = append-nil (le m v) in (named c v [] m k (rw (← z) at l)).0

    leaf_codes : (l : Leaf) → LeafFits wd l → Lies w p (symbol_bytes wd sp (SymbolKind.Leaf l)) d → Codes wd target w p (Node.Symbol sp (SymbolKind.Leaf l))
    unfolding symbol_bytes leaf_code leaf_operand node_bytes size_of long_of inside_by inside node_names pick
    leaf_codes (Leaf.AmbiguousId a) k l = coded _ 32 _ l refl (simp (length-append, length_span, length-le) (omega arith)) refl
    leaf_codes (Leaf.Bare a) k l = coded _ 33 _ l refl (simp (length-append, length_span, length-le) (omega arith)) refl
    leaf_codes (Leaf.Quoted a) k l = coded _ 34 _ l refl (simp (length-append, length_span, length-le) (omega arith)) refl
    leaf_codes (Leaf.Regex a) k l = coded _ 35 _ l refl (simp (length-append, length_span, length-le) (omega arith)) refl
    leaf_codes (Leaf.Nonterminal a) k l =
        coded _ 36 _ l refl (simp (length-append, length_span, length-le) (omega arith)) (ap (λ (v : ℕ). eqb v target) (named-last 36 a.0 wd k l))
    leaf_codes Leaf.Lookahead k l = coded _ 42 _ l refl (simp (length-append, length_span) (omega arith)) refl
    leaf_codes Leaf.Lookbehind k l = coded _ 43 _ l refl (simp (length-append, length_span) (omega arith)) refl
    leaf_codes Leaf.Error k l = coded _ 44 _ l refl (simp (length-append, length_span) (omega arith)) refl

    kind-codes : (k : SymbolKind) → KindFits wd k → Lies w p (node_bytes wd (Node.Symbol sp k)) d → Codes wd target w p (Node.Symbol sp k)
    unfolding node_bytes symbol_bytes size_of long_of inside_by inside inside_of node_names pick
    kind-codes (SymbolKind.Leaf x) k l = leaf_codes x k l
    kind-codes (SymbolKind.Around (Around.Repeat op)) k l = coded _ 38 _ l refl (simp (length-append, length_span) (omega arith)) refl
    kind-codes (SymbolKind.Around Around.Choose) k l = coded _ 39 _ l refl (simp length_span (omega arith)) refl
    kind-codes (SymbolKind.Around (Around.Name n a)) k l = coded _ 40 _ l refl (simp (length-append, length_span, length-le) (omega arith)) refl
    kind-codes (SymbolKind.Over (Over.Macro a n)) k l =
        let x = named 37 a.0 (n ∷ []) wd k.0 l in
        coded _ 37 _ l (byte_read w d (p + 9 + wd) (p + 10 + wd) (omega arith) x.1).0 (simp (length-append, length_span, length-le) (omega arith)) refl
    kind-codes (SymbolKind.Over (Over.Group n)) k l = coded _ 41 _ l (named-last 41 n 2 k l) (simp (length-append, length_span, length-le) (omega arith)) refl

  pub sym_codes : (ts : List Text) (x : Sym) → SymFits wd ts x → Lies w p (node_bytes wd (sym_node ts x)) d → Codes wd target w p (sym_node ts x)
  unfolding sym_node
  sym_codes ts (leaf sp l) f m = kind-codes sp f.0 _ f.1 m
  sym_codes ts (around sp a x) f m = kind-codes sp f.0.0 _ f.0.1 m
  sym_codes ts (over sp o xs) f m = kind-codes sp f.0.0 _ f.0.1 m

-- ---- the first command of symbols that lie there
pub first_codes : (wd target : ℕ) (ts : List Text) (w : List ℕ) (p e : ℕ) (x : Sym) (xs : Syms) → SymsFits wd ts (cons x xs) → Lies w p (syms_bytes wd ts (cons x xs)) e → Codes wd target w p (sym_node ts x)
unfolding syms_bytes
first_codes wd target ts w p e x xs f l =
    let a = (lies_split w p e (sym_bytes wd ts x) (syms_bytes wd ts xs) l).0 in
    let z = sym_bytes_lem wd ts x in
    sym_codes wd target w p _ ts x f.0 (lies_split w p _ (node_bytes wd (sym_node ts x)) (syms_bytes wd ts (children x)) (rw z at a)).0
