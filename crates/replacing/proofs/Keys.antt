-- Where a command isn't copied, the symbol is one that is expanded: its print is a key. Assumes nothing.
use mathlib.Core.Path.{◌≡◌, refl, sym, ap, ◌∙◌}
use mathlib.Core.Bool.{Bool, true, false, false≢true}
use mathlib.Core.List.{List}
use Prim.Native.Nat.{ℕ, suc}
use Rattle.octets.specs.Plain.Numbers.{Bytes}
use Rattle.parse_tree.specs.Plain.Tree.{Text, Sym, leaf, around, syms_of}
use Rattle.parse_tree.specs.Plain.Display.{print}
use Rattle.parse_tree.specs.Working.Nodes.{node_at}
use Rattle.parse_tree.specs.Working.Places.{symbols_place}
use Rattle.parse_tree.specs.Plain.Reading.{got, then, times}
use Rattle.parse_tree.specs.Working.Operands.{leaf_of, around_of, over_of, inside_of}
use Rattle.parse_tree.specs.Working.Decode.{read_sym}
use Rattle.parse_tree.specs.declared.syntax.Span.{Span}
use Rattle.parse_tree.specs.declared.syntax.Leaf.{Leaf as LeafNode}
use Rattle.parse_tree.specs.declared.syntax.Around.{Around as AroundNode}
use Rattle.parse_tree.specs.declared.syntax.SymbolKind.{SymbolKind}
use Rattle.parse_tree.proofs.ReadingLaws.{then-got, got_as}
use Rattle.parse_tree.proofs.Expecting.{symbol_wanted}
use Rattle.replacing.specs.Trees.{is_key}
use Rattle.replacing.specs.Prints.{sym_at}
use Rattle.replacing.specs.Runs.{plain_leaf, plain_around, plain_kind, plain}
use Rattle.replacing.specs.Sound.{Firm, Key}
use Rattle.replacing.proofs.Readings.{Standing, stands_then}

module _ (ts : List Text) where
  leaf_key_lem : (sp : Span) (l : LeafNode) → plain_leaf l ≡ false → is_key (leaf sp (leaf_of ts l)) ≡ true
  unfolding plain_leaf leaf_of
  leaf_key_lem sp (LeafNode.AmbiguousId n) z = absurd (false≢true (sym z))
  leaf_key_lem sp (LeafNode.Bare n) z = absurd (false≢true (sym z))
  leaf_key_lem sp (LeafNode.Quoted n) z = absurd (false≢true (sym z))
  leaf_key_lem sp (LeafNode.Regex n) z = absurd (false≢true (sym z))
  leaf_key_lem sp (LeafNode.Nonterminal n) z = absurd (false≢true (sym z))
  leaf_key_lem sp LeafNode.Lookahead z = refl
  leaf_key_lem sp LeafNode.Lookbehind z = refl
  leaf_key_lem sp LeafNode.Error z = absurd (false≢true (sym z))

  around_key : (sp : Span) (o : AroundNode) (x : Sym) → plain_around o ≡ false → is_key (around sp (around_of ts o) x) ≡ true
  unfolding plain_around around_of
  around_key sp (AroundNode.Repeat k) x z = refl
  around_key sp AroundNode.Choose x z = absurd (false≢true (sym z))
  around_key sp (AroundNode.Name m n) x z = absurd (false≢true (sym z))

module _ (four : Bool) (w : ℕ) (s : List ℕ) (ts : List Text) (b : Bytes s) where
  kind-key : (left : ℕ) (sp : Span) (k : SymbolKind) (c : ℕ) (x : Sym) (e : ℕ) → plain_kind k ≡ false → elim k [
    | SymbolKind.Leaf l ↦ got (Sym.leaf sp (leaf_of ts l)) c
    | SymbolKind.Around o ↦ then (read_sym four w s ts left c) (λ y e'. got (Sym.around sp (around_of ts o) y) e')
    | SymbolKind.Over o ↦ then (times (λ q. read_sym four w s ts left q) (inside_of o) c) (λ ys e'. got (Sym.over sp (over_of ts o) (syms_of ys)) e')
  ] ≡ got x e → is_key x ≡ true
  unfolding plain_kind
  kind-key left sp (SymbolKind.Leaf l) c x e z p = got_as (λ y m. is_key y ≡ true) p (leaf_key_lem ts sp l z)
  kind-key left sp (SymbolKind.Around o) c x e z p =
      let i = then-got (read_sym four w s ts left c) _ p in got_as (λ y m. is_key y ≡ true) i.second (around_key ts sp o i.value z)
  kind-key left sp (SymbolKind.Over o) c x e z p =
      let i = then-got (times (λ q. read_sym four w s ts left q) (inside_of o) c) _ p in got_as (λ y m. is_key y ≡ true) i.second refl

  pub sym_key : (left a : ℕ) (x : Sym) (e : ℕ) → plain (node_at w s a) ≡ false → read_sym four w s ts (suc left) a ≡ got x e → is_key x ≡ true
  unfolding read_sym plain
  sym_key left a x e z p =
      stands_then four w s ts symbols_place (suc left) b _ a p (λ n c h q.
      symbol_wanted (Standing four w s ts a c) a c x e _ n h q (λ sp k i r.
      kind-key left sp k c x e (sym (ap plain i.here) ∙ z) r))

  pub firm_key : (p : ℕ) → Firm four w s ts p → Key (print (sym_at four w s ts p))
  firm_key p h = record { symbol = sym_at four w s ts p; own = sym_key 63 p (sym_at four w s ts p) h.end h.key h.read; is = refl }
