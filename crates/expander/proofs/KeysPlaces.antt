-- The places of the symbols that are expanded, by the tree of a symbol that was read, are those by its commands. Assumes nothing.
use mathlib.Core.Path.{◌≡◌, refl, sym, ap, ◌∙◌}
use mathlib.Core.Bool.{Bool, true}
use mathlib.Core.List.{List, [], ◌∷◌, ◌++◌}
use Prim.Native.Nat.{ℕ, zero, suc, ◌+◌}
use Rattle.octets.specs.Plain.Numbers.{Bytes}
use Rattle.parse_tree.specs.Plain.Tree.{Text, Sym, syms_of}
use Rattle.parse_tree.specs.Plain.Texts.{distinct}
use Rattle.parse_tree.specs.Working.Nodes.{size_of}
use Rattle.parse_tree.specs.Working.Places.{symbols_place}
use Rattle.parse_tree.specs.Plain.Reading.{got, then, times}
use Rattle.parse_tree.specs.Working.Operands.{leaf_of, around_of, over_of, inside_of}
use Rattle.parse_tree.specs.Working.Decode.{read_sym}
use Rattle.parse_tree.specs.declared.syntax.Span.{Span}
use Rattle.parse_tree.specs.declared.syntax.Leaf.{Leaf as LeafNode}
use Rattle.parse_tree.specs.declared.syntax.Around.{Around as AroundNode}
use Rattle.parse_tree.specs.declared.syntax.Over.{Over as OverNode}
use Rattle.parse_tree.specs.declared.syntax.SymbolKind.{SymbolKind}
use Rattle.parse_tree.specs.declared.syntax.Node.{Node}
use Rattle.parse_tree.proofs.ReadingLaws.{never, then-got, got_as}
use Rattle.parse_tree.proofs.Expecting.{symbol_wanted}
use Rattle.parse_tree.proofs.SizeLaws.{repeat_size, choose_size, name_size, macro_size, group_size}
use Rattle.parse_tree.proofs.ItemFound.{sym_finds}
use Rattle.replacing.specs.Slots.{leaf_places, around_places, listed, places}
use Rattle.replacing.proofs.Readings.{Standing, stands_then}
use Rattle.expander.specs.Replace.{leaf_keys, around_keys, around_long, over_long, keys_of, keys_of_all}
use Rattle.replacing.proofs.PlacesMean.{kind_places, places-at}
use Rattle.replacing.proofs.Readings.{kind_read}

-- ---- one command
module _ (wd : ℕ) (ts : List Text) where
  leaf_keys_lem : (l : LeafNode) (p : ℕ) → leaf_places l p ≡ leaf_keys (leaf_of ts l) p
  unfolding leaf_places leaf_keys leaf_of
  leaf_keys_lem (LeafNode.AmbiguousId n) p = refl
  leaf_keys_lem (LeafNode.Bare n) p = refl
  leaf_keys_lem (LeafNode.Quoted n) p = refl
  leaf_keys_lem (LeafNode.Regex n) p = refl
  leaf_keys_lem (LeafNode.Nonterminal n) p = refl
  leaf_keys_lem LeafNode.Lookahead p = refl
  leaf_keys_lem LeafNode.Lookbehind p = refl
  leaf_keys_lem LeafNode.Error p = refl

  around_keys_lem : (o : AroundNode) (p : ℕ) → around_places o p ≡ around_keys (around_of ts o) p
  unfolding around_places around_keys around_of
  around_keys_lem (AroundNode.Repeat k) p = refl
  around_keys_lem AroundNode.Choose p = refl
  around_keys_lem (AroundNode.Name m n) p = refl

  around_long_lem : (sp : Span) (o : AroundNode) → size_of wd (Node.Symbol sp (SymbolKind.Around o)) ≡ around_long wd (around_of ts o)
  unfolding around_long around_of
  around_long_lem sp (AroundNode.Repeat k) = sym (repeat_size wd _ sp (SymbolKind.Around (AroundNode.Repeat k)) refl (AroundNode.Repeat k) k refl refl)
  around_long_lem sp AroundNode.Choose = sym (choose_size wd _ sp (SymbolKind.Around AroundNode.Choose) refl AroundNode.Choose refl refl)
  around_long_lem sp (AroundNode.Name m n) = sym (name_size wd _ sp (SymbolKind.Around (AroundNode.Name m n)) refl (AroundNode.Name m n) m n refl refl)

  over_long_lem : (sp : Span) (o : OverNode) → size_of wd (Node.Symbol sp (SymbolKind.Over o)) ≡ over_long wd (over_of ts o)
  unfolding over_long over_of
  over_long_lem sp (OverNode.Macro n k) = sym (macro_size wd _ sp (SymbolKind.Over (OverNode.Macro n k)) refl (OverNode.Macro n k) n k refl refl)
  over_long_lem sp (OverNode.Group k) = sym (group_size wd _ sp (SymbolKind.Over (OverNode.Group k)) refl (OverNode.Group k) k refl refl)

module _ (four : Bool) (wd : ℕ) (t : List ℕ) (ts : List Text) (b : Bytes t) (d : distinct ts ≡ true) where
  abbrev SymKeys : ℕ → Type 0
  SymKeys left = (p : ℕ) (y : Sym) (e : ℕ) → read_sym four wd t ts left p ≡ got y e → places wd t left p ≡ got (keys_of wd ts y p) e

  -- ---- symbols one behind another
  all_keys : (left : ℕ) → SymKeys left → (n p : ℕ) (ys : List Sym) (e : ℕ) → times (λ q. read_sym four wd t ts left q) n p ≡ got ys e
      → listed (λ q. places wd t left q) n p ≡ got (keys_of_all wd ts (syms_of ys) p) e
  unfolding times listed then syms_of keys_of_all
  all_keys left f zero p ys e r = got_as (λ zs m. listed (λ q. places wd t left q) zero p ≡ got (keys_of_all wd ts (syms_of zs) p) m) r refl
  all_keys left f (suc n) p ys e r =
      let h = then-got (read_sym four wd t ts left p) _ r in
      let i = then-got (times (λ q. read_sym four wd t ts left q) n h.mid) _ h.second in
      let u = f p h.value h.mid h.first in
      let v = all_keys left f n h.mid i.value i.mid i.first in
      let z = (sym_finds four wd t ts b d left p h.value h.mid h.first).lies.end in
      let q : listed (λ o. places wd t left o) (suc n) p ≡ got (keys_of wd ts h.value p ++ keys_of_all wd ts (syms_of i.value) h.mid) i.mid = rw (u, v) refl in
      got_as (λ zs m. listed (λ o. places wd t left o) (suc n) p ≡ got (keys_of_all wd ts (syms_of zs) p) m) i.second
      (q ∙ ap (λ (m : ℕ). got (keys_of wd ts h.value p ++ keys_of_all wd ts (syms_of i.value) m) i.mid) z)

  -- ---- one
  kind-keys : (left : ℕ) → SymKeys left → (sp : Span) (k : SymbolKind) (p c : ℕ) (y : Sym) (e : ℕ) → p + size_of wd (Node.Symbol sp k) ≡ c → kind_read four wd t ts left sp k c ≡ got y e → kind_places wd t left p k c ≡ got (keys_of wd ts y p) e
  unfolding keys_of then
  kind-keys left f sp (SymbolKind.Leaf l) p c y e i r = got_as (λ z m. kind_places wd t left p (SymbolKind.Leaf l) c ≡ got (keys_of wd ts z p) m) r (ap (λ (ps : List ℕ). got ps c) (leaf_keys_lem wd ts l p))
  kind-keys left f sp (SymbolKind.Around o) p c y e i r =
      let h = then-got (read_sym four wd t ts left c) _ r in
      let u = f c h.value h.mid h.first in
      let x = h.value in
      let j : c ≡ p + around_long wd (around_of ts o) = sym i ∙ ap (λ (m : ℕ). p + m) (around_long_lem wd ts sp o) in
      let q : kind_places wd t left p (SymbolKind.Around o) c ≡ got (keys_of wd ts x c ++ around_places o p) h.mid = rw u refl in
      got_as (λ z m. kind_places wd t left p (SymbolKind.Around o) c ≡ got (keys_of wd ts z p) m) h.second
      (q ∙ ap (λ (m : ℕ). got (keys_of wd ts x m ++ around_places o p) h.mid) j ∙ ap (λ (ps : List ℕ). got (keys_of wd ts x (p + around_long wd (around_of ts o)) ++ ps) h.mid) (around_keys_lem wd ts o p))
  kind-keys left f sp (SymbolKind.Over o) p c y e i r =
      let h = then-got (times (λ q. read_sym four wd t ts left q) (inside_of o) c) _ r in
      let u = all_keys left f (inside_of o) c h.value h.mid h.first in
      let j : c ≡ p + over_long wd (over_of ts o) = sym i ∙ ap (λ (m : ℕ). p + m) (over_long_lem wd ts sp o) in
      let q : kind_places wd t left p (SymbolKind.Over o) c ≡ got (keys_of_all wd ts (syms_of h.value) c ++ (p ∷ [])) h.mid = rw u refl in
      got_as (λ z m. kind_places wd t left p (SymbolKind.Over o) c ≡ got (keys_of wd ts z p) m) h.second
      (q ∙ ap (λ (m : ℕ). got (keys_of_all wd ts (syms_of h.value) m ++ (p ∷ [])) h.mid) j)

  pub sym_keys : (left : ℕ) → SymKeys left
  unfolding read_sym
  sym_keys zero p y e r = stands_then four wd t ts symbols_place zero b _ p r (λ n c h q. absurd (never q))
  sym_keys (suc left) p y e r =
      stands_then four wd t ts symbols_place (suc left) b _ p r (λ n c h q.
      symbol_wanted (Standing four wd t ts p c) p c y e _ n h q (λ sp k i o.
      places-at wd t left p c sp k i.here i.behind ∙ kind-keys left (sym_keys left) sp k p c y e i.behind o))
