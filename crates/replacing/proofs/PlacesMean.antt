-- The places of the symbols that are expanded: at them stand the symbols that are expanded, in the order of the trees. Assumes nothing.
use mathlib.Core.Path.{◌≡◌, refl, ap, ◌∙◌}
use mathlib.Core.Bool.{Bool, false}
use mathlib.Core.List.{List, [], ◌∷◌, ◌++◌, map}
use Prim.Native.Nat.{ℕ, zero, suc, ◌+◌, ◌≤◌}
use native.Mathlib.Omega.{arith}
use Rattle.std.specs.Prelude.{Option as Optional, Some, None}
use Rattle.octets.specs.Plain.Numbers.{Bytes}
use Rattle.parse_tree.specs.Plain.Tree.{Text, Sym, leaf, around, syms_of}
use Rattle.parse_tree.specs.Working.Nodes.{node_at, size_of}
use Rattle.parse_tree.specs.Working.Places.{symbols_place}
use Rattle.parse_tree.specs.Plain.Reading.{Reading, got, refused, then, times}
use Rattle.parse_tree.specs.Working.Expect.{expect_symbol}
use Rattle.parse_tree.specs.Working.Operands.{leaf_of, around_of, inside_of}
use Rattle.parse_tree.specs.Working.Decode.{read_sym}
use Rattle.parse_tree.specs.declared.syntax.Span.{Span}
use Rattle.parse_tree.specs.declared.syntax.Leaf.{Leaf as LeafNode}
use Rattle.parse_tree.specs.declared.syntax.Around.{Around as AroundNode}
use Rattle.parse_tree.specs.declared.syntax.SymbolKind.{SymbolKind}
use Rattle.parse_tree.specs.declared.syntax.Node.{Node}
use Rattle.parse_tree.specs.Working.Within.{Each}
use Rattle.parse_tree.proofs.ReadingLaws.{never, then-got, got_as, each_append}
use Rattle.parse_tree.proofs.Expecting.{symbol_wanted}
use Rattle.replacing.specs.Trees.{own_leaf, own_around, expanded, expanded_all}
use Rattle.replacing.specs.Prints.{sym_of, sym_at}
use Rattle.replacing.specs.Slots.{leaf_places, around_places, listed, places}
use Rattle.replacing.specs.Sound.{Firm as FirmAt}
use Rattle.replacing.specs.Runs.{plain_leaf, plain_around, plain_kind, plain}
use Rattle.replacing.proofs.Readings.{Standing, kind_read, stands_then, read_more}

pub map-append : {A B : Type 0} (f : A → B) (xs ys : List A) → map f (xs ++ ys) ≡ map f xs ++ map f ys
map-append f [] ys = refl
map-append f (x ∷ xs) ys = ap (λ l. f x ∷ l) (map-append f xs ys)

module _ (w : ℕ) (s : List ℕ) where
  -- what is listed of the command at a, which ends at c
  abbrev pub kind_places : ℕ → ℕ → SymbolKind → ℕ → Reading (List ℕ)
  kind_places left a k c = elim k [
    | SymbolKind.Leaf l ↦ got (leaf_places l a) c
    | SymbolKind.Around o ↦ then (places w s left c) (λ ps e'. got (ps ++ around_places o a) e')
    | SymbolKind.Over o ↦ then (listed (λ p. places w s left p) (inside_of o) c) (λ ps e'. got (ps ++ (a ∷ [])) e')
  ]

  pub places-at : (left a c : ℕ) (sp : Span) (k : SymbolKind) → node_at w s a ≡ Some (Node.Symbol sp k) → a + size_of w (Node.Symbol sp k) ≡ c → places w s (suc left) a ≡ kind_places left a k c
  unfolding places expect_symbol
  places-at left a c sp k p q = ap (λ (o : Optional Node). elim o as (λ _. Reading (List ℕ)) [ None ↦ refused 2 a | Some n ↦ expect_symbol a (λ sp' k' e. kind_places left a k' e) n (a + size_of w n) ]) p ∙ ap (λ z. kind_places left a k z) q

module _ (four : Bool) (w : ℕ) (s : List ℕ) (ts : List Text) (b : Bytes s) where
  -- the symbol that was read is the one at its place
  pub sym_here : (left a : ℕ) (x : Sym) (e : ℕ) → left ≤ 64 → read_sym four w s ts left a ≡ got x e → sym_at four w s ts a ≡ x
  unfolding sym_at sym_of
  sym_here left a x e l p = rw (read_more four w s ts left 64 a x e l p) refl

  -- a symbol that is expanded stands at p
  abbrev pub Firm : ℕ → Type 0
  Firm p = FirmAt four w s ts p

  -- places that end at e, with the symbols xs at them
  pub record Places (r : Reading (List ℕ)) (xs : List Sym) (e : ℕ) : Type 0 where
    pub at : List ℕ
    pub is : r ≡ got at e
    pub stand : map (sym_at four w s ts) at ≡ xs
    pub firm : Each Firm at

  leaf_firm : (l : LeafNode) (a : ℕ) → (plain_leaf l ≡ false → Firm a) → Each Firm (leaf_places l a)
  unfolding leaf_places plain_leaf
  leaf_firm (LeafNode.AmbiguousId n) a f = tt
  leaf_firm (LeafNode.Bare n) a f = tt
  leaf_firm (LeafNode.Quoted n) a f = tt
  leaf_firm (LeafNode.Regex n) a f = tt
  leaf_firm (LeafNode.Nonterminal n) a f = tt
  leaf_firm LeafNode.Lookahead a f = (f refl, tt)
  leaf_firm LeafNode.Lookbehind a f = (f refl, tt)
  leaf_firm LeafNode.Error a f = tt

  around_firm : (o : AroundNode) (a : ℕ) → (plain_around o ≡ false → Firm a) → Each Firm (around_places o a)
  unfolding around_places plain_around
  around_firm (AroundNode.Repeat k) a f = (f refl, tt)
  around_firm AroundNode.Choose a f = tt
  around_firm (AroundNode.Name m n) a f = tt

  leaf_own : (sp : Span) (l : LeafNode) (a : ℕ) → sym_at four w s ts a ≡ leaf sp (leaf_of ts l) → map (sym_at four w s ts) (leaf_places l a) ≡ own_leaf sp (leaf_of ts l)
  unfolding leaf_of leaf_places
  leaf_own sp (LeafNode.AmbiguousId n) a p = refl
  leaf_own sp (LeafNode.Bare n) a p = refl
  leaf_own sp (LeafNode.Quoted n) a p = refl
  leaf_own sp (LeafNode.Regex n) a p = refl
  leaf_own sp (LeafNode.Nonterminal n) a p = refl
  leaf_own sp LeafNode.Lookahead a p = ap (λ y. y ∷ []) p
  leaf_own sp LeafNode.Lookbehind a p = ap (λ y. y ∷ []) p
  leaf_own sp LeafNode.Error a p = refl

  around_own : (sp : Span) (o : AroundNode) (x : Sym) (a : ℕ) → sym_at four w s ts a ≡ around sp (around_of ts o) x → map (sym_at four w s ts) (around_places o a) ≡ own_around sp (around_of ts o) x
  unfolding around_of around_places
  around_own sp (AroundNode.Repeat k) x a p = ap (λ y. y ∷ []) p
  around_own sp AroundNode.Choose x a p = refl
  around_own sp (AroundNode.Name m n) x a p = refl

  abbrev pub SymPlaces : ℕ → Type 0
  SymPlaces left = (a : ℕ) (x : Sym) (e : ℕ) → read_sym four w s ts left a ≡ got x e → Places (places w s left a) (expanded x) e

  pub all_places : (left : ℕ) → SymPlaces left → (n a : ℕ) (xs : List Sym) (e : ℕ) → times (λ p. read_sym four w s ts left p) n a ≡ got xs e
      → Places (listed (λ p. places w s left p) n a) (expanded_all (syms_of xs)) e
  unfolding times listed then syms_of expanded_all
  all_places left f zero a xs e p = got_as (λ zs k. Places (got [] a) (expanded_all (syms_of zs)) k) p (record { at = []; is = refl; stand = refl; firm = tt })
  all_places left f (suc n) a xs e p =
      let h = then-got (read_sym four w s ts left a) _ p in
      let i = then-got (times (λ q. read_sym four w s ts left q) n h.mid) _ h.second in
      let u = f a h.value h.mid h.first in
      let v = all_places left f n h.mid i.value i.mid i.first in
      got_as (λ zs k. Places (listed (λ q. places w s left q) (suc n) a) (expanded_all (syms_of zs)) k) i.second
      (record { at = u.at ++ v.at; is = rw (u.is, v.is) refl; stand = rw (← u.stand, ← v.stand) (map-append (sym_at four w s ts) u.at v.at); firm = each_append Firm u.at v.at u.firm v.firm })

  kind-places : (left : ℕ) → SymPlaces left → (sp : Span) (k : SymbolKind) (a c : ℕ) (x : Sym) (e : ℕ) → sym_at four w s ts a ≡ x → (plain_kind k ≡ false → Firm a)
      → kind_read four w s ts left sp k c ≡ got x e
      → Places (kind_places w s left a k c) (expanded x) e
  unfolding expanded then plain_kind
  kind-places left f sp (SymbolKind.Leaf l) a c x e z g p =
      got_as (λ y k. sym_at four w s ts a ≡ y → Places (got (leaf_places l a) c) (expanded y) k) p (λ q. record { at = leaf_places l a; is = refl; stand = leaf_own sp l a q; firm = leaf_firm l a g }) z
  kind-places left f sp (SymbolKind.Around o) a c x e z g p =
      let i = then-got (read_sym four w s ts left c) _ p in
      let u = f c i.value i.mid i.first in
      got_as (λ y k. sym_at four w s ts a ≡ y → Places (kind_places w s left a (SymbolKind.Around o) c) (expanded y) k) i.second
      (λ q. record { at = u.at ++ around_places o a; is = rw u.is refl; stand = map-append (sym_at four w s ts) u.at (around_places o a) ∙ rw (u.stand, around_own sp o i.value a q) refl; firm = each_append Firm u.at (around_places o a) u.firm (around_firm o a g) }) z
  kind-places left f sp (SymbolKind.Over o) a c x e z g p =
      let i = then-got (times (λ q. read_sym four w s ts left q) (inside_of o) c) _ p in
      let u = all_places left f (inside_of o) c i.value i.mid i.first in
      got_as (λ y k. sym_at four w s ts a ≡ y → Places (kind_places w s left a (SymbolKind.Over o) c) (expanded y) k) i.second
      (λ q. record { at = u.at ++ (a ∷ []); is = rw u.is refl; stand = map-append (sym_at four w s ts) u.at (a ∷ []) ∙ rw (u.stand, q) refl; firm = each_append Firm u.at (a ∷ []) u.firm (g refl, tt) }) z

  pub sym_places : (left : ℕ) → left ≤ 64 → SymPlaces left
  unfolding read_sym plain
  sym_places zero l a x e p = stands_then four w s ts symbols_place zero b _ a p (λ n c h q. absurd (never q))
  sym_places (suc left) l a x e p =
      stands_then four w s ts symbols_place (suc left) b _ a p (λ n c h q.
      symbol_wanted (Standing four w s ts a c) a c x e _ n h q (λ sp k i r.
      let q₁ = sym_here (suc left) a x e l p in
      let f : plain_kind k ≡ false → Firm a = λ z. record { end = e; read = rw q₁ (read_more four w s ts (suc left) 64 a x e l p); key = rw i.here z } in
      let v = kind-places left (sym_places left (omega arith)) sp k a c x e q₁ f r in
      record { at = v.at; is = places-at w s left a c sp k i.here i.behind ∙ v.is; stand = v.stand; firm = v.firm }))
