-- The places listed of a symbol hold those of each symbol inside it; so once a symbol has a reference, all inside it have. Assumes nothing.
use mathlib.Core.Path.{◌≡◌, refl, sym, ap, ◌∙◌, subst}
use mathlib.Core.Logic.{◌⊎◌, inl, inr}
use mathlib.Core.Bool.{Bool, true, false, cond, false≢true}
use mathlib.Core.List.{List, [], ◌∷◌, ◌++◌, map}
use mathlib.Core.Option.{Option, none, some}
use Prim.Native.Nat.{ℕ, zero, suc, ◌+◌, ◌≤◌}
use native.Mathlib.Omega.{arith}
use borrow.Author.Tests.{eqb-true}
use lib.Dec.{eqb}
use Rattle.std.specs.Prelude.{Option as Optional, Some, None}
use Rattle.parse_tree.specs.Working.Nodes.{node_at, size_of}
use Rattle.parse_tree.specs.Plain.Reading.{Reading, got, refused, then}
use Rattle.parse_tree.specs.Working.Expect.{expect_symbol}
use Rattle.parse_tree.specs.Working.Operands.{inside_of}
use Rattle.parse_tree.specs.Working.Within.{Each}
use Rattle.parse_tree.specs.declared.syntax.Leaf.{Leaf as LeafNode}
use Rattle.parse_tree.specs.declared.syntax.Around.{Around as AroundNode}
use Rattle.parse_tree.specs.declared.syntax.SymbolKind.{SymbolKind}
use Rattle.parse_tree.proofs.ReadingLaws.{never, then-got, got_as, each_append, each_map}
use Rattle.parse_tree.proofs.Expecting.{symbol_wanted}
use Rattle.parse_tree.specs.declared.syntax.Node.{Node}
use Rattle.replacing.specs.Slots.{Ref, text, like, Slots, leaf_places, around_places, listed, places, among, first_like, refer, push_text, push_new, note_by, note_as, note, note_all}
use Rattle.replacing.specs.Sound.{HasRef, AllNoted}
use Rattle.replacing.proofs.SlotsMean.{among-here, among_later}
use Rattle.replacing.proofs.PlacesMean.{kind_places}

-- ---- lists of places
pub among-left : (q : ℕ) (xs ys : List ℕ) → among q xs ≡ true → among q (xs ++ ys) ≡ true
unfolding among
among-left q [] ys h = absurd (false≢true h)
among-left q (x ∷ xs) ys h = go (eqb x q) h (among-left q xs ys)
  where
    go : (b : Bool) → cond b true (among q xs) ≡ true → (among q xs ≡ true → among q (xs ++ ys) ≡ true) → cond b true (among q (xs ++ ys)) ≡ true
    go true h f = refl
    go false h f = f h

pub among-right : (q : ℕ) (xs ys : List ℕ) → among q ys ≡ true → among q (xs ++ ys) ≡ true
among-right q [] ys h = h
among-right q (x ∷ xs) ys h = among_later q x (xs ++ ys) (among-right q xs ys h)

pub among-each : (P : ℕ → Type 0) (q : ℕ) (qs : List ℕ) → Each P qs → among q qs ≡ true → P q
unfolding among
among-each P q [] h i = absurd (false≢true i)
among-each P q (p ∷ qs) h i = go (eqb p q) refl i (among-each P q qs h.1)
  where
    go : (b : Bool) → eqb p q ≡ b → cond b true (among q qs) ≡ true → (among q qs ≡ true → P q) → P q
    go true e j f = subst P (eqb-true p q e) h.0
    go false e j f = f j

module _ (w : ℕ) (s : List ℕ) where
  listed-also : (f g : ℕ → Reading (List ℕ)) → ((a : ℕ) (x : List ℕ) (e : ℕ) → f a ≡ got x e → g a ≡ got x e) → (n a : ℕ) (xs : List ℕ) (e : ℕ) → listed f n a ≡ got xs e → listed g n a ≡ got xs e
  unfolding listed then
  listed-also f g t zero a xs e p = p
  listed-also f g t (suc n) a xs e p =
      let h = then-got (f a) _ p in
      let i = then-got (listed f n h.mid) _ h.second in
      cc (t a h.value h.mid h.first, listed-also f g t n h.mid i.value i.mid i.first)

  kind-also : (left more : ℕ) → ((a : ℕ) (x : List ℕ) (e : ℕ) → places w s left a ≡ got x e → places w s more a ≡ got x e) → (a : ℕ) (k : SymbolKind) (c : ℕ) (ps : List ℕ) (e : ℕ)
      → kind_places w s left a k c ≡ got ps e → kind_places w s more a k c ≡ got ps e
  unfolding then
  kind-also left more f a (SymbolKind.Leaf l) c ps e r = r
  kind-also left more f a (SymbolKind.Around o) c ps e r = let i = then-got (places w s left c) _ r in rw (f c i.value i.mid i.first) i.second
  kind-also left more f a (SymbolKind.Over o) c ps e r =
      let i = then-got (listed (λ q. places w s left q) (inside_of o) c) _ r in
      rw (listed-also (λ q. places w s left q) (λ q. places w s more q) f (inside_of o) c i.value i.mid i.first) i.second

  -- what is listed of what was read at a place
  abbrev shown : ℕ → ℕ → Optional Node → Reading (List ℕ)
  shown left a o = elim o [ None ↦ refused 2 a | Some n ↦ expect_symbol a (λ sp k c. kind_places w s left a k c) n (a + size_of w n) ]

  -- with more levels left the same are listed
  pub places-more : (left more a : ℕ) (ps : List ℕ) (e : ℕ) → left ≤ more → places w s left a ≡ got ps e → places w s more a ≡ got ps e
  unfolding places expect_symbol
  places-more zero more a ps e l p = absurd (never p)
  places-more (suc left) zero a ps e l p = absurd (omega arith)
  places-more (suc left) (suc more) a ps e l p =
      go (node_at w s a) refl p (λ q x d t. places-more left more q x d (omega arith) t)
    where
      go : (o : Optional Node) → node_at w s a ≡ o → shown left a o ≡ got ps e → ((q : ℕ) (x : List ℕ) (d : ℕ) → places w s left q ≡ got x d → places w s more q ≡ got x d) → places w s (suc more) a ≡ got ps e
      go None i q f = absurd (never q)
      go (Some n) i q f =
          symbol_wanted (λ m. n ≡ m) a (a + size_of w n) ps e (λ sp k c. kind_places w s left a k c) n refl q (λ sp k j r.
          ap (shown more a) i ∙ ap (λ m. expect_symbol a (λ sp' k' c. kind_places w s more a k' c) m (a + size_of w n)) j ∙ kind-also left more f a k (a + size_of w n) ps e r)

  -- ---- each place is listed with all inside it
  abbrev Sub : List ℕ → ℕ → Type 0
  Sub ps p = (qs : List ℕ) (e : ℕ) → places w s 64 p ≡ got qs e → (q : ℕ) → among q qs ≡ true → among q ps ≡ true

  abbrev pub Closed : List ℕ → Type 0
  Closed ps = Each (Sub ps) ps

  closed_append : (xs ys : List ℕ) → Closed xs → Closed ys → Closed (xs ++ ys)
  closed_append xs ys h k =
      each_append (Sub (xs ++ ys)) xs ys (each_map (λ p f qs e r q i. among-left q xs ys (f qs e r q i)) xs h) (each_map (λ p f qs e r q i. among-right q xs ys (f qs e r q i)) ys k)

  closed_own : (xs : List ℕ) (a : ℕ) → Closed xs → Sub (xs ++ (a ∷ [])) a → Closed (xs ++ (a ∷ []))
  closed_own xs a h k = each_append (Sub (xs ++ (a ∷ []))) xs (a ∷ []) (each_map (λ p f qs e r q i. among-left q xs (a ∷ []) (f qs e r q i)) xs h) (k, tt)

  listed-closed : (f : ℕ → Reading (List ℕ)) → ((a : ℕ) (x : List ℕ) (e : ℕ) → f a ≡ got x e → Closed x) → (n a : ℕ) (xs : List ℕ) (e : ℕ) → listed f n a ≡ got xs e → Closed xs
  unfolding listed
  listed-closed f t zero a xs e p = got_as (λ zs m. Closed zs) p tt
  listed-closed f t (suc n) a xs e p =
      let h = then-got (f a) _ p in
      let i = then-got (listed f n h.mid) _ h.second in
      got_as (λ zs m. Closed zs) i.second (closed_append h.value i.value (t a h.value h.mid h.first) (listed-closed f t n h.mid i.value i.mid i.first))

  leaf_closed : (l : LeafNode) (a : ℕ) → Sub (leaf_places l a) a → Closed (leaf_places l a)
  unfolding leaf_places
  leaf_closed (LeafNode.AmbiguousId n) a f = tt
  leaf_closed (LeafNode.Bare n) a f = tt
  leaf_closed (LeafNode.Quoted n) a f = tt
  leaf_closed (LeafNode.Regex n) a f = tt
  leaf_closed (LeafNode.Nonterminal n) a f = tt
  leaf_closed LeafNode.Lookahead a f = (f, tt)
  leaf_closed LeafNode.Lookbehind a f = (f, tt)
  leaf_closed LeafNode.Error a f = tt

  around_closed : (o : AroundNode) (a : ℕ) (xs : List ℕ) → Closed xs → Sub (xs ++ around_places o a) a → Closed (xs ++ around_places o a)
  unfolding around_places
  around_closed (AroundNode.Repeat k) a xs h f = closed_own xs a h f
  around_closed AroundNode.Choose a xs h f = closed_append xs [] h tt
  around_closed (AroundNode.Name m n) a xs h f = closed_append xs [] h tt

  kind-closed : (left : ℕ) → ((a : ℕ) (x : List ℕ) (e : ℕ) → places w s left a ≡ got x e → Closed x) → (a : ℕ) (k : SymbolKind) (c : ℕ) (ps : List ℕ) (e : ℕ) → Sub ps a → kind_places w s left a k c ≡ got ps e → Closed ps
  kind-closed left f a (SymbolKind.Leaf l) c ps e u r = got_as (λ zs m. Sub zs a → Closed zs) r (λ v. leaf_closed l a v) u
  kind-closed left f a (SymbolKind.Around o) c ps e u r =
      let i = then-got (places w s left c) _ r in
      got_as (λ zs m. Sub zs a → Closed zs) i.second (λ v. around_closed o a i.value (f c i.value i.mid i.first) v) u
  kind-closed left f a (SymbolKind.Over o) c ps e u r =
      let i = then-got (listed (λ q. places w s left q) (inside_of o) c) _ r in
      got_as (λ zs m. Sub zs a → Closed zs) i.second (λ v. closed_own i.value a (listed-closed (λ q. places w s left q) f (inside_of o) c i.value i.mid i.first) v) u

  -- what is listed there is what is listed with 64
  own-sub : (left a : ℕ) (ps : List ℕ) (e : ℕ) → left ≤ 64 → places w s left a ≡ got ps e → Sub ps a
  own-sub left a ps e l p qs m r q i = got_as (λ zs n. among q zs ≡ true) (sym r ∙ places-more left 64 a ps e l p) i

  pub places-closed : (left a : ℕ) (ps : List ℕ) (e : ℕ) → left ≤ 64 → places w s left a ≡ got ps e → Closed ps
  unfolding places
  places-closed zero a ps e l p = absurd (never p)
  places-closed (suc left) a ps e l p =
      let u = own-sub (suc left) a ps e l p in
      go (node_at w s a) p (λ q x d t. places-closed left q x d (omega arith) t) u
    where
      go : (o : Optional Node) → shown left a o ≡ got ps e → ((q : ℕ) (x : List ℕ) (d : ℕ) → places w s left q ≡ got x d → Closed x) → Sub ps a → Closed ps
      go None q f u = absurd (never q)
      go (Some n) q f u =
          symbol_wanted (λ m. Unit {0}) a (a + size_of w n) ps e (λ sp k c. kind_places w s left a k c) n tt q (λ sp k i r.
          kind-closed left f a k (a + size_of w n) ps e u r)

  -- ---- references
  module _ (same : ℕ → ℕ → Bool) (text_at : ℕ → Option ℕ) where
    -- noting p gives p a reference and changes no other
    abbrev Adds : ℕ → Slots → Slots → Type 0
    Adds p x y = (r : Ref) × (y.refs ≡ (p, r) ∷ x.refs)

    by_adds : (p : ℕ) (o : Option ℕ) (x : Slots) → Adds p x (note_by p o x)
    unfolding note_by push_new push_text refer
    by_adds p none x = (like p, refl)
    by_adds p (some k) x = go (among k x.marks)
      where
        go : (b : Bool) → Adds p x (cond b (refer p (text k) x) (push_text p k x))
        go true = (text k, refl)
        go false = (text k, refl)

    as_adds : (p : ℕ) (o : Option ℕ) (x : Slots) → Adds p x (note_as text_at p o x)
    unfolding note_as refer
    as_adds p none x = by_adds p (text_at p) x
    as_adds p (some q) x = (like q, refl)

    note_adds : (p : ℕ) (x : Slots) → Adds p x (note same text_at p x)
    unfolding note
    note_adds p x = as_adds p (first_like same p x.firsts) x

    note_stays : (p q : ℕ) (x : Slots) → HasRef q x → HasRef q (note same text_at p x)
    note_stays p q x h = let (r, e) = note_adds p x in rw e (among_later q p (map (λ (v : ℕ × Ref). v.0) x.refs) h)

    pub note_here : (p : ℕ) (x : Slots) → HasRef p (note same text_at p x)
    note_here p x = let (r, e) = note_adds p x in rw e (among-here p (map (λ (v : ℕ × Ref). v.0) x.refs))

    pub notes_stay : (ps : List ℕ) (q : ℕ) (x : Slots) → HasRef q x → HasRef q (note_all same text_at ps x)
    unfolding note_all
    notes_stay [] q x h = h
    notes_stay (p ∷ ps) q x h = notes_stay ps q (note same text_at p x) (note_stays p q x h)

    notes_here : (ps : List ℕ) (q : ℕ) (x : Slots) → among q ps ≡ true → HasRef q (note_all same text_at ps x)
    unfolding note_all among
    notes_here [] q x h = absurd (false≢true h)
    notes_here (p ∷ ps) q x h = go (eqb p q) refl h (notes_here ps q (note same text_at p x))
      where
        go : (b : Bool) → eqb p q ≡ b → cond b true (among q ps) ≡ true → (among q ps ≡ true → HasRef q (note_all same text_at ps (note same text_at p x))) → HasRef q (note_all same text_at ps (note same text_at p x))
        go true e i f = notes_stay ps q (note same text_at p x) (subst (λ (v : ℕ). HasRef v (note same text_at p x)) (eqb-true p q e) (note_here p x))
        go false e i f = f i

    -- a reference is an old one or one of those noted
    pub note_from : (p q : ℕ) (x : Slots) → HasRef q (note same text_at p x) → (HasRef q x) ⊎ (q ≡ p)
    unfolding among
    note_from p q x h = let (r, e) = note_adds p x in go r (eqb p q) refl (rw e at h)
      where
        go : (r : Ref) (b : Bool) → eqb p q ≡ b → cond b true (among q (map (λ (v : ℕ × Ref). v.0) x.refs)) ≡ true → (HasRef q x) ⊎ (q ≡ p)
        go r true z i = inr (sym (eqb-true p q z))
        go r false z i = inl i

    notes_from : (ps : List ℕ) (q : ℕ) (x : Slots) → HasRef q (note_all same text_at ps x) → (HasRef q x) ⊎ (among q ps ≡ true)
    unfolding note_all
    notes_from [] q x h = inl h
    notes_from (p ∷ ps) q x h = go (notes_from ps q (note same text_at p x) h)
      where
        one : (HasRef q x) ⊎ (q ≡ p) → (HasRef q x) ⊎ (among q (p ∷ ps) ≡ true)
        one (inl i) = inl i
        one (inr e) = inr (subst (λ (v : ℕ). among v (p ∷ ps) ≡ true) (sym e) (among-here p ps))

        go : (HasRef q (note same text_at p x)) ⊎ (among q ps ≡ true) → (HasRef q x) ⊎ (among q (p ∷ ps) ≡ true)
        go (inl i) = one (note_from p q x i)
        go (inr i) = inr (among_later q p ps i)

    pub notes_closed : (ps : List ℕ) (x : Slots) → Closed ps → AllNoted w s x → AllNoted w s (note_all same text_at ps x)
    notes_closed ps x c h p i qs e r q j = go (notes_from ps p x i)
      where
        go : (HasRef p x) ⊎ (among p ps ≡ true) → HasRef q (note_all same text_at ps x)
        go (inl k) = notes_stay ps q x (h p k qs e r q j)
        go (inr k) = notes_here ps q x (among-each (Sub ps) p ps c k qs e r q j)
