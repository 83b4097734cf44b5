-- The items of a stage, read to its end, are turns of the replacing run: as many as the stage is long do, and it meets no more symbols than are expanded. Assumes nothing.
use mathlib.Core.Path.{◌≡◌, refl, sym, ap, ◌∙◌, subst}
use mathlib.Core.Bool.{Bool, true, false, false≢true}
use mathlib.Core.Logic.{inl, inr}
use mathlib.Core.List.{List, [], ◌∷◌}
use Prim.Native.Nat.{ℕ, zero, suc, ◌+◌, ◌-◌, ◌≤◌}
use native.Mathlib.Omega.{arith}
use borrow.Author.Tests.{leb-false, ltb-true, ltb-false}
use lib.Dec.{leb}
use lib.ListN.{length}
use Rattle.std.specs.Prelude.{Some}
use Rattle.octets.specs.Plain.Numbers.{Bytes}
use Rattle.octets.proofs.LiesLaws.{lies_inside}
use Rattle.parse_tree.specs.Plain.Tree.{Text, Sym, Alternative, Item, item, syms_of}
use Rattle.parse_tree.specs.Plain.Texts.{distinct}
use Rattle.parse_tree.specs.Working.Nodes.{node_at, size_read}
use Rattle.parse_tree.specs.Working.Places.{class_of, items_place, symbols_place}
use Rattle.parse_tree.specs.Plain.Reading.{got, then, times}
use Rattle.parse_tree.specs.Working.Operands.{around_of, nonterminal_of, terminal_of}
use Rattle.parse_tree.specs.Working.Decode.{read_sym, read_argument, read_alternative, nonterminal_parts, read_item, read_items}
use Rattle.parse_tree.specs.Working.Encode.{sym_bytes}
use Rattle.parse_tree.specs.declared.syntax.Span.{Span}
use Rattle.parse_tree.specs.declared.syntax.SymbolKind.{SymbolKind}
use Rattle.parse_tree.specs.declared.syntax.NonterminalData.{NonterminalData}
use Rattle.parse_tree.specs.declared.syntax.TerminalData.{TerminalData}
use Rattle.parse_tree.specs.declared.syntax.Node.{Node}
use Rattle.parse_tree.proofs.ReadingLaws.{never, then-got, got_as}
use Rattle.parse_tree.proofs.Expecting.{item_wanted, symbol_wanted}
use Rattle.parse_tree.proofs.ItemFound.{sym_finds}
use Rattle.passes.specs.Macros.{without_macros}
use Rattle.replacing.specs.Trees.{expanded, expanded_all, expanded_alternatives, expanded_item, expanded_items, kept}
use Rattle.replacing.specs.Runs.{plain_kind, plain, is_item, is_macro, hops}
use Rattle.replacing.specs.Sound.{Firm}
use Rattle.replacing.proofs.Readings.{Standing, stands_then, read_more, times-length}
use Rattle.replacing.proofs.PlacesMean.{sym_here}
use Rattle.replacing.proofs.Keys.{sym_key}
use Rattle.replacing.proofs.Skipping.{data_skips, Settled, settled_end, settled_item, skips_settled}
use Rattle.expander.specs.Stage.{WholeAt, Hopping, Walks}
use Rattle.expander.proofs.WalksParts.{append_long, key_some, around_more, items_long, sym_some, walks_more, standing_whole, Copied, copied, parts_hold, data_leads}
use Rattle.replacing.proofs.Readings.{kind_read}

module _ (wd : ℕ) (t : List ℕ) (ts : List Text) (b : Bytes t) (d : distinct ts ≡ true) where
  abbrev stand : ℕ → ℕ → Node → Type 0
  stand a c n = Standing false wd t ts a c n

  abbrev Hop : ℕ → Type 0
  Hop p = (h : ℕ) × Hopping wd t h p

  -- ---- turns
  abbrev W : ℕ → ℕ → ℕ → Type 0
  W n k p = Walks wd t ts n k p

  -- from a the run comes to e, and meets n symbols at most
  record Turns (a e n : ℕ) : Type 0 where
    pub many : ℕ
    pub few : many + a ≤ e
    pub walks : (m k : ℕ) → W m k e → W (many + m) (n + k) a

  none_turns : (a : ℕ) → Turns a a 0
  none_turns a = record { many = 0; few = omega arith; walks = λ m k h. walks_more wd t ts m (0 + m) k (0 + k) a (omega arith) (omega arith) h }

  both_turn : (a c e n l : ℕ) → Turns a c n → Turns c e l → Turns a e (n + l)
  both_turn a c e n l u v = record {
    many = u.many + v.many;
    few = omega (arith, u.few, v.few);
    walks = λ m k h. walks_more wd t ts (u.many + (v.many + m)) (u.many + v.many + m) (n + (l + k)) (n + l + k) a (omega arith) (omega arith) (u.walks (v.many + m) (l + k) (v.walks m k h));
  }

  turns_more : (a e n l : ℕ) → n ≤ l → Turns a e n → Turns a e l
  turns_more a e n l i u = record { many = u.many; few = u.few; walks = λ m k h. walks_more wd t ts (u.many + m) (u.many + m) (n + k) (l + k) a (omega arith) (omega arith) (u.walks m k h) }

  copy_walks : (a c m k : ℕ) → a + size_read wd (node_at wd t a) ≡ c → WholeAt wd t a → plain (node_at wd t a) ≡ true → is_macro (node_at wd t a) ≡ false → W m k c → W (suc m) k a
  unfolding Walks
  copy_walks a c m k e q z y h = inr (inl (z, y, q, subst (W m k) (sym e) h))

  copy_turns : (a c : ℕ) → a + size_read wd (node_at wd t a) ≡ c → WholeAt wd t a → plain (node_at wd t a) ≡ true → is_macro (node_at wd t a) ≡ false → Turns a c 0
  copy_turns a c e q z y = record {
    many = 1;
    few = omega (arith, q.some);
    walks = λ m k h. walks_more wd t ts (suc m) (1 + m) k (0 + k) a (omega arith) (omega arith) (copy_walks a c m k e q z y h);
  }

  one_turns : (a c : ℕ) → Copied wd t ts b a c → Turns a c 0
  one_turns a c h = copy_turns a c h.end h.whole h.plainly h.other

  -- the definition of a macro
  skip_walks : (a c e m k : ℕ) → a + size_read wd (node_at wd t a) ≡ c → WholeAt wd t a → is_macro (node_at wd t a) ≡ true → Hop c → hops wd t (length t) c ≡ e → W m k e → W (suc m) k a
  unfolding Walks
  skip_walks a c e m k i q y g j h =
      inr (inr (inl (y, q, subst Hop (sym i) g, subst (W m k) (sym (ap (hops wd t (length t)) i ∙ j)) h)))

  skip-turns : (a c e : ℕ) → a + size_read wd (node_at wd t a) ≡ c → WholeAt wd t a → is_macro (node_at wd t a) ≡ true → Hop c → hops wd t (length t) c ≡ e → c ≤ e → Turns a e 0
  skip-turns a c e i q y g j l = record {
    many = 1;
    few = omega (arith, q.some);
    walks = λ m k h. walks_more wd t ts (suc m) (1 + m) k (0 + k) a (omega arith) (omega arith) (skip_walks a c e m k i q y g j h);
  }

  -- a symbol that is expanded
  key_walks : (a m k : ℕ) (f : Firm false wd t ts a) → f.end ≤ length t → 1 ≤ k → W m (k - 1) f.end → W (suc m) k a
  unfolding Walks
  key_walks a m k f l o h = inr (inr (inr (f, l, o, h)))

  key_turns : (left a : ℕ) (x : Sym) (e : ℕ) → suc left ≤ 64 → plain (node_at wd t a) ≡ false → read_sym false wd t ts (suc left) a ≡ got x e → Turns a e (length (expanded x))
  key_turns left a x e l z p =
      let f : Firm false wd t ts a = record { end = e; read = rw (sym_here false wd t ts b (suc left) a x e l p) (read_more false wd t ts (suc left) 64 a x e l p); key = z } in
      let i = (sym_finds false wd t ts b d (suc left) a x e p).lies in
      let o = sym_some wd ts x in
      let c = key_some x (sym_key false wd t ts b left a x e z p) in
      record {
        many = 1;
        few = omega (arith, i.end);
        walks = λ m k h.
            walks_more wd t ts (suc m) (1 + m) (length (expanded x) + k) (length (expanded x) + k) a (omega arith) (omega arith)
            (key_walks a m (length (expanded x) + k) f (lies_inside t a e (sym_bytes wd ts x) o i) (omega arith) (walks_more wd t ts m m k (length (expanded x) + k - 1) e (omega arith) (omega arith) h));
      }

  -- ---- symbols
  abbrev SymTurns : ℕ → Type 0
  SymTurns left = (a : ℕ) (x : Sym) (e : ℕ) → read_sym false wd t ts left a ≡ got x e → Turns a e (length (expanded x))

  kind-turns : (left : ℕ) → SymTurns left → (sp : Span) (k : SymbolKind) (a c : ℕ) (x : Sym) (e : ℕ) → suc left ≤ 64 → read_sym false wd t ts (suc left) a ≡ got x e → stand a c (Node.Symbol sp k)
      → kind_read false wd t ts left sp k c ≡ got x e → (z : Bool) → plain_kind k ≡ z → Turns a e (length (expanded x))
  unfolding plain_kind plain is_macro is_item class_of
  kind-turns left f sp k a c x e l r h p false z = key_turns left a x e l (ap plain h.here ∙ z) r
  kind-turns left f sp (SymbolKind.Leaf n) a c x e l r h p true z =
      let u = one_turns a c (copied wd t ts b a c (Node.Symbol sp (SymbolKind.Leaf n)) h (omega arith) refl z refl) in
      got_as (λ y m. Turns a m (length (expanded y))) p (turns_more a c 0 _ (omega arith) u)
  kind-turns left f sp (SymbolKind.Around o) a c x e l r h p true z =
      let u = one_turns a c (copied wd t ts b a c (Node.Symbol sp (SymbolKind.Around o)) h (omega arith) refl z refl) in
      let i = then-got (read_sym false wd t ts left c) _ p in
      got_as (λ y m. Turns a m (length (expanded y))) i.second
      (turns_more a i.mid (0 + length (expanded i.value)) _ (omega (arith, around_more sp (around_of ts o) i.value))
      (both_turn a c i.mid 0 (length (expanded i.value)) u (f c i.value i.mid i.first)))
  kind-turns left f sp (SymbolKind.Over o) a c x e l r h p true z = absurd (false≢true z)

  sym_turns : (left : ℕ) → left ≤ 64 → SymTurns left
  unfolding read_sym
  sym_turns zero l a x e p = stands_then false wd t ts symbols_place zero b _ a p (λ n c h q. absurd (never q))
  sym_turns (suc left) l a x e p =
      stands_then false wd t ts symbols_place (suc left) b _ a p (λ n c h q.
      symbol_wanted (stand a c) a c x e _ n h q (λ sp k i r.
      kind-turns left (sym_turns left (omega arith)) sp k a c x e l p i r (plain_kind k) refl))

  syms_turn : (n a : ℕ) (xs : List Sym) (e : ℕ) → times (read_sym false wd t ts 64) n a ≡ got xs e → Turns a e (length (expanded_all (syms_of xs)))
  unfolding times syms_of expanded_all
  syms_turn zero a xs e p = got_as (λ zs m. Turns a m (length (expanded_all (syms_of zs)))) p (none_turns a)
  syms_turn (suc n) a xs e p =
      let h = then-got (read_sym false wd t ts 64 a) _ p in
      let i = then-got (times (read_sym false wd t ts 64) n h.mid) _ h.second in
      got_as (λ zs m. Turns a m (length (expanded_all (syms_of zs)))) i.second
      (turns_more a i.mid (length (expanded h.value) + length (expanded_all (syms_of i.value))) _ (omega (arith, append_long (expanded h.value) (expanded_all (syms_of i.value))))
      (both_turn a h.mid i.mid _ _ (sym_turns 64 (omega arith) a h.value h.mid h.first) (syms_turn n h.mid i.value i.mid i.first)))

  -- ---- items
  data_turns : (k : NonterminalData) (c m e : ℕ) (args : List Text) (alts : List Alternative) → times (read_argument false wd t ts) k.args c ≡ got args m
      → times (read_alternative false wd t ts) k.alternatives m ≡ got alts e → Turns c e (length (expanded_alternatives alts))
  data_turns k c m e args alts p q = parts_hold wd t ts b Turns none_turns both_turn one_turns syms_turn k c m e args alts p q

  -- a nonterminal, by its arguments; an item or the end stands behind it
  nonterminal_turns : (k : NonterminalData) (a c m e : ℕ) (args : List Text) (alts : List Alternative) → stand a c (Node.Nonterminal k)
      → times (read_argument false wd t ts) k.args c ≡ got args m → times (read_alternative false wd t ts) k.alternatives m ≡ got alts e
      → Settled false wd t ts b e → e ≤ length t → Hop e → (z : Bool) → is_macro (Some (Node.Nonterminal k)) ≡ z → Turns a e (length (expanded_items (kept (item (nonterminal_of ts k args alts)))))
  unfolding kept nonterminal_of is_macro expanded_items expanded_item plain class_of
  nonterminal_turns k a c m e [] alts h p q g l o false z =
      turns_more a e (0 + length (expanded_alternatives alts)) _ (omega (arith, append_long (expanded_alternatives alts) []))
      (both_turn a c e 0 (length (expanded_alternatives alts))
      (copy_turns a c (ap (λ j. a + size_read wd j) h.here ∙ h.behind) (standing_whole wd t ts b a c (Node.Nonterminal k) h (omega arith)) (ap plain h.here) (ap is_macro h.here ∙ z))
      (data_turns k c m e [] alts p q))
  nonterminal_turns k a c m e [] alts h p q g l o true z =
      let n = times-length (read_argument false wd t ts) k.args c [] m p in
      absurd (omega (arith, ltb-true 0 k.args z))
  nonterminal_turns k a c m e (x ∷ args) alts h p q g l o true z =
      let s = data_skips false wd t ts b k c m e (x ∷ args) alts p q in
      skip-turns a c e (ap (λ j. a + size_read wd j) h.here ∙ h.behind) (standing_whole wd t ts b a c (Node.Nonterminal k) h (omega arith)) (ap is_macro h.here ∙ z)
      (data_leads wd t ts b k c m e (x ∷ args) alts p q o) (skips_settled false wd t ts b c e s g l) (omega (arith, s.few))
  nonterminal_turns k a c m e (x ∷ args) alts h p q g l o false z =
      let n = times-length (read_argument false wd t ts) k.args c (x ∷ args) m p in
      absurd (omega (arith, ltb-false 0 k.args z))

  terminal_turns : (k : TerminalData) (a c : ℕ) → stand a c (Node.Terminal k) → Turns a c (length (expanded_items (kept (terminal_of ts k))))
  unfolding plain is_macro class_of
  terminal_turns k a c h =
      turns_more a c 0 _ (omega arith)
      (copy_turns a c (ap (λ j. a + size_read wd j) h.here ∙ h.behind) (standing_whole wd t ts b a c (Node.Terminal k) h (omega arith)) (ap plain h.here) (ap is_macro h.here))

  item_turns : (a : ℕ) (x : Item) (e : ℕ) → read_item false wd t ts a ≡ got x e → Settled false wd t ts b e → e ≤ length t → Hop e → Turns a e (length (expanded_items (kept x)))
  unfolding read_item nonterminal_parts
  item_turns a x e p g l o =
      stands_then false wd t ts items_place 1 b _ a p (λ n c h q.
      item_wanted (stand a c) a c x e _ _ n h q
      (λ k i r.
      let u = then-got (times (read_argument false wd t ts) k.args c) _ r in
      let v = then-got (times (read_alternative false wd t ts) k.alternatives u.mid) _ u.second in
      got_as (λ z m. Settled false wd t ts b m → m ≤ length t → Hop m → Turns a m (length (expanded_items (kept z)))) v.second
      (λ g' l' o'. nonterminal_turns k a c u.mid v.mid u.value v.value i u.first v.first g' l' o' (is_macro (Some (Node.Nonterminal k))) refl) g l o)
      (λ k i r. got_as (λ z m. Turns a m (length (expanded_items (kept z)))) r (terminal_turns k a c i)))

  -- what is read behind an item begins with one
  hop-end : (c : ℕ) → c ≡ length t → Hop c
  unfolding Hopping
  hop-end c e = (0, inl e)

  hop-item : (a : ℕ) (x : Item) (e : ℕ) → read_item false wd t ts a ≡ got x e → Hop a
  unfolding read_item Hopping is_item
  hop-item a x e p =
      stands_then false wd t ts items_place 1 b _ a p (λ n c h q.
      item_wanted (stand a c) a c x e _ _ n h q (λ k i r. (0, inr (ap is_item i.here))) (λ k i r. (0, inr (ap is_item i.here))))

  record Next (c : ℕ) : Type 0 where
    pub settled : Settled false wd t ts b c
    pub inside : c ≤ length t
    pub hop : Hop c

  end_next : (c : ℕ) → c ≡ length t → Next c
  end_next c e = record { settled = settled_end false wd t ts b c (omega arith); inside = omega arith; hop = hop-end c e }

  rest_next : (n c : ℕ) (is : List Item) (e : ℕ) → read_items false wd t ts n c ≡ got is e → e ≡ length t → Next c
  unfolding read_items
  rest_next zero c is e p q = got_as (λ zs m. m ≡ length t → Next c) p (end_next c) q
  rest_next (suc n) c is e p q = go (leb (length t) c) refl p
    where
      go : (v : Bool) → leb (length t) c ≡ v → elim v [
        | true ↦ got [] c
        | false ↦ then (read_item false wd t ts c) (λ x m. then (read_items false wd t ts n m) (λ xs k. got (x ∷ xs) k))
      ] ≡ got is e → Next c
      go true z r = got_as (λ zs m. m ≡ length t → Next c) r (end_next c) q
      go false z r =
          let h = then-got (read_item false wd t ts c) _ r in
          let l = leb-false (length t) c z in
          record { settled = settled_item false wd t ts b c h.value h.mid h.first; inside = omega arith; hop = hop-item c h.value h.mid h.first }

  items_turn : (n a : ℕ) (is : List Item) (e : ℕ) → read_items false wd t ts n a ≡ got is e → e ≡ length t → Turns a e (length (expanded_items (without_macros is)))
  unfolding read_items expanded_items
  items_turn zero a is e p y = got_as (λ zs m. Turns a m (length (expanded_items (without_macros zs)))) p (none_turns a)
  items_turn (suc n) a is e p y = go (leb (length t) a) p (items_turn n)
    where
      go : (q : Bool) → elim q [
        | true ↦ got [] a
        | false ↦ then (read_item false wd t ts a) (λ x c. then (read_items false wd t ts n c) (λ xs k. got (x ∷ xs) k))
      ] ≡ got is e → ((a' : ℕ) (is' : List Item) (e' : ℕ) → read_items false wd t ts n a' ≡ got is' e' → e' ≡ length t → Turns a' e' (length (expanded_items (without_macros is')))) → Turns a e (length (expanded_items (without_macros is)))
      go true r f = got_as (λ zs m. Turns a m (length (expanded_items (without_macros zs)))) r (none_turns a)
      go false r f =
          let h = then-got (read_item false wd t ts a) _ r in
          let i = then-got (read_items false wd t ts n h.mid) _ h.second in
          got_as (λ zs m. m ≡ length t → Turns a m (length (expanded_items (without_macros zs)))) i.second
          (λ v.
          let o = rest_next n h.mid i.value i.mid i.first v in
          subst (Turns a i.mid) (sym (items_long h.value i.value))
          (both_turn a h.mid i.mid (length (expanded_items (kept h.value))) (length (expanded_items (without_macros i.value)))
          (item_turns a h.value h.mid h.first o.settled o.inside o.hop) (f h.mid i.value i.mid i.first v))) y

  walks_end : (k : ℕ) → W 0 k (length t)
  unfolding Walks
  walks_end k = refl

  -- a stage read to its end
  pub walks_mean : (n : ℕ) (is : List Item) → read_items false wd t ts n 0 ≡ got is (length t)
      → (left : ℕ) × (left ≤ length (expanded_items (without_macros is))) × Walks wd t ts (length t) left 0
  walks_mean n is p =
      let u = items_turn n 0 is (length t) p refl in
      let k = length (expanded_items (without_macros is)) in
      (k, omega arith, walks_more wd t ts (u.many + 0) (length t) (k + 0) k 0 (omega (arith, u.few)) (omega arith) (u.walks 0 0 (walks_end 0)))
