-- Commands as the replacing run meets them: how many symbols are expanded, what is copied wherever it stands, and from command to command to an item or the end. Assumes nothing.
use mathlib.Core.Path.{◌≡◌, refl, sym, ap, ◌∙◌, subst}
use mathlib.Core.Bool.{true, false, false≢true}
use mathlib.Core.Logic.{inl, inr}
use mathlib.Core.List.{List, [], ◌∷◌, ◌++◌}
use Prim.Native.Nat.{ℕ, zero, suc, ◌+◌, ◌-◌, ◌<◌, ◌≤◌}
use native.Mathlib.Omega.{arith}
use lib.ListN.{length, length-append}
use Rattle.std.specs.Prelude.{Some}
use Rattle.octets.specs.Plain.Numbers.{Bytes}
use Rattle.octets.proofs.LiesLaws.{lies_inside}
use Rattle.parse_tree.specs.Plain.Tree.{Text, Around, Sym, Attribute, Condition, Alternative, Item, ambiguous, bare, quoted, regex, nonterminal, lookahead, lookbehind, error, repeat, choose, name, macro, group, leaf, around, over, item, syms_of}
use Rattle.parse_tree.specs.Working.Nodes.{symbol_bytes, node_bytes, node_at, size_of, size_read}
use Rattle.parse_tree.specs.Working.Places.{class_of, symbols_place, arguments_place, alternatives_place, attributes_place, conditions_place}
use Rattle.parse_tree.specs.Plain.Reading.{Reading, got, times}
use Rattle.parse_tree.specs.Working.Operands.{inside_of, alternative_of}
use Rattle.parse_tree.specs.Working.Decode.{read_sym, read_argument, read_attribute, read_condition, alternative_parts, read_alternative}
use Rattle.parse_tree.specs.Working.Encode.{around_node, over_node, sym_bytes}
use Rattle.parse_tree.specs.declared.syntax.Span.{Span}
use Rattle.parse_tree.specs.declared.syntax.SymbolKind.{SymbolKind}
use Rattle.parse_tree.specs.declared.syntax.NonterminalData.{NonterminalData}
use Rattle.parse_tree.specs.declared.syntax.Node.{Node}
use Rattle.parse_tree.proofs.ReadingLaws.{never, then-got, got_as}
use Rattle.parse_tree.proofs.Expecting.{symbol_wanted, argument-wanted, alternative_wanted, attribute_wanted, condition_wanted}
use Rattle.parse_tree.proofs.SizeLaws.{node_positive}
use Rattle.passes.specs.Macros.{without_macros}
use Rattle.replacing.specs.Trees.{is_key, expanded, expanded_all, expanded_alternatives, expanded_item, expanded_items, kept}
use Rattle.replacing.specs.Runs.{plain, is_item, is_macro}
use Rattle.replacing.proofs.Readings.{Standing, stands_then}
use Rattle.expander.specs.Stage.{WholeAt, Hopping, Walks}
use Rattle.expander.proofs.KnownCodes.{no_atom}
use Rattle.replacing.proofs.Readings.{kind_read}

-- ---- how many are expanded
pub append_long : (xs ys : List Sym) → length (xs ++ ys) ≡ length xs + length ys
append_long xs ys = length-append xs ys

pub key_some : (x : Sym) → is_key x ≡ true → 1 ≤ length (expanded x)
unfolding expanded
key_some (leaf s (ambiguous n)) z = absurd (false≢true z)
key_some (leaf s (bare n)) z = absurd (false≢true z)
key_some (leaf s (quoted t)) z = absurd (false≢true z)
key_some (leaf s (regex t)) z = absurd (false≢true z)
key_some (leaf s (nonterminal n)) z = absurd (false≢true z)
key_some (leaf s lookahead) z = omega arith
key_some (leaf s lookbehind) z = omega arith
key_some (leaf s error) z = absurd (false≢true z)
key_some (around s (repeat o) x) z = omega (arith, append_long (expanded x) (around s (repeat o) x ∷ []))
key_some (around s choose x) z = absurd (false≢true z)
key_some (around s (name m n) x) z = absurd (false≢true z)
key_some (over s o xs) z = omega (arith, append_long (expanded_all xs) (over s o xs ∷ []))

pub around_more : (s : Span) (a : Around) (x : Sym) → length (expanded x) ≤ length (expanded (around s a x))
unfolding expanded
around_more s (repeat o) x = omega (arith, append_long (expanded x) (around s (repeat o) x ∷ []))
around_more s choose x = omega (arith, append_long (expanded x) [])
around_more s (name m n) x = omega (arith, append_long (expanded x) [])

-- of items, of which those that define macros are left out
pub items_long : (x : Item) (is : List Item) → length (expanded_items (without_macros (x ∷ is))) ≡ length (expanded_items (kept x)) + length (expanded_items (without_macros is))
unfolding kept expanded_items
items_long (item v) is = go v.args
  where
    go : (ps : List Text) → length (expanded_items (elim ps [ [] ↦ item v ∷ without_macros is | p ∷ qs ↦ without_macros is ]))
        ≡ length (expanded_items (elim ps [ [] ↦ item v ∷ [] | p ∷ qs ↦ [] ])) + length (expanded_items (without_macros is))
    go [] = omega (arith, append_long (expanded_item (item v)) (expanded_items (without_macros is)), append_long (expanded_item (item v)) [])
    go (p ∷ ps) = omega arith
items_long (Item.terminal sp o x) is =
    omega (arith, append_long (expanded_item (Item.terminal sp o x)) (expanded_items (without_macros is)), append_long (expanded_item (Item.terminal sp o x)) [])

-- a symbol has a byte
pub sym_some : (wd : ℕ) (ts : List Text) (x : Sym) → 0 < length (sym_bytes wd ts x)
unfolding sym_bytes node_bytes symbol_bytes around_node over_node
sym_some wd ts (leaf s l) = omega arith
sym_some wd ts (around s (repeat o) x) = omega arith
sym_some wd ts (around s choose x) = omega arith
sym_some wd ts (around s (name m n) x) = omega arith
sym_some wd ts (over s (macro n) xs) = omega arith
sym_some wd ts (over s group xs) = omega arith

module _ (wd : ℕ) (t : List ℕ) (ts : List Text) where
  -- more turns and more symbols than it takes do no harm
  pub walks_more : (n m k l p : ℕ) → n ≤ m → k ≤ l → Walks wd t ts n k p → Walks wd t ts m l p
  unfolding Walks
  walks_more zero zero k l p i j h = h
  walks_more zero (suc m) k l p i j h = inl h
  walks_more (suc n) zero k l p i j h = absurd (omega arith)
  walks_more (suc n) (suc m) k l p i j (inl e) = inl e
  walks_more (suc n) (suc m) k l p i j (inr (inl h)) = inr (inl (h.0, h.1, h.2, walks_more n m k l _ (omega arith) j h.3))
  walks_more (suc n) (suc m) k l p i j (inr (inr (inl h))) = inr (inr (inl (h.0, h.1, h.2, walks_more n m k l _ (omega arith) j h.3)))
  walks_more (suc n) (suc m) k l p i j (inr (inr (inr h))) =
      inr (inr (inr (h.0, h.1, omega (arith, h.2), walks_more n m (k - 1) (l - 1) _ (omega arith) (omega arith) h.3)))

module _ (wd : ℕ) (t : List ℕ) (ts : List Text) (b : Bytes t) where
  abbrev pub stand : ℕ → ℕ → Node → Type 0
  stand a c n = Standing false wd t ts a c n

  -- what stands and is no atom is whole
  pub standing_whole : (a c : ℕ) (n : Node) → stand a c n → 1 ≤ class_of n → WholeAt wd t a
  unfolding size_of
  standing_whole a c n h l =
      let p = node_positive wd (length ts) n h.passes.known in
      let q = lies_inside t a c (node_bytes wd n) p h.lies in
      let z : size_read wd (node_at wd t a) ≡ length (node_bytes wd n) = ap (size_read wd) h.here in
      record { some = omega arith; known = no_atom wd t a n h.here l; inside = omega (arith, h.lies.end) }

  -- a command that is copied wherever it stands
  pub record Copied (a c : ℕ) : Type 0 where
    pub end : a + size_read wd (node_at wd t a) ≡ c
    pub whole : WholeAt wd t a
    pub inner : is_item (node_at wd t a) ≡ false
    pub plainly : plain (node_at wd t a) ≡ true
    pub other : is_macro (node_at wd t a) ≡ false

  pub copied : (a c : ℕ) (n : Node) → stand a c n → 1 ≤ class_of n → is_item (Some n) ≡ false → plain (Some n) ≡ true → is_macro (Some n) ≡ false → Copied a c
  copied a c n h l i z y = record {
    end = ap (λ k. a + size_read wd k) h.here ∙ h.behind;
    whole = standing_whole a c n h l;
    inner = ap is_item h.here ∙ i;
    plainly = ap plain h.here ∙ z;
    other = ap is_macro h.here ∙ y;
  }

  -- ---- what holds of commands and of symbols holds of what a nonterminal has; P a e n: from a to e, with n symbols that are expanded
  module _ (P : ℕ → ℕ → ℕ → Type 0) (none : (a : ℕ) → P a a 0) (both : (a c e n m : ℕ) → P a c n → P c e m → P a e (n + m)) (one : (a c : ℕ) → Copied a c → P a c 0)
      (syms : (n a : ℕ) (xs : List Sym) (e : ℕ) → times (read_sym false wd t ts 64) n a ≡ got xs e → P a e (length (expanded_all (syms_of xs)))) where
    both_as : (a c e n m k : ℕ) → n + m ≡ k → P a c n → P c e m → P a e k
    both_as a c e n m k i p q = subst (P a e) i (both a c e n m p q)

    each : {A : Type 0} (f : ℕ → Reading A) → ((a : ℕ) (x : A) (e : ℕ) → f a ≡ got x e → P a e 0) → (n a : ℕ) (xs : List A) (e : ℕ) → times f n a ≡ got xs e → P a e 0
    unfolding times
    each f g zero a xs e p = got_as (λ zs m. P a m 0) p (none a)
    each f g (suc n) a xs e p =
        let h = then-got (f a) _ p in
        let i = then-got (times f n h.mid) _ h.second in
        got_as (λ zs m. P a m 0) i.second (both_as a h.mid i.mid 0 0 0 (omega arith) (g a h.value h.mid h.first) (each f g n h.mid i.value i.mid i.first))

    attribute_holds : (a : ℕ) (x : Attribute) (e : ℕ) → read_attribute false wd t ts a ≡ got x e → P a e 0
    unfolding read_attribute is_item plain is_macro class_of
    attribute_holds a x e p =
        stands_then false wd t ts attributes_place 1 b _ a p (λ n c h q.
        attribute_wanted (stand a c) a c x e _ n h q (λ k i r. got_as (λ z m. P a m 0) r (one a c (copied a c (Node.Attribute k) i (omega arith) refl refl refl))))

    condition_holds : (a : ℕ) (x : Condition) (e : ℕ) → read_condition false wd t ts a ≡ got x e → P a e 0
    unfolding read_condition is_item plain is_macro class_of
    condition_holds a x e p =
        stands_then false wd t ts conditions_place 1 b _ a p (λ n c h q.
        condition_wanted (stand a c) a c x e _ n h q (λ k i r. got_as (λ z m. P a m 0) r (one a c (copied a c (Node.Condition k) i (omega arith) refl refl refl))))

    argument-holds : (a : ℕ) (x : Text) (e : ℕ) → read_argument false wd t ts a ≡ got x e → P a e 0
    unfolding read_argument is_item plain is_macro class_of
    argument-holds a x e p =
        stands_then false wd t ts arguments_place 1 b _ a p (λ n c h q.
        argument-wanted (stand a c) a c x e _ n h q (λ k i r. got_as (λ z m. P a m 0) r (one a c (copied a c (Node.Argument k) i (omega arith) refl refl refl))))

    alternative_holds : (a : ℕ) (x : Alternative) (e : ℕ) → read_alternative false wd t ts a ≡ got x e → P a e (length (expanded_all x.symbols))
    unfolding read_alternative alternative_parts alternative_of is_item plain is_macro class_of
    alternative_holds a x e p =
        stands_then false wd t ts alternatives_place 1 b _ a p (λ n c h q.
        alternative_wanted (stand a c) a c x e _ n h q (λ k i r.
        let u = then-got (times (read_attribute false wd t ts) k.attributes c) _ r in
        let v = then-got (times (read_condition false wd t ts) k.conditions u.mid) _ u.second in
        let l = then-got (times (read_sym false wd t ts 64) k.symbols v.mid) _ v.second in
        let m = length (expanded_all (syms_of l.value)) in
        got_as (λ z m. P a m (length (expanded_all z.symbols))) l.second
        (both_as a c l.mid 0 m m (omega arith) (one a c (copied a c (Node.Alternative k) i (omega arith) refl refl refl))
        (both_as c u.mid l.mid 0 m m (omega arith) (each (read_attribute false wd t ts) attribute_holds k.attributes c u.value u.mid u.first)
        (both_as u.mid v.mid l.mid 0 m m (omega arith) (each (read_condition false wd t ts) condition_holds k.conditions u.mid v.value v.mid v.first)
        (syms k.symbols v.mid l.value l.mid l.first))))))

    alternatives_hold : (n a : ℕ) (xs : List Alternative) (e : ℕ) → times (read_alternative false wd t ts) n a ≡ got xs e → P a e (length (expanded_alternatives xs))
    unfolding times expanded_alternatives
    alternatives_hold zero a xs e p = got_as (λ zs m. P a m (length (expanded_alternatives zs))) p (none a)
    alternatives_hold (suc n) a xs e p =
        let h = then-got (read_alternative false wd t ts a) _ p in
        let i = then-got (times (read_alternative false wd t ts) n h.mid) _ h.second in
        got_as (λ zs m. P a m (length (expanded_alternatives zs))) i.second
        (both_as a h.mid i.mid (length (expanded_all h.value.symbols)) (length (expanded_alternatives i.value)) (length (expanded_alternatives (h.value ∷ i.value)))
        (sym (append_long (expanded_all h.value.symbols) (expanded_alternatives i.value)))
        (alternative_holds a h.value h.mid h.first) (alternatives_hold n h.mid i.value i.mid i.first))

    -- arguments and alternatives
    pub parts_hold : (k : NonterminalData) (c m e : ℕ) (args : List Text) (alts : List Alternative) → times (read_argument false wd t ts) k.args c ≡ got args m
        → times (read_alternative false wd t ts) k.alternatives m ≡ got alts e → P c e (length (expanded_alternatives alts))
    parts_hold k c m e args alts p q =
        both_as c m e 0 (length (expanded_alternatives alts)) (length (expanded_alternatives alts)) (omega arith)
        (each (read_argument false wd t ts) argument-holds k.args c args m p) (alternatives_hold k.alternatives m alts e q)

  -- ---- from command to command
  abbrev pub Hop : ℕ → Type 0
  Hop p = (h : ℕ) × Hopping wd t h p

  abbrev Leads : ℕ → ℕ → ℕ → Type 0
  Leads a e n = Hop e → Hop a

  hop-over : (a c : ℕ) → a + size_read wd (node_at wd t a) ≡ c → WholeAt wd t a → is_item (node_at wd t a) ≡ false → Hop c → Hop a
  unfolding Hopping
  hop-over a c e q i h = (suc h.0, inr (inr (i, q, subst (Hopping wd t h.0) (sym e) h.1)))

  one_leads : (a c : ℕ) → Copied a c → Leads a c 0
  one_leads a c h = hop-over a c h.end h.whole h.inner

  times-lead : {A : Type 0} (f : ℕ → Reading A) → ((a : ℕ) (x : A) (e : ℕ) → f a ≡ got x e → Leads a e 0) → (n a : ℕ) (xs : List A) (e : ℕ) → times f n a ≡ got xs e → Leads a e 0
  unfolding times
  times-lead f g zero a xs e p = got_as (λ zs m. Leads a m 0) p (λ h. h)
  times-lead f g (suc n) a xs e p =
      let h = then-got (f a) _ p in
      let i = then-got (times f n h.mid) _ h.second in
      got_as (λ zs m. Leads a m 0) i.second (λ v. g a h.value h.mid h.first (times-lead f g n h.mid i.value i.mid i.first v))

  kind-leads : (left : ℕ) → ((a : ℕ) (x : Sym) (e : ℕ) → read_sym false wd t ts left a ≡ got x e → Leads a e 0) → (sp : Span) (k : SymbolKind) (c : ℕ) (x : Sym) (e : ℕ) → kind_read false wd t ts left sp k c ≡ got x e → Leads c e 0
  kind-leads left f sp (SymbolKind.Leaf l) c x e p = got_as (λ z m. Leads c m 0) p (λ h. h)
  kind-leads left f sp (SymbolKind.Around o) c x e p =
      let i = then-got (read_sym false wd t ts left c) _ p in
      got_as (λ z m. Leads c m 0) i.second (f c i.value i.mid i.first)
  kind-leads left f sp (SymbolKind.Over o) c x e p =
      let i = then-got (times (λ q. read_sym false wd t ts left q) (inside_of o) c) _ p in
      got_as (λ z m. Leads c m 0) i.second (times-lead (λ q. read_sym false wd t ts left q) f (inside_of o) c i.value i.mid i.first)

  sym_leads : (left a : ℕ) (x : Sym) (e : ℕ) → read_sym false wd t ts left a ≡ got x e → Leads a e 0
  unfolding read_sym is_item class_of
  sym_leads zero a x e p = stands_then false wd t ts symbols_place zero b _ a p (λ n c h q. absurd (never q))
  sym_leads (suc left) a x e p =
      stands_then false wd t ts symbols_place (suc left) b _ a p (λ n c h q.
      symbol_wanted (stand a c) a c x e _ n h q (λ sp k i r v.
      hop-over a c (ap (λ j. a + size_read wd j) i.here ∙ i.behind) (standing_whole a c (Node.Symbol sp k) i (omega arith)) (ap is_item i.here)
      (kind-leads left (sym_leads left) sp k c x e r v)))

  pub data_leads : (k : NonterminalData) (c m e : ℕ) (args : List Text) (alts : List Alternative) → times (read_argument false wd t ts) k.args c ≡ got args m
      → times (read_alternative false wd t ts) k.alternatives m ≡ got alts e → Hop e → Hop c
  data_leads k c m e args alts p q =
      parts_hold Leads (λ a h. h) (λ a c' e' n l u v h. u (v h)) one_leads (λ n a xs e' r. times-lead (read_sym false wd t ts 64) (sym_leads 64) n a xs e' r) k c m e args alts p q
