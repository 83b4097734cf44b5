-- From command to command over what stands inside an item, up to where it ends. Assumes nothing.
use mathlib.Core.Path.{◌≡◌, refl, ap, ◌∙◌}
use mathlib.Core.Bool.{Bool, true, false, false≢true}
use mathlib.Core.List.{List}
use Prim.Native.Nat.{ℕ, zero, suc, ◌+◌, ◌-◌, ◌≤◌}
use native.Mathlib.Omega.{arith}
use borrow.Author.Tests.{lt-leb, le-leb}
use lib.Dec.{leb}
use lib.ListN.{length}
use Rattle.std.specs.Prelude.{Some}
use Rattle.octets.specs.Working.Choice.{pick}
use Rattle.octets.specs.Plain.Numbers.{Bytes}
use Rattle.octets.proofs.LiesLaws.{lies_inside}
use Rattle.parse_tree.specs.Plain.Tree.{Text, Sym, Attribute, Condition, Alternative, Item, syms_of}
use Rattle.parse_tree.specs.Working.Nodes.{node_bytes, node_at, size_read}
use Rattle.parse_tree.specs.Working.Places.{items_place, symbols_place, arguments_place, alternatives_place, attributes_place, conditions_place}
use Rattle.parse_tree.specs.Plain.Reading.{Reading, got, then, times}
use Rattle.parse_tree.specs.Working.Operands.{leaf_of, around_of, over_of, inside_of}
use Rattle.parse_tree.specs.Working.Decode.{read_sym, read_argument, read_attribute, read_condition, alternative_parts, read_alternative, read_item}
use Rattle.parse_tree.specs.declared.syntax.Span.{Span}
use Rattle.parse_tree.specs.declared.syntax.SymbolKind.{SymbolKind}
use Rattle.parse_tree.specs.declared.syntax.NonterminalData.{NonterminalData}
use Rattle.parse_tree.specs.declared.syntax.Node.{Node}
use Rattle.parse_tree.proofs.ReadingLaws.{never, then-got, got_as}
use Rattle.parse_tree.proofs.Expecting.{item_wanted, symbol_wanted, argument-wanted, alternative_wanted, attribute_wanted, condition_wanted}
use Rattle.parse_tree.proofs.SizeLaws.{node_positive}
use Rattle.replacing.specs.Runs.{is_item, hop, hops}
use Rattle.replacing.proofs.Readings.{Standing, stands_then}

module _ (four : Bool) (w : ℕ) (s : List ℕ) (ts : List Text) (b : Bytes s) where
  abbrev stand : ℕ → ℕ → Node → Type 0
  stand a c n = Standing four w s ts a c n

  -- some hops lead from a to e
  pub record Skips (a e : ℕ) : Type 0 where
    pub count : ℕ
    pub few : count + a ≤ e
    pub is : hops w s count a ≡ e

  hops-append : (m n a : ℕ) → hops w s (m + n) a ≡ hops w s n (hops w s m a)
  unfolding hops
  hops-append zero n a = ap (λ (k : ℕ). hops w s k a) (let z : 0 + n ≡ n = omega arith in z)
  hops-append (suc m) n a = ap (λ (k : ℕ). hops w s k a) (let z : suc m + n ≡ suc (m + n) = omega arith in z) ∙ hops-append m n (hop w s a)

  skips_none : (a : ℕ) → Skips a a
  unfolding hops
  skips_none a = record { count = 0; few = omega arith; is = refl }

  skips_then : {a c e : ℕ} → Skips a c → Skips c e → Skips a e
  skips_then {a} {c} {e} p q = record { count = p.count + q.count; few = omega (arith, p.few, q.few); is = hops-append p.count q.count a ∙ ap (hops w s q.count) p.is ∙ q.is }

  one_skips : (a c : ℕ) (n : Node) → stand a c n → is_item (Some n) ≡ false → Skips a c
  unfolding hops hop pick
  one_skips a c n h z =
      let p = node_positive w (length ts) n h.passes.known in
      let l = lies_inside s a c (node_bytes w n) p h.lies in
      let i : leb (length s) a ≡ false = lt-leb (length s) a (omega (arith, h.lies.end)) in
      record { count = 1; few = omega (arith, h.lies.end); is = rw (i, h.here, z, h.behind) refl }

  times-skips : {A : Type 0} (f : ℕ → Reading A) → ((a : ℕ) (x : A) (e : ℕ) → f a ≡ got x e → Skips a e) → (n a : ℕ) (xs : List A) (e : ℕ) → times f n a ≡ got xs e → Skips a e
  unfolding times
  times-skips f g zero a xs e p = got_as (λ zs m. Skips a m) p (skips_none a)
  times-skips f g (suc n) a xs e p =
      let h = then-got (f a) _ p in
      let i = then-got (times f n h.mid) _ h.second in
      got_as (λ zs m. Skips a m) i.second (skips_then (g a h.value h.mid h.first) (times-skips f g n h.mid i.value i.mid i.first))

  kind-skips : (left : ℕ) → ((a : ℕ) (x : Sym) (e : ℕ) → read_sym four w s ts left a ≡ got x e → Skips a e) → (sp : Span) (k : SymbolKind) (c : ℕ) (x : Sym) (e : ℕ) → elim k [
    | SymbolKind.Leaf l ↦ got (Sym.leaf sp (leaf_of ts l)) c
    | SymbolKind.Around o ↦ then (read_sym four w s ts left c) (λ y e'. got (Sym.around sp (around_of ts o) y) e')
    | SymbolKind.Over o ↦ then (times (λ q. read_sym four w s ts left q) (inside_of o) c) (λ ys e'. got (Sym.over sp (over_of ts o) (syms_of ys)) e')
  ] ≡ got x e → Skips c e
  kind-skips left f sp (SymbolKind.Leaf l) c x e p = got_as (λ z m. Skips c m) p (skips_none c)
  kind-skips left f sp (SymbolKind.Around o) c x e p =
      let i = then-got (read_sym four w s ts left c) _ p in
      got_as (λ z m. Skips c m) i.second (f c i.value i.mid i.first)
  kind-skips left f sp (SymbolKind.Over o) c x e p =
      let i = then-got (times (λ q. read_sym four w s ts left q) (inside_of o) c) _ p in
      got_as (λ z m. Skips c m) i.second (times-skips (λ q. read_sym four w s ts left q) f (inside_of o) c i.value i.mid i.first)

  sym_skips : (left a : ℕ) (x : Sym) (e : ℕ) → read_sym four w s ts left a ≡ got x e → Skips a e
  unfolding read_sym is_item
  sym_skips zero a x e p = stands_then four w s ts symbols_place zero b _ a p (λ n c h q. absurd (never q))
  sym_skips (suc left) a x e p =
      stands_then four w s ts symbols_place (suc left) b _ a p (λ n c h q.
      symbol_wanted (stand a c) a c x e _ n h q (λ sp k i r. skips_then (one_skips a c (Node.Symbol sp k) i refl) (kind-skips left (sym_skips left) sp k c x e r)))

  attribute_skips : (a : ℕ) (x : Attribute) (e : ℕ) → read_attribute four w s ts a ≡ got x e → Skips a e
  unfolding read_attribute is_item
  attribute_skips a x e p =
      stands_then four w s ts attributes_place 1 b _ a p (λ n c h q.
      attribute_wanted (stand a c) a c x e _ n h q (λ k i r. got_as (λ z m. Skips a m) r (one_skips a c (Node.Attribute k) i refl)))

  condition_skips : (a : ℕ) (x : Condition) (e : ℕ) → read_condition four w s ts a ≡ got x e → Skips a e
  unfolding read_condition is_item
  condition_skips a x e p =
      stands_then four w s ts conditions_place 1 b _ a p (λ n c h q.
      condition_wanted (stand a c) a c x e _ n h q (λ k i r. got_as (λ z m. Skips a m) r (one_skips a c (Node.Condition k) i refl)))

  argument-skips : (a : ℕ) (x : Text) (e : ℕ) → read_argument four w s ts a ≡ got x e → Skips a e
  unfolding read_argument is_item
  argument-skips a x e p =
      stands_then four w s ts arguments_place 1 b _ a p (λ n c h q.
      argument-wanted (stand a c) a c x e _ n h q (λ k i r. got_as (λ z m. Skips a m) r (one_skips a c (Node.Argument k) i refl)))

  alternative_skips : (a : ℕ) (x : Alternative) (e : ℕ) → read_alternative four w s ts a ≡ got x e → Skips a e
  unfolding read_alternative alternative_parts is_item
  alternative_skips a x e p =
      stands_then four w s ts alternatives_place 1 b _ a p (λ n c h q.
      alternative_wanted (stand a c) a c x e _ n h q (λ k i r.
      let u = then-got (times (read_attribute four w s ts) k.attributes c) _ r in
      let v = then-got (times (read_condition four w s ts) k.conditions u.mid) _ u.second in
      let l = then-got (times (read_sym four w s ts 64) k.symbols v.mid) _ v.second in
      got_as (λ z m. Skips a m) l.second
      (skips_then (one_skips a c (Node.Alternative k) i refl)
      (skips_then (times-skips (read_attribute four w s ts) attribute_skips k.attributes c u.value u.mid u.first)
      (skips_then (times-skips (read_condition four w s ts) condition_skips k.conditions u.mid v.value v.mid v.first)
      (times-skips (read_sym four w s ts 64) (sym_skips 64) k.symbols v.mid l.value l.mid l.first))))))

  -- over the arguments and alternatives of a nonterminal
  pub data_skips : (k : NonterminalData) (c m e : ℕ) (args : List Text) (alts : List Alternative) → times (read_argument four w s ts) k.args c ≡ got args m
      → times (read_alternative four w s ts) k.alternatives m ≡ got alts e → Skips c e
  data_skips k c m e args alts p q =
      skips_then (times-skips (read_argument four w s ts) argument-skips k.args c args m p) (times-skips (read_alternative four w s ts) alternative_skips k.alternatives m alts e q)

  -- where hopping ends: at the end, or at an item
  abbrev pub Settled : ℕ → Type 0
  Settled e = hop w s e ≡ e

  pub settled_end : (e : ℕ) → length s ≤ e → Settled e
  unfolding hop pick
  settled_end e l = rw (le-leb (length s) e l) refl

  pub settled_item : (e : ℕ) (x : Item) (m : ℕ) → read_item four w s ts e ≡ got x m → Settled e
  unfolding read_item hop pick is_item
  settled_item e x m p =
      stands_then four w s ts items_place 1 b _ e p (λ n c h q.
      item_wanted (stand e c) e c x m _ _ n h q (λ k i r. go (leb (length s) e) (is_item (node_at w s e)) (ap is_item i.here)) (λ k i r. go (leb (length s) e) (is_item (node_at w s e)) (ap is_item i.here)))
    where
      go : (u v : Bool) → v ≡ true → pick u e (pick v e (e + size_read w (node_at w s e))) ≡ e
      go true v z = refl
      go false true z = refl
      go false false z = absurd (false≢true z)

  stays : (n e : ℕ) → Settled e → hops w s n e ≡ e
  unfolding hops
  stays zero e h = refl
  stays (suc n) e h = ap (hops w s n) h ∙ stays n e h

  -- more hops than it takes change nothing
  pub skips_settled : (c e : ℕ) → Skips c e → Settled e → e ≤ length s → hops w s (length s) c ≡ e
  skips_settled c e p h l =
      let k : length s ≡ p.count + (length s - p.count) = omega (arith, p.few) in
      ap (λ (m : ℕ). hops w s m c) k ∙ hops-append p.count (length s - p.count) c ∙ ap (hops w s (length s - p.count)) p.is ∙ stays (length s - p.count) e h
