-- The flat run over symbols: what it writes are the symbols renamed, and it enters those that are expanded. Assumes nothing.
use mathlib.Core.Path.{◌≡◌, refl, sym, ap, ◌∙◌, subst}
use mathlib.Core.Bool.{Bool, true, false, cond, false≢true}
use mathlib.Core.List.{List, [], append-nil}
use mathlib.Core.Option.{Option, none, some}
use Prim.Native.Nat.{ℕ, zero, suc, ◌<◌, ◌≤◌}
use native.Mathlib.Omega.{arith}
use Rattle.octets.specs.Plain.Numbers.{Bytes}
use Rattle.octets.specs.Plain.Runs.{same_as}
use Rattle.parse_tree.specs.Plain.Tree.{Text, Leaf, Around, Sym, ambiguous, bare, quoted, regex, nonterminal, lookahead, lookbehind, error, repeat, choose, name, leaf, around, syms_of}
use Rattle.parse_tree.specs.Plain.Texts.{has, number, distinct}
use Rattle.parse_tree.specs.Plain.Display.{print}
use Rattle.parse_tree.specs.Working.Nodes.{node_bytes}
use Rattle.parse_tree.specs.Working.Places.{symbols_place}
use Rattle.parse_tree.specs.Plain.Reading.{Reading, got, times}
use Rattle.parse_tree.specs.Working.Operands.{leaf_of, around_of, inside_of}
use Rattle.parse_tree.specs.Working.Decode.{read_sym}
use Rattle.parse_tree.specs.Working.Encode.{leaf_node, around_node, sym_bytes, syms_bytes}
use Rattle.parse_tree.specs.Plain.References.{leaf_texts, around_texts, sym_texts, syms_texts}
use Rattle.parse_tree.specs.Working.Within.{LeafWithin, AroundWithin}
use Rattle.parse_tree.specs.declared.syntax.Span.{Span}
use Rattle.parse_tree.specs.declared.syntax.Leaf.{Leaf as LeafNode}
use Rattle.parse_tree.specs.declared.syntax.Around.{Around as AroundNode}
use Rattle.parse_tree.specs.declared.syntax.SymbolKind.{SymbolKind}
use Rattle.parse_tree.specs.declared.syntax.Node.{Node}
use Rattle.parse_tree.proofs.ReadingLaws.{never, then-got, got_as}
use Rattle.parse_tree.proofs.Expecting.{symbol_wanted}
use Rattle.parse_tree.proofs.FromCommands.{leaf_within, around_within}
use Rattle.replacing.specs.Trees.{keyed, renamed_leaf, renamed_around, renamed, renamed_all, own_leaf, own_around, expanded, expanded_all}
use Rattle.replacing.specs.Prints.{sym_at}
use Rattle.replacing.specs.Runs.{plain_leaf, plain_around, plain_kind, plain, is_macro}
use Rattle.replacing.proofs.Readings.{Standing, kind_read, stands_then, read_more}
use Rattle.replacing.proofs.Going.{Goes, standing_inside, goes_none, goes_then, goes_as, copy_goes, key_goes}
use Rattle.replacing.proofs.Growing.{Extends, extends_number}
use Rattle.parse_tree.proofs.NothingNew.{leaf_there, around_there}

-- ---- commands by the numbers of later texts
module _ (four : Bool) (w : ℕ) (ts T : List Text) (p : Extends ts T) where
  pub leaf_later : (l : Leaf) → LeafWithin four w ts l → leaf_node T l ≡ leaf_node ts l
  unfolding leaf_node
  leaf_later (ambiguous x) u = rw (extends_number ts T x p u.0) refl
  leaf_later (bare x) u = rw (extends_number ts T x p u.0) refl
  leaf_later (quoted x) u = rw (extends_number ts T x p u.0) refl
  leaf_later (regex x) u = rw (extends_number ts T x p u.0) refl
  leaf_later (nonterminal x) u = rw (extends_number ts T x p u.0) refl
  leaf_later lookahead u = refl
  leaf_later lookbehind u = refl
  leaf_later error u = refl

  pub around_later : (a : Around) → AroundWithin four w ts a → around_node T a ≡ around_node ts a
  unfolding around_node
  around_later (repeat o) u = refl
  around_later choose u = refl
  around_later (name m x) u = rw (extends_number ts T x p u.0) refl

module _ (four : Bool) (w : ℕ) (ts : List Text) where
  -- ---- by whether a command is copied
  pub plain-leaf : (sp : Span) (l : LeafNode) → plain_leaf l ≡ true → (renamed_leaf sp (leaf_of ts l) ≡ leaf sp (leaf_of ts l)) × (own_leaf sp (leaf_of ts l) ≡ [])
  unfolding plain_leaf leaf_of
  plain-leaf sp (LeafNode.AmbiguousId n) z = (refl, refl)
  plain-leaf sp (LeafNode.Bare n) z = (refl, refl)
  plain-leaf sp (LeafNode.Quoted n) z = (refl, refl)
  plain-leaf sp (LeafNode.Regex n) z = (refl, refl)
  plain-leaf sp (LeafNode.Nonterminal n) z = (refl, refl)
  plain-leaf sp LeafNode.Lookahead z = absurd (false≢true z)
  plain-leaf sp LeafNode.Lookbehind z = absurd (false≢true z)
  plain-leaf sp LeafNode.Error z = (refl, refl)

  pub keyed-leaf : (sp : Span) (l : LeafNode) → plain_leaf l ≡ false → renamed_leaf sp (leaf_of ts l) ≡ keyed sp (leaf sp (leaf_of ts l))
  unfolding plain_leaf leaf_of
  keyed-leaf sp (LeafNode.AmbiguousId n) z = absurd (false≢true (sym z))
  keyed-leaf sp (LeafNode.Bare n) z = absurd (false≢true (sym z))
  keyed-leaf sp (LeafNode.Quoted n) z = absurd (false≢true (sym z))
  keyed-leaf sp (LeafNode.Regex n) z = absurd (false≢true (sym z))
  keyed-leaf sp (LeafNode.Nonterminal n) z = absurd (false≢true (sym z))
  keyed-leaf sp LeafNode.Lookahead z = refl
  keyed-leaf sp LeafNode.Lookbehind z = refl
  keyed-leaf sp LeafNode.Error z = absurd (false≢true (sym z))

  pub plain-around : (sp : Span) (o : AroundNode) (x y : Sym) → plain_around o ≡ true
      → (renamed_around sp (around_of ts o) x y ≡ around sp (around_of ts o) y) × (own_around sp (around_of ts o) x ≡ [])
  unfolding plain_around around_of
  plain-around sp (AroundNode.Repeat k) x y z = absurd (false≢true z)
  plain-around sp AroundNode.Choose x y z = (refl, refl)
  plain-around sp (AroundNode.Name m n) x y z = (refl, refl)

  pub keyed-around : (sp : Span) (o : AroundNode) (x y : Sym) → plain_around o ≡ false → renamed_around sp (around_of ts o) x y ≡ keyed sp (around sp (around_of ts o) x)
  unfolding plain_around around_of
  keyed-around sp (AroundNode.Repeat k) x y z = refl
  keyed-around sp AroundNode.Choose x y z = absurd (false≢true (sym z))
  keyed-around sp (AroundNode.Name m n) x y z = absurd (false≢true (sym z))

module _ (four : Bool) (w : ℕ) (s : List ℕ) (ts : List Text) where
  -- a symbol that is expanded is renamed to the name of its key
  pub keyed-kind : (left : ℕ) (sp : Span) (k : SymbolKind) (c : ℕ) (x : Sym) (e : ℕ) → plain_kind k ≡ false → kind_read four w s ts left sp k c ≡ got x e → renamed x ≡ keyed sp x
  unfolding plain_kind renamed
  keyed-kind left sp (SymbolKind.Leaf l) c x e z p = got_as (λ y m. renamed y ≡ keyed sp y) p (keyed-leaf four w ts sp l z)
  keyed-kind left sp (SymbolKind.Around o) c x e z p =
      let i = then-got (read_sym four w s ts left c) _ p in
      got_as (λ y m. renamed y ≡ keyed sp y) i.second (keyed-around four w ts sp o i.value (renamed i.value) z)
  keyed-kind left sp (SymbolKind.Over o) c x e z p =
      let i = then-got (times (λ q. read_sym four w s ts left q) (inside_of o) c) _ p in
      got_as (λ y m. renamed y ≡ keyed sp y) i.second refl

module _ (four : Bool) (w : ℕ) (s : List ℕ) (ts : List Text) (b : Bytes s) (d : distinct ts ≡ true)
    (same : ℕ → ℕ → Bool) (text_at : ℕ → Option ℕ) (same_is : (p q : ℕ) → same p q ≡ same_as (print (sym_at four w s ts p)) (print (sym_at four w s ts q)))
    (text_is_lem : (p : ℕ) → text_at p ≡ cond (has (print (sym_at four w s ts p)) ts) (some (number ts (print (sym_at four w s ts p)))) none) where
  abbrev G : ℕ → ℕ → List Sym → List Text → (List Text → List ℕ) → Type 0
  G a e xs us f = Goes four w s ts b d same text_at same_is text_is_lem a e xs us f

  abbrev stand : ℕ → ℕ → Node → Type 0
  stand a c n = Standing four w s ts a c n

  -- ---- what is read has a byte
  pub times-ahead : {A : Type 0} (f : ℕ → Reading A) → ((a : ℕ) (x : A) (e : ℕ) → f a ≡ got x e → a < e) → (n a : ℕ) (xs : List A) (e : ℕ) → times f n a ≡ got xs e → a ≤ e
  unfolding times
  times-ahead f g zero a xs e p = got_as (λ zs m. a ≤ m) p (omega arith)
  times-ahead f g (suc n) a xs e p =
      let h = then-got (f a) _ p in
      let i = then-got (times f n h.mid) _ h.second in
      let u = g a h.value h.mid h.first in
      let v = times-ahead f g n h.mid i.value i.mid i.first in
      got_as (λ zs m. a ≤ m) i.second (omega arith)

  kind-ahead : (left : ℕ) → ((a : ℕ) (x : Sym) (e : ℕ) → read_sym four w s ts left a ≡ got x e → a < e) → (sp : Span) (k : SymbolKind) (c : ℕ) (x : Sym) (e : ℕ) → kind_read four w s ts left sp k c ≡ got x e → c ≤ e
  kind-ahead left f sp (SymbolKind.Leaf l) c x e p = got_as (λ z m. c ≤ m) p (omega arith)
  kind-ahead left f sp (SymbolKind.Around o) c x e p =
      let i = then-got (read_sym four w s ts left c) _ p in
      let u = f c i.value i.mid i.first in
      got_as (λ z m. c ≤ m) i.second (omega arith)
  kind-ahead left f sp (SymbolKind.Over o) c x e p =
      let i = then-got (times (λ q. read_sym four w s ts left q) (inside_of o) c) _ p in
      let u = times-ahead (λ q. read_sym four w s ts left q) f (inside_of o) c i.value i.mid i.first in
      got_as (λ z m. c ≤ m) i.second (omega arith)

  pub sym_ahead : (left a : ℕ) (x : Sym) (e : ℕ) → read_sym four w s ts left a ≡ got x e → a < e
  unfolding read_sym
  sym_ahead zero a x e p = stands_then four w s ts symbols_place zero b _ a p (λ n c h q. absurd (never q))
  sym_ahead (suc left) a x e p =
      stands_then four w s ts symbols_place (suc left) b _ a p (λ n c h q.
      symbol_wanted (stand a c) a c x e _ n h q (λ sp k i r.
      let u = standing_inside four w s ts b d same text_at same_is text_is_lem a c (Node.Symbol sp k) i in
      let v = kind-ahead left (sym_ahead left) sp k c x e r in
      omega (arith, u.0)))

  -- ---- one symbol
  abbrev pub SymGoes : ℕ → Type 0
  SymGoes left = (a : ℕ) (x : Sym) (e : ℕ) → read_sym four w s ts left a ≡ got x e → G a e (expanded x) (sym_texts (renamed x)) (λ T. sym_bytes w T (renamed x))

  -- it is expanded
  key_case : (left : ℕ) (sp : Span) (k : SymbolKind) (a c : ℕ) (x : Sym) (e : ℕ) → suc left ≤ 64 → read_sym four w s ts (suc left) a ≡ got x e → stand a c (Node.Symbol sp k) → plain_kind k ≡ false
      → kind_read four w s ts left sp k c ≡ got x e → G a e (expanded x) (sym_texts (renamed x)) (λ T. sym_bytes w T (renamed x))
  unfolding sym_texts leaf_texts sym_bytes leaf_node
  key_case left sp k a c x e l r h z p =
      let u = standing_inside four w s ts b d same text_at same_is text_is_lem a c (Node.Symbol sp k) h in
      subst (λ (y : Sym). G a e (expanded x) (sym_texts y) (λ T. sym_bytes w T y)) (sym (keyed-kind four w s ts left sp k c x e z p))
      (key_goes four w s ts b d same text_at same_is text_is_lem a e x sp k h.here z (omega (arith, u)) (sym_ahead (suc left) a x e r) (read_more four w s ts (suc left) 64 a x e l r))

  -- it is copied
  leaf_case : (sp : Span) (l : LeafNode) (a c : ℕ) → stand a c (Node.Symbol sp (SymbolKind.Leaf l)) → plain_leaf l ≡ true
      → G a c (expanded (leaf sp (leaf_of ts l))) (sym_texts (renamed (leaf sp (leaf_of ts l)))) (λ T. sym_bytes w T (renamed (leaf sp (leaf_of ts l))))
  unfolding expanded renamed sym_texts sym_bytes plain plain_kind is_macro
  leaf_case sp l a c h z =
      let (u, v) = plain-leaf four w ts sp l z in
      let (i, j) = leaf_within four w ts d sp l h.passes in
      rw (u, v) (goes_as four w s ts b d same text_at same_is text_is_lem a c [] (leaf_texts (leaf_of ts l)) (λ T. node_bytes w (Node.Symbol sp (SymbolKind.Leaf l)))
      (λ T. node_bytes w (Node.Symbol sp (SymbolKind.Leaf (leaf_node T (leaf_of ts l)))))
      (λ T m. ap (λ y. node_bytes w (Node.Symbol sp (SymbolKind.Leaf y))) (sym (leaf_later four w ts T m (leaf_of ts l) i ∙ j)))
      (copy_goes four w s ts b d same text_at same_is text_is_lem a c (Node.Symbol sp (SymbolKind.Leaf l)) (leaf_texts (leaf_of ts l)) h z refl (leaf_there four w ts (leaf_of ts l) i)))

  around_case : (sp : Span) (o : AroundNode) (y : Sym) (a c e : ℕ) → stand a c (Node.Symbol sp (SymbolKind.Around o)) → plain_around o ≡ true
      → G c e (expanded y) (sym_texts (renamed y)) (λ T. sym_bytes w T (renamed y))
      → G a e (expanded (around sp (around_of ts o) y)) (sym_texts (renamed (around sp (around_of ts o) y))) (λ T. sym_bytes w T (renamed (around sp (around_of ts o) y)))
  unfolding expanded renamed sym_texts sym_bytes plain plain_kind is_macro
  around_case sp o y a c e h z g =
      let (u, v) = plain-around four w ts sp o y (renamed y) z in
      let (i, j) = around_within four w ts d sp o h.passes in
      rw (u, v, append-nil (expanded y)) (goes_then four w s ts b d same text_at same_is text_is_lem a c e [] (expanded y) (around_texts (around_of ts o)) (sym_texts (renamed y))
      (λ T. node_bytes w (Node.Symbol sp (SymbolKind.Around (around_node T (around_of ts o))))) (λ T. sym_bytes w T (renamed y))
      (goes_as four w s ts b d same text_at same_is text_is_lem a c [] (around_texts (around_of ts o)) (λ T. node_bytes w (Node.Symbol sp (SymbolKind.Around o)))
      (λ T. node_bytes w (Node.Symbol sp (SymbolKind.Around (around_node T (around_of ts o)))))
      (λ T m. ap (λ q. node_bytes w (Node.Symbol sp (SymbolKind.Around q))) (sym (around_later four w ts T m (around_of ts o) i ∙ j)))
      (copy_goes four w s ts b d same text_at same_is text_is_lem a c (Node.Symbol sp (SymbolKind.Around o)) (around_texts (around_of ts o)) h z refl (around_there four w ts (around_of ts o) i))) g)

  kind-goes : (left : ℕ) → SymGoes left → (sp : Span) (k : SymbolKind) (a c : ℕ) (x : Sym) (e : ℕ) → suc left ≤ 64 → read_sym four w s ts (suc left) a ≡ got x e → stand a c (Node.Symbol sp k)
      → kind_read four w s ts left sp k c ≡ got x e → (z : Bool) → plain_kind k ≡ z → G a e (expanded x) (sym_texts (renamed x)) (λ T. sym_bytes w T (renamed x))
  unfolding plain_kind
  kind-goes left f sp k a c x e l r h p false z = key_case left sp k a c x e l r h z p
  kind-goes left f sp (SymbolKind.Leaf n) a c x e l r h p true z =
      got_as (λ y m. G a m (expanded y) (sym_texts (renamed y)) (λ T. sym_bytes w T (renamed y))) p (leaf_case sp n a c h z)
  kind-goes left f sp (SymbolKind.Around o) a c x e l r h p true z =
      let i = then-got (read_sym four w s ts left c) _ p in
      got_as (λ y m. G a m (expanded y) (sym_texts (renamed y)) (λ T. sym_bytes w T (renamed y))) i.second
      (around_case sp o i.value a c i.mid h z (f c i.value i.mid i.first))
  kind-goes left f sp (SymbolKind.Over o) a c x e l r h p true z = absurd (false≢true z)

  pub sym_goes : (left : ℕ) → left ≤ 64 → SymGoes left
  unfolding read_sym
  sym_goes zero l a x e p = stands_then four w s ts symbols_place zero b _ a p (λ n c h q. absurd (never q))
  sym_goes (suc left) l a x e p =
      stands_then four w s ts symbols_place (suc left) b _ a p (λ n c h q.
      symbol_wanted (stand a c) a c x e _ n h q (λ sp k i r.
      kind-goes left (sym_goes left (omega arith)) sp k a c x e l p i r (plain_kind k) refl))

  -- ---- several
  pub syms_go : (left : ℕ) → left ≤ 64 → (n a : ℕ) (xs : List Sym) (e : ℕ) → times (λ q. read_sym four w s ts left q) n a ≡ got xs e
      → G a e (expanded_all (syms_of xs)) (syms_texts (renamed_all (syms_of xs))) (λ T. syms_bytes w T (renamed_all (syms_of xs)))
  unfolding times syms_of expanded_all renamed_all syms_texts syms_bytes
  syms_go left l zero a xs e p =
      got_as (λ zs m. G a m (expanded_all (syms_of zs)) (syms_texts (renamed_all (syms_of zs))) (λ T. syms_bytes w T (renamed_all (syms_of zs)))) p
      (goes_none four w s ts b d same text_at same_is text_is_lem a)
  syms_go left l (suc n) a xs e p =
      let h = then-got (read_sym four w s ts left a) _ p in
      let i = then-got (times (λ q. read_sym four w s ts left q) n h.mid) _ h.second in
      got_as (λ zs m. G a m (expanded_all (syms_of zs)) (syms_texts (renamed_all (syms_of zs))) (λ T. syms_bytes w T (renamed_all (syms_of zs)))) i.second
      (goes_then four w s ts b d same text_at same_is text_is_lem a h.mid i.mid (expanded h.value) (expanded_all (syms_of i.value))
      (sym_texts (renamed h.value)) (syms_texts (renamed_all (syms_of i.value))) (λ T. sym_bytes w T (renamed h.value)) (λ T. syms_bytes w T (renamed_all (syms_of i.value)))
      (sym_goes left l a h.value h.mid h.first) (syms_go left l n h.mid i.value i.mid i.first))
