-- What was read is the command that stands there, and stays so with more levels left. Assumes nothing.
use mathlib.Core.Path.{◌≡◌, refl, sym, ap, ◌∙◌}
use mathlib.Core.Bool.{Bool, true, false, ◌&&◌}
use mathlib.Core.List.{List}
use Prim.Native.Nat.{ℕ, zero, suc, ◌+◌, ◌≤◌}
use native.Mathlib.Omega.{arith}
use borrow.Author.Tests.{le-leb}
use lib.Dec.{leb}
use lib.ListN.{length}
use Rattle.std.specs.Prelude.{Option as Optional, Some, None}
use Rattle.octets.specs.Working.Choice.{pick}
use Rattle.octets.specs.Plain.Numbers.{Bytes}
use Rattle.octets.specs.Plain.Runs.{Lies}
use Rattle.parse_tree.specs.Plain.Tree.{Text, Sym, syms_of}
use Rattle.parse_tree.specs.Working.Nodes.{node_bytes, node_at, size_of}
use Rattle.parse_tree.specs.Working.Places.{class_of, allowed_at, symbols_place}
use Rattle.parse_tree.specs.Working.Questions.{defined, suits}
use Rattle.parse_tree.specs.Plain.Reading.{Reading, got, refused, then, times}
use Rattle.parse_tree.specs.Working.Expect.{expect_symbol}
use Rattle.parse_tree.specs.Working.Operands.{leaf_of, around_of, over_of, inside_of}
use Rattle.parse_tree.specs.Working.Decode.{ask_of, ask, read_sym}
use Rattle.parse_tree.specs.declared.syntax.Span.{Span}
use Rattle.parse_tree.specs.declared.syntax.SymbolKind.{SymbolKind}
use Rattle.parse_tree.specs.declared.syntax.Node.{Node}
use Rattle.parse_tree.proofs.Asking.{Passes, ask_finds}
use Rattle.parse_tree.proofs.ReadingLaws.{never, then-got, got_as}
use Rattle.parse_tree.proofs.Expecting.{symbol_wanted}

-- the command n stands from a to c and has passed
pub record Standing (four : Bool) (w : ℕ) (s : List ℕ) (ts : List Text) (a c : ℕ) (n : Node) : Type 0 where
  pub here : node_at w s a ≡ Some n
  pub behind : a + size_of w n ≡ c
  pub lies : Lies s a (node_bytes w n) c
  pub passes : Passes four w ts n

-- a yes behind a question is a yes behind it
pick_yes : {A : Type 0} (b : Bool) (r : Reading A) (k p : ℕ) {e : ℕ} {x : A} → pick b r (refused k p) ≡ got x e → r ≡ got x e
unfolding pick
pick_yes true r k p q = q
pick_yes false r k p q = absurd (never q)

module _ (four : Bool) (w : ℕ) (s : List ℕ) (ts : List Text) (place left : ℕ) where
  -- the yes is the command there
  asked : (a : ℕ) (n : Node) (c : ℕ) → ask four w s ts place left a ≡ got n c → (node_at w s a ≡ Some n) × (a + size_of w n ≡ c)
  unfolding ask ask_of
  asked a n c q = go (node_at w s a) refl q
    where
      go : (o : Optional Node) → node_at w s a ≡ o → ask_of four w s ts place left a o ≡ got n c → (node_at w s a ≡ Some n) × (a + size_of w n ≡ c)
      go None i q = absurd (never q)
      go (Some m) i q =
          let x = pick_yes (allowed_at place (class_of m)) _ 2 a q in
          let y = pick_yes (defined (length ts) m && leb 1 left) _ 3 a x in
          let z = pick_yes (pick four (suits ts m) true) _ 4 a y in
          (i ∙ got_as (λ v k. Some m ≡ Some v) z refl, got_as (λ v k. a + size_of w v ≡ k) z refl)

  pub stands_then : Bytes s → {B R : Type 0} (f : Node → ℕ → Reading B) (a : ℕ) {y : B} {e : ℕ} → then (ask four w s ts place left a) f ≡ got y e
      → ((n : Node) (c : ℕ) → Standing four w s ts a c n → f n c ≡ got y e → R) → R
  stands_then b f a p g =
      let h = then-got (ask four w s ts place left a) f p in
      let q = asked a h.value h.mid h.first in
      let i = ask_finds four w s ts place left b a h.value h.mid h.first in
      g h.value h.mid (record { here = q.0; behind = q.1; lies = i.lies; passes = i.within }) h.second

-- as many as were asked for
pub times-length : {A : Type 0} (f : ℕ → Reading A) (n a : ℕ) (xs : List A) (e : ℕ) → times f n a ≡ got xs e → length xs ≡ n
unfolding times
times-length f zero a xs e p = got_as (λ zs k. length zs ≡ 0) p refl
times-length f (suc n) a xs e p =
    let h = then-got (f a) _ p in
    let i = then-got (times f n h.mid) _ h.second in
    got_as (λ zs k. length zs ≡ suc n) i.second (ap suc (times-length f n h.mid i.value i.mid i.first))

-- what one reader reads, another does
pub times-also : {A : Type 0} (f g : ℕ → Reading A) → ((a : ℕ) (x : A) (e : ℕ) → f a ≡ got x e → g a ≡ got x e)
    → (n a : ℕ) (xs : List A) (e : ℕ) → times f n a ≡ got xs e → times g n a ≡ got xs e
unfolding times then
times-also f g t zero a xs e p = p
times-also f g t (suc n) a xs e p =
    let h = then-got (f a) _ p in
    let i = then-got (times f n h.mid) _ h.second in
    cc (t a h.value h.mid h.first, times-also f g t n h.mid i.value i.mid i.first)

module _ (four : Bool) (w : ℕ) (s : List ℕ) (ts : List Text) where
  ask_left : (place left more a : ℕ) → ask four w s ts place (suc left) a ≡ ask four w s ts place (suc more) a
  unfolding ask ask_of
  ask_left place left more a = go (node_at w s a)
    where
      go : (o : Optional Node) → ask_of four w s ts place (suc left) a o ≡ ask_of four w s ts place (suc more) a o
      go None = refl
      go (Some n) = rw (le-leb 1 (suc left) (omega arith), le-leb 1 (suc more) (omega arith)) refl

  -- what the reader of one level does with a command
  abbrev pub kind_read : ℕ → Span → SymbolKind → ℕ → Reading Sym
  kind_read left sp k c = elim k [
    | SymbolKind.Leaf l ↦ got (Sym.leaf sp (leaf_of ts l)) c
    | SymbolKind.Around o ↦ then (read_sym four w s ts left c) (λ y e'. got (Sym.around sp (around_of ts o) y) e')
    | SymbolKind.Over o ↦ then (times (λ q. read_sym four w s ts left q) (inside_of o) c) (λ ys e'. got (Sym.over sp (over_of ts o) (syms_of ys)) e')
  ]

  kind-more : (left more : ℕ) → ((a : ℕ) (x : Sym) (e : ℕ) → read_sym four w s ts left a ≡ got x e → read_sym four w s ts more a ≡ got x e)
      → (sp : Span) (k : SymbolKind) (c : ℕ) (x : Sym) (e : ℕ) → kind_read left sp k c ≡ got x e → kind_read more sp k c ≡ got x e
  unfolding then
  kind-more left more f sp (SymbolKind.Leaf l) c x e r = r
  kind-more left more f sp (SymbolKind.Around o) c x e r =
      let i = then-got (read_sym four w s ts left c) _ r in
      rw (f c i.value i.mid i.first) i.second
  kind-more left more f sp (SymbolKind.Over o) c x e r =
      let i = then-got (times (λ q. read_sym four w s ts left q) (inside_of o) c) _ r in
      rw (times-also (λ q. read_sym four w s ts left q) (λ q. read_sym four w s ts more q) f (inside_of o) c i.value i.mid i.first) i.second

  -- a symbol read with few levels left is read with more
  pub read_more : (left more a : ℕ) (x : Sym) (e : ℕ) → left ≤ more → read_sym four w s ts left a ≡ got x e → read_sym four w s ts more a ≡ got x e
  unfolding read_sym then expect_symbol
  read_more zero more a x e l p = let h = then-got (ask four w s ts symbols_place zero a) _ p in absurd (never h.second)
  read_more (suc left) zero a x e l p = absurd (omega arith)
  read_more (suc left) (suc more) a x e l p =
      let h = then-got (ask four w s ts symbols_place (suc left) a) _ p in
      symbol_wanted (λ n. n ≡ h.value) a h.mid x e _ h.value refl h.second (λ sp k i r.
      let f : ask four w s ts symbols_place (suc more) a ≡ got (Node.Symbol sp k) h.mid = sym (ask_left symbols_place left more a) ∙ h.first ∙ ap (λ z. got z h.mid) (sym i) in
      rw f (kind-more left more (λ q y d t. read_more left more q y d (omega arith) t) sp k h.mid x e r))
