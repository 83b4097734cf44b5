-- One command of a tape as the plain definitions ask it, against parse_tree's reading of it. Assumes nothing.
use mathlib.Core.Path.{◌≡◌, refl}
use mathlib.Core.Logic.{◌⊎◌, inl, inr}
use mathlib.Core.Bool.{Bool, true, false, cond, ◌&&◌, ◌||◌}
use mathlib.Core.List.{List, [], ◌∷◌}
use Prim.Native.Nat.{ℕ, zero, suc, ◌+◌, ◌-◌, ◌<◌, ◌≤◌}
use native.Mathlib.Omega.{arith}
use borrow.Author.Tests.{eqb-true, ltb-true, ltb-false, lt-leb}
use lib.Dec.{eqb, ltb, leb}
use lib.ListN.{length, get_or}
use Rattle.std.specs.Prelude.{Option, Some, None}
use Rattle.octets.specs.Working.Choice.{pick}
use Rattle.octets.proofs.ChoiceLaws.{by_pick}
use Rattle.parse_tree.specs.Plain.Tree.{Text}
use Rattle.parse_tree.specs.Working.Nodes.{size_of, if_whole, symbol_node_at, text_node, nonterminal_node_at, terminal_node_at, argument_node_at, alternative_node_at, attribute_node_at, condition_node_at, node_by, node_at}
use Rattle.parse_tree.specs.Working.Places.{class_of, allowed_at}
use Rattle.parse_tree.specs.Working.Questions.{defined, suits}
use Rattle.parse_tree.specs.Plain.Reading.{Reading, refused, then}
use Rattle.parse_tree.specs.Working.Decode.{ask_of, ask}
use Rattle.parse_tree.specs.declared.syntax.Node.{Node}
use Rattle.parse_tree.specs.Plain.ReadTape.{asked}

pub and-true : (b : Bool) → (b && true) ≡ b
and-true true = refl
and-true false = refl

pub pick-if : {A : Type 0} (b : Bool) (x y : A) → pick b x y ≡ cond b x y
unfolding pick
pick-if true x y = refl
pick-if false x y = refl

pub pick-or : (a b : Bool) → pick a true b ≡ (a || b)
unfolding pick
pick-or true b = refl
pick-or false b = refl

-- two ways by a code, and what is made of each
pub by_code : {A : Type 0} {B : Type 0} (R : A → Reading B) (c k : ℕ) (x y : A) (z : Reading B) → (c ≡ k → R x ≡ z) → (eqb c k ≡ false → R y ≡ z) → R (cond (eqb c k) x y) ≡ z
by_code R c k x y z f g = go (eqb c k) refl
  where
    go : (b : Bool) → eqb c k ≡ b → R (cond b x y) ≡ z
    go true e = f (eqb-true c k e)
    go false e = g e

-- behind the end stands no code
inside : (s : List ℕ) (at k : ℕ) → get_or s at 0 ≡ suc k → at < length s
inside [] at k e = absurd (let z : 0 ≡ suc k = e in omega arith)
inside (x ∷ s) zero k e = omega arith
inside (x ∷ s) (suc at) k e = let z = inside s at k e in omega arith

-- the command at a place with a code
pub node_by_lem : (w : ℕ) (s : List ℕ) (at k : ℕ) → get_or s at 0 ≡ suc k → node_at w s at ≡ node_by w (suc k) s at
unfolding node_at pick
node_by_lem w s at k e = cc (lt-leb (length s) at (inside s at k e), e)

-- ---- which codes a command has
abbrev pub CodeOf : Node → ℕ → Type 0
CodeOf (Node.Text n) c = c ≡ 1
CodeOf (Node.Nonterminal d) c = c ≡ 16
CodeOf (Node.Terminal t) c = (c ≡ 48) ⊎ (c ≡ 49)
CodeOf (Node.Argument n) c = c ≡ 17
CodeOf (Node.Alternative a) c = c ≡ 18
CodeOf (Node.Attribute a) c = c ≡ 19
CodeOf (Node.Condition x) c = c ≡ 20
CodeOf (Node.Symbol sp k) c = (32 ≤ c) × (c < 45)

module _ (w : ℕ) (s : List ℕ) (at : ℕ) where
  abbrev pub Coded : Option Node → Type 0
  Coded None = Unit {0}
  Coded (Some n) = CodeOf n (get_or s at 0)

  whole_code : (n : ℕ) (x : Node) → CodeOf x (get_or s at 0) → Coded (if_whole s at n x)
  unfolding if_whole
  whole_code n x h = by_pick Coded (ltb (length s - at) n) (λ _. tt) (λ _. h)

  symbol_code : 32 ≤ get_or s at 0 → get_or s at 0 < 45 → Coded (symbol_node_at w (get_or s at 0) s at)
  unfolding symbol_node_at
  symbol_code h k =
      by_pick Coded (ltb (get_or s at 0) 37) (λ _. whole_code _ _ (h, k)) (λ _.
      by_pick Coded (eqb (get_or s at 0) 37) (λ _. whole_code _ _ (h, k)) (λ _.
      by_pick Coded (eqb (get_or s at 0) 38) (λ _. whole_code _ _ (h, k)) (λ _.
      by_pick Coded (eqb (get_or s at 0) 39) (λ _. whole_code _ _ (h, k)) (λ _.
      by_pick Coded (eqb (get_or s at 0) 40) (λ _. whole_code _ _ (h, k)) (λ _.
      by_pick Coded (eqb (get_or s at 0) 41) (λ _. whole_code _ _ (h, k)) (λ _. whole_code _ _ (h, k)))))))

  pub node_code : Coded (node_at w s at)
  unfolding node_at node_by text_node nonterminal_node_at argument_node_at alternative_node_at attribute_node_at condition_node_at terminal_node_at
  node_code =
      by_pick Coded (leb (length s) at) (λ _. tt) (λ _.
      by_pick Coded (ltb (get_or s at 0) 32) (λ _.
      by_pick Coded (eqb (get_or s at 0) 1) (λ e. by_pick Coded (ltb (length s - at) 3) (λ _. tt) (λ _. whole_code _ (Node.Text _) (eqb-true (get_or s at 0) 1 e))) (λ _.
      by_pick Coded (eqb (get_or s at 0) 16) (λ e. whole_code _ (Node.Nonterminal _) (eqb-true (get_or s at 0) 16 e)) (λ _.
      by_pick Coded (eqb (get_or s at 0) 17) (λ e. whole_code _ (Node.Argument _) (eqb-true (get_or s at 0) 17 e)) (λ _.
      by_pick Coded (eqb (get_or s at 0) 18) (λ e. whole_code _ (Node.Alternative _) (eqb-true (get_or s at 0) 18 e)) (λ _.
      by_pick Coded (eqb (get_or s at 0) 19) (λ e. whole_code _ (Node.Attribute _) (eqb-true (get_or s at 0) 19 e)) (λ _.
      by_pick Coded (eqb (get_or s at 0) 20) (λ e. whole_code _ (Node.Condition _) (eqb-true (get_or s at 0) 20 e)) (λ _. tt)))))))
      (λ l. by_pick Coded (ltb (get_or s at 0) 45) (λ e. symbol_code (ltb-false (get_or s at 0) 32 l) (ltb-true (get_or s at 0) 45 e)) (λ _.
      by_pick Coded (eqb (get_or s at 0) 48) (λ e. whole_code _ (Node.Terminal _) (inl (eqb-true (get_or s at 0) 48 e))) (λ _.
      by_pick Coded (eqb (get_or s at 0) 49) (λ e. whole_code _ (Node.Terminal _) (inr (eqb-true (get_or s at 0) 49 e))) (λ _. tt)))))

-- ---- the questions of one command, and what is read behind them
module _ (four : Bool) (w : ℕ) (s : List ℕ) (ts : List Text) (place left at : ℕ) {B : Type 0} (K : Node → ℕ → Reading B) where
  -- no command that may stand there
  pub asks_other : ((n : Node) → CodeOf n (get_or s at 0) → allowed_at place (class_of n) ≡ false) → then (ask four w s ts place left at) K ≡ refused 2 at
  unfolding ask ask_of then pick
  asks_other f = go (node_at w s at) (node_code w s at)
    where
      go : (o : Option Node) → Coded w s at o → then (ask_of four w s ts place left at o) K ≡ refused 2 at
      go None h = refl
      go (Some n) h = cc (f n h)

  -- the command x of m bytes
  pub asks_is : (x : Node) (m : ℕ) (good fits : Bool) (r : Reading B) → node_at w s at ≡ if_whole s at m x → allowed_at place (class_of x) ≡ true
      → (defined (length ts) x && leb 1 left) ≡ good → suits ts x ≡ fits → size_of w x ≡ m → K x (at + m) ≡ r → then (ask four w s ts place left at) K ≡ asked four w s at m good fits r
  unfolding ask ask_of then pick if_whole class_of asked
  asks_is x m good fits r n may g f z k = go (ltb (length s - at) m) refl good g four refl fits f
    where
      go : (a : Bool) → ltb (length s - at) m ≡ a → (b : Bool) → (defined (length ts) x && leb 1 left) ≡ b → (c : Bool) → four ≡ c → (d : Bool) → suits ts x ≡ d
          → then (ask four w s ts place left at) K ≡ cond a (refused 2 at) (cond b (cond (cond c d true) r (refused 4 at)) (refused 3 at))
      go true e b h c i d j = cc (n, e)
      go false e true h true i true j = cc (n, e, may, h, i, j, z, k)
      go false e true h true i false j = cc (n, e, may, h, i, j)
      go false e true h false i d j = cc (n, e, may, h, i, z, k)
      go false e false h c i d j = cc (n, e, may, h)
