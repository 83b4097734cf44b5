-- A command with nothing inside: the step of reading it is the step of asking it. Assumes nothing.
use mathlib.Core.Path.{◌≡◌, refl}
use mathlib.Core.Bool.{Bool, true, false, ◌&&◌, false≢true}
use mathlib.Core.List.{List}
use Prim.Native.Nat.{ℕ, zero, suc, ◌+◌}
use native.Mathlib.Omega.{arith}
use lib.Dec.{leb}
use lib.ListN.{length}
use Rattle.octets.specs.Working.Choice.{pick}
use Rattle.parse_tree.specs.Plain.Tree.{Text}
use Rattle.parse_tree.specs.Working.Nodes.{node_at, size_of}
use Rattle.parse_tree.specs.Working.Places.{table, class_of, allowed_at, arguments_place, attributes_place, conditions_place}
use Rattle.parse_tree.specs.Working.Questions.{defined, suits}
use Rattle.parse_tree.specs.Plain.Reading.{Reading, got, refused, then, times}
use Rattle.parse_tree.specs.Working.Expect.{expect_argument, expect_attribute, expect_condition}
use Rattle.parse_tree.specs.Working.Operands.{text_of, attribute_of, condition_of}
use Rattle.parse_tree.specs.Working.Decode.{ask_of, ask, read_argument, read_attribute, read_condition}
use Rattle.parse_tree.specs.Working.Refusals.{refusal_at}
use Rattle.parse_tree.specs.declared.syntax.Node.{Node}
use Rattle.validate.specs.Steps.{step_of}
use Rattle.std.specs.Prelude.{Option, Some, None, Ok}
use Rattle.validate.proofs.CommandCode.{step-refused, refuses_step, refuses_then}

-- what is read behind a command goes on from it, if it is of a kind that may stand at its place
module _ {B : Type 0} (place at : ℕ) (f : Node → ℕ → Reading B) (on : (n : Node) (e : ℕ) → allowed_at place (class_of n) ≡ true → step_of (f n e) ≡ Ok e) where
  picked : (n : Node) (o d u : Bool) (e : ℕ) → allowed_at place (class_of n) ≡ o
      → step_of (then (pick o (pick d (pick u (got n e) (refused 4 at)) (refused 3 at)) (refused 2 at)) f) ≡ step_of (pick o (pick d (pick u (got n e) (refused 4 at)) (refused 3 at)) (refused 2 at))
  unfolding pick then step_of
  picked n false d u e h = refl
  picked n true false u e h = refl
  picked n true true false e h = refl
  picked n true true true e h = on n e h

  then-ask : (four : Bool) (w : ℕ) (s : List ℕ) (ts : List Text) → step_of (then (ask four w s ts place 1 at) f) ≡ step_of (ask four w s ts place 1 at)
  unfolding ask ask_of then step_of
  then-ask four w s ts = go (node_at w s at)
    where
      go : (o : Option Node) → step_of (then (ask_of four w s ts place 1 at o) f) ≡ step_of (ask_of four w s ts place 1 at o)
      go None = refl
      go (Some n) = picked n (allowed_at place (class_of n)) (defined (length ts) n && leb 1 1) (pick four (suits ts n) true) (at + size_of w n) refl

module _ (four : Bool) (w : ℕ) (s : List ℕ) (ts : List Text) (at : ℕ) where
  only_argument : (n : Node) (e : ℕ) → allowed_at arguments_place (class_of n) ≡ true → step_of (expect_argument at (λ a d. got (text_of ts a.0) d) n e) ≡ Ok e
  unfolding expect_argument step_of allowed_at table class_of
  only_argument (Node.Text k) e h = absurd (false≢true h)
  only_argument (Node.Nonterminal d) e h = absurd (false≢true h)
  only_argument (Node.Terminal t) e h = absurd (false≢true h)
  only_argument (Node.Argument a) e h = refl
  only_argument (Node.Alternative a) e h = absurd (false≢true h)
  only_argument (Node.Attribute a) e h = absurd (false≢true h)
  only_argument (Node.Condition c) e h = absurd (false≢true h)
  only_argument (Node.Symbol p k) e h = absurd (false≢true h)

  only_attribute : (n : Node) (e : ℕ) → allowed_at attributes_place (class_of n) ≡ true → step_of (expect_attribute at (λ a d. got (attribute_of ts a) d) n e) ≡ Ok e
  unfolding expect_attribute step_of allowed_at table class_of
  only_attribute (Node.Text k) e h = absurd (false≢true h)
  only_attribute (Node.Nonterminal d) e h = absurd (false≢true h)
  only_attribute (Node.Terminal t) e h = absurd (false≢true h)
  only_attribute (Node.Argument a) e h = absurd (false≢true h)
  only_attribute (Node.Alternative a) e h = absurd (false≢true h)
  only_attribute (Node.Attribute a) e h = refl
  only_attribute (Node.Condition c) e h = absurd (false≢true h)
  only_attribute (Node.Symbol p k) e h = absurd (false≢true h)

  only_condition : (n : Node) (e : ℕ) → allowed_at conditions_place (class_of n) ≡ true → step_of (expect_condition at (λ c d. got (condition_of ts c) d) n e) ≡ Ok e
  unfolding expect_condition step_of allowed_at table class_of
  only_condition (Node.Text k) e h = absurd (false≢true h)
  only_condition (Node.Nonterminal d) e h = absurd (false≢true h)
  only_condition (Node.Terminal t) e h = absurd (false≢true h)
  only_condition (Node.Argument a) e h = absurd (false≢true h)
  only_condition (Node.Alternative a) e h = absurd (false≢true h)
  only_condition (Node.Attribute a) e h = absurd (false≢true h)
  only_condition (Node.Condition c) e h = refl
  only_condition (Node.Symbol p k) e h = absurd (false≢true h)

  argument-step : step_of (read_argument four w s ts at) ≡ step_of (ask four w s ts arguments_place 1 at)
  unfolding read_argument
  argument-step = then-ask arguments_place at _ only_argument four w s ts

  attribute_step : step_of (read_attribute four w s ts at) ≡ step_of (ask four w s ts attributes_place 1 at)
  unfolding read_attribute
  attribute_step = then-ask attributes_place at _ only_attribute four w s ts

  condition_step : step_of (read_condition four w s ts at) ≡ step_of (ask four w s ts conditions_place 1 at)
  unfolding read_condition
  condition_step = then-ask conditions_place at _ only_condition four w s ts

-- ---- and so it is for several, one behind another
module _ {A B C D : Type 0} where
  -- the second readings take the same steps from every place
  then-alike : (x : Reading A) (y : Reading B) (g : A → ℕ → Reading C) (h : B → ℕ → Reading D)
      → step_of x ≡ step_of y → ((a : A) (b : B) (e : ℕ) → step_of (g a e) ≡ step_of (h b e)) → step_of (then x g) ≡ step_of (then y h)
  unfolding then step_of
  then-alike (got a e) y g h p q = go y p
    where
      go : (y : Reading B) → Ok e ≡ step_of y → step_of (g a e) ≡ step_of (then y h)
      go (got b d) z = let n : d ≡ e = cc in rw n (q a b e)
      go (refused k v) z = absurd (let n : ◌≡◌ {A = ℕ} 0 1 = cc in omega arith)
  then-alike (refused k v) y g h p q = refuses_step (then y h) (refusal_at k v) (refuses_then y h (refusal_at k v) (step-refused y (refusal_at k v) p))

module _ {A B : Type 0} (f : ℕ → Reading A) (g : ℕ → Reading B) (same : (p : ℕ) → step_of (f p) ≡ step_of (g p)) where
  pub times-alike : (n at : ℕ) → step_of (times f n at) ≡ step_of (times g n at)
  unfolding times step_of then
  times-alike zero at = refl
  times-alike (suc n) at =
      then-alike (f at) (g at) _ _ (same at)
      (λ a b e. then-alike (times f n e) (times g n e) _ _ (times-alike n e) (λ xs ys d. refl))

module _ (four : Bool) (w : ℕ) (s : List ℕ) (ts : List Text) where
  pub arguments_alike : (n at : ℕ) → step_of (times (read_argument four w s ts) n at) ≡ step_of (times (ask four w s ts arguments_place 1) n at)
  arguments_alike n at = times-alike (read_argument four w s ts) (ask four w s ts arguments_place 1) (λ p. argument-step four w s ts p) n at

  pub attributes_alike : (n at : ℕ) → step_of (times (read_attribute four w s ts) n at) ≡ step_of (times (ask four w s ts attributes_place 1) n at)
  attributes_alike n at = times-alike (read_attribute four w s ts) (ask four w s ts attributes_place 1) (λ p. attribute_step four w s ts p) n at

  pub conditions-alike : (n at : ℕ) → step_of (times (read_condition four w s ts) n at) ≡ step_of (times (ask four w s ts conditions_place 1) n at)
  conditions-alike n at = times-alike (read_condition four w s ts) (ask four w s ts conditions_place 1) (λ p. condition_step four w s ts p) n at
