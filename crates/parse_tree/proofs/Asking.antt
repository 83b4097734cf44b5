-- The questions of one command: what passes them is read, and what is read has passed them. Assumes nothing.
use mathlib.Core.Path.{◌≡◌, refl}
use mathlib.Core.Bool.{Bool, true, false, ◌&&◌, and-eq-true_iff}
use mathlib.Core.List.{List}
use Prim.Native.Nat.{ℕ, ◌≤◌}
use borrow.Author.Tests.{le-leb}
use lib.Dec.{leb}
use lib.ListN.{length}
use Rattle.std.specs.Prelude.{Option, Some, None}
use Rattle.octets.specs.Working.Choice.{pick}
use Rattle.octets.specs.Plain.Numbers.{Bytes}
use Rattle.octets.specs.Plain.Runs.{Lies}
use Rattle.parse_tree.specs.Plain.Tree.{Text}
use Rattle.parse_tree.specs.Working.Nodes.{node_bytes, node_at, size_of}
use Rattle.parse_tree.specs.Working.Places.{class_of, allowed_at}
use Rattle.parse_tree.specs.Working.Questions.{defined, suits}
use Rattle.parse_tree.specs.Plain.Reading.{Reading, got, refused, then}
use Rattle.parse_tree.specs.Working.Decode.{ask_of, ask}
use Rattle.parse_tree.specs.declared.syntax.Node.{Node}
use Rattle.parse_tree.proofs.NodeFits.{NodeFits, TextFits, NodeSays}
use Rattle.parse_tree.proofs.NodeSays.{node_says}
use Rattle.parse_tree.proofs.NodeBack.{node_back}
use Rattle.parse_tree.proofs.ReadingLaws.{never, then-got, Found, found_as}

-- every operand fits its width, is defined, and its text suits its use
pub record Passes (four : Bool) (w : ℕ) (ts : List Text) (n : Node) : Type 0 where
  pub fits : NodeFits w n
  pub known : defined (length ts) n ≡ true
  pub apt : pick four (suits ts n) true ≡ true

-- a yes behind a question is a yes to it
pick-got : {A : Type 0} (b : Bool) (r : Reading A) (k p : ℕ) {e : ℕ} {x : A} → pick b r (refused k p) ≡ got x e → (b ≡ true) × (r ≡ got x e)
unfolding pick
pick-got true r k p q = (refl, q)
pick-got false r k p q = absurd (never q)

module _ (four : Bool) (w : ℕ) (s : List ℕ) (ts : List Text) (place left : ℕ) where
  pub ask_reads : (n : Node) → Passes four w ts n → allowed_at place (class_of n) ≡ true → 1 ≤ left → (a e : ℕ) → TextFits s a n → Lies s a (node_bytes w n) e → ask four w s ts place left a ≡ got n e
  unfolding ask ask_of pick size_of
  ask_reads n p o h a e t l = cc (node_back w s a e n p.fits t l, o, p.known, le-leb 1 left h, p.apt, l.end)

  pub ask_finds : Bytes s → (a : ℕ) (n : Node) (e : ℕ) → ask four w s ts place left a ≡ got n e → Found s (node_bytes w) (Passes four w ts) a n e
  unfolding ask ask_of
  ask_finds b a n e q = go (node_at w s a) (node_says w s a b) q
    where
      go : (o : Option Node) → NodeSays w s a o → ask_of four w s ts place left a o ≡ got n e → Found s (node_bytes w) (Passes four w ts) a n e
      go None h q = absurd (never q)
      go (Some m) h q =
          let x = pick-got (allowed_at place (class_of m)) _ 2 a q in
          let y = pick-got (defined (length ts) m && leb 1 left) _ 3 a x.1 in
          let z = pick-got (pick four (suits ts m) true) _ 4 a y.1 in
          let d = ((and-eq-true_iff (defined (length ts) m) (leb 1 left)).0 y.0).0 in
          found_as z.1 (record { lies = h.lies; within = record { fits = h.fits; known = d; apt = z.0 } })

  -- and what is read behind it
  pub ask_then : Bytes s → {B R : Type 0} (f : Node → ℕ → Reading B) (a : ℕ) {y : B} {e : ℕ} → then (ask four w s ts place left a) f ≡ got y e
      → ((n : Node) (m : ℕ) → Found s (node_bytes w) (Passes four w ts) a n m → f n m ≡ got y e → R) → R
  ask_then b f a p g =
      let h = then-got (ask four w s ts place left a) f p in
      g h.value h.mid (ask_finds b a h.value h.mid h.first) h.second
