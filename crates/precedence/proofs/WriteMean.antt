-- What is put, on trees: attributes without the first `precedence` and the first `assoc`, and the fall-through. Assumes nothing.
use mathlib.Core.Path.{◌≡◌, refl, sym, ap, ◌∙◌}
use mathlib.Core.Bool.{Bool, true, false, cond}
use mathlib.Core.List.{List, [], ◌∷◌, ◌++◌, append-nil}
use mathlib.Core.Option.{Option, none, some}
use Prim.Native.Nat.{ℕ, suc, ◌+◌, ◌*◌, ◌<◌}
use native.Mathlib.Omega.{arith}
use borrow.Author.Tests.{eq-eqb, ne_eqb}
use lib.Dec.{eqb}
use lib.ListN.{length, length-append}
use Rattle.std.specs.Prelude.{Option as Maybe, Some, None, option_map}
use Rattle.std.specs.Option.{option_eq}
use Rattle.octets.specs.Working.Choice.{pick}
use Rattle.octets.specs.Plain.Numbers.{le_at, le, Bytes}
use Rattle.octets.specs.Plain.Runs.{part, same_as, Lies}
use Rattle.octets.proofs.LiesLaws.{lies_split, lies_first, lies_from, lies_to, lies_part, lies_le, lies_inside}
use Rattle.octets.proofs.NumbersLaws.{length-le}
use Rattle.octets.proofs.SameLaws.{same_as-eq}
use Rattle.parse_tree.specs.Plain.Tree.{Text, Attribute, Nonterminal, count}
use Rattle.parse_tree.specs.Plain.Texts.{number}
use Rattle.parse_tree.specs.Plain.WriteTape.{bytes_of_each}
use Rattle.parse_tree.specs.Working.Nodes.{node_bytes, span_bytes, symbol_bytes, leaf_code, leaf_operand}
use Rattle.parse_tree.specs.Working.Encode.{attribute_node, attribute_bytes, alternative_bytes, alternative_node, action_text, sym_bytes, syms_bytes, leaf_node, nonterminal_node}
use Rattle.parse_tree.specs.declared.syntax.Span.{Span}
use Rattle.parse_tree.specs.declared.syntax.Node.{Node}
use Rattle.passes.specs.Grades.{precedence, assoc, without_first}
use Rattle.passes.specs.Levels.{fall_through}
use Rattle.grades.specs.declared.Indices.{Indices}
use Rattle.grades.specs.Annotations.{first_index}
use Rattle.precedence.specs.Write.{is_left_out, kept_one, kept_bytes, alternative_head, fall_bytes, but_two}

-- ---- attributes
pub attribute_long : (wd : ℕ) (ts : List Text) (a : Attribute) → length (attribute_bytes wd ts a) ≡ 2 + 3 * wd
unfolding attribute_bytes attribute_node node_bytes
attribute_long wd ts a = go a.argument
  where
    go : (o : Option (Text × Text)) → length (node_bytes wd (elim o [
      | none ↦ Node.Attribute (record { id = record { 0 = number ts a.id }; kind = 0; key = record { 0 = 0 }; value = record { 0 = 0 } })
      | some kv ↦ Node.Attribute (record { id = record { 0 = number ts a.id }; kind = 1; key = record { 0 = number ts kv.0 }; value = record { 0 = number ts kv.1 } })
    ])) ≡ 2 + 3 * wd
    go none = simp (length-append, length-le) (omega arith)
    go (some kv) = simp (length-append, length-le) (omega arith)

-- one attribute's bytes, and the rest's
each-picked : (f : Attribute → List ℕ) (b : Bool) (a : Attribute) (rest : List Attribute) → pick b [] (f a) ++ bytes_of_each f rest ≡ bytes_of_each f (pick b [] (a ∷ []) ++ rest)
unfolding pick bytes_of_each
each-picked f true a rest = refl
each-picked f false a rest = refl

-- theorem: of attributes that lie in work those bytes are put that all but those of the indices have
pub kept-means : (wd : ℕ) (ts : List Text) (w : List ℕ) (xs : List Attribute) (at e k : ℕ) (f : Indices) → Lies w at (bytes_of_each (attribute_bytes wd ts) xs) e
    → kept_bytes wd w at (length xs) k f ≡ bytes_of_each (attribute_bytes wd ts) (but_two k f xs)
unfolding kept_bytes kept_one but_two bytes_of_each
kept-means wd ts w [] at e k f l = refl
kept-means wd ts w (a ∷ xs) at e k f l =
    let s = lies_split w at e (attribute_bytes wd ts a) (bytes_of_each (attribute_bytes wd ts) xs) l in
    let z : at + length (attribute_bytes wd ts a) ≡ at + (2 + 3 * wd) = ap (λ (n : ℕ). at + n) (attribute_long wd ts a) in
    let one : part at (at + (2 + 3 * wd)) w ≡ attribute_bytes wd ts a = lies_part w at (at + (2 + 3 * wd)) (attribute_bytes wd ts a) (lies_to z s.0) in
    let more = kept-means wd ts w xs (at + (2 + 3 * wd)) e (k + 1) f (lies_from z s.1) in
    rw (one, more) (each-picked (attribute_bytes wd ts) (is_left_out f k) a (but_two (k + 1) f xs))

-- ---- the first of an id
-- an index behind k
abbrev from : ℕ → Maybe ℕ → Maybe ℕ
from k o = option_map (λ i. k + i) o

from_next : (k : ℕ) (o : Maybe ℕ) → from k (option_map suc o) ≡ from (k + 1) o
from_next k None = refl
from_next k (Some i) = ap Some (omega arith)

from_none : (o : Maybe ℕ) → o ≡ from 0 o
from_none None = refl
from_none (Some i) = ap Some (omega arith)

-- an index that is not k: one that is past, or one that is to come
IsPast : ℕ → Maybe ℕ → Type 0
IsPast k o = option_eq eqb o (Some k) ≡ false

abbrev Below : ℕ → Maybe ℕ → Type 0
Below k None = Unit {0}
Below k (Some i) = i < k

past_below : (k : ℕ) (o : Maybe ℕ) → Below k o → IsPast k o
unfolding IsPast
past_below k None h = refl
past_below k (Some i) h = ne_eqb i k (λ z. omega arith)

past_later : (k : ℕ) (o : Maybe ℕ) → IsPast k (from (k + 1) o)
unfolding IsPast
past_later k None = refl
past_later k (Some i) = ne_eqb (k + 1 + i) k (λ z. omega arith)

below_more : (k : ℕ) (o : Maybe ℕ) → Below k o → Below (k + 1) o
below_more k None h = tt
below_more k (Some i) h = omega arith

at_here : (k : ℕ) → option_eq eqb (from k (Some 0)) (Some k) ≡ true
at_here k = eq-eqb (k + 0) k (omega arith)

below_here : (k : ℕ) → Below (k + 1) (from k (Some 0))
below_here k = omega arith

abbrev both : Maybe ℕ → Maybe ℕ → Indices
both i j = record { precedence = i; assoc = j }

module _ (k : ℕ) (i j : Maybe ℕ) (a : Attribute) (xs : List Attribute) where
  but_first : option_eq eqb i (Some k) ≡ true → but_two k (both i j) (a ∷ xs) ≡ but_two (k + 1) (both i j) xs
  unfolding but_two pick is_left_out
  but_first z = rw z refl

  but_second : IsPast k i → option_eq eqb j (Some k) ≡ true → but_two k (both i j) (a ∷ xs) ≡ but_two (k + 1) (both i j) xs
  unfolding but_two pick is_left_out IsPast
  but_second y z = rw (y, z) refl

  but_none : IsPast k i → IsPast k j → but_two k (both i j) (a ∷ xs) ≡ a ∷ but_two (k + 1) (both i j) xs
  unfolding but_two pick is_left_out IsPast
  but_none y z = rw (y, z) refl

-- indices that were there before
but_past : (xs : List Attribute) (k : ℕ) (i j : Maybe ℕ) → Below k i → Below k j → but_two k (both i j) xs ≡ xs
unfolding but_two
but_past [] k i j h l = refl
but_past (a ∷ xs) k i j h l = but_none k i j a xs (past_below k i h) (past_below k j l) ∙ ap (λ (r : List Attribute). a ∷ r) (but_past xs (k + 1) i j (below_more k i h) (below_more k j l))

first_here : (id : Text) (a : Attribute) (xs : List Attribute) → same_as id a.id ≡ true → first_index id (a ∷ xs) ≡ Some 0
unfolding first_index
first_here id a xs z = cc

first_later : (id : Text) (a : Attribute) (xs : List Attribute) → same_as id a.id ≡ false → first_index id (a ∷ xs) ≡ option_map suc (first_index id xs)
unfolding first_index
first_later id a xs z = cc

-- where it stands behind k attributes
here_from : (k : ℕ) (id : Text) (a : Attribute) (xs : List Attribute) → same_as id a.id ≡ true → from k (first_index id (a ∷ xs)) ≡ from k (Some 0)
here_from k id a xs z = ap (from k) (first_here id a xs z)

later_from : (k : ℕ) (id : Text) (a : Attribute) (xs : List Attribute) → same_as id a.id ≡ false → from k (first_index id (a ∷ xs)) ≡ from (k + 1) (first_index id xs)
later_from k id a xs z = ap (from k) (first_later id a xs z) ∙ from_next k (first_index id xs)

-- one of the two is past
past_first : (id : Text) (xs : List Attribute) (k : ℕ) (i : Maybe ℕ) → Below k i → but_two k (both i (from k (first_index id xs))) xs ≡ without_first id xs
unfolding but_two
past_first id [] k i h = refl
past_first id (a ∷ xs) k i h = go (same_as id a.id) (past_first id xs (k + 1) i (below_more k i h)) refl
  where
    go : (b : Bool) → but_two (k + 1) (both i (from (k + 1) (first_index id xs))) xs ≡ without_first id xs → same_as id a.id ≡ b
        → but_two k (both i (from k (first_index id (a ∷ xs)))) (a ∷ xs) ≡ cond b xs (a ∷ without_first id xs)
    go true more z =
        let f = here_from k id a xs z in
        rw f (but_second k i (from k (Some 0)) a xs (past_below k i h) (at_here k) ∙ but_past xs (k + 1) i (from k (Some 0)) (below_more k i h) (below_here k))
    go false more z =
        let f = later_from k id a xs z in
        rw f (but_none k i (from (k + 1) (first_index id xs)) a xs (past_below k i h) (past_later k (first_index id xs)) ∙ ap (λ (r : List Attribute). a ∷ r) more)

past_second : (id : Text) (xs : List Attribute) (k : ℕ) (j : Maybe ℕ) → Below k j → but_two k (both (from k (first_index id xs)) j) xs ≡ without_first id xs
unfolding but_two
past_second id [] k j h = refl
past_second id (a ∷ xs) k j h = go (same_as id a.id) (past_second id xs (k + 1) j (below_more k j h)) refl
  where
    go : (b : Bool) → but_two (k + 1) (both (from (k + 1) (first_index id xs)) j) xs ≡ without_first id xs → same_as id a.id ≡ b
        → but_two k (both (from k (first_index id (a ∷ xs))) j) (a ∷ xs) ≡ cond b xs (a ∷ without_first id xs)
    go true more z =
        let f = here_from k id a xs z in
        rw f (but_first k (from k (Some 0)) j a xs (at_here k) ∙ but_past xs (k + 1) (from k (Some 0)) j (below_here k) (below_more k j h))
    go false more z =
        let f = later_from k id a xs z in
        rw f (but_none k (from (k + 1) (first_index id xs)) j a xs (past_later k (first_index id xs)) (past_below k j h) ∙ ap (λ (r : List Attribute). a ∷ r) more)

module _ (P A : Text) (apart : P ≡ A → ⊥) where
  both_first : (xs : List Attribute) (k : ℕ) → but_two k (both (from k (first_index P xs)) (from k (first_index A xs))) xs ≡ without_first A (without_first P xs)
  unfolding but_two
  both_first [] k = refl
  both_first (a ∷ xs) k = go (same_as P a.id) (same_as A a.id) (both_first xs (k + 1)) refl refl
    where
      go : (b c : Bool) → but_two (k + 1) (both (from (k + 1) (first_index P xs)) (from (k + 1) (first_index A xs))) xs ≡ without_first A (without_first P xs) → same_as P a.id ≡ b → same_as A a.id ≡ c
          → but_two k (both (from k (first_index P (a ∷ xs))) (from k (first_index A (a ∷ xs)))) (a ∷ xs) ≡ without_first A (cond b xs (a ∷ without_first P xs))
      go true true more y z = absurd (apart (same_as-eq P a.id y ∙ sym (same_as-eq A a.id z)))
      go true false more y z =
          let f = here_from k P a xs y in
          let g = later_from k A a xs z in
          rw (f, g) (but_first k (from k (Some 0)) (from (k + 1) (first_index A xs)) a xs (at_here k) ∙ past_first A xs (k + 1) (from k (Some 0)) (below_here k))
      go false true more y z =
          let f = later_from k P a xs y in
          let g = here_from k A a xs z in
          rw (f, g) (but_second k (from (k + 1) (first_index P xs)) (from k (Some 0)) a xs (past_later k (first_index P xs)) (at_here k)
          ∙ past_second P xs (k + 1) (from k (Some 0)) (below_here k)
          ∙ ap (λ (c : Bool). cond c (without_first P xs) (a ∷ without_first A (without_first P xs))) (sym z))
      go false false more y z =
          let f = later_from k P a xs y in
          let g = later_from k A a xs z in
          rw (f, g) (but_none k (from (k + 1) (first_index P xs)) (from (k + 1) (first_index A xs)) a xs (past_later k (first_index P xs)) (past_later k (first_index A xs))
          ∙ ap (λ (r : List Attribute). a ∷ r) more
          ∙ ap (λ (c : Bool). cond c (without_first P xs) (a ∷ without_first A (without_first P xs))) (sym z))

-- theorem: without the first `precedence` and the first `assoc`
pub annotations_gone : (xs : List Attribute) → but_two 0 (both (first_index precedence xs) (first_index assoc xs)) xs ≡ without_first assoc (without_first precedence xs)
annotations_gone xs =
    ap (λ (f : Indices). but_two 0 f xs)
    (ap (λ (i : Maybe ℕ). both i (first_index assoc xs)) (from_none (first_index precedence xs)) ∙ ap (λ (j : Maybe ℕ). both (from 0 (first_index precedence xs)) j) (from_none (first_index assoc xs)))
    ∙ both_first precedence assoc (λ z. absurd (omega (arith, ap (length {A = ℕ}) z))) xs 0

-- ---- the fall-through
pub span_long : (s : Span) → length (span_bytes s) ≡ 8
unfolding span_bytes
span_long s = simp (length-append, length-le) (omega arith)

-- the span behind a command's code, as a number's bytes
pub span_there : (w : List ℕ) (p e c : ℕ) (s : Span) (rest : List ℕ) → Bytes w → Lies w p (c ∷ (span_bytes s ++ rest)) e → le 8 (le_at 8 w (p + 1)) ≡ span_bytes s
span_there w p e c s rest b l =
    let f = lies_first w p c (span_bytes s ++ rest) e l in
    let n = span_long s in
    let z : p + 1 + length (span_bytes s) ≡ p + 1 + 8 = omega arith in
    let t = lies_split w (p + 1) e (span_bytes s) rest f.2 in
    let h = lies_inside w (p + 1) (p + 1 + length (span_bytes s)) (span_bytes s) (omega arith) t.0 in
    sym (lies_part w (p + 1) (p + 1 + 8) (le 8 (le_at 8 w (p + 1))) (lies_le 8 w (p + 1) b (omega arith))) ∙ lies_part w (p + 1) (p + 1 + 8) (span_bytes s) (lies_to z t.0)

-- theorem: what is put is the fall-through of the nonterminal at p
pub fall_means : (wd : ℕ) (ts : List Text) (w : List ℕ) (d : Nonterminal) (p e : ℕ) (n : Text) → Bytes w → Lies w p (node_bytes wd (nonterminal_node ts d)) e
    → fall_bytes wd (le_at 8 w (p + 1)) (number ts n) ≡ bytes_of_each (alternative_bytes wd ts) (fall_through d.span (some n))
unfolding nonterminal_node node_bytes fall_bytes alternative_head bytes_of_each alternative_bytes alternative_node action_text sym_bytes syms_bytes symbol_bytes leaf_node leaf_code leaf_operand count
fall_means wd ts w d p e n b l =
    let z = span_there w p e 16 d.span _ b l in
    let H : List ℕ = 18 ∷ (span_bytes d.span ++ (0 ∷ 0 ∷ 0 ∷ (le wd 0 ++ le 2 1))) in
    let S : List ℕ = 36 ∷ (span_bytes d.span ++ le wd (number ts n)) in
    rw z (ap (λ (r : List ℕ). H ++ r) (sym (append-nil S)) ∙ sym (append-nil (H ++ (S ++ []))))
