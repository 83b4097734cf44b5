-- How many items levels give: each has an alternative of its own. Assumes nothing.
use mathlib.Core.Path.{◌≡◌, refl, ap}
use mathlib.Core.Bool.{Bool, true, false, cond}
use mathlib.Core.List.{List, [], ◌∷◌, ◌++◌, map}
use mathlib.Core.Option.{Option, none, some}
use Prim.Native.Nat.{ℕ, suc, ◌+◌, ◌*◌, ◌≤◌}
use native.Mathlib.Omega.{arith}
use lib.ListN.{length, length-append, length-map}
use Rattle.parse_tree.specs.Plain.Tree.{Text, Alternative, Nonterminal, Source, Item, item, conditions}
use Rattle.parse_tree.specs.Plain.Texts.{number}
use Rattle.parse_tree.specs.Plain.WriteTape.{bytes_of_each}
use Rattle.parse_tree.specs.Working.Nodes.{node_bytes, size_of}
use Rattle.parse_tree.specs.Working.Encode.{argument_bytes, attribute_bytes, condition_bytes, syms_bytes, alternative_bytes, item_bytes, nonterminal_node, alternative_node, source_code}
use Rattle.parse_tree.specs.declared.syntax.Span.{Span}
use Rattle.parse_tree.specs.declared.syntax.TerminalData.{TerminalData}
use Rattle.parse_tree.specs.declared.syntax.Node.{Node}
use Rattle.parse_tree.proofs.SizeLaws.{nonterminal_size, terminal_size, alternative_size}
use Rattle.passes.specs.Outcome.{Tree}
use Rattle.passes.specs.Grades.{Graded, graded, annotated}
use Rattle.laws.proofs.LevelsMany.{graded-length, levels-few}
use Rattle.passes.specs.Levels.{levels_of, level_name, groups_of, substituted, with_fall_through, level_items, levelled}

-- ---- at most as many levels as alternatives
groups_length : (E : Text) (gs : List Graded) (lower : Option Text) (vs : List ℕ) → length (groups_of E gs lower vs) ≡ length vs
unfolding groups_of
groups_length E gs lower [] = refl
groups_length E gs lower (v ∷ vs) = ap suc (groups_length E gs (some (level_name E v vs)) vs)

items_few : (d : Nonterminal) → length (level_items d) ≤ length d.alternatives
unfolding level_items
items_few d =
    let xs = groups_of d.name (graded d) none (levels_of (graded d)) in
    omega (
      arith,
      length-map (map (substituted d.name) xs) (with_fall_through d),
      length-map xs (substituted d.name),
      groups_length d.name (graded d) none (levels_of (graded d)),
      levels-few (graded d),
      graded-length d,
    )

-- ---- an alternative has 16 bytes or more, an item 11
module _ (w : ℕ) (ts : List Text) (wide : 2 ≤ w) where
  alternative_long : (a : Alternative) → 16 ≤ length (alternative_bytes w ts a)
  unfolding alternative_bytes alternative_node size_of
  alternative_long a =
      let n = alternative_node ts a in
      let z : 14 + w ≡ length (node_bytes w n) = alternative_size w n _ refl in
      omega (arith, wide, length-append (node_bytes w n) (bytes_of_each (attribute_bytes w ts) a.attributes ++ (bytes_of_each (condition_bytes w ts) (conditions a.condition) ++ syms_bytes w ts a.symbols)))

  all_long : (cs : List Alternative) → 16 * length cs ≤ length (bytes_of_each (alternative_bytes w ts) cs)
  unfolding bytes_of_each
  all_long [] = omega arith
  all_long (c ∷ cs) = omega (arith, alternative_long c, all_long cs, length-append (alternative_bytes w ts c) (bytes_of_each (alternative_bytes w ts) cs))

  nonterminal_long : (d : Nonterminal) → 16 * length d.alternatives + 15 ≤ length (item_bytes w ts (item d))
  unfolding item_bytes nonterminal_node size_of
  nonterminal_long d =
      let n = nonterminal_node ts d in
      let as' = bytes_of_each (argument_bytes w ts) d.args in
      let cs = bytes_of_each (alternative_bytes w ts) d.alternatives in
      let z : 13 + w ≡ length (node_bytes w n) = nonterminal_size w n _ refl in
      omega (arith, wide, all_long d.alternatives, length-append (node_bytes w n) (as' ++ cs), length-append as' cs)

  terminal_long : (s : Span) (o : Source) (x : Text) → 11 ≤ length (item_bytes w ts (Item.terminal s o x))
  unfolding item_bytes size_of
  terminal_long s o x =
      let d : TerminalData = record { span = s; name = record { 0 = number ts x }; source = source_code o } in
      let z : 9 + w ≡ length (node_bytes w (Node.Terminal (record { span = s; name = record { 0 = number ts x }; source = source_code o }))) = terminal_size w (Node.Terminal d) d refl in
      omega (arith, wide)

  few : (R : Tree) → 11 * length (levelled R) ≤ length (bytes_of_each (item_bytes w ts) R)
  unfolding levelled bytes_of_each
  few [] = omega arith
  few (item d ∷ rest) =
      omega (arith, go (annotated d), few rest, nonterminal_long d, length-append (cond (annotated d) (level_items d) (item d ∷ [])) (levelled rest), length-append (item_bytes w ts (item d)) (bytes_of_each (item_bytes w ts) rest))
    where
      go : (b : Bool) → length (cond b (level_items d) (item d ∷ [])) ≤ suc (length d.alternatives)
      go true = omega (arith, items_few d)
      go false = omega arith
  few (Item.terminal s o x ∷ rest) = omega (arith, terminal_long s o x, few rest, length-append (item_bytes w ts (Item.terminal s o x)) (bytes_of_each (item_bytes w ts) rest))

-- theorem: so they are few for the bytes of the items that they come from
pub levelled-few : (w : ℕ) (ts : List Text) (R : Tree) → 2 ≤ w → 11 * length (levelled R) ≤ length (bytes_of_each (item_bytes w ts) R)
levelled-few w ts R h = few w ts h R
