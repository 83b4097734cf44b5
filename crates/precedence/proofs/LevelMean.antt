-- What is put of a level, on trees: the head of the nonterminal with another name and other alternatives. Assumes nothing.
use mathlib.Core.Path.{◌≡◌, sym, ap, ◌∙◌}
use mathlib.Core.Bool.{Bool}
use mathlib.Core.List.{List, [], ◌∷◌, ◌++◌, append_assoc}
use Prim.Native.Nat.{ℕ, ◌+◌}
use native.Mathlib.Omega.{arith}
use lib.ListN.{length}
use Rattle.octets.specs.Plain.Numbers.{le}
use Rattle.octets.specs.Plain.Runs.{part}
use Rattle.octets.proofs.LiesLaws.{lies_split, lies_from, lies_to, lies_part}
use Rattle.octets.proofs.NumbersLaws.{length-le}
use Rattle.parse_tree.specs.Plain.Tree.{Text, Alternative, Nonterminal}
use Rattle.parse_tree.specs.Plain.Texts.{number}
use Rattle.parse_tree.specs.Plain.WriteTape.{bytes_of_each, bit}
use Rattle.parse_tree.specs.Working.Nodes.{node_bytes, span_bytes}
use Rattle.parse_tree.specs.Working.Encode.{nonterminal_node, argument_bytes}
use Rattle.passes.specs.Outcome.{with_alternatives, with_name}
use Rattle.resolve.proofs.GrammarLaws.{Headed}
use Rattle.grades.specs.Annotations.{first_alternative}
use Rattle.grades.proofs.AlternativesMean.{first_means}
use Rattle.precedence.specs.Level.{named_out, nonterminal_out}
use Rattle.precedence.proofs.WriteMean.{span_long}

five_parts : (X N F M A : List ℕ) → (X ++ (N ++ F)) ++ (M ++ A) ≡ (X ++ (N ++ (F ++ M))) ++ A
five_parts X N F M A =
    append_assoc X (N ++ F) (M ++ A) ∙ ap (λ (r : List ℕ). X ++ r) (append_assoc N F (M ++ A) ∙ ap (λ (r : List ℕ). N ++ r) (sym (append_assoc F M A)) ∙ sym (append_assoc N (F ++ M) A))
    ∙ sym (append_assoc X (N ++ (F ++ M)) A)

module _ (four : Bool) (wd : ℕ) (ts : List Text) (w : List ℕ) (p e : ℕ) (d : Nonterminal) (h : Headed w wd ts p d e) where
  abbrev Front : List ℕ
  Front = 16 ∷ span_bytes d.span

  abbrev Flags : List ℕ
  Flags = (bit d.inline + (bit d.public + bit d.public)) ∷ length d.args ∷ []

  abbrev Args : List ℕ
  Args = bytes_of_each (argument_bytes wd ts) d.args

  front_parts : (part p (p + 9) w ≡ Front) × (part (p + 9 + wd) (p + 11 + wd) w ≡ Flags)
  unfolding node_bytes nonterminal_node
  front_parts =
      let N = le wd (number ts d.name) in
      let M = le 2 (length d.alternatives) in
      let n = length-le wd (number ts d.name) in
      let m = span_long d.span in
      let a = lies_split w p _ (Front ++ (N ++ (Flags ++ M))) Args h.front in
      let b = lies_split w p _ Front (N ++ (Flags ++ M)) a.0 in
      let x : p + length Front ≡ p + 9 = omega arith in
      let c = lies_split w (p + 9) _ N (Flags ++ M) (lies_from x b.1) in
      let y : p + 9 + length N ≡ p + 9 + wd = omega arith in
      let f = lies_split w (p + 9 + wd) _ Flags M (lies_from y c.1) in
      let z : p + 9 + wd + length Flags ≡ p + 11 + wd = omega arith in
      (lies_part w p (p + 9) Front (lies_to x b.0), lies_part w (p + 9 + wd) (p + 11 + wd) Flags (lies_to z f.0))

  arguments_part : part (p + 13 + wd) (first_alternative wd w p) w ≡ Args
  arguments_part =
      let x = first_means four wd ts w p e d h in
      rw x (lies_part w (p + 13 + wd) (p + 13 + wd + length Args) Args h.arguments)

  -- theorem: what is put is the command of that nonterminal with another name and other alternatives, and its arguments
  pub head_means : (n : Text) (as' : List Alternative) → nonterminal_out wd w p (number ts n) (length as') ≡ node_bytes wd (nonterminal_node ts (with_name (with_alternatives d as') n)) ++ Args
  unfolding nonterminal_out named_out node_bytes nonterminal_node
  head_means n as' =
      let x = front_parts.0 in
      let y = front_parts.1 in
      let z = arguments_part in
      rw (x, y, z) (five_parts Front (le wd (number ts n)) Flags (le 2 (length as')) Args)
