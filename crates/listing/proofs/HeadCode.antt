-- The ways out of put_flags, put_line, put_word and put_head. Assumes nothing.
use mathlib.Core.Path.{◌≡◌, ap, ◌∙◌}
use mathlib.Core.List.{List, [], ◌∷◌, ◌++◌}
use Prim.Native.Nat.{ℕ, ◌+◌}
use native.Mathlib.Omega.{arith}
use borrow.Author.Rules.{rules}
use borrow.Author.Tests.{ne_eqb}
use lib.ListN.{get_or}
use Rattle.octets.specs.Working.Choice.{pick}
use Rattle.octets.specs.Plain.Numbers.{le_at}
use Rattle.parse_tree.specs.Plain.Tree.{Text}
use Rattle.parse_tree.specs.Working.Nodes.{span_in, nonterminal_here}
use Rattle.parse_tree.specs.declared.syntax.NonterminalData.{NonterminalData}
use Rattle.texts.specs.declared.Map.{Map}
use Rattle.texts.specs.Table.{texts}
use Rattle.passes.specs.Levels.{number_digits}
use Rattle.display.specs.Follow.{word_at}
use Rattle.precedence.specs.Write.{Puts}
use Rattle.settling.specs.Print.{Printable}
use Rattle.settling.proofs.PutLaws.{then, puts_as}
use Rattle.settling.proofs.PrintLaws.{printable_next}
use Rattle.listing.specs.Tree.{flags_line, line_text, head_text}
use Rattle.listing.specs.Walk.{PutsHead}

-- ---- put_flags: t is what stands for the flags
module _ (f : ℕ) (t : Text) where
  pub flags_none : f ≡ 0 → t ≡ (10 ∷ []) → t ≡ flags_line f
  unfolding flags_line pick
  flags_none e p = rw e p

  pub flags_inline : f ≡ 1 → t ≡ (32 ∷ 105 ∷ 110 ∷ 108 ∷ 105 ∷ 110 ∷ 101 ∷ 10 ∷ []) → t ≡ flags_line f
  unfolding flags_line pick
  flags_inline e p = rw e p

  pub flags_public : f ≡ 2 → t ≡ (32 ∷ 112 ∷ 117 ∷ 98 ∷ 10 ∷ []) → t ≡ flags_line f
  unfolding flags_line pick
  flags_public e p = rw e p

  pub flags_both : (f ≡ 0 → ⊥) → (f ≡ 1 → ⊥) → (f ≡ 2 → ⊥) → t ≡ (32 ∷ 112 ∷ 117 ∷ 98 ∷ 32 ∷ 105 ∷ 110 ∷ 108 ∷ 105 ∷ 110 ∷ 101 ∷ 10 ∷ []) → t ≡ flags_line f
  unfolding flags_line pick
  flags_both a b c p = rw (ne_eqb f 0 a, ne_eqb f 1 b, ne_eqb f 2 c) p

pub ruleset flagging = (rules, flags_none, flags_inline, flags_public, flags_both)

-- ---- put_line
pub line_put : (w w1 w2 w3 : List ℕ) (from end f lim to x y a b r : ℕ) → x ≡ from → y ≡ end → Puts w lim to (32 ∷ number_digits x) a w1 → Puts w1 lim a (45 ∷ number_digits y) b w2 → Puts w2 lim b (flags_line f) r w3
    → Puts w lim to (line_text from end f) r w3
unfolding line_text
line_put w w1 w2 w3 from end f lim to x y a b r i j p q u = rw (← i, ← j) (then p (then q u))

pub ruleset lining = (rules, line_put)

-- ---- put_word, put_head
pub head_put : (s w : List ℕ) (m : Map) (wd at lim to q r : ℕ) (d : NonterminalData) (w1 w2 : List ℕ) → d ≡ nonterminal_here wd w at
    → Puts w lim to (word_at wd (texts s w m) w (at + 9)) q w1 → Puts w1 lim q (line_text d.span.0 d.span.1 d.flags) r w2 → Printable s w m wd lim to → PutsHead s w m wd at lim to r w2
unfolding head_text span_in
head_put s w m wd at lim to q r d w1 w2 i u v g =
    let five : at + 1 + 4 ≡ at + 5 = omega arith in
    let z : word_at wd (texts s w m) w (at + 9) ++ line_text d.span.0 d.span.1 d.flags ≡ head_text wd (texts s w m) w at = ap (λ (k : NonterminalData). word_at wd (texts s w m) w (at + 9) ++ line_text k.span.0 k.span.1 k.flags) i
    ∙ ap (λ (k : ℕ). word_at wd (texts s w m) w (at + 9) ++ line_text (le_at 4 w (at + 1)) (le_at 4 w k) (get_or w (at + 9 + wd) 0)) five in
    let e : Puts w lim to (head_text wd (texts s w m) w at) r w2 = puts_as z (then u v) in
    record { puts = e; printable = printable_next s w m wd lim to g (head_text wd (texts s w m) w at) r w2 e }

pub ruleset heading = (rules, head_put)
