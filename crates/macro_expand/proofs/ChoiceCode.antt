-- Laws of `expand_repeat_symbol`: the operator says which item is appended. Assumes nothing.
use mathlib.Core.Path.{◌≡◌, refl, sym, ap, ◌∙◌, subst}
use mathlib.Core.List.{List}
use Prim.Native.Nat.{ℕ, ◌+◌, ◌<◌}
use native.Mathlib.Omega.{arith}
use borrow.Author.Rules.{rules}
use borrow.Author.Tests.{ne_eqb}
use lib.ListN.{length, get_or}
use Rattle.octets.specs.Working.Choice.{pick}
use Rattle.parse_tree.specs.Plain.Tree.{Op, star, plus, question, repeat, around, item}
use Rattle.parse_tree.specs.Plain.WriteTape.{op_code}
use Rattle.parse_tree.specs.Plain.Display.{print}
use Rattle.parse_tree.specs.Working.Operands.{op_from}
use Rattle.passes.specs.Macros.{expand_repeat_symbol}
use Rattle.replacing.specs.Trees.{renamed}
use Rattle.expander.specs.declared.Ground.{Ground}
use Rattle.appending.specs.declared.Appended.{Appended}
use Rattle.appending.specs.Pieces.{item_piece, Appends}
use Rattle.macro_expand.specs.Expand.{SomePopped, IsRepeat, ExpandsRepeat}
use Rattle.macro_expand.specs.Repeat.{ExpandsAs}
use Rattle.macro_expand.proofs.PoppedLaws.{popped_room}
use Rattle.macro_expand.proofs.RepeatTrees.{repeat_code}

-- ---- the operator of a code
op_star : (c : ℕ) → c ≡ 0 → star ≡ op_from c
unfolding op_from pick
op_star c z = cc z

op_plus : plus ≡ op_from 1
unfolding op_from pick
op_plus = refl

op_question : (c : ℕ) → (c ≡ 0 → ⊥) → (c ≡ 1 → ⊥) → question ≡ op_from c
unfolding op_from pick
op_question c y z = cc (ne_eqb c 0 y, ne_eqb c 1 z)

op_back : (o : Op) → op_from (op_code o) ≡ o
unfolding op_from pick
op_back star = refl
op_back plus = refl
op_back question = refl

pub choice_inside : (s w : List ℕ) (g : Ground) (n lim q : ℕ) (v : Appended) → SomePopped IsRepeat s w g n lim q v → g.from + q + 9 < length w
choice_inside s w g n lim q v K = omega (arith, popped_room s w g n lim K.places K.four K.left q K.end K.symbol v K.popped, K.popped.going.behind)

-- ---- expand_as
module _ (s w : List ℕ) (g : Ground) (n lim q : ℕ) (v r : Appended) (w' : List ℕ) (c : ℕ) where
  pub as_star : c ≡ 0 → ExpandsAs s w g n lim q v star r w' → ExpandsAs s w g n lim q v (op_from c) r w'
  as_star z a = subst (λ (o : Op). ExpandsAs s w g n lim q v o r w') (op_star c z) a

  pub as_plus : c ≡ 1 → ExpandsAs s w g n lim q v plus r w' → ExpandsAs s w g n lim q v (op_from c) r w'
  as_plus z a = subst (λ (o : Op). ExpandsAs s w g n lim q v o r w') (op_plus ∙ ap op_from (sym z)) a

  pub as_question : (c ≡ 0 → ⊥) → (c ≡ 1 → ⊥) → ExpandsAs s w g n lim q v question r w' → ExpandsAs s w g n lim q v (op_from c) r w'
  as_question y z a = subst (λ (o : Op). ExpandsAs s w g n lim q v o r w') (op_question c y z) a

pub ruleset choosing_as = (rules, as_star, as_plus, as_question)

-- ---- expand_repeat_symbol
module _ (s w : List ℕ) (g : Ground) (n lim q : ℕ) (v r : Appended) (w' : List ℕ) (c : ℕ) where
  pub choice_done : ExpandsAs s w g n lim q v (op_from c) r w' → c ≡ get_or w (g.from + q + 9) 0 → ExpandsRepeat s w g n lim q v r w'
  unfolding ExpandsAs ExpandsRepeat
  choice_done a d ps four left e sp o x R =
      let z = ap op_from (d ∙ repeat_code s w g n lim ps four left q e sp o x v R) ∙ op_back o in
      subst (λ (u : Op). Appends s g n lim ps w v (item_piece g.width.bytes (item (expand_repeat_symbol sp (print (around sp (repeat o) x)) u (renamed x)))) r w') z (a ps four left e sp o x R)

pub ruleset choosing = (rules, choice_inside, choice_done)
