-- The ways out of `nonterminal_parts` and `item`. Assumes nothing.
use mathlib.Core.Path.{◌≡◌, refl, sym, ap, ◌∙◌}
use mathlib.Core.Bool.{Bool}
use mathlib.Core.List.{List}
use Prim.Native.Nat.{ℕ, ◌+◌, ◌^◌, ◌<◌}
use native.Mathlib.Omega.{arith}
use lib.ListN.{length}
use mir.Syntax.{w64}
use mir.Val.{Fits}
use borrow.Author.Rules.{rules}
use Rattle.parse_tree.specs.Plain.Tree.{Item}
use Rattle.parse_tree.specs.Working.Places.{items_place, arguments_place}
use Rattle.parse_tree.specs.Plain.Reading.{got, times}
use Rattle.parse_tree.specs.Working.Expect.{expect_item}
use Rattle.parse_tree.specs.Working.Operands.{nonterminal_of, terminal_of}
use Rattle.parse_tree.specs.Working.Decode.{ask, read_argument, read_alternative, read_item, nonterminal_parts}
use Rattle.parse_tree.specs.declared.syntax.NonterminalData.{NonterminalData}
use Rattle.parse_tree.specs.declared.syntax.TerminalData.{TerminalData}
use Rattle.parse_tree.specs.declared.refusal.Refusal.{Refusal}
use Rattle.parse_tree.specs.declared.syntax.Node.{Node}
use Rattle.texts.specs.Atoms.{atoms_of}
use Rattle.validate.specs.Steps.{asked_of, step_of}
use Rattle.validate.specs.Quick.{PassedNonterminal, PassedTerminal, terminal_here}
use Rattle.validate.specs.declared.Atoms.{Atoms}
use Rattle.std.specs.Prelude.{Result, Ok, Err}
use Rattle.validate.proofs.CommandKinds.{never_item}
use Rattle.validate.proofs.CommandMean.{arguments_alike}
use Rattle.validate.proofs.CommandCode.{stands, asked_got, asked_refused, refuses_step, then_is, refuses_then, step_then}
use Rattle.validate.proofs.AlternativesCode.{step-on, step-off}

-- ---- `nonterminal_parts`: r is the step over the arguments
module _ (four : Bool) (s : List ℕ) (w atoms : ℕ) (d : NonterminalData) (at n : ℕ) (r : Result ℕ Refusal) (i : r ≡ step_of (times (ask four w s (atoms_of s atoms) arguments_place 1) n at)) (j : n ≡ d.args) where
  arguments_are : r ≡ step_of (times (read_argument four w s (atoms_of s atoms)) d.args at)
  arguments_are = i ∙ ap (λ (c : ℕ). step_of (times (ask four w s (atoms_of s atoms) arguments_place 1) c at)) j ∙ sym (arguments_alike four w s (atoms_of s atoms) d.args at)

  pub parts_arguments : (z : Refusal) → r ≡ Err z → Err z ≡ step_of (nonterminal_parts four w s (atoms_of s atoms) d at)
  unfolding nonterminal_parts
  parts_arguments z u = step-off (times (read_argument four w s (atoms_of s atoms)) d.args at) _ z (sym u ∙ arguments_are)

  pub parts_alternatives : (e c : ℕ) (y : Result ℕ Refusal) → r ≡ Ok e → y ≡ step_of (times (read_alternative four w s (atoms_of s atoms)) c e) → c ≡ d.alternatives → y ≡ step_of (nonterminal_parts four w s (atoms_of s atoms) d at)
  unfolding nonterminal_parts
  parts_alternatives e c y u o g =
      step-on (times (read_argument four w s (atoms_of s atoms)) d.args at) _ e y (sym u ∙ arguments_are)
      (λ args. o ∙ ap (λ (x : ℕ). step_of (times (read_alternative four w s (atoms_of s atoms)) x e)) g
      ∙ sym (step_then (times (read_alternative four w s (atoms_of s atoms)) d.alternatives e) (λ alts. Item.item (nonterminal_of (atoms_of s atoms) d args alts))))

pub ruleset nonterminal_parts_lem = (rules, parts_arguments, parts_alternatives)

-- ---- `item`: r is what `command` answered
module _ (four : Bool) (s : List ℕ) (w atoms at : ℕ) (r : Result (Node × ℕ) Refusal) (i : r ≡ asked_of (ask four w s (atoms_of s atoms) items_place 1 at)) where
  pub item_refused : (z : Refusal) → r ≡ Err z → Err z ≡ step_of (read_item four w s (atoms_of s atoms) at)
  unfolding read_item step_of
  item_refused z u = refuses_step _ z (refuses_then (ask four w s (atoms_of s atoms) items_place 1 at) _ z (asked_refused (ask four w s (atoms_of s atoms) items_place 1 at) z (sym u ∙ i)))

  module _ (n : Node) (e : ℕ) (u : r ≡ Ok (n, e)) where
    wanted : read_item four w s (atoms_of s atoms) at ≡ expect_item at (nonterminal_parts four w s (atoms_of s atoms)) (λ t d. got (terminal_of (atoms_of s atoms) t) d) n e
    unfolding read_item nonterminal_parts
    wanted = then_is (ask four w s (atoms_of s atoms) items_place 1 at) _ n e (asked_got (ask four w s (atoms_of s atoms) items_place 1 at) n e (sym u ∙ i))

    pub item_other : ((d : NonterminalData) → n ≡ Node.Nonterminal d → ⊥) → ((t : TerminalData) → n ≡ Node.Terminal t → ⊥) → ⊥
    item_other o l = never_item n o l (stands four s w atoms items_place 1 at n e (asked_got (ask four w s (atoms_of s atoms) items_place 1 at) n e (sym u ∙ i))).allowed

    kind : (x : Node) → n ≡ x → read_item four w s (atoms_of s atoms) at ≡ expect_item at (nonterminal_parts four w s (atoms_of s atoms)) (λ t d. got (terminal_of (atoms_of s atoms) t) d) x e
    kind x v = wanted ∙ ap (λ (y : Node). expect_item at (nonterminal_parts four w s (atoms_of s atoms)) (λ t d. got (terminal_of (atoms_of s atoms) t) d) y e) v

    pub item_terminal : (t : TerminalData) → n ≡ Node.Terminal t → Ok e ≡ step_of (read_item four w s (atoms_of s atoms) at)
    unfolding expect_item step_of
    item_terminal t v = sym (ap step_of (kind (Node.Terminal t) v))

    pub item_whole : (d : NonterminalData) (y : Result ℕ Refusal) → n ≡ Node.Nonterminal d → y ≡ step_of (nonterminal_parts four w s (atoms_of s atoms) d e) → y ≡ step_of (read_item four w s (atoms_of s atoms) at)
    unfolding expect_item
    item_whole d y v o = o ∙ sym (ap step_of (kind (Node.Nonterminal d) v))

-- d is what the quick look at a nonterminal found
module _ (s : List ℕ) (m : Atoms) (at : ℕ) (d : NonterminalData) (g : PassedNonterminal s m at d) where
  pub nonterminal_fits : (z : ℕ) → z ≡ 13 + m.width.bytes → length s < 2 ^ 64 → Fits w64 (at + z)
  nonterminal_fits z e l = record { fits = omega (arith, g.room) }

  pub nonterminal_quick : (y : Result ℕ Refusal) → y ≡ step_of (nonterminal_parts m.four m.width.bytes s (atoms_of s m.texts.count) d (at + (13 + m.width.bytes)))
      → y ≡ step_of (read_item m.four m.width.bytes s (atoms_of s m.texts.count) at)
  unfolding asked_of
  nonterminal_quick y p =
      let e : ℕ = at + (13 + m.width.bytes) in
      item_whole m.four s m.width.bytes m.texts.count at (Ok (Node.Nonterminal d, e)) (sym (ap asked_of g.asked)) (Node.Nonterminal d) e refl d y refl p

-- e is the place behind what the look at a terminal found
pub terminal_quick : (s : List ℕ) (m : Atoms) (at e : ℕ) → PassedTerminal s m at e → Ok e ≡ step_of (read_item m.four m.width.bytes s (atoms_of s m.texts.count) at)
unfolding asked_of
terminal_quick s m at e g =
    item_terminal m.four s m.width.bytes m.texts.count at (Ok (Node.Terminal (terminal_here m.width.bytes s at), e))
    (sym (ap asked_of g.asked)) (Node.Terminal (terminal_here m.width.bytes s at)) e refl (terminal_here m.width.bytes s at) refl

pub ruleset item = (rules, item_refused, item_other, item_terminal, item_whole, nonterminal_fits, nonterminal_quick, terminal_quick)
