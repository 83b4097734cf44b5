-- The ways out of the function that tells one macro in the cell of its name. Assumes nothing.
use mathlib.Core.Path.{◌≡◌, refl, sym, ap, ◌∙◌, subst}
use mathlib.Core.List.{List}
use Prim.Native.Nat.{ℕ, ◌+◌, ◌*◌, ◌≤◌, ◌<◌}
use native.Mathlib.Omega.{arith}
use borrow.Author.Rules.{rules}
use borrow.Author.Tests.{eq-eqb, ne_eqb}
use lib.ListN.{length, get_or}
use Rattle.octets.specs.Working.Choice.{pick}
use Rattle.octets.specs.Plain.Numbers.{le_at, le}
use Rattle.octets.specs.Working.Stores.{store}
use Rattle.parse_tree.specs.Working.Nodes.{nonterminal_here}
use Rattle.parse_tree.specs.declared.syntax.NonterminalData.{NonterminalData}
use Rattle.texts.specs.declared.Map.{Map}
use Rattle.resolve.specs.declared.Grammar.{Grammar}
use Rattle.resolve.specs.Items.{item_place_in}
use Rattle.rounds.specs.Define.{HeadAt, Headable, told_at, defined_at}

-- ---- define_macro: d is the command
module _ (w : List ℕ) (m : Map) (wd p i : ℕ) (d : NonterminalData) (z : d ≡ nonterminal_here wd w p) where
  pub told_room : HeadAt w m wd p i → (k : ℕ) → k ≡ d.name.0 → m.base + 24 * k + 24 ≤ length w
  told_room h k e = rw (e, z) h.name

  pub told_plain : d.args ≡ 0 → w ≡ told_at m wd w p i
  unfolding told_at pick
  told_plain a = rw (eq-eqb (get_or w (p + 10 + wd) 0) 0 (rw z at a)) refl

  pub told_macro : (d.args ≡ 0 → ⊥) → (k : ℕ) → k ≡ d.name.0 → (c : ℕ) → c ≡ i + 1 → (w' : List ℕ) → w' ≡ store w (m.base + 24 * k + 20) (le 4 c) → w' ≡ told_at m wd w p i
  unfolding told_at pick
  told_macro a k e c f w' o =
      let y : k ≡ le_at wd w (p + 9) = e ∙ ap (λ (q : NonterminalData). q.name.0) z in
      rw (ne_eqb (get_or w (p + 10 + wd) 0) 0 (rw z at a)) (o ∙ ap (λ (n : ℕ). store w (m.base + 24 * k + 20) (le 4 n)) f ∙ ap (λ (n : ℕ). store w (m.base + 24 * n + 20) (le 4 (i + 1))) y)

pub ruleset telling = (rules, told_room, told_plain, told_macro)

-- ---- define_item
module _ (w : List ℕ) (m : Map) (t : Grammar) (i p : ℕ) (e : p ≡ item_place_in t w i) where
  pub head_inside : Headable w m t i → p < length w
  head_inside h = omega (arith, h.inside)

  pub head_at_lem : Headable w m t i → get_or w p 0 ≡ 16 → HeadAt w m t.width.bytes p i
  head_at_lem h c = subst (λ (q : ℕ). HeadAt w m t.width.bytes q i) (sym e) (h.head (ap (λ (q : ℕ). get_or w q 0) (sym e) ∙ c))

  pub head_told : get_or w p 0 ≡ 16 → (w' : List ℕ) → w' ≡ told_at m t.width.bytes w p i → w' ≡ defined_at m t.width.bytes w (item_place_in t w i) i
  unfolding defined_at pick
  head_told c w' o = rw (← e, eq-eqb (get_or w p 0) 16 c) o

  pub head_other : (get_or w p 0 ≡ 16 → ⊥) → w ≡ defined_at m t.width.bytes w (item_place_in t w i) i
  unfolding defined_at pick
  head_other n = rw (← e, ne_eqb (get_or w p 0) 16 n) refl

pub ruleset heading = (rules, head_inside, head_at_lem, head_told, head_other)
