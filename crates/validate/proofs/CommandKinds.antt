-- Where `let .. else` or a match finds another kind of command than the one wanted, the table of places refused it before. Assumes nothing.
use mathlib.Core.Path.{◌≡◌, refl}
use mathlib.Core.Bool.{true, false≢true}
use mathlib.Core.List.{[], ◌∷◌}
use Prim.Native.Nat.{ℕ}
use denote.Enum.Declared.{tag_of}
use types.Run.{OneOf, miss}
use Rattle.parse_tree.specs.contracts.syntax.Node.{the_type}
use Rattle.parse_tree.specs.Plain.Reading.{Reading, refused}
use Rattle.parse_tree.specs.Working.Expect.{expect_item}
use Rattle.parse_tree.specs.Working.Places.{class_of, allowed_at, table, items_place, alternatives_place, symbols_place}
use Rattle.parse_tree.specs.declared.syntax.NonterminalData.{NonterminalData}
use Rattle.parse_tree.specs.declared.syntax.TerminalData.{TerminalData}
use Rattle.parse_tree.specs.declared.syntax.Node.{Node}

pub no_symbol : (n : Node) → OneOf (0 ∷ 1 ∷ 2 ∷ 3 ∷ 4 ∷ 5 ∷ 6 ∷ []) (tag_of the_type n) → allowed_at symbols_place (class_of n) ≡ true → ⊥
unfolding class_of allowed_at table
no_symbol (Node.Text k) h p = false≢true p
no_symbol (Node.Nonterminal d) h p = false≢true p
no_symbol (Node.Terminal t) h p = false≢true p
no_symbol (Node.Argument a) h p = false≢true p
no_symbol (Node.Alternative a) h p = false≢true p
no_symbol (Node.Attribute a) h p = false≢true p
no_symbol (Node.Condition c) h p = false≢true p
no_symbol (Node.Symbol s k) h p = miss (0 ∷ 1 ∷ 2 ∷ 3 ∷ 4 ∷ 5 ∷ 6 ∷ []) 7 tt h

pub no_alternative : (n : Node) → OneOf (0 ∷ 1 ∷ 2 ∷ 3 ∷ 5 ∷ 6 ∷ 7 ∷ []) (tag_of the_type n) → allowed_at alternatives_place (class_of n) ≡ true → ⊥
unfolding class_of allowed_at table
no_alternative (Node.Text k) h p = false≢true p
no_alternative (Node.Nonterminal d) h p = false≢true p
no_alternative (Node.Terminal t) h p = false≢true p
no_alternative (Node.Argument a) h p = false≢true p
no_alternative (Node.Alternative a) h p = miss (0 ∷ 1 ∷ 2 ∷ 3 ∷ 5 ∷ 6 ∷ 7 ∷ []) 4 tt h
no_alternative (Node.Attribute a) h p = false≢true p
no_alternative (Node.Condition c) h p = false≢true p
no_alternative (Node.Symbol s k) h p = false≢true p

pub never_item : (n : Node) → ((d : NonterminalData) → n ≡ Node.Nonterminal d → ⊥) → ((t : TerminalData) → n ≡ Node.Terminal t → ⊥) → allowed_at items_place (class_of n) ≡ true → ⊥
unfolding class_of allowed_at table
never_item (Node.Text k) h l p = false≢true p
never_item (Node.Nonterminal d) h l p = h d refl
never_item (Node.Terminal t) h l p = l t refl
never_item (Node.Argument a) h l p = false≢true p
never_item (Node.Alternative a) h l p = false≢true p
never_item (Node.Attribute a) h l p = false≢true p
never_item (Node.Condition c) h l p = false≢true p
never_item (Node.Symbol s k) h l p = false≢true p

-- a reader of items refuses such a command with 2
module _ {B : Type 0} (at e : ℕ) where
  -- theorem: where neither a nonterminal nor a terminal stands
  pub no_item : (f : NonterminalData → ℕ → Reading B) (g : TerminalData → ℕ → Reading B) (n : Node)
      → ((d : NonterminalData) → n ≡ Node.Nonterminal d → ⊥) → ((t : TerminalData) → n ≡ Node.Terminal t → ⊥) → expect_item at f g n e ≡ refused 2 at
  unfolding expect_item
  no_item f g (Node.Text k) h l = refl
  no_item f g (Node.Nonterminal d) h l = absurd (h d refl)
  no_item f g (Node.Terminal t) h l = absurd (l t refl)
  no_item f g (Node.Argument a) h l = refl
  no_item f g (Node.Alternative a) h l = refl
  no_item f g (Node.Attribute a) h l = refl
  no_item f g (Node.Condition c) h l = refl
  no_item f g (Node.Symbol s k) h l = refl
