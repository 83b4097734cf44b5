-- A yes where one kind of command was wanted: it is of that kind, and what is known of it goes along. Assumes nothing.
use mathlib.Core.Path.{◌≡◌}
use Prim.Native.Nat.{ℕ}
use Rattle.parse_tree.specs.Plain.Reading.{Reading, got}
use Rattle.parse_tree.specs.Working.Expect.{expect_item, expect_argument, expect_alternative, expect_attribute, expect_condition, expect_symbol}
use Rattle.parse_tree.specs.declared.syntax.Span.{Span}
use Rattle.parse_tree.specs.declared.syntax.NonterminalString.{NonterminalString}
use Rattle.parse_tree.specs.declared.syntax.SymbolKind.{SymbolKind}
use Rattle.parse_tree.specs.declared.syntax.NonterminalData.{NonterminalData}
use Rattle.parse_tree.specs.declared.syntax.TerminalData.{TerminalData}
use Rattle.parse_tree.specs.declared.syntax.Alternative.{Alternative}
use Rattle.parse_tree.specs.declared.syntax.Attribute.{Attribute}
use Rattle.parse_tree.specs.declared.syntax.Condition.{Condition}
use Rattle.parse_tree.specs.declared.syntax.Node.{Node}
use Rattle.parse_tree.proofs.ReadingLaws.{never}

-- P is what is known of the command n at a, which ends at d; the yes is y and ends at e
module _ {B : Type 0} (P : Node → Type 0) (a d : ℕ) (y : B) (e : ℕ) where
  -- an item is a nonterminal or a terminal
  pub item_wanted : (f : NonterminalData → ℕ → Reading B) (g : TerminalData → ℕ → Reading B) (n : Node) → P n → expect_item a f g n d ≡ got y e
      → {R : Type 0} → ((k : NonterminalData) → P (Node.Nonterminal k) → f k d ≡ got y e → R) → ((k : TerminalData) → P (Node.Terminal k) → g k d ≡ got y e → R) → R
  unfolding expect_item
  item_wanted f g (Node.Text k) h p i j = absurd (never p)
  item_wanted f g (Node.Nonterminal k) h p i j = i k h p
  item_wanted f g (Node.Terminal k) h p i j = j k h p
  item_wanted f g (Node.Argument k) h p i j = absurd (never p)
  item_wanted f g (Node.Alternative k) h p i j = absurd (never p)
  item_wanted f g (Node.Attribute k) h p i j = absurd (never p)
  item_wanted f g (Node.Condition k) h p i j = absurd (never p)
  item_wanted f g (Node.Symbol s k) h p i j = absurd (never p)

  pub argument-wanted : (f : NonterminalString → ℕ → Reading B) (n : Node) → P n → expect_argument a f n d ≡ got y e → {R : Type 0} → ((k : NonterminalString) → P (Node.Argument k) → f k d ≡ got y e → R) → R
  unfolding expect_argument
  argument-wanted f (Node.Text k) h p i = absurd (never p)
  argument-wanted f (Node.Nonterminal k) h p i = absurd (never p)
  argument-wanted f (Node.Terminal k) h p i = absurd (never p)
  argument-wanted f (Node.Argument k) h p i = i k h p
  argument-wanted f (Node.Alternative k) h p i = absurd (never p)
  argument-wanted f (Node.Attribute k) h p i = absurd (never p)
  argument-wanted f (Node.Condition k) h p i = absurd (never p)
  argument-wanted f (Node.Symbol s k) h p i = absurd (never p)

  pub alternative_wanted : (f : Alternative → ℕ → Reading B) (n : Node) → P n → expect_alternative a f n d ≡ got y e → {R : Type 0} → ((k : Alternative) → P (Node.Alternative k) → f k d ≡ got y e → R) → R
  unfolding expect_alternative
  alternative_wanted f (Node.Text k) h p i = absurd (never p)
  alternative_wanted f (Node.Nonterminal k) h p i = absurd (never p)
  alternative_wanted f (Node.Terminal k) h p i = absurd (never p)
  alternative_wanted f (Node.Argument k) h p i = absurd (never p)
  alternative_wanted f (Node.Alternative k) h p i = i k h p
  alternative_wanted f (Node.Attribute k) h p i = absurd (never p)
  alternative_wanted f (Node.Condition k) h p i = absurd (never p)
  alternative_wanted f (Node.Symbol s k) h p i = absurd (never p)

  pub attribute_wanted : (f : Attribute → ℕ → Reading B) (n : Node) → P n → expect_attribute a f n d ≡ got y e → {R : Type 0} → ((k : Attribute) → P (Node.Attribute k) → f k d ≡ got y e → R) → R
  unfolding expect_attribute
  attribute_wanted f (Node.Text k) h p i = absurd (never p)
  attribute_wanted f (Node.Nonterminal k) h p i = absurd (never p)
  attribute_wanted f (Node.Terminal k) h p i = absurd (never p)
  attribute_wanted f (Node.Argument k) h p i = absurd (never p)
  attribute_wanted f (Node.Alternative k) h p i = absurd (never p)
  attribute_wanted f (Node.Attribute k) h p i = i k h p
  attribute_wanted f (Node.Condition k) h p i = absurd (never p)
  attribute_wanted f (Node.Symbol s k) h p i = absurd (never p)

  pub condition_wanted : (f : Condition → ℕ → Reading B) (n : Node) → P n → expect_condition a f n d ≡ got y e → {R : Type 0} → ((k : Condition) → P (Node.Condition k) → f k d ≡ got y e → R) → R
  unfolding expect_condition
  condition_wanted f (Node.Text k) h p i = absurd (never p)
  condition_wanted f (Node.Nonterminal k) h p i = absurd (never p)
  condition_wanted f (Node.Terminal k) h p i = absurd (never p)
  condition_wanted f (Node.Argument k) h p i = absurd (never p)
  condition_wanted f (Node.Alternative k) h p i = absurd (never p)
  condition_wanted f (Node.Attribute k) h p i = absurd (never p)
  condition_wanted f (Node.Condition k) h p i = i k h p
  condition_wanted f (Node.Symbol s k) h p i = absurd (never p)

  pub symbol_wanted : (f : Span → SymbolKind → ℕ → Reading B) (n : Node) → P n → expect_symbol a f n d ≡ got y e → {R : Type 0} → ((s : Span) (k : SymbolKind) → P (Node.Symbol s k) → f s k d ≡ got y e → R) → R
  unfolding expect_symbol
  symbol_wanted f (Node.Text k) h p i = absurd (never p)
  symbol_wanted f (Node.Nonterminal k) h p i = absurd (never p)
  symbol_wanted f (Node.Terminal k) h p i = absurd (never p)
  symbol_wanted f (Node.Argument k) h p i = absurd (never p)
  symbol_wanted f (Node.Alternative k) h p i = absurd (never p)
  symbol_wanted f (Node.Attribute k) h p i = absurd (never p)
  symbol_wanted f (Node.Condition k) h p i = absurd (never p)
  symbol_wanted f (Node.Symbol s k) h p i = i s k h p
