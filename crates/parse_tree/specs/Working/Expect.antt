-- A command of one kind where that kind is wanted, and question 2 for every other. Assumes nothing: these are definitions.
use Rattle.std.specs.Prelude.{ℕ}
use Rattle.parse_tree.specs.Plain.Reading.{Reading, refused}
use Rattle.parse_tree.specs.declared.syntax.Span.{Span}
use Rattle.parse_tree.specs.declared.syntax.NonterminalString.{NonterminalString}
use Rattle.parse_tree.specs.declared.syntax.SymbolKind.{SymbolKind}
use Rattle.parse_tree.specs.declared.syntax.NonterminalData.{NonterminalData}
use Rattle.parse_tree.specs.declared.syntax.TerminalData.{TerminalData}
use Rattle.parse_tree.specs.declared.syntax.Alternative.{Alternative}
use Rattle.parse_tree.specs.declared.syntax.Attribute.{Attribute}
use Rattle.parse_tree.specs.declared.syntax.Condition.{Condition}
use Rattle.parse_tree.specs.declared.syntax.Node.{Node}

-- at is the command's place; what is wanted is handed to f with the place behind it
module _ {B : Type 0} (at : ℕ) where
  -- 10, or 30 and 31
  unfoldable pub expect_item : (NonterminalData → ℕ → Reading B) → (TerminalData → ℕ → Reading B) → Node → ℕ → Reading B
  expect_item f g (Node.Text k) e = refused 2 at
  expect_item f g (Node.Nonterminal d) e = f d e
  expect_item f g (Node.Terminal t) e = g t e
  expect_item f g (Node.Argument a) e = refused 2 at
  expect_item f g (Node.Alternative a) e = refused 2 at
  expect_item f g (Node.Attribute a) e = refused 2 at
  expect_item f g (Node.Condition c) e = refused 2 at
  expect_item f g (Node.Symbol s k) e = refused 2 at

  -- 11
  unfoldable pub expect_argument : (NonterminalString → ℕ → Reading B) → Node → ℕ → Reading B
  expect_argument f (Node.Text k) e = refused 2 at
  expect_argument f (Node.Nonterminal d) e = refused 2 at
  expect_argument f (Node.Terminal t) e = refused 2 at
  expect_argument f (Node.Argument a) e = f a e
  expect_argument f (Node.Alternative a) e = refused 2 at
  expect_argument f (Node.Attribute a) e = refused 2 at
  expect_argument f (Node.Condition c) e = refused 2 at
  expect_argument f (Node.Symbol s k) e = refused 2 at

  -- 12
  unfoldable pub expect_alternative : (Alternative → ℕ → Reading B) → Node → ℕ → Reading B
  expect_alternative f (Node.Text k) e = refused 2 at
  expect_alternative f (Node.Nonterminal d) e = refused 2 at
  expect_alternative f (Node.Terminal t) e = refused 2 at
  expect_alternative f (Node.Argument a) e = refused 2 at
  expect_alternative f (Node.Alternative a) e = f a e
  expect_alternative f (Node.Attribute a) e = refused 2 at
  expect_alternative f (Node.Condition c) e = refused 2 at
  expect_alternative f (Node.Symbol s k) e = refused 2 at

  -- 13
  unfoldable pub expect_attribute : (Attribute → ℕ → Reading B) → Node → ℕ → Reading B
  expect_attribute f (Node.Text k) e = refused 2 at
  expect_attribute f (Node.Nonterminal d) e = refused 2 at
  expect_attribute f (Node.Terminal t) e = refused 2 at
  expect_attribute f (Node.Argument a) e = refused 2 at
  expect_attribute f (Node.Alternative a) e = refused 2 at
  expect_attribute f (Node.Attribute a) e = f a e
  expect_attribute f (Node.Condition c) e = refused 2 at
  expect_attribute f (Node.Symbol s k) e = refused 2 at

  -- 14
  unfoldable pub expect_condition : (Condition → ℕ → Reading B) → Node → ℕ → Reading B
  expect_condition f (Node.Text k) e = refused 2 at
  expect_condition f (Node.Nonterminal d) e = refused 2 at
  expect_condition f (Node.Terminal t) e = refused 2 at
  expect_condition f (Node.Argument a) e = refused 2 at
  expect_condition f (Node.Alternative a) e = refused 2 at
  expect_condition f (Node.Attribute a) e = refused 2 at
  expect_condition f (Node.Condition c) e = f c e
  expect_condition f (Node.Symbol s k) e = refused 2 at

  -- 20 to 2c
  unfoldable pub expect_symbol : (Span → SymbolKind → ℕ → Reading B) → Node → ℕ → Reading B
  expect_symbol f (Node.Text k) e = refused 2 at
  expect_symbol f (Node.Nonterminal d) e = refused 2 at
  expect_symbol f (Node.Terminal t) e = refused 2 at
  expect_symbol f (Node.Argument a) e = refused 2 at
  expect_symbol f (Node.Alternative a) e = refused 2 at
  expect_symbol f (Node.Attribute a) e = refused 2 at
  expect_symbol f (Node.Condition c) e = refused 2 at
  expect_symbol f (Node.Symbol s k) e = f s k e
