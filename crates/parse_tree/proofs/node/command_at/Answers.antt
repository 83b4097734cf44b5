use native.Mathlib.Omega.{arith}
use Rattle.parse_tree.proofs.CodeSizes.{size_16, size_17, size_18, size_19, size_20, size_symbol, size_terminal}
use Rattle.parse_tree.proofs.NodeCode.{commanding}
use Rattle.parse_tree.proofs.node.command_at.Goals as goal

pub whole_nonterminal-requires : goal.whole_nonterminal-requires
whole_nonterminal-requires c = omega (arith, size_16 c.args.width.bytes c.args.code c.in-16.is)

pub atom_at-requires : goal.atom_at-requires
atom_at-requires c = omega (arith, size_17 c.args.width.bytes c.args.code c.in-17.is)

pub whole_alternative-requires : goal.whole_alternative-requires
whole_alternative-requires c = omega (arith, size_18 c.args.width.bytes c.args.code c.in-18.is)

pub whole_attribute-requires : goal.whole_attribute-requires
whole_attribute-requires c = omega (arith, size_19 c.args.width.bytes c.args.code c.in-19.is)

pub condition_at-requires : goal.condition_at-requires
condition_at-requires c = omega (arith, size_20 c.args.width.bytes c.args.code c.in-20.is)

pub span_at-requires : goal.span_at-requires
span_at-requires c = omega (arith, size_symbol c.args.width.bytes c.args.code (omega arith))

pub terminal_at-requires : goal.terminal_at-requires
terminal_at-requires c = omega (arith, size_terminal c.args.width.bytes c.args.code (omega arith) (omega arith))

pub returns-in-16 : goal.returns-in-16
returns-in-16 c = search commanding

pub returns-in-17 : goal.returns-in-17
returns-in-17 c = search commanding

pub returns-in-18 : goal.returns-in-18
returns-in-18 c = search commanding

pub returns-in-19 : goal.returns-in-19
returns-in-19 c = search commanding

pub returns-in-20 : goal.returns-in-20
returns-in-20 c = search commanding

pub returns-in-32-to-44 : goal.returns-in-32-to-44
returns-in-32-to-44 c = search commanding

pub returns-in-48 : goal.returns-in-48
returns-in-48 c = search commanding

pub returns-in_default : goal.returns-in_default
returns-in_default c = search commanding

pub returns-in_default-2 : goal.returns-in_default-2
returns-in_default-2 c = search commanding

pub returns-in_default-3 : goal.returns-in_default-3
returns-in_default-3 c = search commanding
