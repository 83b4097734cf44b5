use native.Mathlib.Omega.{arith}
use Rattle.parse_tree.proofs.CodeSizes.{size_37, size_38, size_40, size_41, size_named}
use Rattle.parse_tree.proofs.NodeCode.{kinding}
use Rattle.parse_tree.proofs.node.kind_at.Goals as goal

pub atom_at-requires : goal.atom_at-requires
atom_at-requires c = omega (arith, size_37 c.args.width.bytes c.args.code c.in-37.is)

pub bounds-tape-at : goal.bounds-tape-at
bounds-tape-at c = omega (arith, size_37 c.args.width.bytes c.args.code c.in-37.is)

pub bounds-tape-at-in-38 : goal.bounds-tape-at-in-38
bounds-tape-at-in-38 c = omega (arith, size_38 c.args.width.bytes c.args.code c.in-38.is)

pub bounds-tape-at-in-40 : goal.bounds-tape-at-in-40
bounds-tape-at-in-40 c = omega (arith, size_40 c.args.width.bytes c.args.code c.in-40.is)

pub atom_at-requires-in-40 : goal.atom_at-requires-in-40
atom_at-requires-in-40 c = omega (arith, size_40 c.args.width.bytes c.args.code c.in-40.is)

pub u16_at-requires : goal.u16_at-requires
u16_at-requires c = omega (arith, size_41 c.args.width.bytes c.args.code c.in-41.is)

pub atom_at-requires-in-0-to-36 : goal.atom_at-requires-in-0-to-36
atom_at-requires-in-0-to-36 c = omega (arith, size_named c.args.width.bytes c.args.code (omega arith) (omega arith))

pub returns-in-37 : goal.returns-in-37
returns-in-37 c = search kinding

pub returns-in-38 : goal.returns-in-38
returns-in-38 c = search kinding

pub returns-in-39 : goal.returns-in-39
returns-in-39 c = search kinding

pub returns-in-40 : goal.returns-in-40
returns-in-40 c = search kinding

pub returns-in-41 : goal.returns-in-41
returns-in-41 c = search kinding

pub returns-in-0-to-36 : goal.returns-in-0-to-36
returns-in-0-to-36 c = search kinding

pub returns-in_default : goal.returns-in_default
returns-in_default c = search kinding
