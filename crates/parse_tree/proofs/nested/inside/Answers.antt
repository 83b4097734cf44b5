use Rattle.parse_tree.proofs.NestedCode.{insiding}
use Rattle.parse_tree.proofs.nested.inside.Goals as goal

pub bounds-tape-at : goal.bounds-tape-at
bounds-tape-at c = search insiding

pub u16_at-requires : goal.u16_at-requires
u16_at-requires c = search insiding

pub returns-in-37 : goal.returns-in-37
returns-in-37 c = search insiding

pub returns-in-41 : goal.returns-in-41
returns-in-41 c = search insiding

pub returns-in-38-to-40 : goal.returns-in-38-to-40
returns-in-38-to-40 c = search insiding

pub returns-in-0-to-36 : goal.returns-in-0-to-36
returns-in-0-to-36 c = search insiding

pub returns-in_default : goal.returns-in_default
returns-in_default c = search insiding
