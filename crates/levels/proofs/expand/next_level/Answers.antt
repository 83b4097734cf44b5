use mathlib.Core.Path.{refl}
use Rattle.std.proofs.Common.{rules}
use Rattle.levels.proofs.StepCode.{describing_next, naming-next, next_inside, next_steps}
use Rattle.levels.proofs.expand.next_level.Goals as goal

pub name_level-x-requires : goal.name_level-x-requires
name_level-x-requires c = λ f. search (describing_next, c.requires.1)

pub overflow_cast-name : goal.overflow_cast-name
overflow_cast-name c = search naming-next

pub write_level-to-requires : goal.write_level-to-requires
write_level-to-requires c =
    next_inside _ _ _ _ _ _ _ _ _ _ _ _ _ _ c.requires.1 c.requires.0 _ c.group_end-j.ensures _ _ _ _ c.whole_nonterminal-base.ensures refl c.read.ensures c.level-level.ensures _ _ c.name_level-x.ensures (search rules) (search rules) _ _

pub returns : goal.returns
returns c =
    next_steps _ _ _ _ _ _ _ _ _ _ _ _ _ _ c.requires.1 c.requires.0 _ c.group_end-j.ensures _ _ _ _ c.whole_nonterminal-base.ensures refl c.read.ensures c.level-level.ensures _ _ c.name_level-x.ensures (search rules) (search rules) c.args.g.width.wide _ (search rules) _ (search rules) _ _ c.write_level-to.ensures
