use Rattle.std.proofs.Common.{rules}
use Rattle.levels.proofs.WholeMean.{items_standing}
use Rattle.levels.proofs.WholeMeanItem.{stepping}
use Rattle.levels.proofs.whole.expand_item.Goals as goal

pub has_prec_attr-requires : goal.has_prec_attr-requires
has_prec_attr-requires c = search stepping

pub expand_nonterm-requires : goal.expand_nonterm-requires
expand_nonterm-requires c = rw c.requires.wide (search (rules, items_standing c.has_prec_attr.result))

pub returns-then-has_prec_attr : goal.returns-then-has_prec_attr
returns-then-has_prec_attr c = let g = rw c.requires.wide at c.expand_nonterm.ensures in search (stepping, g)

pub put_run-to-requires : goal.put_run-to-requires
put_run-to-requires c = search stepping

pub returns : goal.returns
returns c = search stepping
