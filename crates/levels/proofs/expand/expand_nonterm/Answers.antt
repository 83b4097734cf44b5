use Rattle.levels.proofs.ExpandMeanCode.{read_many, expand_gradable, expand_refused_inside, expand_none_missing, expand_arrays, expand_keys, expand_places, expand_low_inside, expand_left, expand_refused, expand_low, expand_written}
use Rattle.levels.proofs.expand.expand_nonterm.Goals as goal

pub grade-requires : goal.grade-requires
grade-requires c = expand_gradable c.args.g.width.narrow c.args.g.width.wide c.requires (read_many _ _ _ _ c.whole_nonterminal.ensures c.from-n.ensures)

pub of_command-requires : goal.of_command-requires
of_command-requires c = expand_refused_inside c.args.g.width.narrow c.args.g.width.wide c.requires (read_many _ _ _ _ c.whole_nonterminal.ensures c.from-n.ensures) c.first_alternative-at.ensures c.grade.ensures c.in-Err.is c.in-Some.is

pub sorted-keys-requires : goal.sorted-keys-requires
sorted-keys-requires c = expand_arrays c.args.g.width.narrow c.args.g.width.wide c.requires (read_many _ _ _ _ c.whole_nonterminal.ensures c.from-n.ensures) c.first_alternative-at.ensures c.grade.ensures c.in-Ok.is

pub lowest-requires : goal.lowest-requires
lowest-requires c = (
  expand_keys c.args.g.width.narrow c.args.g.width.wide c.requires (read_many _ _ _ _ c.whole_nonterminal.ensures c.from-n.ensures) c.first_alternative-at.ensures c.grade.ensures c.in-Ok.is _ _ c.sorted-keys.ensures,
  expand_places c.args.g.width.narrow c.args.g.width.wide c.requires (read_many _ _ _ _ c.whole_nonterminal.ensures c.from-n.ensures) c.first_alternative-at.ensures c.grade.ensures c.in-Ok.is _ _ c.sorted-keys.ensures,
)

pub of_command-requires-in-Some-lowest : goal.of_command-requires-in-Some-lowest
of_command-requires-in-Some-lowest c =
    expand_low_inside c.args.g.width.narrow c.args.g.width.wide c.requires (read_many _ _ _ _ c.whole_nonterminal.ensures c.from-n.ensures) c.first_alternative-at.ensures c.grade.ensures c.in-Ok.is _ _ c.sorted-keys.ensures c.lowest.ensures c.in-Some-lowest.is

pub write_levels-requires : goal.write_levels-requires
write_levels-requires c =
    expand_left c.args.g.width.narrow c.args.g.width.wide c.requires (read_many _ _ _ _ c.whole_nonterminal.ensures c.from-n.ensures) c.first_alternative-at.ensures c.grade.ensures c.in-Ok.is _ _ c.sorted-keys.ensures c.lowest.ensures c.in_default.is

pub returns-in-Some : goal.returns-in-Some
returns-in-Some c = expand_refused c.args.g.width.narrow c.args.g.width.wide c.requires (read_many _ _ _ _ c.whole_nonterminal.ensures c.from-n.ensures) c.first_alternative-at.ensures c.grade.ensures c.in-Err.is c.in-Some.is c.of_command.ensures

pub returns-in-Some-lowest : goal.returns-in-Some-lowest
returns-in-Some-lowest c =
    expand_low c.args.g.width.narrow c.args.g.width.wide c.requires (read_many _ _ _ _ c.whole_nonterminal.ensures c.from-n.ensures) c.first_alternative-at.ensures c.grade.ensures c.in-Ok.is _ _ c.sorted-keys.ensures c.lowest.ensures c.in-Some-lowest.is c.of_command-in-Some-lowest.ensures

pub returns : goal.returns
returns c =
    expand_written c.args.g.width.narrow c.args.g.width.wide c.requires (read_many _ _ _ _ c.whole_nonterminal.ensures c.from-n.ensures) c.first_alternative-at.ensures c.grade.ensures c.in-Ok.is _ _ c.sorted-keys.ensures c.lowest.ensures c.in_default.is _ _ c.write_levels.ensures

pub unreachable-requires : goal.unreachable-requires
unreachable-requires c = expand_none_missing c.args.g.width.narrow c.args.g.width.wide c.requires (read_many _ _ _ _ c.whole_nonterminal.ensures c.from-n.ensures) c.first_alternative-at.ensures c.grade.ensures c.in-Err.is c.in-None.is
