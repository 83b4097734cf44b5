use Rattle.std.proofs.lemmas.Result.{err_from_is_err_and}
use Rattle.stages.proofs.LevellingCode.{levelling_pass}
use Rattle.stages.proofs.levelling.LevellingPass.items.Goals as goal

pub returns-in_err-l : goal.returns-in_err-l
returns-in_err-l c = let p = err_from_is_err_and c.from_residual.result c.from_residual.ensures.1 in rw (p.1, p.2) (search (levelling_pass, c.in_err-l.was))

pub hand_over_levels-requires : goal.hand_over_levels-requires
hand_over_levels-requires c = search (levelling_pass, c.in_ok-l.was)

pub returns : goal.returns
returns c = search (levelling_pass, c.in_ok-l.was)
