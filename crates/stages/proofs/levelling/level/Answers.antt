use mathlib.Core.Path.{ap, ◌∙◌}
use Rattle.std.specs.Result.{result_ok}
use Rattle.std.proofs.Common.{rules}
use Rattle.std.proofs.lemmas.Result.{err_from_is_err_and}
use Rattle.stages.specs.Levelling.{SomeLevels}
use Rattle.stages.proofs.LevellingCode.{level_beginning, level_judging}
use Rattle.stages.proofs.LevellingMeanSize.{levels-naming, levels-from, levels-sum}
use Rattle.stages.proofs.levelling.level.Goals as goal

pub expand_precedence-requires : goal.expand_precedence-requires
expand_precedence-requires c = search level_beginning

pub returns-in_err-written : goal.returns-in_err-written
returns-in_err-written c = let p = err_from_is_err_and c.from_residual.result c.from_residual.ensures.1 in rw (p.1, p.2) (search (level_beginning, c.in_err-written.was))

pub count_bytes-requires : goal.count_bytes-requires
count_bytes-requires c =
    let L : SomeLevels c.args.tape.now c.args.output c.args.r.texts c.args.r.at c.levels_room-room.result c.in_ok-written.written c.expand_precedence.new.work = search (level_beginning, c.in_ok-written.was) in
    levels-naming _ _ _ _ _ _ _ L

pub judge_levels-requires : goal.judge_levels-requires
judge_levels-requires c =
    let L : SomeLevels c.args.tape.now c.args.output c.args.r.texts c.args.r.at c.levels_room-room.result c.in_ok-written.written c.expand_precedence.new.work = search (level_beginning, c.in_ok-written.was) in
    let f = c.ok-bytes.ensures.value ∙ ap result_ok c.count_bytes.ensures in
    (levels-from _ _ _ _ _ _ _ L _ f, levels-sum _ _ _ _ _ _ _ L _ f (search rules))

pub returns-in_err-size : goal.returns-in_err-size
returns-in_err-size c =
    let L : SomeLevels c.args.tape.now c.args.output c.args.r.texts c.args.r.at c.levels_room-room.result c.in_ok-written.written c.expand_precedence.new.work = search (level_beginning, c.in_ok-written.was) in
    let f = c.ok-bytes.ensures.value ∙ ap result_ok c.count_bytes.ensures in
    let p = err_from_is_err_and c.from_residual-in_err-size.result c.from_residual-in_err-size.ensures.1 in
    rw (p.1, p.2) (search (level_judging, L, f, c.in_err-size.was))

pub returns : goal.returns
returns c =
    let L : SomeLevels c.args.tape.now c.args.output c.args.r.texts c.args.r.at c.levels_room-room.result c.in_ok-written.written c.expand_precedence.new.work = search (level_beginning, c.in_ok-written.was) in
    let f = c.ok-bytes.ensures.value ∙ ap result_ok c.count_bytes.ensures in
    search (level_judging, L, f, c.in_ok-size.was)
