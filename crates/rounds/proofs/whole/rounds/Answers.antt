use mathlib.Core.Path.{◌≡◌}
use Rattle.std.specs.Prelude.{Ok}
use Rattle.std.specs.declared.ops.ControlFlow.TheVariants.{Continue, Break}
use Rattle.std.proofs.lemmas.Result.{err_from_is_err_and}
use Rattle.rounds.proofs.RoundsCode.{turning}
use Rattle.rounds.proofs.whole.rounds.Goals as goal

pub returns-in_err-y : goal.returns-in_err-y
returns-in_err-y c = let p = err_from_is_err_and c.from_residual.result c.from_residual.ensures.1 in rw (p.1, p.2) (search (turning, c.in_err-y.was))

pub returns-in-Break : goal.returns-in-Break
returns-in-Break c = let e : c.round.result ≡ Ok (Break c.in-Break.y) = cc (c.in_ok-y.was, c.in-Break.is) in search turning

pub loop-at-smaller : goal.loop-at-smaller
loop-at-smaller c = let e : c.round.result ≡ Ok (Continue c.in-Continue.y) = cc (c.in_ok-y.was, c.in-Continue.is) in search turning

pub loop-at-preserved : goal.loop-at-preserved
loop-at-preserved c = let e : c.round.result ≡ Ok (Continue c.in-Continue.y) = cc (c.in_ok-y.was, c.in-Continue.is) in search turning

pub returns : goal.returns
returns c = search turning
