use Rattle.std.proofs.Common.{rules, true, false}
use Rattle.std.proofs.lemmas.Iterator.{first_from_Range}
use Rattle.texts.specs.Search.{Asked}
use Rattle.texts.proofs.SearchCode.{rested}
use Rattle.texts.proofs.chain.rest.Goals as goal

pub returns : goal.returns
returns g c =
    let A = Asked (goal.F-post g c.args.is.now) c.args.work.now c.args.m.base c.args.h in
    rested A c.args.m.count c.find.result (first_from_Range _ _ _ _ (λ i. A i true) (λ i. A i false) c.find.ensures.ran (λ x q k. search rules) (λ x q k. search rules))
