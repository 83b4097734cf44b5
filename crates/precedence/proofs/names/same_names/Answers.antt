use Rattle.std.proofs.Common.{rules, tests, arith, refl}
use Rattle.std.proofs.lemmas.Iterator.{cases_from_all, YieldsList-from_range}
use Rattle.precedence.specs.Names.{spelt}
use Rattle.precedence.proofs.NamesCode.{not_long, Same, Unlike, compared}
use Rattle.precedence.proofs.names.same_names.Goals as goal

pub returns-then-spelt_size-n : goal.returns-then-spelt_size-n
returns-then-spelt_size-n c =
    let x = spelt c.args.a.now c.args.u in
    let y = spelt c.args.b.now c.args.v in
    let n = c.spelt_size-n.result in
    compared x y n c.all.result (search rules) (search rules)
    (cases_from_all _ _ _ (Same x y) (Unlike x y) c.all.ensures.ran (YieldsList-from_range 0 n n refl (omega arith)) (λ i q k. search (rules, tests)) (λ i q k. search (rules, tests)))

pub returns-else-spelt_size-n : goal.returns-else-spelt_size-n
returns-else-spelt_size-n c = search (rules, not_long)
