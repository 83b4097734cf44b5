use native.Mathlib.Omega.{arith}
use Rattle.std.proofs.lemmas.Grind.{common_steps}
use Rattle.std.proofs.Common.{rules, tests, ◌+◌, ◌*◌, ◌≤◌, length}
use Rattle.std.proofs.lemmas.Iterator.{first_from_Range, serves_from_Range}
use Rattle.grades.proofs.AnnotationsCode.{Has, HasNot, looking, look_fits, found_is}
use Rattle.grades.proofs.annotations.position.Goals as goal

pub returns-in_err-k : goal.returns-in_err-k
returns-in_err-k c = search looking

pub find-requires-clause-callable : goal.find-requires-clause-callable
find-requires-clause-callable c = serves_from_Range (λ x q k. search rules)
    (λ x low high y e.
    let z = look_fits c.args.width.bytes c.args.at c.args.n x _ c.requires high in
    let f : c.args.at + (2 + 3 * c.args.width.bytes) * y.now + (2 + c.args.width.bytes + c.args.width.bytes + c.args.width.bytes) ≤ length c.args.work.now = rw e z in
    grind (arith, common_steps))

pub returns : goal.returns
returns c =
    let wd = c.args.width.bytes in
    let w = c.args.work.now in
    let k = c.in_ok-k.k in
    found_is wd k w c.args.at c.args.n c.args.id c.find.result c.in_ok-k.was
    (first_from_Range _ _ _ _ (Has wd k w c.args.at) (HasNot wd k w c.args.at) c.find.ensures.ran
    (λ x q j. search (rules, tests))
    (λ x q j. (search (rules, tests), search (rules, tests))))
