use mathlib.Core.Path.{◌≡◌, refl, ◌∙◌}
use Rattle.macro_expand.specs.Arguments.{holds_at}
use Rattle.macro_expand.proofs.AlternativesListCode.{iffing}
use Rattle.macro_expand.proofs.alternatives.expand_if.Goals as goal

pub arguments-requires : goal.arguments-requires
arguments-requires c = search iffing

pub holds-requires : goal.holds-requires
holds-requires c = rw c.arguments.ensures.2 (search iffing)

pub returns-in-Ok-true : goal.returns-in-Ok-true
returns-in-Ok-true c =
    let e = c.arguments.ensures in
    let z : c.holds.result ≡ holds_at c.args.c.now.round.g c.args.c.now.call c.args.work.now c.args.p = c.holds.ensures ∙ rw (e.0, e.1, e.2) refl in
    search iffing

pub returns-in-Ok-false : goal.returns-in-Ok-false
returns-in-Ok-false c =
    let e = c.arguments.ensures in
    let z : c.holds.result ≡ holds_at c.args.c.now.round.g c.args.c.now.call c.args.work.now c.args.p = c.holds.ensures ∙ rw (e.0, e.1, e.2) refl in
    search iffing

pub returns-in-Ok-false-2 : goal.returns-in-Ok-false-2
returns-in-Ok-false-2 c =
    let e = c.arguments.ensures in
    let z : c.holds.result ≡ holds_at c.args.c.now.round.g c.args.c.now.call c.args.work.now c.args.p = c.holds.ensures ∙ rw (e.0, e.1, e.2) refl in
    search iffing
