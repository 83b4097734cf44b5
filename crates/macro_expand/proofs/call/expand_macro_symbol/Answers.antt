use mathlib.Core.Path.{◌≡◌, refl, ◌∙◌}
use Rattle.std.proofs.lemmas.Result.{err_from_is_err_and}
use Rattle.macro_expand.specs.Arguments.{hold_from}
use Rattle.macro_expand.proofs.MacroCode.{expanding_macro, of_ok, of_err}
use Rattle.macro_expand.proofs.call.expand_macro_symbol.Goals as goal

pub read_call-x-requires : goal.read_call-x-requires
read_call-x-requires c = search expanding_macro

pub arguments-requires : goal.arguments-requires
arguments-requires c = search expanding_macro

pub map_err-requires : goal.map_err-requires
map_err-requires c =
    let a = c.arguments.ensures in
    let z : c.holding-held.result ≡ hold_from c.args.round.now.g c.read_call-x.result.call c.args.work.now c.read_call-x.result.many c.read_call-x.result.from 0 = c.holding-held.ensures ∙ rw (a.0, a.1, a.2) refl in
    λ e h k l p r t f. search expanding_macro

pub returns-in_err-m : goal.returns-in_err-m
returns-in_err-m c =
    let a = c.arguments.ensures in
    let z : c.holding-held.result ≡ hold_from c.args.round.now.g c.read_call-x.result.call c.args.work.now c.read_call-x.result.many c.read_call-x.result.from 0 = c.holding-held.ensures ∙ rw (a.0, a.1, a.2) refl in
    let p = err_from_is_err_and c.from_residual.result c.from_residual.ensures.1 in
    let t = of_err c.holding-held.result c.map_err.result _ c.map_err.ensures.cases _ c.in_err-m.was in
    rw (p.1, p.2) (search (expanding_macro, t.1, t.2))

pub put_macro-requires : goal.put_macro-requires
put_macro-requires c =
    let a = c.arguments.ensures in
    let z : c.holding-held.result ≡ hold_from c.args.round.now.g c.read_call-x.result.call c.args.work.now c.read_call-x.result.many c.read_call-x.result.from 0 = c.holding-held.ensures ∙ rw (a.0, a.1, a.2) refl in
    let t = of_ok c.holding-held.result c.map_err.result _ c.map_err.ensures.cases _ c.in_ok-m.was in
    search (expanding_macro, t)

pub returns : goal.returns
returns c =
    let a = c.arguments.ensures in
    let z : c.holding-held.result ≡ hold_from c.args.round.now.g c.read_call-x.result.call c.args.work.now c.read_call-x.result.many c.read_call-x.result.from 0 = c.holding-held.ensures ∙ rw (a.0, a.1, a.2) refl in
    let t = of_ok c.holding-held.result c.map_err.result _ c.map_err.ensures.cases _ c.in_ok-m.was in
    search (expanding_macro, t)
