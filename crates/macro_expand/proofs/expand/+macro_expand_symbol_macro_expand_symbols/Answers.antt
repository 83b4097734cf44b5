use mathlib.Core.Path.{◌≡◌, refl, ◌∙◌}
use Prim.Native.Nat.{◌+◌, ◌-◌, ◌≤◌, ◌<◌}
use native.Mathlib.Omega.{arith}
use Rattle.macro_expand.specs.PutIn.{parameter_at}
use Rattle.macro_expand.proofs.ExpandCode.{expanding_one}
use Rattle.macro_expand.proofs.ExpandListCode.{filling}
use Rattle.macro_expand.proofs.expand.+macro_expand_symbol_macro_expand_symbols.Goals as goal

pub macro_expand_symbol-arguments-requires : goal.macro_expand_symbol-arguments-requires
macro_expand_symbol-arguments-requires t c = search expanding_one

pub macro_expand_symbol-parameter-requires : goal.macro_expand_symbol-parameter-requires
macro_expand_symbol-parameter-requires t c = rw c.arguments.ensures.0 (search expanding_one)

pub macro_expand_symbol-put_parameter-requires : goal.macro_expand_symbol-put_parameter-requires
macro_expand_symbol-put_parameter-requires t c =
    let e = c.arguments.ensures in
    let z : c.parameter.result ≡ parameter_at c.args.c.now.round.g c.args.c.now.call c.args.work.now c.args.x.at = c.parameter.ensures ∙ rw (e.0, e.1, e.2) refl in
    search expanding_one

pub macro_expand_symbol-open-h-requires : goal.macro_expand_symbol-open-h-requires
macro_expand_symbol-open-h-requires t c =
    let e = c.arguments.ensures in
    let z : c.parameter.result ≡ parameter_at c.args.c.now.round.g c.args.c.now.call c.args.work.now c.args.x.at = c.parameter.ensures ∙ rw (e.0, e.1, e.2) refl in
    search expanding_one

pub macro_expand_symbols-loop-preserved : goal.macro_expand_symbols-loop-preserved
macro_expand_symbols-loop-preserved t c =
    let z : 0 < c.args.k - c.loop.counter = omega arith in
    let e : c.args.k - (c.loop.counter + 1) ≡ c.args.k - c.loop.counter - 1 = omega arith in
    rw e (search filling)

pub macro_expand_symbols-returns : goal.macro_expand_symbols-returns
macro_expand_symbols-returns t c = let z : c.args.k - c.loop.counter ≤ 0 = omega arith in search filling

pub macro_expand_symbols-macro_expand_symbol-r-requires : goal.macro_expand_symbols-macro_expand_symbol-r-requires
macro_expand_symbols-macro_expand_symbol-r-requires t c = let z : 0 < c.args.k - c.loop.counter = omega arith in search filling
