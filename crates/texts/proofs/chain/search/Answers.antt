use native.Mathlib.Omega.{arith}
use borrow.Author.Rules.{rules}
use Rattle.std.proofs.Common.{false, sym, ◌∙◌}
use Rattle.texts.specs.Search.{Asked}
use Rattle.texts.proofs.ChainCode.{linking}
use Rattle.texts.proofs.SearchCode.{asking, ask_rest, asked_yes, asked_no, asked_other}
use Rattle.texts.proofs.TableStays.{linked-le}
use Rattle.texts.proofs.chain.search.Goals as goal
use Rattle.texts.proofs.chain.search.Goals.{else-hash-h-via-then-hash-h+else-is, else-hash-h-via-else-hash-h}

pub head-j-requires : goal.head-j-requires
head-j-requires g c = search linking

pub loop-i-init : goal.loop-i-init
loop-i-init g c = search asking

pub hash-requires : goal.hash-requires
hash-requires g c = omega (arith, c.loop-i.invariant.upto, linked-le c.args.m.count)

pub is-requires : goal.is-requires
is-requires g c = c.requires.asks _ (omega (arith, c.loop-i.invariant.upto, linked-le c.args.m.count)) (sym c.hash.ensures ∙ c.if-hash-h.true)

pub returns-then-is : goal.returns-then-is
returns-then-is g c =
    let yes = asked_yes (goal.F-post g c.args.is) c.args.work.now c.args.m.base c.args.h c.in-Some.i c.hash.result c.hash.ensures c.if-hash-h.true c.if-is.ensures in
    search (asking, c.in-Some.ensures, yes)

pub link-j-requires : goal.link-j-requires
link-j-requires g c = omega (arith, c.loop-i.invariant.upto, linked-le c.args.m.count)

pub loop-i-smaller : goal.loop-i-smaller
loop-i-smaller g c = search (asking, c.in-Some.ensures)

pub loop-i-preserved : goal.loop-i-preserved
loop-i-preserved g c =
    let no : Asked (goal.F-post g c.args.is) c.args.work.now c.args.m.base c.args.h c.in-Some.i false = elim c.else-hash-h.branch [
      | else-hash-h-via-then-hash-h+else-is v ↦ asked_no (goal.F-post g c.args.is) c.args.work.now c.args.m.base c.args.h c.in-Some.i v.if-is.ensures
      | else-hash-h-via-else-hash-h v ↦ asked_other (goal.F-post g c.args.is) c.args.work.now c.args.m.base c.args.h c.in-Some.i c.hash.result c.hash.ensures v.if-hash-h.false
    ] in
    search (asking, c.in-Some.ensures, no)

pub returns : goal.returns
returns g c = ask_rest _ _ _ _ _ _ _ _ c.loop-i.invariant (search (rules, c.in_default.ensures)) c.rest.ensures
