use borrow.Author.Rules.{rules}
use Rattle.expander.proofs.FindKeyCode.{tracing, key_is}
use Rattle.expander.proofs.find.pending.Goals as goal

pub search-requires-clause-room : goal.search-requires-clause-room
search-requires-clause-room c = let e = c.pushed.ensures in rw (e.0, e.1, e.2) (search tracing)

pub returns : goal.returns
returns c =
    let e = c.pushed.ensures in
    let z = rw (e.0, e.1) at c.search.ensures in
    key_is c.args.tape.now c.args.work.now c.args.g.now c.args.n c.args.p c.args.f c.requires.0 c.requires.1 c.requires.3 _ c.search.result z (λ i a k. search rules)
