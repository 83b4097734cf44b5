use borrow.Author.Rules.{rules}
use Rattle.expander.proofs.FindCode.{written_is}
use Rattle.expander.proofs.find.written.Goals as goal

pub returns : goal.returns
returns c = written_is c.args.tape.now c.args.work.now c.args.g.now c.args.p c.args.f c.requires.0 c.requires.3 _ c.search.result c.search.ensures (λ i a k. search rules)
