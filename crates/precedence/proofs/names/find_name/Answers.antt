use borrow.Author.Rules.{rules}
use Rattle.precedence.specs.Names.{level_text}
use Rattle.precedence.proofs.NamesFindCode.{tracing, name_is}
use Rattle.precedence.proofs.names.find_name.Goals as goal

pub search-requires-clause-chained : goal.search-requires-clause-chained
search-requires-clause-chained c = search tracing

pub search-requires-clause-asks : goal.search-requires-clause-asks
search-requires-clause-asks c = search tracing

pub returns : goal.returns
returns c =
    name_is c.args.tape.now c.args.work.now c.args.m c.args.n (level_text c.args.tape.now c.args.work.now c.args.m c.args.base c.args.level) c.args.h c.requires.0 c.requires.2 _ c.search.result c.search.ensures
    (λ i a k. search rules)
