use borrow.Author.Rules.{rules}
use Rattle.octets.proofs.SameLaws.{said-same}
use Rattle.texts.proofs.TableFindCode.{find_is}
use Rattle.texts.proofs.table.find.Goals as goal

pub returns : goal.returns
returns c = find_is c.args.tape.now c.args.work.now c.args.m c.args.t.now c.args.h c.requires.0 c.requires.2 _ c.search.result c.search.ensures (λ i a k. search (rules, said-same))
