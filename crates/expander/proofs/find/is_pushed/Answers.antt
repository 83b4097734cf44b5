use Rattle.expander.proofs.FindCode.{pushed-is}
use borrow.Author.Rules.{rules}
use Rattle.expander.proofs.find.is_pushed.Goals as goal

pub returns : goal.returns
returns c = search (rules, pushed-is)
