use Rattle.validate.specs.Regions.{regions_of}
use borrow.Author.Rules.{rules}
use Rattle.validate.proofs.regions.layout.Goals as goal

pub returns : goal.returns
unfolding regions_of
returns c = search rules
