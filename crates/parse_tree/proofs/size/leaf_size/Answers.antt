use Rattle.parse_tree.proofs.SizeLaws.{sizing}
use Rattle.parse_tree.proofs.size.leaf_size.Goals as goal

pub returns-in-AmbiguousId : goal.returns-in-AmbiguousId
returns-in-AmbiguousId c = search sizing

pub returns-in-Lookahead : goal.returns-in-Lookahead
returns-in-Lookahead c = search sizing
