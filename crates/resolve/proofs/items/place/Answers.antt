use Rattle.resolve.proofs.ItemsCode.{placing}
use Rattle.resolve.proofs.items.place.Goals as goal

pub returns-then-n-i : goal.returns-then-n-i
returns-then-n-i c = search placing

pub returns : goal.returns
returns c = search placing
