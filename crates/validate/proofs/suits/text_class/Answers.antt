use Rattle.validate.proofs.SuitsCode.{holding}
use Rattle.validate.proofs.suits.text_class.Goals as goal

pub returns-then-r-k : goal.returns-then-r-k
returns-then-r-k c = search holding

pub class-requires : goal.class-requires
class-requires c = search holding

pub returns : goal.returns
returns c = search holding
