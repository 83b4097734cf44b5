use Rattle.display.proofs.FormCode.{naming}
use Rattle.display.proofs.forms.named.Goals as goal

pub returns-then-words-k : goal.returns-then-words-k
returns-then-words-k c = search naming

pub returns : goal.returns
returns c = search naming
