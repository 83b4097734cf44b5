use Rattle.settling.proofs.WordsCode.{wording}
use Rattle.settling.proofs.words.word_source.Goals as goal

pub returns-else-k-page : goal.returns-else-k-page
returns-else-k-page c = search wording

pub returns-then-k-page : goal.returns-then-k-page
returns-then-k-page c = search wording
