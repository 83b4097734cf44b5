use Rattle.texts.proofs.ChainPutCode.{recording}
use Rattle.texts.proofs.chain.put_record.Goals as goal

pub put_in_bucket-requires : goal.put_in_bucket-requires
put_in_bucket-requires c = search recording

pub returns-then-m-lt-LINKED : goal.returns-then-m-lt-LINKED
returns-then-m-lt-LINKED c = search recording

pub returns-else-m-lt-LINKED : goal.returns-else-m-lt-LINKED
returns-else-m-lt-LINKED c = search recording
