use Rattle.precedence.proofs.NamesDescribeCode.{describing}
use Rattle.precedence.proofs.names.describe.Goals as goal

pub put_record-requires : goal.put_record-requires
put_record-requires c = search describing

pub returns : goal.returns
returns c = search describing
