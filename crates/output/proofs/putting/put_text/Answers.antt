use Rattle.output.proofs.PuttingCode.{text_putting}
use Rattle.output.proofs.putting.put_text.Goals as goal

pub returns : goal.returns
returns c = search text_putting
