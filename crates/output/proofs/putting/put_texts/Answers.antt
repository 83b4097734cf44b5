use Rattle.output.proofs.PuttingCode.{texts_putting}
use Rattle.output.proofs.putting.put_texts.Goals as goal

pub put_text-q-requires : goal.put_text-q-requires
put_text-q-requires c = search texts_putting

pub loop-k-preserved : goal.loop-k-preserved
loop-k-preserved c = search texts_putting

pub returns : goal.returns
returns c = search texts_putting
