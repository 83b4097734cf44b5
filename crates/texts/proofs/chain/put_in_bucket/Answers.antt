use Rattle.texts.proofs.ChainCode.{linking}
use Rattle.texts.proofs.chain.put_in_bucket.Goals as goal

pub head-before-requires : goal.head-before-requires
head-before-requires c = search linking

pub put_head-requires : goal.put_head-requires
put_head-requires c = search linking

pub returns : goal.returns
returns c = search linking
