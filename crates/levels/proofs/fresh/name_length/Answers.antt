use Rattle.levels.proofs.FreshCode.{lengthening}
use Rattle.levels.proofs.fresh.name_length.Goals as goal

pub base_text-t-requires : goal.base_text-t-requires
base_text-t-requires c = search lengthening

pub returns : goal.returns
returns c = search lengthening
