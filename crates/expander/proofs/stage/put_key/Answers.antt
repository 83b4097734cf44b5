use Rattle.expander.proofs.StageKeyCode.{putting}
use Rattle.expander.proofs.stage.put_key.Goals as goal

pub number-x-requires : goal.number-x-requires
number-x-requires c = search putting

pub u64_at-span-requires : goal.u64_at-span-requires
u64_at-span-requires c = search putting

pub returns : goal.returns
returns c = search putting
