use Rattle.settling.proofs.CopiedCode.{numbering}
use Rattle.settling.proofs.copied.numbered.Goals as goal

pub reference-requires : goal.reference-requires
reference-requires c = search numbering
