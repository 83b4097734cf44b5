use Rattle.settling.proofs.CopiedCode.{copying}
use Rattle.settling.proofs.copied.put_known.Goals as goal

pub text_mark-requires : goal.text_mark-requires
text_mark-requires c = search copying

pub put_text-requires : goal.put_text-requires
put_text-requires c = search copying
