use Rattle.settling.proofs.PrintCode.{opening}
use Rattle.settling.proofs.print.put_before.Goals as goal

pub word_source-p-requires-in-0-to-36 : goal.word_source-p-requires-in-0-to-36
word_source-p-requires-in-0-to-36 c = search opening

pub returns-in-0-to-36 : goal.returns-in-0-to-36
returns-in-0-to-36 c = search opening

pub word_source-p-requires : goal.word_source-p-requires
word_source-p-requires c = search opening

pub returns-in-37 : goal.returns-in-37
returns-in-37 c = search opening

pub returns-in-38 : goal.returns-in-38
returns-in-38 c = search opening

pub returns-in-39 : goal.returns-in-39
returns-in-39 c = search opening

pub put_named-requires : goal.put_named-requires
put_named-requires c = search opening

pub returns-in-40 : goal.returns-in-40
returns-in-40 c = search opening

pub returns-in-41 : goal.returns-in-41
returns-in-41 c = search opening

pub returns-in_default : goal.returns-in_default
returns-in_default c = search opening
