use Rattle.precedence.proofs.SubstituteCode.{replacing}
use Rattle.precedence.proofs.substitute.replace_symbols.Goals as goal

pub loop-p-init : goal.loop-p-init
loop-p-init c = search replacing

pub loop-p-preserved-then-names : goal.loop-p-preserved-then-names
loop-p-preserved-then-names c = search replacing

pub loop-p-preserved : goal.loop-p-preserved
loop-p-preserved c = search replacing

pub returns : goal.returns
returns c = search replacing
