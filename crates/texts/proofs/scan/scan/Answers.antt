use Rattle.texts.proofs.ScanCode.{scanning}
use Rattle.texts.proofs.scan.scan.Goals as goal

pub loop-b-init : goal.loop-b-init
loop-b-init c = search scanning

pub loop-b-preserved : goal.loop-b-preserved
loop-b-preserved c = search scanning

pub returns : goal.returns
returns c = search scanning
