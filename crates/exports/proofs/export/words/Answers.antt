use Rattle.exports.proofs.ExportCode.{wording}
use Rattle.exports.proofs.export.words.Goals as goal

pub returns-in-Ok : goal.returns-in-Ok
returns-in-Ok c = search wording

pub returns-in-Err : goal.returns-in-Err
returns-in-Err c = search wording
