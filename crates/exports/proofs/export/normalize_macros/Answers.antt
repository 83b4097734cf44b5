use Rattle.exports.proofs.ExportCode.{exporting_limited}
use Rattle.exports.proofs.export.normalize_macros.Goals as goal

pub returns : goal.returns
returns c = search exporting_limited
