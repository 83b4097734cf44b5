use Rattle.exports.proofs.ExportCode.{exporting}
use Rattle.exports.proofs.export.normalize_levels.Goals as goal

pub returns : goal.returns
returns c = search exporting
