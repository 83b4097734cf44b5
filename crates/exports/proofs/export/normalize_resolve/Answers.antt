use Rattle.exports.proofs.ExportCode.{exporting}
use Rattle.exports.proofs.export.normalize_resolve.Goals as goal

pub returns : goal.returns
returns c = search exporting
