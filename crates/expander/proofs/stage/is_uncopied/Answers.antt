use Rattle.expander.proofs.StageRunCode.{leaving}
use Rattle.expander.proofs.stage.is_uncopied.Goals as goal

pub returns-then-is_expanded : goal.returns-then-is_expanded
returns-then-is_expanded c = search leaving

pub returns-else-is_expanded : goal.returns-else-is_expanded
returns-else-is_expanded c = search leaving
