use Rattle.precedence.proofs.NamesHashCode.{naming}
use Rattle.precedence.proofs.names.is_level_name.Goals as goal

pub returns-then-k-m : goal.returns-then-k-m
returns-then-k-m c = search naming

pub returns-then-v-level : goal.returns-then-v-level
returns-then-v-level c = search naming

pub returns-else-v-level : goal.returns-else-v-level
returns-else-v-level c = search naming
