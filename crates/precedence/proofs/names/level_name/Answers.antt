use Rattle.precedence.proofs.NamesDescribeCode.{level_naming}
use Rattle.precedence.proofs.names.level_name.Goals as goal

pub level_hash-h-requires : goal.level_hash-h-requires
level_hash-h-requires c = search level_naming

pub returns-in-Some : goal.returns-in-Some
returns-in-Some c = search level_naming

pub returns-in-None : goal.returns-in-None
returns-in-None c = search level_naming
