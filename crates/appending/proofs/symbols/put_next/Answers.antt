use Prim.Native.Nat.{◌+◌, ◌<◌}
use lib.ListN.{length}
use Rattle.appending.proofs.SymbolsNextCode.{coming}
use Rattle.appending.proofs.symbols.put_next.Goals as goal

pub bounds-work-at : goal.bounds-work-at
bounds-work-at c = search coming

pub put_reference-run-requires : goal.put_reference-run-requires
put_reference-run-requires c = search coming

pub returns-then-is_expanded : goal.returns-then-is_expanded
returns-then-is_expanded c = search coming

pub inside_at-requires : goal.inside_at-requires
inside_at-requires c = search coming

pub overflow_add-many : goal.overflow_add-many
overflow_add-many c = search coming

pub copy_command-run-requires : goal.copy_command-run-requires
copy_command-run-requires c = search coming

pub returns-else-is_expanded : goal.returns-else-is_expanded
returns-else-is_expanded c = search coming

pub overflow_add-at : goal.overflow_add-at
overflow_add-at c = let z : c.args.round.now.g.from + c.args.x.run.at < length c.args.work.now = search coming in search coming
