use Rattle.std.proofs.lemmas.Result.{err_from_is_err_and}
use Rattle.resolve.proofs.ItemsCode.{itemizing}
use Rattle.resolve.proofs.items.validate_item.Goals as goal

pub returns-then-t-p : goal.returns-then-t-p
returns-then-t-p c = search itemizing

pub returns-then-not-validate_macro_args : goal.returns-then-not-validate_macro_args
returns-then-not-validate_macro_args c = search itemizing

pub returns-in_err-validate_commands : goal.returns-in_err-validate_commands
returns-in_err-validate_commands c = let p = err_from_is_err_and c.from_residual.result c.from_residual.ensures.1 in rw (p.1, p.2) (search itemizing)

pub returns : goal.returns
returns c = search (itemizing, c.in_ok-validate_commands.was)
