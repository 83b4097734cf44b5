use Rattle.std.proofs.lemmas.Result.{err_from_is_err_and}
use Rattle.validate.proofs.ItemsCode.{item}
use Rattle.validate.proofs.items.item.Goals as goal

pub returns-in-Some : goal.returns-in-Some
returns-in-Some c = search item

pub returns-in-Some-quick_terminal : goal.returns-in-Some-quick_terminal
returns-in-Some-quick_terminal c = search item

pub returns-in_err-n : goal.returns-in_err-n
returns-in_err-n c = let p = err_from_is_err_and c.from_residual.result c.from_residual.ensures.1 in rw (p.1, p.2) (search item)

pub returns-in-Terminal : goal.returns-in-Terminal
returns-in-Terminal c = search (item, c.in_ok-n.was)

pub returns-in-Nonterminal : goal.returns-in-Nonterminal
returns-in-Nonterminal c = search (item, c.in_ok-n.was)

pub unreachable-requires : goal.unreachable-requires
unreachable-requires c = search (item, c.in_ok-n.was)
