use Rattle.validate.proofs.ItemsCode.{nonterminal_parts_lem}
use Rattle.validate.proofs.items.nonterminal_parts.Goals as goal

pub returns-in_err-e : goal.returns-in_err-e
returns-in_err-e c = search nonterminal_parts_lem

pub returns : goal.returns
returns c = search nonterminal_parts_lem
