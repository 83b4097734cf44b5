use Rattle.listing.proofs.AlternativeCode.{alternating, lasting}
use Rattle.listing.proofs.alternatives.list_alternative.Goals as goal

pub whole_alternative-requires : goal.whole_alternative-requires
whole_alternative-requires c = search alternating

pub symbols-b-requires : goal.symbols-b-requires
symbols-b-requires c = search alternating

pub print_list-z-requires : goal.print_list-z-requires
print_list-z-requires c = (search alternating, search alternating)

pub put_tail-r-requires : goal.put_tail-r-requires
put_tail-r-requires c = (search alternating, search lasting)

pub returns : goal.returns
returns c = search alternating
