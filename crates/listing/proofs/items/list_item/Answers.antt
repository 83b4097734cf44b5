use Rattle.listing.proofs.ItemCode.{itemizing, lying, printing, somewhere}
use Rattle.listing.proofs.items.list_item.Goals as goal

pub bounds-work-at : goal.bounds-work-at
bounds-work-at c = search itemizing

pub put_head-q-requires : goal.put_head-q-requires
put_head-q-requires c = (search itemizing, search itemizing)

pub list_rest-requires : goal.list_rest-requires
list_rest-requires c = (search printing, search lying, search somewhere)

pub returns-then-c-eq16 : goal.returns-then-c-eq16
returns-then-c-eq16 c = search itemizing

pub returns : goal.returns
returns c = search itemizing
