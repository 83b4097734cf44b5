use Rattle.again.proofs.ListCode.{listing}
use Rattle.again.proofs.list.list_items.Goals as goal
use Rattle.again.proofs.list.list_items.Goals.{then-is_item, else-is_item}

pub overflow_mul-n : goal.overflow_mul-n
overflow_mul-n c = search listing

pub overflow_add-list : goal.overflow_add-list
overflow_add-list c = search listing

pub store64-requires : goal.store64-requires
store64-requires c = search listing

pub overflow_add-n : goal.overflow_add-n
overflow_add-n c = search listing

pub loop-p-preserved : goal.loop-p-preserved
loop-p-preserved c = elim c.if-is_item.branch [ then-is_item w ↦ search listing | else-is_item w ↦ search listing ]

pub returns : goal.returns
returns c = search listing
