use Rattle.expander.proofs.SlotsCode.{referring}
use Rattle.expander.proofs.slots.reference.Goals as goal

pub tells-requires : goal.tells-requires
tells-requires c = search referring

pub returns-in-Text : goal.returns-in-Text
returns-in-Text c = search referring

pub mark-requires : goal.mark-requires
mark-requires c = search referring

pub tells-requires-in-Pushed : goal.tells-requires-in-Pushed
tells-requires-in-Pushed c = search referring

pub returns-in-Pushed : goal.returns-in-Pushed
returns-in-Pushed c = search referring
