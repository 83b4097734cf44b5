use Rattle.texts.proofs.SearchCode.{telling}
use Rattle.texts.proofs.chain.fn.rest.find.Goals as goal

pub returns-then-hash-h : goal.returns-then-hash-h
returns-then-hash-h g c = search telling

pub returns-else-hash-h : goal.returns-else-hash-h
returns-else-hash-h g c = search telling
