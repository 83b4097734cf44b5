use Rattle.appending.proofs.BuiltCode.{asking}
use Rattle.appending.proofs.built.first.Goals as goal

pub put_word-requires : goal.put_word-requires
put_word-requires c = (search asking, search asking, search asking)

pub put_next-requires : goal.put_next-requires
put_next-requires c = (search asking, search asking, search asking)

pub overflow_add-result : goal.overflow_add-result
overflow_add-result c = search asking

pub overflow_add-result-in-None : goal.overflow_add-result-in-None
overflow_add-result-in-None c = search asking

pub returns-in-Some : goal.returns-in-Some
returns-in-Some c = search asking

pub returns-in-None : goal.returns-in-None
returns-in-None c = search asking
