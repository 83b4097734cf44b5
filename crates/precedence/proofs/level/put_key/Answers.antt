use Rattle.precedence.proofs.LevelKeyCode.{key_annotated, keyed}
use Rattle.precedence.proofs.level.put_key.Goals as goal

pub whole_alternative-requires : goal.whole_alternative-requires
whole_alternative-requires c = search keyed

pub overflow_add-p : goal.overflow_add-p
overflow_add-p c = search keyed

pub annotations-f-requires : goal.annotations-f-requires
annotations-f-requires c = search key_annotated

pub put_alternative-requires : goal.put_alternative-requires
put_alternative-requires c = search keyed

pub returns : goal.returns
returns c = search keyed
