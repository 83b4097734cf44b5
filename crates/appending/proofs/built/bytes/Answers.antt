use Rattle.std.proofs.Common.{rules}
use Rattle.laws.specs.Keys.{built_ins}
use Rattle.appending.specs.Built.{built_text}
use Rattle.appending.proofs.built.bytes.Goals as goal

pub returns-in-EmptyVec : goal.returns-in-EmptyVec
unfolding built_text built_ins
returns-in-EmptyVec c = search rules

pub returns-in-Vector : goal.returns-in-Vector
unfolding built_text built_ins
returns-in-Vector c = search rules

pub returns-in-VecOfOne : goal.returns-in-VecOfOne
unfolding built_text built_ins
returns-in-VecOfOne c = search rules

pub returns-in-Pushed : goal.returns-in-Pushed
unfolding built_text built_ins
returns-in-Pushed c = search rules

pub returns-in-Element : goal.returns-in-Element
unfolding built_text built_ins
returns-in-Element c = search rules

pub returns-in-SomeOfOne : goal.returns-in-SomeOfOne
unfolding built_text built_ins
returns-in-SomeOfOne c = search rules

pub returns-in-Nothing : goal.returns-in-Nothing
unfolding built_text built_ins
returns-in-Nothing c = search rules

pub returns-in-Chosen : goal.returns-in-Chosen
unfolding built_text built_ins
returns-in-Chosen c = search rules

pub returns-in-All : goal.returns-in-All
unfolding built_text built_ins
returns-in-All c = search rules
