use mathlib.Core.Logic.{inl, inr}
use Rattle.rounds.proofs.JudgeCode.{judging_counts}
use Rattle.rounds.proofs.judge.judge_counts.Goals as goal

pub returns-then-beyond : goal.returns-then-beyond
returns-then-beyond c = elim c.if-beyond.either [ inl a ↦ search judging_counts | inr b ↦ search judging_counts ]

pub returns-else-beyond : goal.returns-else-beyond
returns-else-beyond c = search judging_counts
