use mathlib.Core.Path.{sym, ◌∙◌}
use Rattle.texts.proofs.ClassByCode.{judging}
use Rattle.texts.proofs.class.class_by.Goals.{then-e-a, else-e-a, then-not-starts_name, else-not-starts_name}
use Rattle.texts.proofs.class.class_by.Goals as goal

pub returns-then-lt : goal.returns-then-lt
returns-then-lt c = search judging

pub returns-then-is_reserved : goal.returns-then-is_reserved
returns-then-is_reserved c =
    elim c.if-not-starts_name.branch [
      | then-not-starts_name w ↦
          elim c.if-e-a.branch [ then-e-a v ↦ search judging | else-e-a v ↦ search (judging, sym v.value-is ∙ w.if-not-starts_name.true) ]
      | else-not-starts_name w ↦ search (judging, sym w.value-is ∙ c.if-is_reserved.true)
    ]

pub returns-else-is_reserved : goal.returns-else-is_reserved
returns-else-is_reserved c =
    elim c.if-not-starts_name.branch [
      | then-not-starts_name w ↦ search judging
      | else-not-starts_name w ↦
          elim c.if-e-a.branch [
            | then-e-a v ↦ search judging
            | else-e-a v ↦ search (judging, sym v.value-is ∙ w.if-not-starts_name.false, sym w.value-is ∙ c.if-is_reserved.false)
          ]
    ]
