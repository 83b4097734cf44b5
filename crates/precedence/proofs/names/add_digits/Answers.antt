use Prim.Native.Nat.{ℕ}
use lib.ListN.{get_or}
use Rattle.std.proofs.Common.{rules, arith, refl, ◌∙◌}
use Rattle.std.proofs.lemmas.Iterator.{YieldsList-from_range}
use Rattle.std.proofs.lemmas.Iterator.Consumers.{fold_from_yields_List}
use Rattle.texts.specs.Hash.{hash_step}
use Rattle.grades.specs.Grade.{level_digits}
use Rattle.precedence.proofs.NamesHashCode.{digits_fold}
use Rattle.precedence.proofs.names.add_digits.Goals as goal

pub returns : goal.returns
returns c =
    let xs = level_digits c.args.v in
    let n = c.decimal_size.result in
    fold_from_yields_List _ (λ (a i : ℕ). hash_step a (get_or xs i 0)) c.args.x c.fold.result c.fold.ensures.ran (YieldsList-from_range 0 n n refl (omega arith)) (λ a i b q k. search rules)
    ∙ digits_fold xs n c.args.x (search rules)
