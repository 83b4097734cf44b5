use Rattle.std.proofs.Common.{rules, ◌∙◌}
use Rattle.std.proofs.lemmas.Iterator.{YieldsList-from_slice}
use Rattle.std.proofs.lemmas.Iterator.Consumers.{fold_from_yields_List}
use Rattle.texts.specs.Hash.{hash_step}
use Rattle.texts.proofs.HashLaws.{hash_folds}
use Rattle.texts.proofs.hash.hash.Goals as goal

pub returns : goal.returns
returns c =
    fold_from_yields_List _ hash_step 0 c.fold.result c.fold.ensures.ran (YieldsList-from_slice c.args.t.now cc) (λ a x b q k. search rules)
    ∙ hash_folds c.args.t.now
