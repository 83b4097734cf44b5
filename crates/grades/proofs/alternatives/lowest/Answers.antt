use native.Mathlib.Omega.{arith}
use Rattle.std.proofs.lemmas.Iterator.{YieldsList-from_range, YieldsList-from_map_by}
use Rattle.std.proofs.lemmas.Iterator.Consumers.{YieldsList-at}
use Rattle.std.proofs.lemmas.Iterator.Search.{YieldsList-from_take_while, find_from_yields_List}
use Rattle.std.specs.Prelude.{option_map}
use Rattle.grades.specs.declared.key.Key.{Key}
use Rattle.grades.proofs.AlternativesCode.{low_level, low_key, sided, lowering, lowest_is}
use Rattle.grades.proofs.alternatives.lowest.Goals as goal

pub returns : goal.returns
returns c =
    let w = c.args.work.now in
    let keys = c.args.keys in
    let places = c.args.places in
    let n = c.args.n in
    lowest_is w keys places n (option_map (λ (k : Key). k.number) c.find.result) c.and_then.result
    (find_from_yields_List sided _ _ c.find.result c.find.ensures.ran
    (YieldsList-from_map_by _ (λ (k : Key). k.number) (low_key w keys)
    (YieldsList-at c.map.ensures.source
    (YieldsList-from_take_while _ (low_level w keys) (YieldsList-from_range 0 n n c.take_while.ensures.source (omega arith)) c.take_while.ensures.closure c.take_while.ensures.done (λ x b q k. search lowering)))
    c.map.ensures.closure (λ x r q k. search lowering))
    (λ x b q k. search lowering))
    (search lowering)
