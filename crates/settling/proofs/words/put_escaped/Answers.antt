use mathlib.Core.Path.{◌≡◌, ◌∙◌}
use native.Mathlib.Omega.{arith}
use borrow.Author.Rules.{rules}
use lib.ListN.{get_or}
use Rattle.settling.proofs.WordsCode.{standing, here_behind, here_inside, here_escaped, tape_escaped}
use Rattle.settling.proofs.words.put_escaped.Goals as goal

pub escape-requires-in-Work-clause-inside : goal.escape-requires-in-Work-clause-inside
escape-requires-in-Work-clause-inside c = search standing

pub escape-requires-in-Work-clause-reads : goal.escape-requires-in-Work-clause-reads
escape-requires-in-Work-clause-reads c = search standing

pub returns-in-Tape : goal.returns-in-Tape
returns-in-Tape c = tape_escaped _ _ _ _ c.in-Tape.is _ _ _ (c.escape.ensures c.in-Tape.t.now (omega arith) (λ x i b k l m q. search rules))

pub returns-in-Work : goal.returns-in-Work
returns-in-Work c =
    let f = c.requires.2 in
    let t =
    c.escape-in-Work.ensures c.args.work.now (here_inside _ _ _ _ _ c.in-Work.is f)
    (λ x i b k l m q. (let z : b ≡ get_or x.now i 0 = search rules in z) ∙ k.kept i (omega (arith, here_behind _ _ _ _ _ c.in-Work.is f))) in
    here_escaped _ _ _ _ _ c.in-Work.is f _ _ _ t
