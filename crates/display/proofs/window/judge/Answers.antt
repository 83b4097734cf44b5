use Rattle.display.proofs.WindowSeen.{judging}
use Rattle.display.proofs.window.judge.Goals as goal

pub returns-then-i-j : goal.returns-then-i-j
returns-then-i-j c = search judging

pub returns-then-eq : goal.returns-then-eq
returns-then-eq c = search judging

pub returns-else-eq : goal.returns-else-eq
returns-else-eq c = search judging

pub returns-then-eq-2 : goal.returns-then-eq-2
returns-then-eq-2 c = search judging

pub returns-else-eq-2 : goal.returns-else-eq-2
returns-else-eq-2 c = search judging
