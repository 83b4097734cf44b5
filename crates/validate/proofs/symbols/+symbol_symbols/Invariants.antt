use Rattle.validate.specs.Steps.{step_of}
use Rattle.texts.specs.Atoms.{atoms_of}
use Rattle.parse_tree.specs.Plain.Reading.{times}
use Rattle.parse_tree.specs.Working.Decode.{read_sym}
use mathlib.Core.Path.{◌≡◌}
use Prim.Native.Nat.{◌*◌, ◌+◌, ◌-◌}
use Rattle.validate.proofs.symbols.+symbol_symbols.Given as goal

abbrev pub decreases-symbol : goal.decreases-symbol
decreases-symbol l = 2 * l.left

abbrev pub decreases-symbols : goal.decreases-symbols
decreases-symbols l = 2 * l.left + 1

abbrev pub invariant-symbols-loop : goal.invariant-symbols-loop
invariant-symbols-loop l = step_of (times (read_sym l.fn.r.atoms.four l.fn.r.atoms.width.bytes l.fn.r.tape.now (atoms_of l.fn.r.tape.now l.fn.r.atoms.texts.count) l.left) (l.n - l.counter) l.p) ≡ step_of (times (read_sym l.fn.r.atoms.four l.fn.r.atoms.width.bytes l.fn.r.tape.now (atoms_of l.fn.r.tape.now l.fn.r.atoms.texts.count) l.left) l.n l.at)
