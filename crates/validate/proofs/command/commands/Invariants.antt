use Rattle.validate.specs.Steps.{step_of}
use Rattle.texts.specs.Atoms.{atoms_of}
use Rattle.parse_tree.specs.Plain.Reading.{times}
use Rattle.parse_tree.specs.Working.Places.{row}
use Rattle.parse_tree.specs.Working.Decode.{ask}
use mathlib.Core.Path.{◌≡◌}
use Prim.Native.Nat.{◌-◌}
use Rattle.validate.proofs.command.commands.Given as goal

abbrev pub invariant-loop : goal.invariant-loop
invariant-loop l = step_of (times (ask l.r.atoms.four l.r.atoms.width.bytes l.r.tape.now (atoms_of l.r.tape.now l.r.atoms.texts.count) (row l.place) 1) (l.n - l.counter) l.p) ≡ step_of (times (ask l.r.atoms.four l.r.atoms.width.bytes l.r.tape.now (atoms_of l.r.tape.now l.r.atoms.texts.count) (row l.place) 1) l.n l.at)
