use Rattle.validate.specs.Steps.{step_of}
use Rattle.texts.specs.Atoms.{atoms_of}
use Rattle.parse_tree.specs.Working.Decode.{read_alternative}
use Rattle.parse_tree.specs.Plain.Reading.{times}
use mathlib.Core.Path.{◌≡◌}
use Prim.Native.Nat.{◌-◌}
use Rattle.validate.proofs.items.alternatives.Given as goal

abbrev pub invariant-loop : goal.invariant-loop
invariant-loop l = step_of (times (read_alternative l.r.atoms.four l.r.atoms.width.bytes l.r.tape.now (atoms_of l.r.tape.now l.r.atoms.texts.count)) (l.n - l.counter) l.p) ≡ step_of (times (read_alternative l.r.atoms.four l.r.atoms.width.bytes l.r.tape.now (atoms_of l.r.tape.now l.r.atoms.texts.count)) l.n l.at)
