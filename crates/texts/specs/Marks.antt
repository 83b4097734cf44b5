-- Where the command of a text stands, by the text's mark x and the length n of the tape. Assumes nothing: these are definitions.
use Rattle.std.specs.Prelude.{ℕ, ◌+◌, ◌*◌, ◌/◌, ltb}
use Rattle.octets.specs.Working.Choice.{pick}
use Rattle.texts.specs.declared.mark.Stand.{Stand}

unfoldable pub stand_of : ℕ → ℕ → Stand
stand_of n x = pick (ltb x (4 * n)) (Stand.Tape (x / 4)) (Stand.Work (x + 4 * n))
