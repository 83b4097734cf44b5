-- The map of work. Assumes nothing: these are definitions.
use Rattle.std.specs.Prelude.{ℕ, ◌*◌}
use Rattle.validate.specs.declared.regions.Regions.{Regions}

-- where the regions begin, the tape's items having n bytes
unfoldable pub regions_of : ℕ → Regions
regions_of n = record { list = 48; items = 7 * n; records = 8 * n }
