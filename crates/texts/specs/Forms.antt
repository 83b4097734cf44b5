-- Hash, power and length of a text: how they come from those of its parts. B is the multiplier. Assumes nothing: these are definitions.
use Rattle.std.specs.Prelude.{ℕ, ◌+◌, ◌*◌, ◌%◌, List, ltb, length}
use Rattle.octets.specs.Working.Choice.{pick}
use Rattle.texts.specs.Hash.{hash_by, power_by}

-- lengths stop at 65,536
unfoldable pub stop : ℕ → ℕ
stop n = pick (ltb n 65536) n 65536

-- hash, power and length of a text or of a printed form
pub record Form : Type 0 where
  pub hash : ℕ
  pub power : ℕ
  pub len : ℕ

module _ (B : ℕ) where
  unfoldable pub form_of : List ℕ → Form
  form_of t = record { hash = hash_by B 0 t; power = power_by B (length t); len = stop (length t) }

  -- one text behind another
  unfoldable pub join : Form → Form → Form
  join x y = record { hash = (x.hash * y.power + y.hash) % 4294967296; power = x.power * y.power % 4294967296; len = stop (x.len + y.len) }

  -- one byte more
  unfoldable pub more : Form → ℕ → Form
  more x b = record { hash = (x.hash + b) * B % 4294967296; power = x.power * B % 4294967296; len = stop (x.len + 1) }
