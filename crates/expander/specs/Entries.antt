-- What an entry of the list of new texts describes. Assumes nothing: these are definitions.
use Rattle.std.specs.Prelude.{ℕ, ◌+◌, ◌*◌}
use Rattle.expander.specs.declared.entries.NewText.{NewText}

-- an entry as it stands in work: twice the number of a record, or twice that of a built-in text, and one
abbrev pub entry_code : NewText → ℕ
entry_code (NewText.Print j) = 2 * j
entry_code (NewText.BuiltIn k) = 2 * k + 1
