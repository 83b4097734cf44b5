-- A choice by a test. Assumes nothing: these are definitions.
use Rattle.std.specs.Prelude.{Bool, true, false}

-- the first where the test holds, else the second
unfoldable pub pick : {A : Type 0} → Bool → A → A → A
pick true a b = a
pick false a b = b
