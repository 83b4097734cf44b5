-- The class of a text as a number. Assumes nothing: these are definitions.
use Rattle.std.specs.Prelude.{ℕ, [], ◌∷◌, min, ltb}
use Rattle.octets.specs.Working.Choice.{pick}
use Rattle.parse_tree.specs.Plain.Tree.{Text}
use Rattle.parse_tree.specs.Plain.Texts.{is_name, is_literal, is_ascii, in_name}
use Rattle.texts.specs.declared.class.TextClass.{TextClass}

-- 3 a name, 2 another text of bytes 20 to 7e, 1 another of bytes 00 to 7f, 0 any other
unfoldable pub text_class : Text → ℕ
text_class t = pick (is_name t) 3 (pick (is_literal t) 2 (pick (is_ascii t) 1 0))

-- ---- how the code finds it: 3 for a byte that a name may hold, and the least class of all bytes
unfoldable pub byte_class : ℕ → ℕ
byte_class b = pick (ltb 127 b) 0 (pick (ltb b 32) 1 (pick (ltb 126 b) 1 (pick (in_name b) 3 2)))

unfoldable pub least : ℕ → Text → ℕ
least m [] = m
least m (b ∷ bs) = least (min m (byte_class b)) bs

-- the number of the code's class
unfoldable pub class_number : TextClass → ℕ
class_number TextClass.Other = 0
class_number TextClass.Ascii = 1
class_number TextClass.Literal = 2
class_number TextClass.Name = 3
