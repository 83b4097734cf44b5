-- What a text is used as, and which texts suit that. Assumes nothing: these are definitions.
use Rattle.std.specs.Prelude.{Bool, true}
use Rattle.parse_tree.specs.Plain.Tree.{Text}
use Rattle.parse_tree.specs.Plain.Texts.{is_name, is_literal, is_ascii}
use Rattle.texts.specs.declared.class.TextClass.{TextClass}

-- a text suits a use, which is the least class that does
abbrev pub fits : TextClass → Text → Bool
fits TextClass.Other t = true
fits TextClass.Ascii t = is_ascii t
fits TextClass.Literal t = is_literal t
fits TextClass.Name t = is_name t
