-- The classes by their numbers: that of each byte, the lesser of two, and which is less. Assumes nothing.
use mathlib.Core.Path.{◌≡◌, refl}
use mathlib.Core.Bool.{true}
use Prim.Native.Nat.{ℕ, ◌<◌, min}
use native.Mathlib.Omega.{arith}
use denote.Enum.Declared.{tag_of}
use borrow.Author.Tests.{eqb-true}
use lib.Dec.{eqb, leb, ltb}
use lib.ListN.{get_or}
use Rattle.std.proofs.Common.{is_lt, is_le}
use Rattle.std.proofs.lemmas.Bool.{agree_below_at}
use Rattle.std.specs.Ordering.{ord_min, is_some_and}
use Rattle.texts.specs.contracts.class.TextClassOrd.TheImpl.{cmp-value}
use Rattle.texts.specs.contracts.class.TextClassPartialOrd.TheImpl.{partial_cmp-value}
use Rattle.octets.specs.Working.Choice.{pick}
use Rattle.parse_tree.specs.Plain.Texts.{in_name, starts_name}
use Rattle.texts.specs.contracts.class.TextClass.{the_type}
use Rattle.texts.specs.declared.class.TextClass.{TextClass}
use Rattle.texts.specs.declared.class.TheConstants.{CLASSES}
use Rattle.texts.specs.Classes.{byte_class, class_number}

pub tag_number : (c : TextClass) → tag_of the_type c ≡ class_number c
unfolding class_number
tag_number TextClass.Other = refl
tag_number TextClass.Ascii = refl
tag_number TextClass.Literal = refl
tag_number TextClass.Name = refl

pub lesser_number : (a b c : TextClass) → c ≡ ord_min (cmp-value).it a b → class_number c ≡ min (class_number a) (class_number b)
unfolding class_number
lesser_number a b c e = grind (arith)

pub less_number : (a b : TextClass) → is_some_and is_lt ((partial_cmp-value).it a b) ≡ ltb (class_number a) (class_number b)
unfolding class_number
less_number a b = grind (arith)

pub upto_number : (a b : TextClass) → is_some_and is_le ((partial_cmp-value).it a b) ≡ leb (class_number a) (class_number b)
unfolding class_number
upto_number a b = grind (arith)

-- each entry of the table, by computing
pub entry_class : (b : ℕ) → b < 256 → class_number (get_or CLASSES b TextClass.Other) ≡ byte_class b
unfolding class_number byte_class pick in_name starts_name
entry_class b h = eqb-true (class_number (get_or CLASSES b TextClass.Other)) (byte_class b) (agree_below_at (λ x. eqb (class_number (get_or CLASSES x TextClass.Other)) (byte_class x)) (λ _. true) 256 b refl h)
