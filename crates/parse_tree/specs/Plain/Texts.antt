-- Texts and their classes, and lists of texts by number. Assumes nothing: these are definitions.
use Rattle.std.specs.Prelude.{ℕ, suc, Bool, true, false, ◌&&◌, ◌||◌, not, List, [], ◌∷◌, ◌++◌, eqb, leb}
use Prim.Native.Char.{code}
use Prim.Native.String.{String}
use Prim.Native.String as Quoted
use Rattle.octets.specs.Plain.Runs.{same_as}
use Rattle.parse_tree.specs.Plain.Tree.{Text}

-- the bytes of a text that is written out, of ASCII characters
abbrev pub ascii : String → Text
ascii Quoted.[] = []
ascii (Quoted.◌∷◌ c cs) = code c ∷ ascii cs

-- whether every byte passes a test
unfoldable pub every : (ℕ → Bool) → Text → Bool
every f [] = true
every f (b ∷ bs) = f b && every f bs

abbrev pub between : ℕ → ℕ → ℕ → Bool
between a z b = leb a b && leb b z

-- "letter or `_`": A to Z, a to z, `_`
unfoldable pub starts_name : ℕ → Bool
starts_name b = between 0x41 0x5a b || between 0x61 0x7a b || eqb b 0x5f

-- "letters, digits, `_`"
unfoldable pub in_name : ℕ → Bool
in_name b = starts_name b || between 0x30 0x39 b

unfoldable pub is_identifier : Text → Bool
is_identifier [] = false
is_identifier (b ∷ bs) = starts_name b && every in_name bs

abbrev pub mut_text : Text
mut_text = ascii "mut"

abbrev pub error_text : Text
error_text = ascii "error"

-- "Names .. are nonempty: letter or `_`, then letters, digits, `_`; `mut` and `error` are refused"
unfoldable pub is_name : Text → Bool
is_name t = is_identifier t && (not (same_as t mut_text) && not (same_as t error_text))

-- "Quoted and regex texts and rhs use bytes 20 to 7e"
unfoldable pub is_literal : Text → Bool
is_literal t = every (between 0x20 0x7e) t

-- "action texts, keys and values bytes 00 to 7f"
unfoldable pub is_ascii : Text → Bool
is_ascii t = every (λ b. leb b 0x7f) t

-- whether a text is among others
unfoldable pub has : Text → List Text → Bool
has x [] = false
has x (t ∷ ts) = elim (same_as t x) [ true ↦ true | false ↦ has x ts ]

-- the number of a text: how many stand before the first that is equal
unfoldable pub number : List Text → Text → ℕ
number [] x = 0
number (t ∷ ts) x = elim (same_as t x) [ true ↦ 0 | false ↦ suc (number ts x) ]

-- "no two equal"
unfoldable pub distinct : List Text → Bool
distinct [] = true
distinct (t ∷ ts) = not (has t ts) && distinct ts

-- a list, then the texts of another that are not there yet, in their order
unfoldable pub with_new : List Text → List Text → List Text
with_new ts [] = ts
with_new ts (x ∷ xs) = elim (has x ts) [ true ↦ with_new ts xs | false ↦ with_new (ts ++ (x ∷ [])) xs ]
