-- Printed forms held against a text t, and their parts by the code c of the command at a place of work w. wd is the width of an atom's number in bytes, ts are the texts.
-- Assumes nothing: these are definitions.
use Rattle.std.specs.Prelude.{◌≡◌, Bool, Option, Some, None, List, [], ◌∷◌, ◌++◌, ℕ, ◌+◌, eqb, ltb, length, get_or}
use Rattle.octets.specs.Working.Choice.{pick}
use Rattle.octets.specs.Plain.Numbers.{le_at}
use Rattle.parse_tree.specs.Plain.Tree.{Text, Sym}
use Rattle.parse_tree.specs.Plain.Display.{escaped, print}
use Rattle.texts.specs.declared.Map.{Map}
use Rattle.display.specs.declared.Met.{Met}
use Rattle.display.specs.declared.follow.Held.{Held}
use Rattle.display.specs.Standing.{SymStands}

-- the place in t behind the byte b, if it stands at i; none after a difference
unfoldable pub met_one : Text → Option ℕ → ℕ → Option ℕ
met_one t None b = None
met_one t (Some i) b = pick (ltb i (length t)) (pick (eqb (get_or t i 0) b) (Some (i + 1)) None) None

-- behind the bytes xs
unfoldable pub met_by : Text → Option ℕ → Text → Option ℕ
met_by t i [] = i
met_by t i (x ∷ xs) = met_by t (met_one t i x) xs

-- `"x"`
unfoldable pub quoted_text : Text → Text
quoted_text x = 0x22 ∷ (escaped x [] ++ (0x22 ∷ []))

-- the text whose number stands at a place
unfoldable pub word_at : ℕ → List Text → List ℕ → ℕ → Text
word_at wd ts w at = get_or ts (le_at wd w at) []

-- a leaf whose text is x
unfoldable pub leaf_text : ℕ → Text → Text
leaf_text c x = pick (eqb c 34) (quoted_text x) (pick (eqb c 35) (0x72 ∷ 0x23 ∷ (quoted_text x ++ (0x23 ∷ []))) x)

-- a leaf that has none
unfoldable pub mark_text : ℕ → Text
mark_text c = pick (eqb c 42) (0x40 ∷ 0x4c ∷ []) (pick (eqb c 43) (0x40 ∷ 0x52 ∷ []) (0x65 ∷ 0x72 ∷ 0x72 ∷ 0x6f ∷ 0x72 ∷ []))

-- `mut ` by the byte b
unfoldable pub label_text : ℕ → Text
label_text b = pick (eqb b 1) (0x6d ∷ 0x75 ∷ 0x74 ∷ 0x20 ∷ []) []

-- a name x of a symbol
unfoldable pub name_text : ℕ → Text → Text
name_text b x = label_text b ++ (x ++ (0x3a ∷ []))

-- what stands before the symbols straight inside: all of a leaf
unfoldable pub before_by : ℕ → List Text → List ℕ → ℕ → ℕ → Text
before_by wd ts w at c =
    pick (ltb c 37) (leaf_text c (word_at wd ts w (at + 9)))
    (pick (eqb c 37) (word_at wd ts w (at + 9) ++ (0x3c ∷ []))
    (pick (eqb c 38) []
    (pick (eqb c 39) (0x3c ∷ [])
    (pick (eqb c 40) (name_text (get_or w (at + 9) 0) (word_at wd ts w (at + 10)))
    (pick (eqb c 41) (0x28 ∷ []) (mark_text c))))))

unfoldable pub op_byte : ℕ → ℕ
op_byte op = pick (eqb op 0) 42 (pick (eqb op 1) 43 63)

-- behind them
unfoldable pub behind_by : List ℕ → ℕ → ℕ → Text
behind_by w at c =
    pick (eqb c 37) (0x3e ∷ [])
    (pick (eqb c 38) (op_byte (get_or w (at + 9) 0) ∷ [])
    (pick (eqb c 39) (0x3e ∷ [])
    (pick (eqb c 41) (0x29 ∷ []) [])))

-- before the k-th of them
unfoldable pub between_by : ℕ → ℕ → Text
between_by c k = pick (eqb k 0) [] (pick (eqb c 37) (0x2c ∷ 0x20 ∷ []) (0x20 ∷ []))

-- how many bytes were met, if all were the text's
unfoldable pub index_of : Option Met → Option ℕ
index_of (Some r) = Some r.i
index_of None = None

module _ (s w : List ℕ) (m : Map) (wd left : ℕ) where
  -- from p on, the printed form of each symbol that stands there was held against t: r is the place behind it, or none after a difference
  pub record Follows (t : Text) (p : Met) (r : Option Met) : Type 0 where
    pub place : (q : Met) → r ≡ Some q → (four : Bool) (e : ℕ) (x : Sym) → SymStands s w m wd four left p.at e x → q.at ≡ e
    pub met : (four : Bool) (e : ℕ) (x : Sym) → SymStands s w m wd four left p.at e x → index_of r ≡ met_by t (Some p.i) (print x)

-- with a byte more
unfoldable pub held_more : Held → ℕ → Held
held_more x b = record { text = x.text; at = met_one x.text.now x.at b }
