-- The numbers of the built-in texts, nine words of eight bytes before the slots: 0, or the number and one. s is the tape, w is work. Assumes nothing: these are definitions.
use Rattle.std.specs.Prelude.{◌≡◌, false, ◌⊎◌, List, [], ◌∷◌, ℕ, ◌+◌, ◌-◌, ◌*◌, ◌/◌, ◌≤◌, ◌<◌, length, get_or, Option, Some, None}
use Rattle.octets.specs.Plain.Numbers.{le_at}
use Rattle.parse_tree.specs.Plain.Tree.{Text}
use Rattle.parse_tree.specs.Plain.Texts.{has, number, with_new}
use Rattle.laws.specs.Keys.{built_ins}
use Rattle.expander.specs.declared.Ground.{Ground}
use Rattle.expander.specs.declared.slots.Numbered.{Numbered}
use Rattle.expander.specs.Ground.{size_in, key_at, list_place, printed_at, Around}
use Rattle.expander.specs.Names.{listed_texts, named_in, Names}
use Rattle.appending.specs.declared.built.BuiltIn.{BuiltIn}

-- a text's number, by which it stands in work
abbrev pub number_of : BuiltIn → ℕ
number_of BuiltIn.EmptyVec = 0
number_of BuiltIn.Vector = 1
number_of BuiltIn.VecOfOne = 2
number_of BuiltIn.Pushed = 3
number_of BuiltIn.Element = 4
number_of BuiltIn.SomeOfOne = 5
number_of BuiltIn.Nothing = 6
number_of BuiltIn.Chosen = 7
number_of BuiltIn.All = 8

unfoldable pub built_text : ℕ → Text
built_text i = get_or built_ins i []

abbrev pub built_place : Ground → ℕ → ℕ
built_place g i = g.slots - 72 + 8 * i

abbrev pub built_at : List ℕ → Ground → ℕ → ℕ
built_at w g i = le_at 8 w (built_place g i)

-- the word of a text that has a number or none
abbrev pub word_of : Option ℕ → ℕ
word_of None = 0
word_of (Some k) = k + 1

-- the i-th has the number k
pub record BuiltIs (s w : List ℕ) (g : Ground) (c i k : ℕ) : Type 0 where
  pub word : built_at w g i ≡ k + 1
  pub below : k < length (named_in s w g c)
  pub is : get_or (named_in s w g c) k [] ≡ built_text i

-- the i-th was not asked for in this round, so it is none of the new texts
pub record BuiltNot (s w : List ℕ) (g : Ground) (c i : ℕ) : Type 0 where
  pub word : built_at w g i ≡ 0
  pub new : has (built_text i) (listed_texts s w g c) ≡ false

-- n symbols were pushed, none of which prints as a built-in text, and there is room for three records more, where no bucket has its head; c texts are new
pub record Built (s w : List ℕ) (g : Ground) (n c : ℕ) : Type 0 where
  pub room : n + 3 ≤ size_in g / 9
  pub heads : g.buckets + 3 ≤ size_in g / 9
  pub list : list_place g (n + 9) ≤ g.keys
  pub other : (j : ℕ) → j < n → has (printed_at s w g (key_at w g j)) built_ins ≡ false
  pub words : (i : ℕ) → i < 9 → BuiltNot s w g c i ⊎ ((k : ℕ) × BuiltIs s w g c i k)

-- r is the number of the text t, which is the next one if it is new
pub record Gives (s w : List ℕ) (g : Ground) (n c : ℕ) (ps : List ℕ) (t : Text) (r : Numbered) (w' : List ℕ) : Type 0 where
  pub is : r.number ≡ number (named_in s w' g r.count) t
  pub texts-are : named_in s w' g r.count ≡ with_new (named_in s w g c) (t ∷ [])
  pub names : Names s w' g n r.count ps
  pub built : Built s w' g n r.count
  pub pile : (j : ℕ) → j < n → key_at w' g j ≡ key_at w g j
  pub around : Around g w w'

-- there are such places
pub record SomeBuilt (s w : List ℕ) (g : Ground) (n c : ℕ) : Type 0 where
  pub places : List ℕ
  pub names : Names s w g n c places
  pub built : Built s w g n c

-- the number of the i-th built-in text
unfoldable pub GivesBuilt : List ℕ → List ℕ → Ground → ℕ → ℕ → ℕ → Numbered → List ℕ → Type 0
GivesBuilt s w g n c i r w' = (ps : List ℕ) → Names s w g n c ps → Built s w g n c → Gives s w g n c ps (built_text i) r w'
