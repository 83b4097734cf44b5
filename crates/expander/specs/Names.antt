-- The texts that are numbered so far, and the references of symbols to them, whatever the slots of crate replacing are: what naming symbols needs once all are noted.
-- s is the tape, w is work. Assumes nothing: these are definitions.
use Rattle.std.specs.Prelude.{◌≡◌, true, false, ◌⊎◌, List, [], ◌∷◌, ◌++◌, ℕ, zero, suc, ◌+◌, ◌*◌, ◌/◌, ◌%◌, ◌≤◌, ◌<◌, eqb, length, get_or}
use Rattle.octets.specs.Working.Choice.{pick}
use Rattle.parse_tree.specs.Plain.Tree.{Text}
use Rattle.parse_tree.specs.Plain.Texts.{has, number, distinct, with_new}
use Rattle.texts.specs.Table.{texts}
use Rattle.laws.specs.Keys.{built_ins}
use Rattle.replacing.specs.Slots.{among}
use Rattle.expander.specs.declared.Ground.{Ground}
use Rattle.expander.specs.declared.slots.Numbered.{Numbered}
use Rattle.expander.specs.Ground.{size_in, slot_at, key_at, list_place, list_at, printed_at, Records}
use Rattle.expander.specs.Held.{followed, Refers, Listed}

-- the text of an entry v of the list of new texts: the print of a pushed symbol, or one of the nine built-in texts
unfoldable pub described_by : List ℕ → List ℕ → Ground → ℕ → Text
described_by s w g v = pick (eqb (v % 2) 0) (printed_at s w g (key_at w g (v / 2))) (get_or built_ins (v / 2) [])

unfoldable pub listed_texts : List ℕ → List ℕ → Ground → ℕ → List Text
listed_texts s w g zero = []
listed_texts s w g (suc c) = listed_texts s w g c ++ (described_by s w g (list_at w g c) ∷ [])

-- the texts by number, c of them new
unfoldable pub named_in : List ℕ → List ℕ → Ground → ℕ → List Text
named_in s w g c = texts s w g.m ++ listed_texts s w g c

-- a followed reference v of the symbol at p: the number of its text; or a pushed symbol that prints so, and no text does yet
pub record NameRef (s w : List ℕ) (g : Ground) (n c p v : ℕ) : Type 0 where
  pub even : v % 2 ≡ 0 → (v / 2 < length (named_in s w g c)) × (get_or (named_in s w g c) (v / 2) [] ≡ printed_at s w g p)
  pub odd : v % 2 ≡ 1 → (v / 2 < n) × (printed_at s w g (key_at w g (v / 2)) ≡ printed_at s w g p) × (has (printed_at s w g p) (named_in s w g c) ≡ false)

-- n symbols were pushed, c texts are new; the symbols at ps have references
pub record Names (s w : List ℕ) (g : Ground) (n c : ℕ) (ps : List ℕ) : Type 0 where
  pub records : Records s w g n
  pub room : list_place g c ≤ g.keys
  pub apart : distinct (named_in s w g c) ≡ true
  pub entries : (i : ℕ) → i < c → (list_at w g i % 2 ≡ 0 → list_at w g i / 2 < n) × (list_at w g i % 2 ≡ 1 → list_at w g i / 2 < 9)
  pub pushed : (j : ℕ) → j < n → among (key_at w g j) ps ≡ true
  pub inside : (p : ℕ) → among p ps ≡ true → p + 9 ≤ size_in g
  pub off : (p q : ℕ) → among p ps ≡ true → among q ps ≡ true → (p ≡ q) ⊎ (p + 9 ≤ q) ⊎ (q + 9 ≤ p)
  pub refers : (p : ℕ) → among p ps ≡ true → Refers n (g.m.count + c) (slot_at w g p)
  pub refs : (p : ℕ) → among p ps ≡ true → NameRef s w g n c p (followed w g (slot_at w g p))
  pub own : (j : ℕ) → j < n → slot_at w g (key_at w g j) % 2 ≡ 1 → slot_at w g (key_at w g j) ≡ 2 * j + 1
  -- no two pushed symbols without a number print alike
  pub unlike : (i j : ℕ) → i < n → j < n → slot_at w g (key_at w g i) % 2 ≡ 1 → slot_at w g (key_at w g j) % 2 ≡ 1 → printed_at s w g (key_at w g i) ≡ printed_at s w g (key_at w g j) → i ≡ j

-- p is one of them
pub record SomeNamed (s w : List ℕ) (g : Ground) (n c p : ℕ) : Type 0 where
  pub places : List ℕ
  pub names : Names s w g n c places
  pub here : among p places ≡ true

-- there is room in the list for the text of the symbol at p, if it has no number yet
pub record NameRoom (w : List ℕ) (g : Ground) (c p : ℕ) : Type 0 where
  pub more : followed w g (slot_at w g p) % 2 ≡ 1 → list_place g c + 8 ≤ g.keys

-- r is the number of the symbol's text, which is the next one if it is new
pub record NamedBy (s w : List ℕ) (g : Ground) (n c p : ℕ) (ps : List ℕ) (r : Numbered) (w' : List ℕ) : Type 0 where
  pub is : r.number ≡ number (named_in s w' g r.count) (printed_at s w g p)
  pub texts-are : named_in s w' g r.count ≡ with_new (named_in s w g c) (printed_at s w g p ∷ [])
  pub names : Names s w' g n r.count ps
  pub changed : Listed g w w'
  pub most : r.count ≤ c + 1
  pub least : c ≤ r.count

unfoldable pub NamesOne : List ℕ → List ℕ → Ground → ℕ → ℕ → ℕ → Numbered → List ℕ → Type 0
NamesOne s w g n c p r w' = (ps : List ℕ) → Names s w g n c ps → among p ps ≡ true → NamedBy s w g n c p ps r w'
