-- What the records, the slots and the list of new texts in work w stand for: the slots of crate replacing. s is the tape. Assumes nothing: these are definitions.
use Rattle.std.specs.Prelude.{◌≡◌, Bool, true, false, cond, ◌||◌, ◌⊎◌, List, [], ◌∷◌, ◌++◌, ℕ, zero, suc, ◌+◌, ◌-◌, ◌*◌, ◌/◌, ◌%◌, ◌≤◌, ◌<◌, eqb, ltb, length, get_or}
use Rattle.octets.specs.Working.Choice.{pick}
use Rattle.texts.specs.Table.{texts}
use Rattle.passes.specs.Macros.{MacroExpander}
use Rattle.replacing.specs.Slots.{Ref, text, like, Slots, ref_at, among, note, numbered}
use Rattle.replacing.specs.Sound.{HasRef, Sound}
use Rattle.expander.specs.declared.Ground.{Ground}
use Rattle.expander.specs.declared.slots.Numbered.{Numbered}
use Rattle.expander.specs.Ground.{size_in, top_of, slot_place, slot_at, key_at, list_place, list_at, new_at, pushed_text, symbol_in, KeyAt, same_at, text_in, Records, KeptAround}

-- ---- lists by index
-- the last first
unfoldable pub down : (ℕ → ℕ) → ℕ → List ℕ
down f zero = []
down f (suc n) = f n ∷ down f n

-- the first first
unfoldable pub upto : (ℕ → ℕ) → ℕ → List ℕ
upto f zero = []
upto f (suc n) = upto f n ++ (f n ∷ [])

unfoldable pub keep_if : (ℕ → Bool) → List ℕ → List ℕ
keep_if f [] = []
keep_if f (q ∷ qs) = cond (f q) (q ∷ keep_if f qs) (keep_if f qs)

unfoldable pub any_of : (ℕ → Bool) → List ℕ → Bool
any_of f [] = false
any_of f (q ∷ qs) = f q || any_of f qs

-- ---- references: an even number is twice that of a text, one from the table's count on being new; an odd one twice a record's, and one

-- an odd one is followed to the slot of the record's symbol
unfoldable pub followed : List ℕ → Ground → ℕ → ℕ
followed w g v = pick (eqb (v % 2) 0) v (slot_at w g (key_at w g (v / 2)))

-- it can be followed from the slot of the symbol at p
pub record Followable (w : List ℕ) (g : Ground) (p : ℕ) : Type 0 where
  pub own : slot_place g p + 8 ≤ length w
  pub pushed : slot_at w g p % 2 ≡ 1 → g.keys + 24 * (slot_at w g p / 2) + 24 ≤ length w
  pub place : slot_at w g p % 2 ≡ 1 → slot_place g (key_at w g (slot_at w g p / 2)) + 8 ≤ length w

unfoldable pub ref_by : List ℕ → Ground → ℕ → Ref
ref_by w g v =
    pick (eqb (v % 2) 0)
    (pick (ltb (v / 2) g.m.count) (text (v / 2)) (like (new_at w g (v / 2 - g.m.count))))
    (like (key_at w g (v / 2)))

unfoldable pub ref_in : List ℕ → Ground → ℕ → Ref
ref_in w g p = ref_by w g (followed w g (slot_at w g p))

unfoldable pub is_like : Ref → Bool
is_like (text k) = false
is_like (like q) = true

unfoldable pub is_text : ℕ → Ref → Bool
is_text k (text i) = eqb i k
is_text k (like q) = false

-- v is a reference where n symbols were pushed and so many texts have numbers
pub record Refers (n count v : ℕ) : Type 0 where
  pub even : v % 2 ≡ 0 → v / 2 < count
  pub odd : v % 2 ≡ 1 → v / 2 < n

-- ---- n symbols were pushed, c texts are new: x is what stands there
pub record Held (s w : List ℕ) (g : Ground) (n c : ℕ) (x : Slots) : Type 0 where
  pub records : Records s w g n
  pub room : list_place g c ≤ g.keys
  pub pile : x.pile ≡ down (key_at w g) n
  pub firsts : x.firsts ≡ keep_if (λ q. is_like (ref_in w g q)) (down (key_at w g) n)
  pub news : x.news ≡ upto (new_at w g) c
  -- the list of new texts, and their symbols' slots
  pub entries : (i : ℕ) → i < c → (list_at w g i % 2 ≡ 0) × (list_at w g i / 2 < n) × (slot_at w g (new_at w g i) ≡ 2 * (g.m.count + i))
  pub refs : (p : ℕ) → HasRef p x → ref_in w g p ≡ ref_at p x.refs
  pub refers : (p : ℕ) → HasRef p x → Refers n (g.m.count + c) (slot_at w g p)
  -- a pushed symbol without a number refers to itself
  pub own : (j : ℕ) → j < n → slot_at w g (key_at w g j) % 2 ≡ 1 → slot_at w g (key_at w g j) ≡ 2 * j + 1
  pub marks : (k : ℕ) → k < g.m.count → among k x.marks ≡ (pushed_text w g k || any_of (λ q. is_text k (ref_in w g q)) (down (key_at w g) n))
  pub inside : (p : ℕ) → HasRef p x → p + 9 ≤ size_in g
  pub apart : (p q : ℕ) → HasRef p x → HasRef q x → (p ≡ q) ⊎ (p + 9 ≤ q) ⊎ (q + 9 ≤ p)
  pub expander : MacroExpander
  pub sound : Sound (symbol_in s w g) (KeyAt s w g) (texts s w g.m) x expander

-- from w to w' nothing changed but the list of new texts and slots
pub record Listed (g : Ground) (w w' : List ℕ) : Type 0 where
  pub long : length w' ≡ length w
  pub others : (i : ℕ) → (i < list_place g 0) ⊎ ((g.keys ≤ i) × (i < g.slots)) ⊎ (top_of g ≤ i) → get_or w' i 0 ≡ get_or w i 0

-- r is the number of the symbol's text, and how many are new then
pub record NumberedBy (s w : List ℕ) (g : Ground) (n c p : ℕ) (x : Slots) (r : Numbered) (w' : List ℕ) : Type 0 where
  pub number : r.number ≡ (numbered g.m.count p x).0
  pub held : Held s w' g n r.count (numbered g.m.count p x).1
  pub most : r.count ≤ c + 1
  pub least : c ≤ r.count
  pub changed : Listed g w w'

unfoldable pub Numbers : List ℕ → List ℕ → Ground → ℕ → ℕ → ℕ → Numbered → List ℕ → Type 0
Numbers s w g n c p r w' = (x : Slots) → Held s w g n c x → HasRef p x → NumberedBy s w g n c p x r w'

-- ---- noting

-- p is none of the places that have references
abbrev pub Off : ℕ → Slots → Type 0
Off p x = (q : ℕ) → HasRef q x → (q + 9 ≤ p) ⊎ (p + 9 ≤ q)

-- all of them are before p
abbrev pub AllBefore : ℕ → Slots → Type 0
AllBefore p x = (q : ℕ) → HasRef q x → q + 9 ≤ p

-- the symbol at p was noted: r symbols are pushed then
pub record NotedBy (s w : List ℕ) (g : Ground) (n c p : ℕ) (x : Slots) (r : ℕ) (w' : List ℕ) : Type 0 where
  pub held : Held s w' g r c (note (same_at s w g) (text_in s w g) p x)
  pub kept : KeptAround g w w'
  pub most : r ≤ n + 1
  pub least : n ≤ r

unfoldable pub Notes : List ℕ → List ℕ → Ground → ℕ → ℕ → ℕ → List ℕ → Type 0
Notes s w g n p r w' = (c : ℕ) (x : Slots) → Held s w g n c x → Off p x → NotedBy s w g n c p x r w'
