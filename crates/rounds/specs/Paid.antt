-- What the items of the pile pay for: their own texts by weight, and the texts that are known before. Assumes nothing: these are definitions.
use Rattle.std.specs.Prelude.{◌≡◌, true, ◌⊎◌, List, [], ◌∷◌, map, ℕ, ◌+◌, ◌-◌, ◌*◌, ◌≤◌, length}
use Rattle.parse_tree.specs.Plain.Tree.{Text, star, plus, question, macro, group, count, Item}
use Rattle.parse_tree.specs.Plain.Texts.{has}
use Rattle.parse_tree.specs.Plain.References.{sym_texts, syms_texts, action_texts, item_texts}
use Rattle.parse_tree.specs.Plain.Display.{print}
use Rattle.parse_tree.specs.Plain.WriteTape.{bytes_of_each}
use Rattle.parse_tree.specs.Working.Encode.{atom_bytes}
use Rattle.parse_tree.specs.Working.Within.{Each}
use Rattle.laws.specs.Counts.{heads, over_items}
use Rattle.passes.specs.Outcome.{Tree}
use Rattle.replacing.specs.Sound.{Key}
use Rattle.passes.specs.Macros.{Pending, looking, repeating, listing, symbol_of, group_action, vec_none, vec_one, pushed, some_text, none_text, v_name, e_name}

-- the sum of a number over texts
unfoldable pub weigh : (Text → ℕ) → List Text → ℕ
weigh f [] = 0
weigh f (t ∷ ts) = f t + weigh f ts

-- a text of n bytes has an atom of 3 + n: what 24 exceeds four times that by, and what 20 exceeds it by
abbrev pub cost24 : Text → ℕ
cost24 t = 12 - 4 * length t

abbrev pub cost20 : Text → ℕ
cost20 t = 17 - length t

-- the printed form of what is pending
abbrev pub pending_key : Pending → Text
pending_key p = print (symbol_of p)

-- the texts of what stands inside it
unfoldable pub inside_texts : Pending → List Text
inside_texts (looking s k) = []
inside_texts (repeating s o x) = sym_texts x
inside_texts (listing s o xs) = syms_texts xs

-- the texts that its item may bring: its key, and built-in texts
unfoldable pub own_texts : Pending → List Text
own_texts (looking s k) = pending_key (looking s k) ∷ []
own_texts (repeating s star x) = pending_key (repeating s star x) ∷ vec_none ∷ v_name ∷ []
own_texts (repeating s plus x) = pending_key (repeating s plus x) ∷ vec_one ∷ pushed ∷ v_name ∷ e_name ∷ []
own_texts (repeating s question x) = pending_key (repeating s question x) ∷ some_text ∷ none_text ∷ []
own_texts (listing s (macro n) xs) = pending_key (listing s (macro n) xs) ∷ []
own_texts (listing s group xs) = pending_key (listing s group xs) ∷ action_texts (group_action xs)

-- a text is among ts, or among ks
abbrev pub Known : List Text → List Text → Text → Type 0
Known ts ks t = (has t ts ≡ true) ⊎ (has t ks ≡ true)

-- what stands inside the symbols of the pile has texts of ts, and keys of the pile
abbrev pub PileKnown : List Text → List Pending → Type 0
PileKnown ts xs = Each (λ p. Each (Known ts (map pending_key xs)) (inside_texts p)) xs

-- the definitions have texts of ts
abbrev pub TreeKnown : List Text → Tree → Type 0
TreeKnown ts G = Each (λ i. Each (λ t. has t ts ≡ true) (item_texts i)) G

-- the keys before a round are among ts
abbrev pub KeysKnown : List Text → List Text → Type 0
KeysKnown ts K = (t : Text) → Key t → has t K ≡ true → has t ts ≡ true

-- the counts that room in work asks of the new texts us and the items, where so many names of macros' levels are owed: their items are left out of a stage
abbrev pub Paid : ℕ → List Text → List Item → Type 0
Paid owed us is =
    (24 * length us + 31 ≤ heads is + 4 * length (bytes_of_each (atom_bytes 2) us) + 4 * owed) × (20 * length us ≤ heads is + 9 * over_items count is + length (bytes_of_each (atom_bytes 2) us) + 15 * owed)
