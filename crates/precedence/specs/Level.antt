-- The nonterminal of one level, put behind what is written so far. wd is the width of an atom's number in bytes. Assumes nothing: these are definitions.
use Rattle.std.specs.Prelude.{◌≡◌, ◌⊎◌, List, [], ◌++◌, ℕ, zero, suc, ◌+◌, ◌-◌, ◌*◌, ◌≤◌, ◌<◌, length, get_or, Option, Some, None}
use Rattle.octets.specs.Plain.Numbers.{le_at, le}
use Rattle.octets.specs.Plain.Runs.{part}
use Rattle.grades.specs.declared.Ids.{Ids}
use Rattle.grades.specs.Key.{key_index, key_side}
use Rattle.grades.specs.Annotations.{first_with, first_alternative, symbols_from}
use Rattle.precedence.specs.declared.level.Level.{Level}
use Rattle.resolve.specs.Whole.{Apart}
use Rattle.precedence.specs.Write.{Puts, fall_bytes, PutsRenamed}

-- a nonterminal's command at p with another name, up to the count of its alternatives
unfoldable pub named_out : ℕ → List ℕ → ℕ → ℕ → List ℕ
named_out wd w p name = part p (p + 9) w ++ (le wd name ++ part (p + 9 + wd) (p + 11 + wd) w)

-- with another count as well, and its arguments
unfoldable pub nonterminal_out : ℕ → List ℕ → ℕ → ℕ → ℕ → List ℕ
nonterminal_out wd w p name many = named_out wd w p name ++ (le 2 many ++ part (p + 13 + wd) (first_alternative wd w p) w)

-- ---- one key

-- where the place of a key's alternative is noted
abbrev pub key_entry : ℕ → ℕ → ℕ
key_entry places k = places + 8 * key_index k

-- that place
unfoldable pub key_place : List ℕ → ℕ → ℕ → ℕ
key_place w places k = le_at 8 w (key_entry places k)

-- and the place behind the alternative
unfoldable pub key_end : List ℕ → ℕ → ℕ → ℕ
key_end w places k = le_at 8 w (key_entry places k + 8)

-- the alternative of a key is put as its level has it
pub record PutsKey (wd : ℕ) (ids : Ids) (places target : ℕ) (l : Level) (lim k : ℕ) (w : List ℕ) (to r : ℕ) (w' : List ℕ) : Type 0 where
  pub puts : PutsRenamed wd w (key_place w places k) (key_end w places k)
      (record {
        precedence = first_with wd ids.precedence w (key_place w places k + (14 + wd)) (get_or w (key_place w places k + 9) 0);
        assoc = first_with wd ids.assoc w (key_place w places k + (14 + wd)) (get_or w (key_place w places k + 9) 0);
      })
      (record { target = target; here = l.name; below = l.lower; side = key_side k }) lim to r w'

-- its alternative stands below `to`, its entry apart from what is written
pub record KeyInside (wd : ℕ) (w : List ℕ) (places lim to k : ℕ) : Type 0 where
  pub entry : key_entry places k + 16 ≤ length w
  pub apart : Apart (key_entry places k) (key_entry places k + 16) to (lim + 16)
  pub symbols : symbols_from wd w (key_place w places k) ≤ key_end w places k
  pub upto : key_end w places k ≤ to

-- ---- the keys of a level

module _ (wd : ℕ) (ids : Ids) (places keys target : ℕ) (l : Level) (lim : ℕ) where
  -- n alternatives, of which the first is that of the i-th key, put one behind another
  abbrev pub PutsKeys : ℕ → ℕ → List ℕ → ℕ → ℕ → List ℕ → Type 0
  PutsKeys zero i w to r w' = (r ≡ to) × (w' ≡ w)
  PutsKeys (suc n) i w to r w' = (q : ℕ) × (w1 : List ℕ) × PutsKey wd ids places target l lim (le_at 8 w (keys + 8 * i)) w to q w1 × PutsKeys n (i + 1) w1 q r w'

-- those of a level
pub record PutsAlternatives (wd : ℕ) (ids : Ids) (places keys target : ℕ) (l : Level) (lim : ℕ) (w : List ℕ) (to r : ℕ) (w' : List ℕ) : Type 0 where
  pub each : PutsKeys wd ids places keys target l lim (l.last - l.first) l.first w to r w'
  pub stop : r ≤ lim + 1
  pub on : to ≤ r
  pub long : length w' ≡ length w
  pub others : (x : ℕ) → (x < to) ⊎ (lim + 16 ≤ x) → get_or w' x 0 ≡ get_or w x 0

-- the keys of a level stand apart from what is written, and so does what they lead to
pub record KeysInside (wd : ℕ) (w : List ℕ) (places keys : ℕ) (l : Level) (lim to : ℕ) : Type 0 where
  pub ordered : l.first ≤ l.last
  pub inside : keys + 8 * l.last ≤ length w
  pub apart : Apart keys (keys + 8 * l.last) to (lim + 16)
  pub each : (i : ℕ) → l.first ≤ i → i < l.last → KeyInside wd w places lim to (le_at 8 w (keys + 8 * i))

-- ---- the whole

-- how many alternatives a level has, with its fall-through
unfoldable pub level_count : Level → ℕ
level_count l = elim l.below [ Some b ↦ l.last - l.first + 1 | None ↦ l.last - l.first ]

-- the bytes of the fall-through to the next lower level, if there is one
unfoldable pub lower_bytes : ℕ → ℕ → Option ℕ → List ℕ
lower_bytes wd span (Some below) = fall_bytes wd span below
lower_bytes wd span None = []

-- the nonterminal at p and the keys of a level stand so that it can be written
pub record LevelInside (wd : ℕ) (w : List ℕ) (p places keys : ℕ) (l : Level) (lim to : ℕ) : Type 0 where
  pub inside : p + 16 ≤ length w
  pub head : first_alternative wd w p ≤ to
  pub level : KeysInside wd w places keys l lim to
  pub few : l.last - l.first < 65536
  pub stop : to ≤ lim + 1
  pub room : lim + 16 ≤ length w

-- the nonterminal of a level put: its head, its alternatives, the fall-through
pub record PutsLevel (wd : ℕ) (ids : Ids) (p places keys : ℕ) (l : Level) (lim : ℕ) (w : List ℕ) (to r : ℕ) (w' : List ℕ) : Type 0 where
  pub headed : List ℕ
  pub filled : List ℕ
  pub behind : ℕ
  pub last : ℕ
  pub head : Puts w lim to (nonterminal_out wd w p l.name (level_count l)) behind headed
  pub alternatives : PutsAlternatives wd ids places keys (le_at wd w (p + 9)) l lim headed behind last filled
  pub falls : Puts filled lim last (lower_bytes wd (le_at 8 w (p + 1)) l.below) r w'
