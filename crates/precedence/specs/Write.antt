-- What is written behind what is written so far, before a limit. wd is the width of an atom's number in bytes. Assumes nothing: these are definitions.
use Rattle.std.specs.Prelude.{◌≡◌, ◌⊎◌, Bool, ◌||◌, Option, Some, None, List, [], ◌∷◌, ◌++◌, ℕ, zero, suc, ◌+◌, ◌-◌, ◌*◌, ◌≤◌, ◌<◌, leb, eqb, length, get_or}
use Rattle.std.specs.Option.{option_eq}
use Rattle.octets.specs.Working.Choice.{pick}
use Rattle.octets.specs.Plain.Numbers.{le}
use Rattle.octets.specs.Plain.Runs.{part}
use Rattle.octets.specs.Working.Stores.{store}
use Rattle.parse_tree.specs.Plain.Tree.{Attribute}
use Rattle.grades.specs.declared.Indices.{Indices}
use Rattle.grades.specs.Annotations.{conditions_from, symbols_from}
use Rattle.precedence.specs.declared.substitute.Renaming.{Renaming}
use Rattle.precedence.specs.Substitute.{substitute_out}

-- xs, put to w from `to` on, leaves w' and the cursor r: all of it, or some bytes from `to` up to lim
pub record Puts (w : List ℕ) (lim to : ℕ) (xs : List ℕ) (r : ℕ) (w' : List ℕ) : Type 0 where
  pub long : length w' ≡ length w
  pub whole : to + length xs ≤ lim → w' ≡ store w to xs
  pub after : to + length xs ≤ lim → r ≡ to + length xs
  pub over : lim < to + length xs → r ≡ lim + 1
  pub others : lim < to + length xs → (i : ℕ) → (i < to) ⊎ (lim ≤ i) → get_or w' i 0 ≡ get_or w i 0

-- whether k is one of the indices
unfoldable pub is_left_out : Indices → ℕ → Bool
is_left_out f k = option_eq eqb f.precedence (Some k) || option_eq eqb f.assoc (Some k)

-- the bytes from a up to e, unless k is one of them
unfoldable pub kept_one : List ℕ → ℕ → ℕ → ℕ → Indices → List ℕ
kept_one w a e k f = pick (is_left_out f k) [] (part a e w)

-- n attributes from a on, of which the first has the index k, but those of the indices
unfoldable pub kept_bytes : ℕ → List ℕ → ℕ → ℕ → ℕ → Indices → List ℕ
kept_bytes wd w a zero k f = []
kept_bytes wd w a (suc n) k f = kept_one w a (a + (2 + 3 * wd)) k f ++ kept_bytes wd w (a + (2 + 3 * wd)) n (k + 1) f

-- the command of an alternative without attributes and condition; span is the number that its eight bytes make
unfoldable pub alternative_head : ℕ → ℕ → ℕ → ℕ → ℕ → List ℕ
alternative_head wd span act text symbols = 18 ∷ (le 8 span ++ (0 ∷ (0 ∷ (act ∷ (le wd text ++ le 2 symbols)))))

-- a whole alternative of one symbol, a nonterminal, without an action
unfoldable pub fall_bytes : ℕ → ℕ → ℕ → List ℕ
fall_bytes wd span below = alternative_head wd span 0 0 1 ++ (36 ∷ (le 8 span ++ le wd below))

-- an alternative's command at p with another count of attributes
unfoldable pub head_out : ℕ → List ℕ → ℕ → ℕ → List ℕ
head_out wd w p count = part p (p + 9) w ++ (count ∷ part (p + 10) (p + (14 + wd)) w)

-- one less than m, if there is an index
unfoldable pub fewer_by : ℕ → Option ℕ → ℕ
fewer_by m None = m
fewer_by m (Some i) = m - 1

-- the alternative from p up to e without the attributes of the indices
unfoldable pub stripped_out : ℕ → List ℕ → ℕ → ℕ → Indices → List ℕ
stripped_out wd w p e f =
    let n = get_or w (p + 9) 0 in
    head_out wd w p (fewer_by (fewer_by n f.precedence) f.assoc) ++ (kept_bytes wd w (p + (14 + wd)) n 0 f ++ part (conditions_from wd w p) e w)

-- put so to w, and then its symbols' occurrences renamed where all fitted
pub record PutsRenamed (wd : ℕ) (w : List ℕ) (p e : ℕ) (f : Indices) (v : Renaming) (lim to r : ℕ) (w' : List ℕ) : Type 0 where
  pub work : List ℕ
  pub puts : Puts w lim to (stripped_out wd w p e f) r work
  pub renamed : w' ≡ pick (leb r lim) (substitute_out wd work (r - (e - symbols_from wd w p)) r v.target v.here v.below v.side) work

-- ---- what they mean

-- attributes, of which the first has the index k, but those of the indices
unfoldable pub but_two : ℕ → Indices → List Attribute → List Attribute
but_two k f [] = []
but_two k f (a ∷ rest) = pick (is_left_out f k) [] (a ∷ []) ++ but_two (k + 1) f rest
