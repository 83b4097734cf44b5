-- Items that stand in work, each resolved where it stands. Assumes nothing: these are definitions.
use Rattle.std.specs.Prelude.{◌≡◌, Bool, true, false, List, [], ◌∷◌, ℕ, zero, suc, ◌+◌, ◌-◌, ◌*◌, ◌%◌, ◌≤◌, ◌<◌, leb, ltb, eqb, length, get_or}
use Rattle.octets.specs.Working.Choice.{pick}
use Rattle.octets.specs.Plain.Numbers.{le_at}
use Rattle.octets.specs.Plain.Runs.{Lies}
use Rattle.parse_tree.specs.Plain.Tree.{Text, Item}
use Rattle.parse_tree.specs.Working.Nodes.{span_in}
use Rattle.parse_tree.specs.Working.Encode.{item_bytes}
use Rattle.texts.specs.declared.Map.{Map}
use Rattle.resolve.specs.declared.Grammar.{Grammar}
use Rattle.resolve.specs.Cells.{Room, known_at, define_at}
use Rattle.resolve.specs.Commands.{RunEnd, ran, stopped, run_then, run_out}

-- n bytes of work hold the records, the list of places, and the items with as much behind them as a command can have
pub record Standing (m : Map) (t : Grammar) (n : ℕ) : Type 0 where
  pub records : Room m n
  pub listed : 0 < t.count → t.list + 8 * t.count ≤ n
  pub ordered : t.at ≤ t.end
  pub inside : 0 < t.count → t.end + 16 ≤ n
  pub narrow : 2 ≤ t.width.bytes
  pub wide : t.width.bytes ≤ 3

-- the place of the i-th of n items from `at` up to `end`; the end where i is n or more, or the listed place is behind the end
unfoldable pub item_place : (list n at end : ℕ) → List ℕ → ℕ → ℕ
item_place list n at end w i = pick (leb n i) end (pick (ltb (end - at) (le_at 8 w (list + 8 * i))) end (at + le_at 8 w (list + 8 * i)))

abbrev pub item_place_in : Grammar → List ℕ → ℕ → ℕ
item_place_in t w i = item_place t.list t.count t.at t.end w i

-- items stand from p up to the end, each at its listed place, the first as the i-th; ts are the atoms
module _ (t : Grammar) (ts : List Text) where
  abbrev pub Row : List ℕ → ℕ → ℕ → List Item → Type 0
  Row w i p [] = (item_place_in t w i ≡ p) × (p ≡ t.end)
  Row w i p (x ∷ xs) =
      (item_place_in t w i ≡ p) × Lies w p (item_bytes t.width.bytes ts x) (p + length (item_bytes t.width.bytes ts x)) × Row w (i + 1) (p + length (item_bytes t.width.bytes ts x)) xs

-- ---- arguments: work with each marked, or one that was marked before
pub data Marking : Type 0 where
  marked : List ℕ → Marking
  twice : Marking

unfoldable pub marks_out : Map → ℕ → ℕ → List ℕ → ℕ → Marking
marks_out m wd zero w at = marked w
marks_out m wd (suc n) w at =
    pick (leb 512 (known_at m w (le_at wd w (at + 1)))) twice
    (marks_out m wd n (define_at m w (le_at wd w (at + 1)) (known_at m w (le_at wd w (at + 1)) + 512)) (at + (1 + wd)))

unfoldable pub Marks : Marking → Bool → List ℕ → Type 0
Marks (marked w) r w' = (r ≡ true) × (w' ≡ w)
Marks twice r w' = r ≡ false

-- the marks taken away
unfoldable pub unmarks_out : Map → ℕ → ℕ → List ℕ → ℕ → List ℕ
unmarks_out m wd zero w at = w
unmarks_out m wd (suc n) w at = unmarks_out m wd n (define_at m w (le_at wd w (at + 1)) (known_at m w (le_at wd w (at + 1)) % 512)) (at + (1 + wd))

-- ---- items
unfoldable pub marked_then : Marking → RunEnd → (List ℕ → RunEnd) → RunEnd
marked_then (marked w) x f = f w
marked_then twice x f = x

-- the n arguments stand at a, the commands behind them from p up to e; sp is the item's place
unfoldable pub parts_out : Map → ℕ → List ℕ → ℕ → ℕ → ℕ → ℕ → ℕ → RunEnd
parts_out m wd w at n a p e =
    marked_then (marks_out m wd n w a) (stopped 7 (span_in w (at + 1))) (λ w₁.
    run_then (run_out m wd e w₁ p e) (λ w₂.
    ran (unmarks_out m wd n w₂ a)))

-- the nonterminal from a place up to e; one whose arguments reach behind the items' end is none
unfoldable pub item_out : Map → Grammar → List ℕ → ℕ → ℕ → RunEnd
item_out m t w at e =
    let n = get_or w (at + 10 + t.width.bytes) 0 in
    let a = at + 13 + t.width.bytes in
    pick (ltb t.end (a + n * (1 + t.width.bytes))) (ran w) (parts_out m t.width.bytes w at n a (a + n * (1 + t.width.bytes)) e)

-- n items from the i-th on
unfoldable pub items_out : Map → Grammar → ℕ → ℕ → List ℕ → RunEnd
items_out m t zero i w = ran w
items_out m t (suc n) i w =
    pick (eqb (get_or w (item_place_in t w i) 0) 16)
    (run_then (item_out m t w (item_place_in t w i) (item_place_in t w (i + 1))) (λ w'. items_out m t n (i + 1) w'))
    (items_out m t n (i + 1) w)
