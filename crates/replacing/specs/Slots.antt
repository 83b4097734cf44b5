-- Replacing by places of the unreplaced items, as the code keeps it: for each symbol that is expanded a reference, the pile, and which texts were pushed.
-- Assumes nothing: these are definitions.
use Rattle.std.specs.Prelude.{Some, None, Bool, true, false, cond, List, [], ◌∷◌, ◌++◌, ℕ, zero, suc, ◌+◌, eqb, length}
use Rattle.std.proofs.Math.Option.{Option, none, some}
use Rattle.parse_tree.specs.Working.Nodes.{node_at, size_of}
use Rattle.parse_tree.specs.Plain.Reading.{Reading, got, refused, then}
use Rattle.parse_tree.specs.Working.Expect.{expect_symbol}
use Rattle.parse_tree.specs.Working.Operands.{inside_of}
use Rattle.parse_tree.specs.declared.syntax.Leaf.{Leaf}
use Rattle.parse_tree.specs.declared.syntax.Around.{Around}
use Rattle.parse_tree.specs.declared.syntax.SymbolKind.{SymbolKind}

-- ---- where the symbols stand that are expanded: 25, 26, 29, 2a, 2b, inner ones first

-- a leaf's own place, if it is expanded
unfoldable pub leaf_places : Leaf → ℕ → List ℕ
leaf_places (Leaf.AmbiguousId a) at = []
leaf_places (Leaf.Bare a) at = []
leaf_places (Leaf.Quoted a) at = []
leaf_places (Leaf.Regex a) at = []
leaf_places (Leaf.Nonterminal a) at = []
leaf_places Leaf.Lookahead at = at ∷ []
leaf_places Leaf.Lookbehind at = at ∷ []
leaf_places Leaf.Error at = []

unfoldable pub around_places : Around → ℕ → List ℕ
around_places (Around.Repeat op) at = at ∷ []
around_places Around.Choose at = []
around_places (Around.Name m a) at = []

-- n lists one behind another
unfoldable pub listed : (ℕ → Reading (List ℕ)) → ℕ → ℕ → Reading (List ℕ)
listed f zero at = got [] at
listed f (suc n) at = then (f at) (λ ps e. then (listed f n e) (λ qs e'. got (ps ++ qs) e'))

-- of the symbol at a place, with `left` levels of nesting left, and the place behind it
unfoldable pub places : ℕ → List ℕ → ℕ → ℕ → Reading (List ℕ)
places w s zero at = refused 3 at
places w s (suc left) at = elim (node_at w s at) [
  | None ↦ refused 2 at
  | Some n ↦
      expect_symbol at (λ sp k e. elim k [
        | SymbolKind.Leaf l ↦ got (leaf_places l at) e
        | SymbolKind.Around a ↦ then (places w s left e) (λ ps e'. got (ps ++ around_places a at) e')
        | SymbolKind.Over o ↦ then (listed (λ p. places w s left p) (inside_of o) e) (λ ps e'. got (ps ++ (at ∷ [])) e')
      ]) n (at + size_of w n)
]

-- ---- references

-- the number of the text that is the symbol's print; or the place of the first symbol of the round with this print, which no text was before
pub data Ref : Type 0 where
  text : ℕ → Ref
  like : ℕ → Ref

pub record Slots : Type 0 where
  -- by place, the last given first
  pub refs : List (ℕ × Ref)
  -- the places pushed this round, the last first
  pub pile : List ℕ
  -- the numbers of the texts that were pushed, in this round or before
  pub marks : List ℕ
  -- the places pushed this round whose print was no text before it, the last first
  pub firsts : List ℕ
  -- those of them whose text has a number, in its order
  pub news : List ℕ

-- the last reference given to a place
unfoldable pub ref_at : ℕ → List (ℕ × Ref) → Ref
ref_at p [] = like p
ref_at p (r ∷ rs) = cond (eqb r.0 p) r.1 (ref_at p rs)

unfoldable pub among : ℕ → List ℕ → Bool
among k [] = false
among k (n ∷ ns) = cond (eqb n k) true (among k ns)

unfoldable pub refer : ℕ → Ref → Slots → Slots
refer p r x = record { refs = (p, r) ∷ x.refs; pile = x.pile; marks = x.marks; firsts = x.firsts; news = x.news }

-- its print is the text k, not yet pushed
unfoldable pub push_text : ℕ → ℕ → Slots → Slots
push_text p k x = record { refs = (p, text k) ∷ x.refs; pile = p ∷ x.pile; marks = k ∷ x.marks; firsts = x.firsts; news = x.news }

-- its print is new
unfoldable pub push_new : ℕ → Slots → Slots
push_new p x = record { refs = (p, like p) ∷ x.refs; pile = p ∷ x.pile; marks = x.marks; firsts = p ∷ x.firsts; news = x.news }

-- where none of this round prints so, by the text that its print is, if it is one
unfoldable pub note_by : ℕ → Option ℕ → Slots → Slots
note_by p none x = push_new p x
note_by p (some k) x = cond (among k x.marks) (refer p (text k) x) (push_text p k x)

-- same tells whether the symbols at two places print alike
unfoldable pub first_like : (ℕ → ℕ → Bool) → ℕ → List ℕ → Option ℕ
first_like same p [] = none
first_like same p (q ∷ qs) = cond (same p q) (some q) (first_like same p qs)

-- text_at tells which text (of those that the round found) is the print of a symbol
unfoldable pub note_as : (ℕ → Option ℕ) → ℕ → Option ℕ → Slots → Slots
note_as text_at p none x = note_by p (text_at p) x
note_as text_at p (some q) x = refer p (like q) x

module _ (same : ℕ → ℕ → Bool) (text_at : ℕ → Option ℕ) where
  -- the symbol at a place, whose inner symbols were noted
  unfoldable pub note : ℕ → Slots → Slots
  note p x = note_as text_at p (first_like same p x.firsts) x

  unfoldable pub note_all : List ℕ → Slots → Slots
  note_all [] x = x
  note_all (p ∷ ps) x = note_all ps (note p x)

-- ---- numbers: base is how many texts the round found

-- how many stand before the first of a list that is q
unfoldable pub place_in : ℕ → List ℕ → ℕ
place_in q [] = 0
place_in q (p ∷ ps) = cond (eqb p q) 0 (suc (place_in q ps))

-- the text of the first symbol at q gets the next number
unfoldable pub number_new : ℕ → Slots → Slots
number_new q x = record { refs = x.refs; pile = x.pile; marks = x.marks; firsts = x.firsts; news = x.news ++ (q ∷ []) }

unfoldable pub number_by : ℕ → Ref → Slots → ℕ × Slots
number_by base (text k) x = (k, x)
number_by base (like q) x = cond (among q x.news) (base + place_in q x.news, x) (base + length x.news, number_new q x)

-- the number of the text of the symbol at a place; the next one where it has none yet
unfoldable pub numbered : ℕ → ℕ → Slots → ℕ × Slots
numbered base p x = number_by base (ref_at p x.refs) x
