-- A run over commands that stand in work, which notes where an item begins. w is work, wd the width of an atom's number in bytes. Assumes nothing.
use mathlib.Core.Path.{◌≡◌, refl, sym, ◌∙◌}
use mathlib.Core.Bool.{Bool, true, false}
use mathlib.Core.List.{List, [], ◌∷◌}
use Prim.Native.Nat.{ℕ, zero, suc, ◌+◌, ◌<◌, ◌≤◌}
use native.Mathlib.Omega.{arith}
use borrow.Author.Tests.{lt-leb, le-leb}
use lib.Dec.{leb}
use lib.ListN.{get_or}
use Rattle.octets.specs.Working.Choice.{pick}
use Rattle.parse_tree.specs.Working.Nodes.{code_size, long_of}
use Rattle.expander.specs.Stage.{item_code}

-- the places of the items from p up to e, of at most so many commands
unfoldable pub places_out : ℕ → List ℕ → ℕ → ℕ → ℕ → List ℕ
places_out wd w e zero p = []
places_out wd w e (suc f) p =
    let rest = places_out wd w e f (p + code_size wd (get_or w p 0)) in
    pick (leb e p) [] (pick (item_code (get_or w p 0)) (p ∷ rest) rest)

-- ---- each command gets on: so the run is the same however many are allowed, if they are enough
large : (b : Bool) (x y : ℕ) → 0 < x → 0 < y → 0 < pick b x y
unfolding pick
large true x y h k = h
large false x y h k = k

long_some : (wd c : ℕ) → 0 < code_size wd c
unfolding code_size long_of
long_some wd c =
    large _ _ _ (omega arith) (large _ _ _ (omega arith) (large _ _ _ (omega arith) (large _ _ _ (omega arith)
    (large _ _ _ (omega arith) (large _ _ _ (omega arith) (large _ _ _ (omega arith) (large _ _ _ (omega arith) (large _ _ _ (omega arith) (large _ _ _ (omega arith)
    (large _ _ _ (omega arith) (large _ _ _ (omega arith) (large _ _ _ (omega arith) (large _ _ _ (omega arith) (large _ _ _ (omega arith) (large _ _ _ (omega arith) (omega arith))))))))))))))))

same_turn : (b c : Bool) (p : ℕ) (x y : List ℕ) → x ≡ y → pick b [] (pick c (p ∷ x) x) ≡ pick b [] (pick c (p ∷ y) y)
same_turn b c p x y q = cc

module _ (wd : ℕ) (w : List ℕ) (e : ℕ) where
  ends : (f p : ℕ) → e ≤ p → places_out wd w e f p ≡ []
  unfolding places_out pick
  ends zero p h = refl
  ends (suc f) p h = rw (le-leb e p h) refl

  enough : (f g p : ℕ) → e ≤ f + p → e ≤ g + p → places_out wd w e f p ≡ places_out wd w e g p
  unfolding places_out
  enough zero g p h k = sym (ends g p (omega arith))
  enough (suc f) zero p h k = ends (suc f) p (omega arith)
  enough (suc f) (suc g) p h k =
      let l = long_some wd (get_or w p 0) in
      same_turn (leb e p) (item_code (get_or w p 0)) p _ _ (enough f g (p + code_size wd (get_or w p 0)) (omega arith) (omega arith))

  -- ---- the run up to e
  unfoldable pub items_from : ℕ → List ℕ
  items_from p = places_out wd w e e p

  pub from_end : (p : ℕ) → e ≤ p → items_from p ≡ []
  unfolding items_from
  from_end p h = ends e p h

  pub from_item : (p c : ℕ) → p < e → get_or w p 0 ≡ c → item_code c ≡ true → items_from p ≡ p ∷ items_from (p + code_size wd c)
  unfolding items_from places_out pick
  from_item p c h i j = enough e (suc e) p (omega arith) (omega arith) ∙ simp (lt-leb e p h, i, j)

  pub from_other : (p c : ℕ) → p < e → get_or w p 0 ≡ c → item_code c ≡ false → items_from p ≡ items_from (p + code_size wd c)
  unfolding items_from places_out pick
  from_other p c h i j = enough e (suc e) p (omega arith) (omega arith) ∙ simp (lt-leb e p h, i, j)
