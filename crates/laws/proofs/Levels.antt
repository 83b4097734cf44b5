-- Keys sorted are the alternatives level by level, each level in order. Assumes nothing.
use mathlib.Core.Path.{◌≡◌, refl, sym, ◌∙◌}
use mathlib.Core.Bool.{Bool, true, false, cond}
use mathlib.Core.List.{List, [], ◌∷◌, ◌++◌}
use Prim.Native.Nat.{ℕ, suc, ◌+◌, ◌*◌, ◌<◌, ◌≤◌}
use native.Mathlib.Omega.{arith}
use borrow.Author.Tests.{ltb-true, ltb-false, eq-eqb, ne_eqb, eqb-true, eqb-false}
use lib.Dec.{ltb, eqb}
use lib.ListN.{length}
use Rattle.octets.specs.Working.Choice.{pick}
use Rattle.parse_tree.specs.Working.Within.{Each}
use Rattle.parse_tree.proofs.ReadingLaws.{each_append}
use Rattle.passes.specs.Grades.{Side, Graded}
use Rattle.passes.specs.Levels.{insert, levels_of}
use Rattle.laws.specs.Sort.{Ascends, often, key_of, keys_from, level_keys, by_levels}
use Rattle.laws.proofs.Sort.{above_later, often-here, often-more, often-below, ascending_unique}

-- ---- the levels ascend, and each is there once
insert-above : (v w : ℕ) (xs : List ℕ) → w < v → Each (λ y. w < y) xs → Each (λ y. w < y) (insert v xs)
insert-above v w [] h k = (h, tt)
insert-above v w (x ∷ xs) h k = go (ltb v x) (eqb v x) (insert-above v w xs h k.1)
  where
    go : (a b : Bool) → Each (λ y. w < y) (insert v xs) → Each (λ y. w < y) (cond a (v ∷ x ∷ xs) (cond b (x ∷ xs) (x ∷ insert v xs)))
    go true b i = (h, k)
    go false true i = k
    go false false i = (k.0, i)

insert-ascends : (v : ℕ) (xs : List ℕ) → Ascends xs → Ascends (insert v xs)
insert-ascends v [] a = (tt, tt)
insert-ascends v (x ∷ xs) a = go (ltb v x) (eqb v x) refl refl (insert-ascends v xs a.1)
  where
    go : (s t : Bool) → ltb v x ≡ s → eqb v x ≡ t → Ascends (insert v xs) → Ascends (cond s (v ∷ x ∷ xs) (cond t (x ∷ xs) (x ∷ insert v xs)))
    go true t e f i = let l = ltb-true v x e in ((l, above_later v x xs (omega arith) a.0), a)
    go false true e f i = a
    go false false e f i =
        let l = ltb-false v x e in
        let n = eqb-false v x f in
        (insert-above v x xs (omega (arith, n)) a.0, i)

pub levels-ascend : (gs : List Graded) → Ascends (levels_of gs)
unfolding levels_of
levels-ascend [] = tt
levels-ascend (g ∷ gs) = insert-ascends g.level (levels_of gs) (levels-ascend gs)

often-insert : (w v : ℕ) (xs : List ℕ) → often w xs ≤ often w (insert v xs)
unfolding often
often-insert w v [] = omega arith
often-insert w v (x ∷ xs) = go (ltb v x) (eqb v x) (often-insert w v xs)
  where
    go : (s t : Bool) → often w xs ≤ often w (insert v xs) → often w (x ∷ xs) ≤ often w (cond s (v ∷ x ∷ xs) (cond t (x ∷ xs) (x ∷ insert v xs)))
    go true t i = omega arith
    go false true i = omega arith
    go false false i = omega arith

often-inserted : (v : ℕ) (xs : List ℕ) → 1 ≤ often v (insert v xs)
unfolding often pick
often-inserted v [] = omega (arith, often-here v [])
often-inserted v (x ∷ xs) = go (ltb v x) (eqb v x) refl (often-inserted v xs)
  where
    go : (s t : Bool) → eqb v x ≡ t → 1 ≤ often v (insert v xs) → 1 ≤ often v (cond s (v ∷ x ∷ xs) (cond t (x ∷ xs) (x ∷ insert v xs)))
    go true t f i = omega (arith, often-here v (x ∷ xs))
    go false true f i = let e = eqb-true v x f in rw (← e) (omega (arith, often-here v xs))
    go false false f i = omega (arith, often-more v x (insert v xs))

once : (v : ℕ) (xs : List ℕ) → Ascends xs → often v xs ≤ 1
unfolding often pick
once v [] a = omega arith
once v (x ∷ xs) a = go (eqb x v) refl (once v xs a.1)
  where
    go : (b : Bool) → eqb x v ≡ b → often v xs ≤ 1 → pick b 1 0 + often v xs ≤ 1
    go true e i = let z = eqb-true x v e in omega (arith, often-below v xs (rw z at a.0))
    go false e i = omega arith

-- every level of the alternatives is there
abbrev Holds : List ℕ → List Graded → Type 0
Holds vs gs = Each (λ (g : Graded). often g.level vs ≡ 1) gs

holds_more : (v : ℕ) (vs : List ℕ) (gs : List Graded) → Ascends vs → Holds vs gs → Holds (insert v vs) gs
holds_more v vs [] a h = tt
holds_more v vs (g ∷ gs) a h = (omega (arith, h.0, often-insert g.level v vs, once g.level (insert v vs) (insert-ascends v vs a)), holds_more v vs gs a h.1)

pub levels-hold : (gs : List Graded) → Holds (levels_of gs) gs
unfolding levels_of
levels-hold [] = tt
levels-hold (g ∷ gs) =
    let a = levels-ascend gs in
    (omega (arith, often-inserted g.level (levels_of gs), once g.level (insert g.level (levels_of gs)) (insert-ascends g.level (levels_of gs) a)), holds_more g.level (levels_of gs) gs a (levels-hold gs))

-- ---- keys: index below 65,536, side below 4
module _ (code : Side → ℕ) (small : (s : Side) → code s < 4) where
  -- those of a level lie between two bounds
  level_above : (u v i j : ℕ) (gs : List Graded) → u ≤ (v * 65536 + j) * 4 → j ≤ i → Each (λ y. u ≤ y) (level_keys code v i gs)
  unfolding level_keys
  level_above u v i j [] h k = tt
  level_above u v i j (g ∷ gs) h k = go (eqb g.level v) (level_above u v (suc i) j gs h (omega arith))
    where
      go : (b : Bool) → Each (λ y. u ≤ y) (level_keys code v (suc i) gs) → Each (λ y. u ≤ y) (cond b (key_of code v i g.side ∷ level_keys code v (suc i) gs) (level_keys code v (suc i) gs))
      go true r = (omega arith, r)
      go false r = r

  level_below : (u v i : ℕ) (gs : List Graded) → (v * 65536 + (i + length gs)) * 4 ≤ u → Each (λ y. y < u) (level_keys code v i gs)
  unfolding level_keys
  level_below u v i [] h = tt
  level_below u v i (g ∷ gs) h = go (eqb g.level v) (level_below u v (suc i) gs (omega arith))
    where
      go : (b : Bool) → Each (λ y. y < u) (level_keys code v (suc i) gs) → Each (λ y. y < u) (cond b (key_of code v i g.side ∷ level_keys code v (suc i) gs) (level_keys code v (suc i) gs))
      go true r = (omega (arith, small g.side), r)
      go false r = r

  at_least : (u w : ℕ) (xs : List ℕ) → u < w → Each (λ y. w ≤ y) xs → Each (λ y. u < y) xs
  at_least u w [] h k = tt
  at_least u w (x ∷ xs) h k = (omega (arith, k.0), at_least u w xs h k.1)

  level_ascends : (v i : ℕ) (gs : List Graded) → Ascends (level_keys code v i gs)
  unfolding level_keys
  level_ascends v i [] = tt
  level_ascends v i (g ∷ gs) = go (eqb g.level v) (level_ascends v (suc i) gs)
    where
      go : (b : Bool) → Ascends (level_keys code v (suc i) gs) → Ascends (cond b (key_of code v i g.side ∷ level_keys code v (suc i) gs) (level_keys code v (suc i) gs))
      go true r = (at_least (key_of code v i g.side) ((v * 65536 + suc i) * 4) (level_keys code v (suc i) gs) (omega (arith, small g.side)) (level_above ((v * 65536 + suc i) * 4) v (suc i) (suc i) gs (omega arith) (omega arith)), r)
      go false r = r

  levels-above : (u : ℕ) (vs : List ℕ) (i : ℕ) (gs : List Graded) → Each (λ v. u ≤ v) vs → Each (λ y. u * 262144 ≤ y) (by_levels code vs i gs)
  unfolding by_levels
  levels-above u [] i gs h = tt
  levels-above u (v ∷ vs) i gs h = each_append (λ y. u * 262144 ≤ y) (level_keys code v i gs) (by_levels code vs i gs) (level_above (u * 262144) v i 0 gs (omega (arith, h.0)) (omega arith)) (levels-above u vs i gs h.1)

  ascends_append : (xs ys : List ℕ) (u : ℕ) → Ascends xs → Ascends ys → Each (λ y. y < u) xs → Each (λ y. u ≤ y) ys → Ascends (xs ++ ys)
  ascends_append [] ys u a b h k = b
  ascends_append (x ∷ xs) ys u a b h k = (each_append (λ y. x < y) xs ys a.0 (at_least x u ys h.0 k), ascends_append xs ys u a.1 b h.1 k)

  later_levels : (v : ℕ) (vs : List ℕ) → Each (λ y. v < y) vs → Each (λ y. suc v ≤ y) vs
  later_levels v [] h = tt
  later_levels v (x ∷ xs) h = (omega (arith, h.0), later_levels v xs h.1)

  pub by_levels_ascend : (vs : List ℕ) (i : ℕ) (gs : List Graded) → Ascends vs → i + length gs ≤ 65536 → Ascends (by_levels code vs i gs)
  unfolding by_levels
  by_levels_ascend [] i gs a h = tt
  by_levels_ascend (v ∷ vs) i gs a h =
      ascends_append (level_keys code v i gs) (by_levels code vs i gs) (suc v * 262144) (level_ascends v i gs) (by_levels_ascend vs i gs a.1 h)
      (level_below (suc v * 262144) v i gs (omega arith)) (levels-above (suc v) vs i gs (later_levels v vs a.0))

  -- ---- no key is lost or new
  often-append : (k : ℕ) (xs ys : List ℕ) → often k (xs ++ ys) ≡ often k xs + often k ys
  unfolding often
  often-append k [] ys = omega arith
  often-append k (x ∷ xs) ys = omega (arith, often-append k xs ys)

  chosen : (v w : ℕ) → eqb v w ≡ eqb w v
  chosen v w = go (eqb w v) refl
    where
      go : (b : Bool) → eqb w v ≡ b → eqb v w ≡ b
      go true e = eq-eqb v w (sym (eqb-true w v e))
      go false e = ne_eqb v w (λ z. eqb-false w v e (sym z))

  -- one alternative more, in a level's keys
  level_first : (k v i : ℕ) (g : Graded) (gs : List Graded) → often k (level_keys code v i (g ∷ gs)) ≡ pick (eqb v g.level) 1 0 * pick (eqb (key_of code g.level i g.side) k) 1 0 + often k (level_keys code v (suc i) gs)
  unfolding level_keys often pick
  level_first k v i g gs = rw (chosen v g.level) (go (eqb g.level v) refl)
    where
      go : (b : Bool) → eqb g.level v ≡ b → often k (cond b (key_of code v i g.side ∷ level_keys code v (suc i) gs) (level_keys code v (suc i) gs)) ≡ pick b 1 0 * pick (eqb (key_of code g.level i g.side) k) 1 0 + often k (level_keys code v (suc i) gs)
      go true e = let z = eqb-true g.level v e in rw z (omega arith)
      go false e = omega arith

  -- and in all of them: as often as its level is among the levels
  by_levels_first : (k : ℕ) (vs : List ℕ) (i : ℕ) (g : Graded) (gs : List Graded) → often k (by_levels code vs i (g ∷ gs)) ≡ often g.level vs * pick (eqb (key_of code g.level i g.side) k) 1 0 + often k (by_levels code vs (suc i) gs)
  unfolding by_levels often
  by_levels_first k [] i g gs = omega arith
  by_levels_first k (v ∷ vs) i g gs =
      let p : ℕ = pick (eqb (key_of code g.level i g.side) k) 1 0 in
      let c : ℕ = pick (eqb v g.level) 1 0 in
      let x = level_first k v i g gs in
      let y = by_levels_first k vs i g gs in
      let a = often-append k (level_keys code v i (g ∷ gs)) (by_levels code vs i (g ∷ gs)) in
      let b = often-append k (level_keys code v (suc i) gs) (by_levels code vs (suc i) gs) in
      omega arith

  none_left : (k : ℕ) (vs : List ℕ) (i : ℕ) → often k (by_levels code vs i []) ≡ 0
  unfolding by_levels level_keys often
  none_left k [] i = refl
  none_left k (v ∷ vs) i = none_left k vs i

  pub by_levels_often : (k : ℕ) (vs : List ℕ) (i : ℕ) (gs : List Graded) → Holds vs gs → often k (by_levels code vs i gs) ≡ often k (keys_from code i gs)
  unfolding keys_from often
  by_levels_often k vs i [] h = none_left k vs i
  by_levels_often k vs i (g ∷ gs) h =
      let p : ℕ = pick (eqb (key_of code g.level i g.side) k) 1 0 in
      let x = by_levels_first k vs i g gs in
      let y = by_levels_often k vs (suc i) gs h.1 in
      let z : often g.level vs * pick (eqb (key_of code g.level i g.side) k) 1 0 ≡ pick (eqb (key_of code g.level i g.side) k) 1 0 = rw h.0 (omega arith) in
      omega arith

  -- theorem: whatever ascends and has just the keys of the alternatives has them level by level
  pub sorted_is : (gs : List Graded) (ks : List ℕ) → length gs ≤ 65536 → Ascends ks → ((k : ℕ) → often k ks ≡ often k (keys_from code 0 gs)) → ks ≡ by_levels code (levels_of gs) 0 gs
  sorted_is gs ks h a o =
      ascending_unique ks (by_levels code (levels_of gs) 0 gs) a (by_levels_ascend (levels_of gs) 0 gs (levels-ascend gs) (omega arith)) (λ k. o k ∙ sym (by_levels_often k (levels_of gs) 0 gs (levels-hold gs)))
