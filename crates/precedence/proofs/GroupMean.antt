-- The keys of one level among keys level by level: how many they are, where they end, what is behind them. Assumes nothing.
use mathlib.Core.Path.{◌≡◌, refl, sym, ap, ◌∙◌}
use mathlib.Core.Bool.{Bool, true, false, cond}
use mathlib.Core.Logic.{◌⊎◌, inl, inr}
use mathlib.Core.List.{List, [], ◌∷◌, ◌++◌}
use Prim.Native.Nat.{ℕ, zero, suc, ◌+◌, ◌-◌, ◌*◌, ◌/◌, ◌≤◌, ◌<◌}
use native.Mathlib.Omega.{arith}
use borrow.Author.Tests.{eq-eqb}
use lib.Dec.{eqb, ltb}
use lib.ListN.{length, take, drop, length-append}
use lib.Seq.{take-append_seam, drop-append_seam}
use Rattle.octets.specs.Plain.Numbers.{le_at}
use Rattle.parse_tree.specs.Working.Within.{Each}
use Rattle.parse_tree.proofs.ReadingLaws.{each_append}
use Rattle.passes.specs.Grades.{Graded}
use Rattle.passes.specs.Levels.{insert, levels_of, of_level}
use Rattle.laws.specs.Sort.{Ascends, key_of, level_keys, by_levels}
use Rattle.grades.specs.Grade.{assoc_of}
use Rattle.grades.specs.Sort.{keys_at, level_at, GroupEnd}
use Rattle.grades.specs.Key.{code_of}
use Rattle.grades.proofs.AscendsMean.{side_few}
use Rattle.grades.proofs.SortLaws.{length-keys, keys_take, keys_drop}
use Rattle.precedence.proofs.WriteLaws.{fits_or_not}

-- ---- how many keys there are
-- theorem: a level has as many keys as alternatives
pub level_keys_many : (v i : ℕ) (gs : List Graded) → length (level_keys code_of v i gs) ≡ length (of_level v gs)
unfolding level_keys of_level
level_keys_many v i [] = refl
level_keys_many v i (g ∷ gs) = go (eqb g.level v) (level_keys_many v (suc i) gs)
  where
    go : (c : Bool) → length (level_keys code_of v (suc i) gs) ≡ length (of_level v gs)
        → length (cond c (key_of code_of v i g.side ∷ level_keys code_of v (suc i) gs) (level_keys code_of v (suc i) gs)) ≡ length (cond c (g ∷ of_level v gs) (of_level v gs))
    go true h = omega arith
    go false h = h

-- ---- each level has an alternative
abbrev Some : List Graded → ℕ → Type 0
Some gs u = 1 ≤ length (of_level u gs)

some_more : (u : ℕ) (g : Graded) (gs : List Graded) → length (of_level u gs) ≤ length (of_level u (g ∷ gs))
unfolding of_level
some_more u g gs = go (eqb g.level u)
  where
    go : (c : Bool) → length (of_level u gs) ≤ length (cond c (g ∷ of_level u gs) (of_level u gs))
    go true = omega arith
    go false = omega arith

some_here : (g : Graded) (gs : List Graded) → Some (g ∷ gs) g.level
unfolding of_level
some_here g gs = let z = eq-eqb g.level g.level refl in rw z (omega arith)

some_each : (g : Graded) (gs : List Graded) (vs : List ℕ) → Each (Some gs) vs → Each (Some (g ∷ gs)) vs
some_each g gs [] h = tt
some_each g gs (v ∷ vs) h = (omega (arith, h.0, some_more v g gs), some_each g gs vs h.1)

-- what holds of all levels and of one more holds where it is inserted
pub each-inserted : (P : ℕ → Type 0) (v : ℕ) (xs : List ℕ) → P v → Each P xs → Each P (insert v xs)
each-inserted P v [] h k = (h, tt)
each-inserted P v (x ∷ xs) h k = go (ltb v x) (eqb v x) (each-inserted P v xs h k.1)
  where
    go : (c d : Bool) → Each P (insert v xs) → Each P (cond c (v ∷ x ∷ xs) (cond d (x ∷ xs) (x ∷ insert v xs)))
    go true d f = (h, k)
    go false true f = k
    go false false f = (k.0, f)

-- theorem: each level has an alternative
pub levels-some : (gs : List Graded) → Each (λ u. 1 ≤ length (of_level u gs)) (levels_of gs)
unfolding levels_of
levels-some [] = tt
levels-some (g ∷ gs) = each-inserted (Some (g ∷ gs)) g.level (levels_of gs) (some_here g gs) (some_each g gs (levels_of gs) (levels-some gs))

-- ---- the levels of keys
level_keys_level : (v i : ℕ) (gs : List Graded) → i + length gs ≤ 65536 → Each (λ k. k / 262144 ≡ v) (level_keys code_of v i gs)
unfolding level_keys
level_keys_level v i [] h = tt
level_keys_level v i (g ∷ gs) h = go (eqb g.level v) (level_keys_level v (suc i) gs (omega arith))
  where
    go : (c : Bool) → Each (λ k. k / 262144 ≡ v) (level_keys code_of v (suc i) gs)
        → Each (λ k. k / 262144 ≡ v) (cond c (key_of code_of v i g.side ∷ level_keys code_of v (suc i) gs) (level_keys code_of v (suc i) gs))
    go true f = (omega (arith, side_few (assoc_of g.side)), f)
    go false f = f

abbrev Other : ℕ → ℕ → Type 0
Other v k = k / 262144 ≡ v → ⊥

other_level : (v u : ℕ) → v < u → (ks : List ℕ) → Each (λ k. k / 262144 ≡ u) ks → Each (Other v) ks
other_level v u h [] f = tt
other_level v u h (k ∷ ks) f = ((λ z. absurd (omega (arith, z, f.0))), other_level v u h ks f.1)

others_behind : (v : ℕ) (us : List ℕ) (gs : List Graded) → Each (λ u. v < u) us → length gs ≤ 65536 → Each (Other v) (by_levels code_of us 0 gs)
unfolding by_levels
others_behind v [] gs h few = tt
others_behind v (u ∷ us) gs h few =
    each_append (Other v) (level_keys code_of u 0 gs) (by_levels code_of us 0 gs) (other_level v u h.0 (level_keys code_of u 0 gs) (level_keys_level u 0 gs (omega arith))) (others_behind v us gs h.1 few)

-- what holds of all keys holds of the j-th
each-key : (P : ℕ → Type 0) (w : List ℕ) (at n : ℕ) → Each P (keys_at w at n) → (j : ℕ) → j < n → P (le_at 8 w (at + 8 * j))
unfolding keys_at
each-key P w at zero h j k = absurd (omega arith)
each-key P w at (suc n) h zero k = let z : at + 8 * 0 ≡ at = omega arith in rw z h.0
each-key P w at (suc n) h (suc j) k = let z : at + 8 * suc j ≡ at + 8 + 8 * j = omega arith in rw z (each-key P w (at + 8) n h.1 j (omega arith))

-- ---- a group
-- the group of level v starts at i and ends at r; behind it are those of vs, if there are any
pub record GroupSplit (w : List ℕ) (keys n i : ℕ) (gs : List Graded) (v : ℕ) (vs : List ℕ) (r : ℕ) : Type 0 where
  pub end : r ≡ i + length (of_level v gs)
  pub here : keys_at w (keys + 8 * i) (length (of_level v gs)) ≡ level_keys code_of v 0 gs
  pub rest : keys_at w (keys + 8 * r) (n - r) ≡ by_levels code_of vs 0 gs
  pub level : level_at w keys i ≡ v
  pub some : i < n
  pub highest : r ≡ n → vs ≡ []
  pub not_highest : (r ≡ n → ⊥) → vs ≡ [] → ⊥
  pub last : vs ≡ [] → r ≡ n
  pub more : (u : ℕ) (us : List ℕ) → vs ≡ u ∷ us → r < n

module _ (w : List ℕ) (keys n i : ℕ) (gs : List Graded) (v : ℕ) (vs : List ℕ) (few : length gs ≤ 65536) (up : Ascends (v ∷ vs)) (each : Each (λ u. 1 ≤ length (of_level u gs)) (v ∷ vs)) (start : i ≤ n)
    (keyed : keys_at w (keys + 8 * i) (n - i) ≡ by_levels code_of (v ∷ vs) 0 gs) where
  abbrev m : ℕ
  m = length (of_level v gs)

  abbrev mine : List ℕ
  mine = level_keys code_of v 0 gs

  abbrev behind : List ℕ
  behind = by_levels code_of vs 0 gs

  keyed-both : keys_at w (keys + 8 * i) (n - i) ≡ mine ++ behind
  unfolding by_levels
  keyed-both = keyed

  many : n - i ≡ m + length behind
  many = sym (length-keys w (keys + 8 * i) (n - i)) ∙ ap length keyed-both ∙ length-append mine behind ∙ ap (λ (z : ℕ). z + length behind) (level_keys_many v 0 gs)

  these : keys_at w (keys + 8 * i) m ≡ mine
  these =
      sym (keys_take w (keys + 8 * i) (n - i) m (omega (arith, many))) ∙ ap (take m) keyed-both ∙ ap (λ (z : ℕ). take z (mine ++ behind)) (sym (level_keys_many v 0 gs)) ∙ take-append_seam mine behind

  those : keys_at w (keys + 8 * (i + m)) (n - (i + m)) ≡ behind
  those =
      let y : keys + 8 * (i + m) ≡ keys + 8 * i + 8 * m = omega arith in
      let z : n - (i + m) ≡ n - i - m = omega arith in
      ap (λ (x : ℕ). keys_at w x (n - (i + m))) y ∙ ap (keys_at w (keys + 8 * i + 8 * m)) z ∙ sym (keys_drop w (keys + 8 * i) (n - i) m)
      ∙ ap (drop m) keyed-both ∙ ap (λ (x : ℕ). drop x (mine ++ behind)) (sym (level_keys_many v 0 gs)) ∙ drop-append_seam mine behind

  level_here : (j : ℕ) → i ≤ j → j < i + m → level_at w keys j ≡ v
  unfolding level_at
  level_here j h k =
      let z : keys + 8 * i + 8 * (j - i) ≡ keys + 8 * j = omega arith in
      ap (λ (x : ℕ). le_at 8 w x / 262144) (sym z) ∙ each-key (λ (x : ℕ). x / 262144 ≡ v) w (keys + 8 * i) m (rw these (level_keys_level v 0 gs (omega (arith, few)))) (j - i) (omega arith)

  level_behind : i + m < n → level_at w keys (i + m) ≡ v → ⊥
  unfolding level_at
  level_behind h q =
      let z : keys + 8 * (i + m) + 8 * 0 ≡ keys + 8 * (i + m) = omega arith in
      each-key (Other v) w (keys + 8 * (i + m)) (n - (i + m)) (rw those (others_behind v vs gs up.0 few)) 0 (omega arith) (ap (λ (x : ℕ). le_at 8 w x / 262144) z ∙ q)

  first_level : level_at w keys i ≡ v
  first_level = level_here i (omega arith) (omega (arith, each.0))

  ends : (r : ℕ) → GroupEnd w keys n i r → r ≡ i + m
  ends r e = go (fits_or_not (i + m) r) (fits_or_not r (i + m))
    where
      go : (i + m ≤ r) ⊎ (r < i + m) → (r ≤ i + m) ⊎ (i + m < r) → r ≡ i + m
      go (inl a) (inl b) = omega arith
      go (inl a) (inr b) = absurd (level_behind (omega (arith, e.upto)) (e.same (i + m) (omega arith) b ∙ first_level))
      go (inr a) b = absurd (e.last (omega (arith, many)) (level_here r (omega (arith, e.behind)) a ∙ sym first_level))

  nothing-behind : vs ≡ [] → length behind ≡ 0
  unfolding by_levels
  nothing-behind z = rw z refl

  some_behind : (u : ℕ) (us : List ℕ) → 1 ≤ length (of_level u gs) → 1 ≤ length (by_levels code_of (u ∷ us) 0 gs)
  unfolding by_levels
  some_behind u us h = omega (arith, length-append (level_keys code_of u 0 gs) (by_levels code_of us 0 gs), level_keys_many u 0 gs)

  none_more : (us : List ℕ) → Each (λ u. 1 ≤ length (of_level u gs)) us → length (by_levels code_of us 0 gs) ≡ 0 → us ≡ []
  none_more [] h z = refl
  none_more (u ∷ us) h z = absurd (omega (arith, z, some_behind u us h.0))

  goes_on : (us : List ℕ) → Each (λ u. 1 ≤ length (of_level u gs)) us → (u : ℕ) (more : List ℕ) → us ≡ u ∷ more → 1 ≤ length (by_levels code_of us 0 gs)
  goes_on us h u more z = rw z (some_behind u more (rw z at h).0)

  split_at : GroupSplit w keys n i gs v vs (i + m)
  split_at = record {
    end = refl;
    here = these;
    rest = those;
    level = first_level;
    some = omega (arith, many, each.0);
    highest = λ z. none_more vs each.1 (omega (arith, many, z));
    not_highest = λ f z. f (omega (arith, many, nothing-behind z));
    last = λ z. omega (arith, many, nothing-behind z);
    more = λ u us z. omega (arith, many, goes_on vs each.1 u us z);
  }

-- theorem: where keys stand level by level, the keys of one level that groupEnd finds are those of the first level, and behind them are the others
pub group_split : (w : List ℕ) (keys n i : ℕ) (gs : List Graded) (v : ℕ) (vs : List ℕ) → length gs ≤ 65536 → Ascends (v ∷ vs) → Each (λ u. 1 ≤ length (of_level u gs)) (v ∷ vs) → i ≤ n
    → keys_at w (keys + 8 * i) (n - i) ≡ by_levels code_of (v ∷ vs) 0 gs → (r : ℕ) → GroupEnd w keys n i r → GroupSplit w keys n i gs v vs r
group_split w keys n i gs v vs few up each start keyed r e =
    let z = ends w keys n i gs v vs few up each start keyed r e in
    rw z (split_at w keys n i gs v vs few up each start keyed)
