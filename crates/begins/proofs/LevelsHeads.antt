-- What the items of levels pay: each has a command and an alternative, 31 bytes, and so has a nonterminal's highest level, whose name is no new one. Assumes nothing.
use mathlib.Core.Path.{◌≡◌, refl, sym, ap, ◌∙◌, subst}
use mathlib.Core.Bool.{Bool, true, false, cond, false≢true}
use mathlib.Core.List.{List, [], ◌∷◌, ◌++◌, map}
use mathlib.Core.Option.{Option, none, some}
use Prim.Native.Nat.{ℕ, zero, suc, ◌+◌, ◌-◌, ◌*◌, ◌/◌, ◌%◌, ◌≤◌}
use native.Mathlib.Omega.{arith}
use lib.Dec.{ltb}
use lib.ListN.{length, length-append, length-map}
use Rattle.parse_tree.specs.Plain.Tree.{Text, Alternative, Nonterminal, Item, item}
use Rattle.parse_tree.specs.Plain.Texts.{is_identifier}
use Rattle.parse_tree.specs.Working.Within.{Each}
use Rattle.parse_tree.proofs.ReadingLaws.{each_append}
use Rattle.passes.specs.Outcome.{Tree}
use Rattle.passes.specs.Grades.{Graded, graded, annotated}
use Rattle.passes.specs.Levels.{levels_of, of_level, decimal_from, decimal, level_name, Group, groups_of, substitute, substituted, fall_through, with_fall_through, level_items, levelled}
use Rattle.passes.specs.Macros.{without_macros}
use Rattle.laws.proofs.LevelsMany.{levels-full}
use Rattle.laws.specs.Counts.{heads_in, heads}
use Rattle.rounds.proofs.LevelsSound.{NamedItem}
use Rattle.rounds.proofs.PaidKeeps.{heads-both}
use Rattle.begins.specs.Lowers.{lowers_of, lowers, plain_lowers, macro_lowers}

-- ---- each item has an alternative
pub heads-in : (as' : List Alternative) → heads_in as' ≡ 16 * length as'
unfolding heads_in
heads-in [] = refl
heads-in (a ∷ as') = omega (arith, heads-in as')

level_heads : (d : Nonterminal) (g : Group Graded) (is : List Item) → 1 ≤ length g.alternatives → 31 + heads is ≤ heads (with_fall_through d (substituted d.name g) ∷ is)
unfolding heads with_fall_through substituted
level_heads d g is h =
    let as' = map (substitute d.name g) g.alternatives in
    let fs = fall_through d.span g.lower in
    omega (arith, h, heads-in (as' ++ fs), length-append as' fs, length-map g.alternatives (substitute d.name g))

levels-heads : (d : Nonterminal) (gs : List Graded) (lower : Option Text) (vs : List ℕ) → Each (λ (v : ℕ). 1 ≤ length (of_level v gs)) vs
    → 31 * length vs ≤ heads (map (with_fall_through d) (map (substituted d.name) (groups_of d.name gs lower vs)))
unfolding groups_of
levels-heads d gs lower [] h = omega arith
levels-heads d gs lower (v ∷ vs) h =
    let n = level_name d.name v vs in
    let g : Group Graded = record { name = n; lower = lower; alternatives = of_level v gs } in
    omega (arith, level_heads d g (map (with_fall_through d) (map (substituted d.name) (groups_of d.name gs (some n) vs))) h.0, levels-heads d gs (some n) vs h.1)

items_heads : (d : Nonterminal) → 31 * length (levels_of (graded d)) ≤ heads (level_items d)
unfolding level_items
items_heads d = levels-heads d (graded d) none (levels_of (graded d)) (levels-full (graded d))

-- ---- the items of a nonterminal without arguments have none
without_both : (xs ys : List Item) → without_macros (xs ++ ys) ≡ without_macros xs ++ without_macros ys
without_both [] ys = refl
without_both (item d ∷ xs) ys = go d.args (without_both xs ys)
  where
    go : (ps : List Text) → without_macros (xs ++ ys) ≡ without_macros xs ++ without_macros ys
        → ◌≡◌ {A = List Item} (elim ps [ [] ↦ item d ∷ without_macros (xs ++ ys) | q ∷ qs ↦ without_macros (xs ++ ys) ]) ((elim ps [ [] ↦ item d ∷ without_macros xs | q ∷ qs ↦ without_macros xs ]) ++ without_macros ys)
    go [] e = ap (λ (l : List Item). item d ∷ l) e
    go (q ∷ qs) e = e
without_both (Item.terminal s o t ∷ xs) ys = ap (λ (l : List Item). Item.terminal s o t ∷ l) (without_both xs ys)

plain-items : (d : Nonterminal) → d.args ≡ [] → (xs : List (Group Alternative)) → without_macros (map (with_fall_through d) xs) ≡ map (with_fall_through d) xs
unfolding with_fall_through
plain-items d e [] = refl
plain-items d e (x ∷ xs) = go d.args e (plain-items d e xs)
  where
    go : (ps : List Text) → ps ≡ [] → without_macros (map (with_fall_through d) xs) ≡ map (with_fall_through d) xs
        → ◌≡◌ {A = List Item} (elim ps [ [] ↦ with_fall_through d x ∷ without_macros (map (with_fall_through d) xs) | q ∷ qs ↦ without_macros (map (with_fall_through d) xs) ]) (with_fall_through d x ∷ map (with_fall_through d) xs)
    go [] f i = ap (λ (l : List Item). with_fall_through d x ∷ l) i
    go (q ∷ qs) f i = absurd (let z : ◌≡◌ {A = ℕ} 0 1 = cc in omega arith)

plain-levels : (d : Nonterminal) → d.args ≡ [] → without_macros (level_items d) ≡ level_items d
unfolding level_items
plain-levels d e = plain-items d e (map (substituted d.name) (groups_of d.name (graded d) none (levels_of (graded d))))

-- ---- the names of lower levels: one fewer than levels
lowers-few : (E : Text) (vs : List ℕ) → length (lowers_of E vs) ≡ length vs - 1
unfolding lowers_of
lowers-few E [] = refl
lowers-few E (v ∷ []) = refl
lowers-few E (v ∷ u ∷ us) = omega (arith, lowers-few E (u ∷ us))

-- n names of lower levels, and h bytes of commands
record Pays (n h : ℕ) : Type 0 where
  each : 31 * n ≤ h
  highest : 1 ≤ n → 31 * n + 31 ≤ h

pays_more : (n m h k : ℕ) → Pays n h → Pays m k → Pays (n + m) (h + k)
pays_more n m h k x y = record { each = omega (arith, x.each, y.each); highest = λ z. go n refl z }
  where
    go : (i : ℕ) → i ≡ n → 1 ≤ n + m → 31 * (n + m) + 31 ≤ h + k
    go zero e z = omega (arith, x.each, y.highest (omega (arith, e, z)))
    go (suc i) e z = omega (arith, x.highest (omega (arith, e)), y.each)

pays_none : (h : ℕ) → Pays 0 h
pays_none h = record { each = omega arith; highest = λ z. absurd (omega arith) }

level_pays : (d : Nonterminal) → Pays (length (lowers_of d.name (levels_of (graded d)))) (heads (level_items d))
level_pays d =
    let a = lowers-few d.name (levels_of (graded d)) in
    record { each = omega (arith, a, items_heads d); highest = λ z. omega (arith, a, items_heads d) }

-- of the items that one nonterminal becomes
one_pays : (d : Nonterminal) (b : Bool) → Pays (length (cond b (lowers_of d.name (levels_of (graded d))) [])) (heads (cond b (level_items d) (item d ∷ [])))
one_pays d true = level_pays d
one_pays d false = pays_none _

plain-pays : (d : Nonterminal) (b : Bool) → d.args ≡ [] → Pays (length (cond b (lowers_of d.name (levels_of (graded d))) [])) (heads (without_macros (cond b (level_items d) (item d ∷ []))))
plain-pays d true e = subst (λ (l : List Item). Pays (length (lowers_of d.name (levels_of (graded d)))) (heads l)) (sym (plain-levels d e)) (level_pays d)
plain-pays d false e = pays_none _

-- ---- trees
plain-all : (R : Tree) → Pays (length (plain_lowers R)) (heads (without_macros (levelled R)))
unfolding plain_lowers lowers levelled heads
plain-all [] = pays_none _
plain-all (item d ∷ rest) =
    let xs = cond (annotated d) (level_items d) (item d ∷ []) in
    let ns : List Text = elim d.args [ [] ↦ lowers d | p ∷ ps ↦ [] ] in
    let h = ap heads (without_both xs (levelled rest)) ∙ heads-both (without_macros xs) (without_macros (levelled rest)) in
    subst (λ (n : ℕ). Pays n (heads (without_macros (xs ++ levelled rest)))) (sym (length-append ns (plain_lowers rest)))
    (subst (λ (k : ℕ). Pays (length ns + length (plain_lowers rest)) k) (sym h) (pays_more (length ns) (length (plain_lowers rest)) _ _ (go d.args refl) (plain-all rest)))
  where
    go : (ps : List Text) → d.args ≡ ps → Pays (length {A = Text} (elim ps [ [] ↦ lowers d | q ∷ qs ↦ [] ])) (heads (without_macros (cond (annotated d) (level_items d) (item d ∷ []))))
    go [] e = plain-pays d (annotated d) e
    go (q ∷ qs) e = pays_none _
plain-all (Item.terminal s o t ∷ rest) = plain-all rest

-- theorem: without the definitions of macros
pub plain-paid : (R : Tree) → (31 * length (plain_lowers R) ≤ heads (without_macros (levelled R))) × (1 ≤ length (plain_lowers R) → 31 * length (plain_lowers R) + 31 ≤ heads (without_macros (levelled R)))
plain-paid R = ((plain-all R).each, (plain-all R).highest)

-- theorem: and with them
pub all_paid : (R : Tree) → 31 * (length (plain_lowers R) + length (macro_lowers R)) ≤ heads (levelled R)
unfolding plain_lowers macro_lowers lowers levelled heads
all_paid [] = omega arith
all_paid (item d ∷ rest) =
    let xs = cond (annotated d) (level_items d) (item d ∷ []) in
    let ns : List Text = elim d.args [ [] ↦ lowers d | p ∷ ps ↦ [] ] in
    let ms : List Text = elim d.args [ [] ↦ [] | p ∷ ps ↦ lowers d ] in
    omega (arith, all_paid rest, heads-both xs (levelled rest), length-append ns (plain_lowers rest), length-append ms (macro_lowers rest), go d.args, (one_pays d (annotated d)).each)
  where
    go : (ps : List Text) → length {A = Text} (elim ps [ [] ↦ lowers d | q ∷ qs ↦ [] ]) + length {A = Text} (elim ps [ [] ↦ [] | q ∷ qs ↦ lowers d ]) ≡ length (lowers d)
    go [] = omega arith
    go (q ∷ qs) = omega arith
all_paid (Item.terminal s o t ∷ rest) = all_paid rest

-- ---- a lower level's name has two bytes or more
abbrev Long : Text → Type 0
Long t = 2 ≤ length t

digits_more : (k n : ℕ) (r : Text) → length r ≤ length (decimal_from k n r)
digits_more zero n r = omega arith
digits_more (suc k) n r = go (ltb n 10) (digits_more k (n / 10) ((0x30 + n % 10) ∷ r))
  where
    go : (b : Bool) → length ((0x30 + n % 10) ∷ r) ≤ length (decimal_from k (n / 10) ((0x30 + n % 10) ∷ r)) → length r ≤ length (cond b ((0x30 + n % 10) ∷ r) (decimal_from k (n / 10) ((0x30 + n % 10) ∷ r)))
    go true i = omega arith
    go false i = omega (arith, i)

digits-some : (k n : ℕ) → 1 ≤ length (decimal_from (suc k) n [])
digits-some k n = go (ltb n 10) (digits_more k (n / 10) ((0x30 + n % 10) ∷ []))
  where
    go : (b : Bool) → 1 ≤ length (decimal_from k (n / 10) ((0x30 + n % 10) ∷ [])) → 1 ≤ length (cond b ((0x30 + n % 10) ∷ []) (decimal_from k (n / 10) ((0x30 + n % 10) ∷ [])))
    go true i = omega arith
    go false i = i

name_some : (E : Text) → is_identifier E ≡ true → 1 ≤ length E
unfolding is_identifier
name_some [] h = absurd (false≢true h)
name_some (b ∷ bs) h = omega arith

lower_long : (E : Text) (v : ℕ) → is_identifier E ≡ true → Long (E ++ decimal v)
lower_long E v h = omega (arith, name_some E h, digits-some 9 v, length-append E (decimal v))

lowers-long : (E : Text) (vs : List ℕ) → is_identifier E ≡ true → Each Long (lowers_of E vs)
unfolding lowers_of
lowers-long E [] h = tt
lowers-long E (v ∷ []) h = tt
lowers-long E (v ∷ u ∷ us) h = (lower_long E v h, lowers-long E (u ∷ us) h)

-- theorem
pub macro_long : (R : Tree) → Each NamedItem R → Each (λ (t : Text). 2 ≤ length t) (macro_lowers R)
unfolding macro_lowers lowers
macro_long [] h = tt
macro_long (item d ∷ rest) h = each_append Long (elim d.args [ [] ↦ [] | p ∷ ps ↦ lowers d ]) (macro_lowers rest) (go d.args (annotated d)) (macro_long rest h.1)
  where
    go : (ps : List Text) (b : Bool) → Each Long (elim ps [ [] ↦ [] | q ∷ qs ↦ cond b (lowers_of d.name (levels_of (graded d))) [] ])
    go [] b = tt
    go (q ∷ qs) true = lowers-long d.name (levels_of (graded d)) h.0
    go (q ∷ qs) false = tt
macro_long (Item.terminal s o t ∷ rest) h = macro_long rest h.1
